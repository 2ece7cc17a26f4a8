use Rattle.std.proofs.Common.{length, ap, ◌∙◌, arith}
use Rattle.records.specs.Record.{record_len}
use Rattle.records.proofs.ContentLemmas.{length-piece, more_appended, one_longer}
use Rattle.records.proofs.writer.content.append_pieces.Goals as goal

pub append-requires-clause-fits : goal.append-requires-clause-fits
append-requires-clause-fits c =
    let size = ap length c.piece-piece.ensures ∙ length-piece c.args.cut.room c.args.content.now c.loop-i.i in
    omega (arith, size, c.requires.cut.room, c.requires.cut.limit, c.requires.allowed.fits)

pub loop-i-preserved : goal.loop-i-preserved
loop-i-preserved c =
    let content = c.args.content.now in
    let room = c.args.cut.room in
    let i = c.loop-i.i in
    let before = c.loop-i.invariant in
    let size = ap length c.piece-piece.ensures ∙ length-piece room content i in
    let longer = one_longer room (length content) (record_len c.args.padding) i _ size in
    record {
      appended = more_appended c.args.key.now c.args.first c.args.content_type room c.args.padding content i c.args.out.now.items
          c.loop-i.out.items c.append.new.out.items before.appended (rw c.piece-piece.ensures at c.append.ensures.items);
      len = omega (arith, c.append.ensures.len, before.len, longer);
      capacity = omega (arith, before.capacity, c.append.ensures.capacity);
    }
