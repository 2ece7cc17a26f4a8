use Rattle.std.proofs.Common.{ap, length, ◌∙◌, arith}
use Rattle.records.specs.Record.{record_len}
use Rattle.records.proofs.ContentLemmas.{length-piece, more_sealed, one_longer}
use Rattle.records.proofs.writer.content.seal_pieces.Goals as goal

pub seal_piece-filled-requires-clause-fits : goal.seal_piece-filled-requires-clause-fits
seal_piece-filled-requires-clause-fits c =
    let size = ap length c.piece-piece.ensures ∙ length-piece c.args.cut.room c.args.content.now c.loop-i.i in
    omega (arith, size, c.requires.cut.room, c.requires.cut.limit, c.requires.allowed.fits)

pub loop-i-preserved : goal.loop-i-preserved
loop-i-preserved c =
    let content = c.args.content.now in
    let room = c.args.cut.room in
    let i = c.loop-i.i in
    let before = c.loop-i.invariant in
    let size = ap length c.piece-piece.ensures ∙ length-piece room content i in
    let more = more_sealed c.args.key.now c.args.first c.args.content_type room c.args.padding content i c.args.out.now c.loop-i.out
    c.seal_piece-filled.new.out c.loop-i.filled c.seal_piece-filled.result before.sealed before.filled
    (rw c.piece-piece.ensures at c.seal_piece-filled.ensures.end) (rw c.piece-piece.ensures at c.seal_piece-filled.ensures.sealed) in
    let longer = one_longer room (length content) (record_len c.args.padding) i _ size in
    record {
      sealed = more.0;
      filled = more.1;
      len = omega (arith, c.seal_piece-filled.ensures.end, before.len, longer);
    }
