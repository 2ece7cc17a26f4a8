use Rattle.std.proofs.Common.{◌≡◌, ◌++◌, length, drop}
use Rattle.records.specs.Record.{record_len}
use Rattle.records.proofs.ContentLemmas.{first_len, first_records}
use Rattle.records.proofs.writer.content.seal_pieces.Given as goal

-- the first i records are written
abbrev pub invariant-loop-i : goal.invariant-loop-i
invariant-loop-i l = record {
  sealed : l.out ≡ first_records l.key l.first l.content_type l.cut.room l.padding l.content l.i ++ drop l.filled l.fn.out;
  filled : l.filled ≡ length (first_records l.key l.first l.content_type l.cut.room l.padding l.content l.i);
  len : l.filled ≡ first_len l.cut.room (length l.content) (record_len l.padding) l.i;
}
