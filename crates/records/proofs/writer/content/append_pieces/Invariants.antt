use Rattle.std.proofs.Common.{◌≡◌, ◌+◌, ◌≤◌, ◌++◌, length, vec_len, vec_capacity}
use Rattle.records.specs.Record.{record_len}
use Rattle.records.proofs.ContentLemmas.{first_len, first_records}
use Rattle.records.proofs.writer.content.append_pieces.Given as goal

-- the first i records are appended
abbrev pub invariant-loop-i : goal.invariant-loop-i
invariant-loop-i l = record {
  appended : l.out.items ≡ l.initial.out.items ++ first_records l.key l.first l.content_type l.cut.room l.padding l.content l.i;
  len : vec_len l.out ≡ vec_len l.initial.out + first_len l.cut.room (length l.content) (record_len l.padding) l.i;
  capacity : vec_capacity l.initial.out ≤ vec_capacity l.out;
}
