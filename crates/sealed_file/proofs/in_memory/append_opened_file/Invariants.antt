-- The chunks before this one were right, their messages were appended, and the others have room.
use Rattle.std.proofs.Common.{Some, ◌+◌, ◌≤◌, length, vec_capacity, vec_len, []}
use Rattle.sealed_file.specs.Opening.{opened_file}
use Rattle.sealed_file.specs.Format.{secret}
use Rattle.sealed_file.proofs
use proofs.OpenLemmas.{Opening}
use proofs.in_memory.append_opened_file.Given as goal

abbrev pub invariant-loop-number : goal.invariant-loop-number
invariant-loop-number l = record {
  at : Opening (secret l.key []) l.cipher l.sealed l.number (Some l.fn.out.items) (Some l.out.items);
  room : vec_len l.fn.out + length (opened_file (secret l.key []) l.sealed) ≤ vec_capacity l.out;
}
