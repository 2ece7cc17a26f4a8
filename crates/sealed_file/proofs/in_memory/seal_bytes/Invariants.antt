-- The header and the chunks before this one were appended, and the others have room.
use Rattle.std.proofs.Common.{Some, ◌+◌, ◌≤◌, length, vec_capacity, vec_len, []}
use Rattle.std.specs.Io.KnownBytes.{Appends}
use Rattle.sealed_file.specs.Format.{sealed_file, secret, fresh_key}
use Rattle.sealed_file.proofs
use proofs.SealLemmas.{sealed_before}
use proofs.in_memory.seal_bytes.Given as goal

abbrev pub invariant-loop-number : goal.invariant-loop-number
invariant-loop-number l = record {
  appended : Appends (Some l.fn.out.items) (Some l.out.items) (sealed_before (fresh_key (secret l.key []) l.fn.random) l.file l.number);
  room : vec_len l.fn.out + length (sealed_file (fresh_key (secret l.key []) l.fn.random) l.file) ≤ vec_capacity l.out;
}
