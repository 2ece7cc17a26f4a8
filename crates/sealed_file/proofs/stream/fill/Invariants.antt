-- What was filled was consumed.
use Rattle.std.proofs.Common.{◌≤◌, length, take}
use Rattle.std.specs.Io.KnownBytes.{Consumes}
use Rattle.sealed_file.proofs.stream.fill.Given as goal

abbrev pub invariant-loop : goal.invariant-loop
invariant-loop g l = (l.filled ≤ length l.buf) × Consumes (g.R.Read.remaining l.initial.input) (g.R.Read.remaining l.input) (take l.filled l.buf)
