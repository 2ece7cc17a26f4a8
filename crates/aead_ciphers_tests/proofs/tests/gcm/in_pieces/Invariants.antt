use Rattle.std.proofs.Common.{◌+◌, ◌*◌, ◌≤◌, length}
use Rattle.aead_ciphers_tests.proofs.tests.gcm.in_pieces.Given as goal

abbrev pub invariant-loop-i : goal.invariant-loop-i
invariant-loop-i l = (80 ≤ length l.rest + 16 * l.i) × (length l.rest ≤ 80)
