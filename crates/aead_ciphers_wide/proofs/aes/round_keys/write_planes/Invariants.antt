use Rattle.std.proofs.Common.{◌≡◌, ◌≤◌, length}
use Rattle.aead_ciphers_wide.specs.WideSchedule.{AreZerosAfter, HoldsPlanes}
use Rattle.aead_ciphers_wide.proofs.aes.round_keys.write_planes.Given as goal

abbrev pub invariant-loop-j : goal.invariant-loop-j
invariant-loop-j l = record {
  size : length l.planes ≡ 15;
  held : HoldsPlanes l.planes l.round_keys l.j;
  unused : 10 ≤ l.rounds → AreZerosAfter l.planes l.rounds;
}
