use Rattle.std.proofs.Common.{◌≡◌, length}
use Rattle.aead_ciphers_base.proofs
use proofs.PlanePacking.{IsSpread}
use proofs.aes.pack.spread.Given as goal

abbrev pub invariant-loop-b : goal.invariant-loop-b
invariant-loop-b l = (length l.planes ≡ 8) × IsSpread l.word l.planes l.b
