use Rattle.aead_ciphers_base.proofs
use proofs.PlanePacking.{IsGathered}
use proofs.aes.pack.gather.Given as goal

abbrev pub invariant-loop-b : goal.invariant-loop-b
invariant-loop-b l = IsGathered l.planes l.word l.b
