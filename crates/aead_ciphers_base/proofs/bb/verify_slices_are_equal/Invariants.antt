use Rattle.aead_ciphers_base.proofs
use proofs.BytesLemmas.{SameSoFar}
use proofs.bb.verify_slices_are_equal.Given as goal

abbrev pub invariant-loop-i : goal.invariant-loop-i
invariant-loop-i l = SameSoFar l.a l.b l.difference l.i
