use Rattle.std.proofs.Common.{arith, refl, ◌∙◌}
use Rattle.aead_ciphers_base.proofs
use proofs.BytesLemmas.{xor_more}
use proofs.bb.xor_assign.Goals as goal

pub loop-i-preserved : goal.loop-i-preserved
loop-i-preserved c = xor_more c.loop-i.a _ c.loop-i.i _ (omega arith) refl c.args.b refl ∙ c.loop-i.invariant
