use Rattle.std.proofs.Common.{arith}
use Rattle.aead_ciphers_base.proofs
use proofs.PlanePacking.{spread_byte}
use proofs.aes.pack.spread.Goals as goal

pub returns : goal.returns
returns c = spread_byte c.args.word c.loop-b.planes (λ q h. c.loop-b.invariant.1 q (omega arith))
