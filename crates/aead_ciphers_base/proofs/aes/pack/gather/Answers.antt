use Rattle.std.proofs.Common.{◌≡◌, arith}
use Rattle.aead_ciphers_base.proofs
use proofs.PlanePacking.{gathered_byte}
use proofs.aes.pack.gather.Goals as goal

pub returns : goal.returns
returns c = let all : c.loop-b.b ≡ 8 = omega arith in gathered_byte c.args.planes c.loop-b.word (rw all at c.loop-b.invariant)
