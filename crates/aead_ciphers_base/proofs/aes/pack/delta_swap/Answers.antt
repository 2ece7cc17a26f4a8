use Rattle.std.proofs.Common.{arith}
use Rattle.std.proofs.lemmas.Nat.{one_shl, pow_below}
use Rattle.aead_ciphers_base.proofs
use proofs.PlanePacking.{delta_swap_first, delta_swap_second}
use proofs.aes.pack.delta_swap.Goals as goal

pub overflow_shr-delta : goal.overflow_shr-delta
overflow_shr-delta c = rw (one_shl c.args.k 32 (omega arith)) (pow_below c.args.k 6 c.requires)

pub returns-clause-first : goal.returns-clause-first
returns-clause-first c = λ q h. rw (one_shl c.args.k 32 (omega arith)) (delta_swap_first c.args.a c.args.b c.args.k q c.requires h)

pub returns-clause-second : goal.returns-clause-second
returns-clause-second c = λ q h. rw (one_shl c.args.k 32 (omega arith)) (delta_swap_second c.args.a c.args.b c.args.k q c.requires h)
