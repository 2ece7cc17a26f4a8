use Rattle.std.proofs.Common.{ℕ, ◌<◌, [], get_or}
use Rattle.aead_ciphers.specs.Ghash.{IsBlock}
use Rattle.aead_ciphers.proofs.laws.are_blocks.Given as goal

abbrev pub invariant-loop-block : goal.invariant-loop-block
invariant-loop-block l = (k : ℕ) → k < l.block-index → IsBlock (get_or l.fn.blocks k [])
