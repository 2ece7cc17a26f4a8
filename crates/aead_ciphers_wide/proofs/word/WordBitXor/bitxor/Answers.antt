use Rattle.std.proofs.Common.{ap₂, ◌∙◌, bit_xor}
use Rattle.aead_ciphers_wide.proofs.WordOperators.{xor_lanes, xor_number}
use Rattle.aead_ciphers_wide.proofs.word.WordBitXor.bitxor.Goals as goal

pub invariant_of-result : goal.invariant_of-result
invariant_of-result c = xor_lanes 2 _ _ c.self.invariant c.rhs.invariant

pub returns : goal.returns
returns c = xor_number 2 _ _ c.self.invariant c.rhs.invariant ∙ ap₂ bit_xor c.self.view_is c.rhs.view_is
