use Rattle.std.proofs.Common.{ap₂, ◌∙◌, bit_and}
use Rattle.aead_ciphers_wide.proofs.WordOperators.{and_lanes, and_number}
use Rattle.aead_ciphers_wide.proofs.word.wider.WiderWordBitAnd.bitand.Goals as goal

pub invariant_of-result : goal.invariant_of-result
invariant_of-result c = and_lanes 4 _ _ c.self.invariant c.rhs.invariant

pub returns : goal.returns
returns c = and_number 4 _ _ c.self.invariant c.rhs.invariant ∙ ap₂ bit_and c.self.view_is c.rhs.view_is
