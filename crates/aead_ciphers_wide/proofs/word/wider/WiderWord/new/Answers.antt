use Rattle.std.proofs.Common.{◌+◌, ◌*◌, ◌^◌, ◌∙◌, ap₂}
use Rattle.aead_ciphers_wide.proofs.WordOperators.{joined_lanes, joined_number}
use Rattle.aead_ciphers_wide.proofs.word.wider.WiderWord.new.Goals as goal

pub invariant_of-result : goal.invariant_of-result
invariant_of-result c = joined_lanes _ _ c.low.invariant c.high.invariant

pub returns : goal.returns
returns c =
    joined_number _ _ c.low.invariant c.high.invariant ∙ ap₂ (λ x y. y * 2 ^ 128 + x) c.low.view_is c.high.view_is
