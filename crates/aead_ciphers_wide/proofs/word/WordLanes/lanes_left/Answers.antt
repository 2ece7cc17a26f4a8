use Rattle.std.proofs.Common.{◌∙◌, ap}
use Rattle.aead_ciphers_wide.specs.Word.{lane_of}
use Rattle.aead_ciphers_wide.proofs.WordLanes.{lane_with}
use Rattle.aead_ciphers_wide.proofs.WordOperators.{left, left_lanes}
use Rattle.aead_ciphers_wide.proofs.word.WordLanes.lanes_left.Goals as goal

pub invariant_of-result : goal.invariant_of-result
invariant_of-result c = left_lanes c.from.result 2 _ c.self.invariant

pub returns : goal.returns
returns c = λ j h.
    lane_with left 2 c.from.result c.args.n _ c.self.invariant (left_lanes c.from.result 2 _ c.self.invariant) c.from.ensures j h
    ∙ ap (λ x. left (lane_of j x) c.args.n) c.self.view_is
