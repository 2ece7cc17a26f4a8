use Rattle.std.proofs.Common.{◌≡◌, ◌<◌, ◌∙◌, ap₂, sym, arith, slice_index}
use Rattle.std.proofs.lemmas.Simd.{get_or-zip2}
use Rattle.std.specs.Fn.{iterate}
use Rattle.std.specs.Simd.Lanes.{zip2}
use Rattle.aead_ciphers_base.specs
use specs.ChaCha20.{add32, double_round}
use specs.Lanes.{lane}
use Rattle.aead_ciphers_base.proofs
use proofs.VectorLanes.{slice_index-lane}
use proofs.chacha.lanes.four_blocks.Goals as goal

pub returns : goal.returns
returns c j k inside word =
    let ten : c.loop-round._round ≡ 10 = omega arith in
    let written : k < c.loop-k.k = omega arith in
    let first = c.four_states-states.ensures j inside in
    let rounds = c.loop-round.invariant j inside ∙ ap₂ (iterate double_round) ten first in
    c.loop-k.invariant.added j k inside written
    ∙ sym (get_or-zip2 add32 (lane j c.loop-round.x) (lane j c.four_states-states.result) k 0 0 0 word word
    ∙ ap₂ add32 (slice_index-lane j k c.loop-round.x word) (slice_index-lane j k c.four_states-states.result word))
    ∙ ap₂ (λ xs ys. slice_index (zip2 add32 xs ys) k) rounds first
