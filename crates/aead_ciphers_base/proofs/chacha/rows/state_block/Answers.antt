use Rattle.std.proofs.Common.{◌≡◌, ◌<◌, ◌∷◌, [], ap, ap₂, ◌∙◌, arith}
use Rattle.std.specs.Fn.{iterate}
use Rattle.std.specs.Simd.Lanes.{zip2}
use Rattle.aead_ciphers_base.specs.ChaCha20.{add32, double_round, le_bytes, state_block}
use Rattle.aead_ciphers_base.proofs
use proofs.ChaChaRounds.{rows_of_state}
use proofs.chacha.rows.state_block.Goals as goal

pub loop-round-init : goal.loop-round-init
loop-round-init c = rows_of_state c.args.state.now c.told-state

pub returns : goal.returns
unfolding state_block
returns c =
    let ten : c.loop-round._round ≡ 10 = omega arith in
    let words = c.loop-round.invariant ∙ ap (λ n. iterate double_round n c.args.state.now) ten in
    let h0 : 0 < 4 = omega arith in
    let h1 : 1 < 4 = omega arith in
    let h2 : 2 < 4 = omega arith in
    let h3 : 3 < 4 = omega arith in
    c.write_le_bytes.ensures
    ∙ ap le_bytes
    ((λ i. c.add.ensures 0 h0 i ∷ c.add.ensures 1 h1 i ∷ c.add.ensures 2 h2 i ∷ c.add.ensures 3 h3 i
    ∷ c.add-2.ensures 0 h0 i ∷ c.add-2.ensures 1 h1 i ∷ c.add-2.ensures 2 h2 i ∷ c.add-2.ensures 3 h3 i
    ∷ c.add-3.ensures 0 h0 i ∷ c.add-3.ensures 1 h1 i ∷ c.add-3.ensures 2 h2 i ∷ c.add-3.ensures 3 h3 i
    ∷ c.add-4.ensures 0 h0 i ∷ c.add-4.ensures 1 h1 i ∷ c.add-4.ensures 2 h2 i ∷ c.add-4.ensures 3 h3 i ∷ [])
    ∙ ap₂ (zip2 add32) words (rows_of_state c.args.state.now c.told-state))
