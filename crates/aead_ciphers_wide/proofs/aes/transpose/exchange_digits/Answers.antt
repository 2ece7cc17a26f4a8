use Rattle.std.proofs.Common.{◌≡◌, ℕ, ◌+◌, ◌-◌, ◌*◌, ◌^◌, ◌<◌, ◌==◌, if◌then◌else◌, [], ◌∷◌, length, sym, subst, ap, ap₂, ◌∙◌, slice_index, map, arith}
use Rattle.std.proofs.Math.Dec.{lit<}
use Rattle.std.specs.Int.{bit_at}
use Rattle.std.proofs.lemmas.List.{get_or-map}
use Rattle.aead_ciphers_wide.specs.Word.{lane_of, lanes_of}
use Rattle.aead_ciphers_base.proofs.PlaneBlocks.{by_four}
use Rattle.aead_ciphers_base.proofs.PlanePacking.{exchange_digits_is}
use Rattle.aead_ciphers_wide.proofs.WordLanes.{lanes_at}
use Rattle.aead_ciphers_wide.proofs.aes.transpose.exchange_digits.Goals as goal

pub returns : goal.returns
returns g c = λ j n hj hn.
    let number = g.P.Plane.number in
    let k = c.args.k in
    let words = map number c.args.words in
    let w = slice_index (lanes_of j words) in
    let size : length c.args.words ≡ 8 = omega arith in
    let within = λ (i : ℕ) (h : i < 8). subst (λ z. i < z) (sym size) h in
    let w0 = ap (lane_of j) (sym (get_or-map number c.args.words 0 c.index-words-0.result 0 (within 0 (lit< tt)))) ∙ sym (lanes_at j words 0) in
    let w1 = ap (lane_of j) (sym (get_or-map number c.args.words 1 c.index-words-1.result 0 (within 1 (lit< tt)))) ∙ sym (lanes_at j words 1) in
    let w2 = ap (lane_of j) (sym (get_or-map number c.args.words 2 c.index-words-2.result 0 (within 2 (lit< tt)))) ∙ sym (lanes_at j words 2) in
    let w3 = ap (lane_of j) (sym (get_or-map number c.args.words 3 c.index-words-3.result 0 (within 3 (lit< tt)))) ∙ sym (lanes_at j words 3) in
    let w4 = ap (lane_of j) (sym (get_or-map number c.args.words 4 c.index-words-4.result 0 (within 4 (lit< tt)))) ∙ sym (lanes_at j words 4) in
    let w5 = ap (lane_of j) (sym (get_or-map number c.args.words 5 c.index-words-5.result 0 (within 5 (lit< tt)))) ∙ sym (lanes_at j words 5) in
    let w6 = ap (lane_of j) (sym (get_or-map number c.args.words 6 c.index-words-6.result 0 (within 6 (lit< tt)))) ∙ sym (lanes_at j words 6) in
    let w7 = ap (lane_of j) (sym (get_or-map number c.args.words 7 c.index-words-7.result 0 (within 7 (lit< tt)))) ∙ sym (lanes_at j words 7) in
    let even = λ (q x y : ℕ). if bit_at q k == 0 then bit_at x q else bit_at y (q - 2 ^ k) in
    let odd = λ (q x y : ℕ). if bit_at q k == 0 then bit_at x (q + 2 ^ k) else bit_at y q in
    let r0 = c.delta_swap-r0 in
    let r2 = c.delta_swap-r2 in
    let r4 = c.delta_swap-r4 in
    let r6 = c.delta_swap-r6 in
    let r = lanes_of j (map number (r0.result.0 ∷ r0.result.1 ∷ r2.result.0 ∷ r2.result.1
    ∷ r4.result.0 ∷ r4.result.1 ∷ r6.result.0 ∷ r6.result.1 ∷ [])) in
    exchange_digits_is (lanes_of j words) r k c.requires
    (by_four (λ i. (q : ℕ) → q < 64 → bit_at (slice_index r (2 * i)) q ≡ even q (w i) (w (i + 4)))
    (λ q h. r0.ensures.first j q hj h ∙ ap₂ (even q) w0 w4) (λ q h. r2.ensures.first j q hj h ∙ ap₂ (even q) w1 w5)
    (λ q h. r4.ensures.first j q hj h ∙ ap₂ (even q) w2 w6) (λ q h. r6.ensures.first j q hj h ∙ ap₂ (even q) w3 w7))
    (by_four (λ i. (q : ℕ) → q < 64 → bit_at (slice_index r (2 * i + 1)) q ≡ odd q (w i) (w (i + 4)))
    (λ q h. r0.ensures.second j q hj h ∙ ap₂ (odd q) w0 w4) (λ q h. r2.ensures.second j q hj h ∙ ap₂ (odd q) w1 w5)
    (λ q h. r4.ensures.second j q hj h ∙ ap₂ (odd q) w2 w6) (λ q h. r6.ensures.second j q hj h ∙ ap₂ (odd q) w3 w7)) n hn
