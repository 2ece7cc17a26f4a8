use Rattle.std.proofs.Common.{ℕ, List, ◌≡◌, ◌+◌, ◌*◌, ◌/◌, ◌%◌, ◌<◌, ◌==◌, if◌then◌else◌, [], ◌∷◌, ◌∙◌, ap, arith, slice_index, slice_index_or, replicate}
use Rattle.std.proofs.lemmas.Simd.{get_or-replicate}
use Rattle.aead_ciphers_base.proofs.PlaneBlocks.{by_four}
use Rattle.aead_ciphers_wide.specs.Products.{chosen_of_two}
use Rattle.aead_ciphers_wide.proofs.ByteRows.{sum_byte}
use Rattle.aead_ciphers_wide.proofs.TableRows.{quarter}
use Rattle.aead_ciphers_wide.proofs.gcm.product.sums_of_two.Goals as goal

pub returns : goal.returns
returns c = λ k i less within.
    let a = c.args.a in
    let b = c.args.b in
    let sum = c.add.result in
    let zeros : List ℕ = replicate 16 0 in
    let none : (i : ℕ) → i < 16 → slice_index zeros i ≡ 0 = λ i h. get_or-replicate 16 i 0 0 h in
    let added = λ (i : ℕ) (h : i < 16). sum_byte a b sum i c.fits-a.0 c.fits-b.0 c.add.ensures h in
    let low = c.interleaved in
    let high = c.interleaved-2 in
    let one = c.interleaved_in_pairs in
    let two = c.interleaved_in_pairs-2 in
    let start : (x : ℕ) → x ≡ 0 + x = λ x. omega arith in
    let low_front = λ (j : ℕ) (h : j < 16). low.ensures.front j h
    ∙ ap (slice_index (if j % 2 == 0 then zeros else b)) (start (j / 2)) in
    let high_front = λ (j : ℕ) (h : j < 16). high.ensures.front j h
    ∙ ap (slice_index (if j % 2 == 0 then a else sum)) (start (j / 2)) in
    let one_front = λ (i : ℕ) (h : i < 16). one.ensures.front i h
    ∙ ap (slice_index (if i / 2 % 2 == 0 then low.result.0 else high.result.0)) (start (2 * (i / 4) + i % 2)) in
    let two_front = λ (i : ℕ) (h : i < 16). two.ensures.front i h
    ∙ ap (slice_index (if i / 2 % 2 == 0 then low.result.1 else high.result.1)) (start (2 * (i / 4) + i % 2)) in
    by_four (λ k. slice_index (slice_index_or (one.result.0 ∷ one.result.1 ∷ two.result.0 ∷ two.result.1 ∷ []) k []) i
    ≡ chosen_of_two (i % 4) (slice_index a (4 * k + i / 4)) (slice_index b (4 * k + i / 4)))
    (quarter zeros a b sum none added low.result.0 high.result.0 one.result.0 0 0 (omega arith) (omega arith)
    low_front high_front one_front i within)
    (quarter zeros a b sum none added low.result.0 high.result.0 one.result.1 0 1 (omega arith) (omega arith)
    low_front high_front one.ensures.back i within)
    (quarter zeros a b sum none added low.result.1 high.result.1 two.result.0 1 0 (omega arith) (omega arith)
    low.ensures.back high.ensures.back two_front i within)
    (quarter zeros a b sum none added low.result.1 high.result.1 two.result.1 1 1 (omega arith) (omega arith)
    low.ensures.back high.ensures.back two.ensures.back i within)
    k less
