use Rattle.std.proofs.Common.{◌≡◌, ◌+◌, ◌-◌, ◌*◌, ◌<◌, ℕ, [], length, slice_index, slice_index_or, ap, ap₂, refl, ◌∙◌, arith, rules}
use Rattle.aead_ciphers_base.specs.Bytes.{◌⊕◌}
use Rattle.aead_ciphers.specs.Ghash.{◌•◌}
use Rattle.aead_ciphers_wide.specs.Products.{subkey}
use Rattle.aead_ciphers_wide.proofs.ByteLadder.{step}
use Rattle.aead_ciphers_wide.proofs.ByteRows.{IsBlock-vector, joined_value, joined_last, moved_twice_zeros, pair_end, pair_value, row_sums, small_digits, start_of_two, summed_value, turn_of_two, zero_at}
use Rattle.aead_ciphers_wide.proofs.gcm.product.ghash_pair.Goals as goal

pub looked_up_rows-of_second-requires-clause-high : goal.looked_up_rows-of_second-requires-clause-high
looked_up_rows-of_second-requires-clause-high c =
    small_digits c.args.second c.digits-2.result.0 (IsBlock-vector c.args.second c.fits-second.0 c.fits-second.1) c.digits-2.ensures.high

pub looked_up-even_first-requires-clause-high : goal.looked_up-even_first-requires-clause-high
looked_up-even_first-requires-clause-high c =
    small_digits c.args.first c.digits.result.0 (IsBlock-vector c.args.first c.fits-first.0 c.fits-first.1) c.digits.ensures.high

pub looked_up-odd_first-requires-clause-high : goal.looked_up-odd_first-requires-clause-high
looked_up-odd_first-requires-clause-high c =
    small_digits c.args.first c.digits.result.0 (IsBlock-vector c.args.first c.fits-first.0 c.fits-first.1) c.digits.ensures.high

pub loop-k-init : goal.loop-k-init
loop-k-init c =
    let W = row_sums c.args.squares.now c.digits.result.0 c.digits.result.1 c.looked_up_rows-of_second.result in
    record {
      value = start_of_two (λ r. W (16 - 2 * 0 + r));
      even_zeros = λ i h. zero_at 16 i;
      odd_zeros = λ i h. zero_at 16 i;
      even_empty = λ h i. zero_at 16 i;
      odd_empty = λ h i. zero_at 16 i;
    }

pub loop-k-preserved : goal.loop-k-preserved
loop-k-preserved c =
    let squares = c.args.squares.now in
    let even = c.loop-k.even in
    let odd = c.loop-k.odd in
    let even_over = c.loop-k.even_over in
    let odd_over = c.loop-k.odd_over in
    let k = c.loop-k.k in
    let at = c.loop-k.auto in
    let at_start = c.loop-k.invariant in
    let rows = c.looked_up_rows-of_second.result in
    let size_row = λ (r : ℕ) (h : r < 16). ap length (c.looked_up_rows-of_second.ensures r h) in
    let size_even_row : length (slice_index_or rows (14 - 2 * k) []) ≡ 16 = size_row (14 - 2 * k) (omega arith) in
    let size_odd_row : length (slice_index_or rows (14 - 2 * k + 1) []) ≡ 16 = size_row (14 - 2 * k + 1) (omega arith) in
    let size_even : length c.add-even_bytes.result ≡ 16 = omega arith in
    let size_odd : length c.add-odd_bytes.result ≡ 16 = omega arith in
    record {
      value =
          ap₂ (λ x y. x ⊕ step • y)
          (ap₂ pair_value (c.add-even.ensures ∙ ap (λ b. b ⊕ c.add-even_bytes.result) c.moved_by_two.ensures.first)
          c.moved_by_two.ensures.second)
          (ap₂ pair_value (c.add-odd.ensures ∙ ap (λ b. b ⊕ c.add-odd_bytes.result) c.moved_by_two-in-loop-k.ensures.first)
          c.moved_by_two-in-loop-k.ensures.second)
          ∙ turn_of_two even even_over odd odd_over c.add-even_bytes.result c.add-odd_bytes.result
          (row_sums squares c.digits.result.0 c.digits.result.1 rows) k
          at.even.0 at.even_over.0 at.odd.0 at.odd_over.0 size_even size_odd (omega arith) at_start.even_zeros at_start.odd_zeros at_start.value
          (summed_value squares c.digits.result.0 c.digits.result.1 c.looked_up-even_first.result c.add-even_bytes.result rows (14 - 2 * k)
          (omega arith) size_even_row c.add-even_bytes.ensures c.looked_up-even_first.ensures)
          (summed_value squares c.digits.result.0 c.digits.result.1 c.looked_up-odd_first.result c.add-odd_bytes.result rows (14 - 2 * k + 1)
          (omega arith) size_odd_row c.add-odd_bytes.ensures c.looked_up-odd_first.ensures);
      even_zeros = λ i h.
          ap (λ b. slice_index b i) c.moved_by_two.ensures.second
          ∙ moved_twice_zeros even even_over at.even.0 at.even_over.0 k at_start.even_empty at_start.even_zeros i h;
      odd_zeros = λ i h.
          ap (λ b. slice_index b i) c.moved_by_two-in-loop-k.ensures.second
          ∙ moved_twice_zeros odd odd_over at.odd.0 at.odd_over.0 k at_start.odd_empty at_start.odd_zeros i h;
      even_empty = λ h. absurd (omega arith);
      odd_empty = λ h. absurd (omega arith);
    }

pub reduced-requires : goal.reduced-requires
reduced-requires c =
    joined_last c.loop-k.even_over c.loop-k.odd c.loop-k.odd_over c.add-over.result c.loop-k.auto.even_over.0
    (c.add-over.ensures ∙ ap (λ b. c.loop-k.even_over ⊕ b) c.moved_by_one.ensures.second)
    (c.loop-k.invariant.even_zeros 15 (omega arith)) (c.loop-k.invariant.odd_zeros 14 (omega arith))

pub returns : goal.returns
unfolding subkey
returns c =
    let table = c.args.table.now in
    let even = c.loop-k.even in
    let odd = c.loop-k.odd in
    let even_over = c.loop-k.even_over in
    let odd_over = c.loop-k.odd_over in
    let at = c.loop-k.auto in
    pair_end (subkey table) table c.args.squares.now c.args.first c.digits.result.0 c.digits.result.1
    c.args.second c.digits-2.result.0 c.digits-2.result.1 c.add-sum.result c.add-over.result _
    c.looked_up_rows-of_second.result (2 * c.loop-k.k) refl
    c.requires.first c.requires.second
    (IsBlock-vector c.args.first c.fits-first.0 c.fits-first.1) c.digits.ensures.high c.digits.ensures.low
    (IsBlock-vector c.args.second c.fits-second.0 c.fits-second.1) c.digits-2.ensures.high c.digits-2.ensures.low
    c.looked_up_rows-of_second.ensures
    (IsBlock-vector c.add-sum.result (omega arith) (search rules)) (IsBlock-vector c.add-over.result (omega arith) (search rules)) (omega arith)
    (ap₂ pair_value (c.add-sum.ensures ∙ ap (λ b. even ⊕ b) c.moved_by_one.ensures.first)
    (c.add-over.ensures ∙ ap (λ b. even_over ⊕ b) c.moved_by_one.ensures.second)
    ∙ joined_value even even_over odd odd_over at.even.0 at.even_over.0 at.odd.0 at.odd_over.0
    (c.loop-k.invariant.odd_zeros 15 (omega arith)) ∙ c.loop-k.invariant.value)
    c.reduced.ensures
