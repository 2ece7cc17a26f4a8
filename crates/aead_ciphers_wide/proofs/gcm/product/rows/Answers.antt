use Rattle.std.proofs.Common.{ℕ, ◌≡◌, ◌<◌, [], ◌∷◌, slice_index, slice_index_or}
use Rattle.std.proofs.Math.Dec.{lit<}
use Rattle.aead_ciphers_base.specs.Bytes.{each_below}
use Rattle.aead_ciphers_wide.specs.Products.{chosen_sum}
use Rattle.aead_ciphers_wide.proofs.WideBlocks.{by_sixteen}
use Rattle.aead_ciphers_wide.proofs.TableRows.{row_of_four}
use Rattle.aead_ciphers_wide.proofs.gcm.product.rows.Goals as goal

pub returns : goal.returns
returns c = λ r less.
    let a = c.args.a in
    let b = c.args.b in
    let d = c.args.d in
    let high = λ (k : ℕ). slice_index_or c.sums_of_two.result k [] in
    let low = λ (k : ℕ). slice_index_or c.sums_of_two-2.result k [] in
    let first = λ (j : ℕ). slice_index_or c.four_rows.result j [] in
    let second = λ (j : ℕ). slice_index_or c.four_rows-2.result j [] in
    let third = λ (j : ℕ). slice_index_or c.four_rows-3.result j [] in
    let fourth = λ (j : ℕ). slice_index_or c.four_rows-4.result j [] in
    let at_first = λ (j : ℕ) (h : j < 4). row_of_four a b c.args.c d (high 0) (low 0) (first j) 0 j h
    (λ i. c.sums_of_two.ensures 0 i (lit< tt)) (λ i. c.sums_of_two-2.ensures 0 i (lit< tt)) (c.four_rows.ensures j h) in
    let at_second = λ (j : ℕ) (h : j < 4). row_of_four a b c.args.c d (high 1) (low 1) (second j) 1 j h
    (λ i. c.sums_of_two.ensures 1 i (lit< tt)) (λ i. c.sums_of_two-2.ensures 1 i (lit< tt)) (c.four_rows-2.ensures j h) in
    let at_third = λ (j : ℕ) (h : j < 4). row_of_four a b c.args.c d (high 2) (low 2) (third j) 2 j h
    (λ i. c.sums_of_two.ensures 2 i (lit< tt)) (λ i. c.sums_of_two-2.ensures 2 i (lit< tt)) (c.four_rows-3.ensures j h) in
    let at_fourth = λ (j : ℕ) (h : j < 4). row_of_four a b c.args.c d (high 3) (low 3) (fourth j) 3 j h
    (λ i. c.sums_of_two.ensures 3 i (lit< tt)) (λ i. c.sums_of_two-2.ensures 3 i (lit< tt)) (c.four_rows-4.ensures j h) in
    by_sixteen (λ r. slice_index_or (first 0 ∷ first 1 ∷ first 2 ∷ first 3 ∷ second 0 ∷ second 1 ∷ second 2 ∷ second 3
    ∷ third 0 ∷ third 1 ∷ third 2 ∷ third 3 ∷ fourth 0 ∷ fourth 1 ∷ fourth 2 ∷ fourth 3 ∷ []) r []
    ≡ each_below 16 (λ n. chosen_sum n 0 (slice_index a r ∷ slice_index b r ∷ slice_index c.args.c r ∷ slice_index d r ∷ [])))
    (at_first 0 (lit< tt)) (at_first 1 (lit< tt)) (at_first 2 (lit< tt)) (at_first 3 (lit< tt))
    (at_second 0 (lit< tt)) (at_second 1 (lit< tt)) (at_second 2 (lit< tt)) (at_second 3 (lit< tt))
    (at_third 0 (lit< tt)) (at_third 1 (lit< tt)) (at_third 2 (lit< tt)) (at_third 3 (lit< tt))
    (at_fourth 0 (lit< tt)) (at_fourth 1 (lit< tt)) (at_fourth 2 (lit< tt)) (at_fourth 3 (lit< tt))
    r less
