-- The ranges of skipped numbers, and which numbers are in them after another skip.
use Rattle.std.proofs.Common.{◌≡◌, ℕ, zero, suc, ◌<◌, ◌≤◌, inl, inr, false, List, [], ◌∷◌, take, drop, refl, arith}
use Rattle.std.proofs.lemmas.Bool.{cases_Bool, cond_both, eqb-true, or_from, or_parts}
use Rattle.std.proofs.lemmas.Bool.Decides.{nat_tests}
use Rattle.std.specs.Prelude.{◌==◌}
use Rattle.quic_packets.specs.Skipped.{forgotten, highest_end, is_in_gap, is_skipped, no_gaps, with_gap}
use Rattle.quic_packets.specs.declared.skipped.Gap.{Gap}

-- Each range lies at or below a number.
abbrev pub IsBelow : ℕ → List Gap → Type 0
IsBelow top [] = Unit {0}
IsBelow top (gap ∷ gaps) = (gap.start ≤ top) × (gap.end ≤ top) × IsBelow top gaps

pub none_below : (top : ℕ) → IsBelow top no_gaps
none_below top = omega arith

pub below_more : (a b : ℕ) (gaps : List Gap) → a ≤ b → IsBelow a gaps → IsBelow b gaps
below_more a b [] le is = tt
below_more a b (gap ∷ gaps) le is = (omega (arith, is.0), omega (arith, is.1), below_more a b gaps le is.2)

below_take : (k top : ℕ) (gaps : List Gap) → IsBelow top gaps → IsBelow top (take k gaps)
below_take (suc k) top (gap ∷ gaps) is = (is.0, is.1, below_take k top gaps is.2)
below_take k top gaps is = tt

-- a number that is in no range
over : (n : ℕ) (gap : Gap) → gap.end ≤ n → is_in_gap n gap ≡ false
over n gap le = grind (arith, nat_tests)

under : (n : ℕ) (gap : Gap) → n < gap.start → is_in_gap n gap ≡ false
under n gap lt = grind (arith, nat_tests)

below_start : (n : ℕ) (gap : Gap) → n < gap.end → is_in_gap n gap ≡ false → n < gap.start
below_start n gap lt not = grind (arith, nat_tests)

highest : (top : ℕ) (gaps : List Gap) → IsBelow top gaps → highest_end gaps ≤ top
highest top [] is = omega arith
highest top (gap ∷ gaps) is = omega (arith, is.1, highest top gaps is.2)

free_over : (n : ℕ) (gaps : List Gap) → highest_end gaps ≤ n → is_skipped gaps n ≡ false
free_over n [] le = refl
free_over n (gap ∷ gaps) le = or_from _ _ (over n gap (omega (arith, le))) (free_over n gaps (omega (arith, le)))

pub free_above : (top n : ℕ) (gaps : List Gap) → top ≤ n → IsBelow top gaps → is_skipped gaps n ≡ false
free_above top n gaps le is = free_over n gaps (omega (arith, highest top gaps is))

joined : (k n : ℕ) (gaps : List Gap) → is_skipped (take k gaps) n ≡ false → is_skipped (drop k gaps) n ≡ false → is_skipped gaps n ≡ false
joined zero n gaps front back = back
joined (suc k) n [] front back = refl
joined (suc k) n (gap ∷ gaps) front back = let parts = or_parts _ _ front in or_from _ _ parts.0 (joined k n gaps parts.1 back)

taken : (k n : ℕ) (gaps : List Gap) → is_skipped gaps n ≡ false → is_skipped (take k gaps) n ≡ false
taken (suc k) n (gap ∷ gaps) free = let parts = or_parts _ _ free in or_from _ _ parts.0 (taken k n gaps parts.1)
taken k n gaps free = refl

-- After a skip from `s` up to `e`.
abbrev longer : Gap → ℕ → Gap
longer last e = record { start = last.start; end = e }

abbrev next_gap : (s e : ℕ) → Gap
next_gap s e = record { start = s; end = e }

pub below_with : (s e : ℕ) (gaps : List Gap) → s ≤ e → IsBelow s gaps → IsBelow e (with_gap gaps s e)
below_with s e [] le is = (le, omega arith, tt)
below_with s e (last ∷ lower) le is =
    let more : IsBelow e (last ∷ lower) = below_more s e (last ∷ lower) le is in
    cond_both (last.end == s) (longer last e ∷ lower) (next_gap s e ∷ take 7 (last ∷ lower)) (IsBelow e)
    (λ same. (more.0, omega arith, more.2)) (λ other. (le, omega arith, below_take 7 e (last ∷ lower) more))

-- Take a number that is in no range after the skip, and not so low that it may have been forgotten. It was in no range before,
-- and lies below the numbers that were skipped.
pub unskipped : (s e n : ℕ) (gaps : List Gap) → IsBelow s gaps → n < e → forgotten gaps s ≤ n → is_skipped (with_gap gaps s e) n ≡ false
    → (n < s) × (is_skipped gaps n ≡ false)
unskipped s e n [] is lt high free = (below_start n (next_gap s e) lt (or_parts _ false free).0, refl)
unskipped s e n (last ∷ lower) is lt high free =
    elim (cases_Bool (last.end == s)) [
      | inl same ↦
          let parts = or_parts _ _ (rw same at free) in
          let before = below_start n (longer last e) lt parts.0 in
          (omega (arith, before, is.0), or_from _ _ (under n last before) parts.1)
      | inr other ↦
          let parts = or_parts _ _ (rw other at free) in
          let below = below_start n (next_gap s e) lt parts.0 in
          (below, joined 7 n (last ∷ lower) parts.1 (free_over n (drop 7 (last ∷ lower)) (rw other at high)))
    ]

-- A number that was in no range and lies below the numbers that are skipped is in no range afterwards.
pub still_free : (s e n : ℕ) (gaps : List Gap) → n < s → is_skipped gaps n ≡ false → is_skipped (with_gap gaps s e) n ≡ false
still_free s e n [] lt free = or_from _ false (under n (next_gap s e) lt) refl
still_free s e n (last ∷ lower) lt free =
    let parts = or_parts (is_in_gap n last) (is_skipped lower n) free in
    elim (cases_Bool (last.end == s)) [
      | inl same ↦
          let end : last.end ≡ s = eqb-true last.end s same in
          rw same (or_from _ _ (under n (longer last e) (below_start n last (omega arith) parts.0)) parts.1)
      | inr other ↦ rw other (or_from _ _ (under n (next_gap s e) lt) (taken 7 n (last ∷ lower) free))
    ]

highest_below : (k top : ℕ) (gaps : List Gap) → IsBelow top gaps → highest_end (drop k gaps) ≤ top
highest_below zero top gaps is = highest top gaps is
highest_below (suc k) top [] is = omega arith
highest_below (suc k) top (gap ∷ gaps) is = highest_below k top gaps is.2

-- The end of the range that is forgotten is not above the numbers that are skipped.
pub forgotten_below : (s : ℕ) (gaps : List Gap) → IsBelow s gaps → forgotten gaps s ≤ s
forgotten_below s [] is = omega arith
forgotten_below s (last ∷ lower) is =
    cond_both (last.end == s) 0 (highest_end (drop 7 (last ∷ lower))) (λ n. n ≤ s) (λ same. omega arith)
    (λ other. highest_below 7 s (last ∷ lower) is)
