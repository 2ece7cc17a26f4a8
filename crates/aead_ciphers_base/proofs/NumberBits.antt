-- Numbers and their bits: both ways between them keep sums.
use Rattle.std.proofs.Common.{◌≡◌, ℕ, zero, suc, ◌+◌, ◌-◌, ◌*◌, ◌/◌, ◌%◌, ◌^◌, ◌<◌, ◌≤◌, Bool, true, false, ◌&&◌, List, [], ◌∷◌, length, refl, sym, ap, ap₂, ◌∙◌, arith, inl, inr, bit_xor, if◌then◌else◌, pow-suc, find, Some, ◌==◌, pow_pos, shr-shr, eqb-true}
use Rattle.std.specs.List.{range_with_len}
use Rattle.std.specs.Int.Bits.{xor_shr, xor_mod, xor_block, xor_shifted, xor_self as bit_xor_self}
use Rattle.std.proofs.lemmas
use lemmas.Nat.{field_of, mod-pow-add}
use lemmas.Nat.Bits.{bit_at_cat_low}
use Rattle.std.specs.Int.{bit_at}
use lemmas.Bool.{cases_eq, cases_lt, and_parts, cond-true, cond-false}
use Rattle.aead_ciphers_base.specs
use specs.Polynomial.{◌xor◌}
use specs.ByteField.{bits_of, value_of}
use Rattle.aead_ciphers_base.proofs.PolynomialSums.{polynomial_sum}

-- what holds at 0 and at 1 holds at each digit
pub by_digit : (P : ℕ → Type 0) (d : ℕ) → d < 2 → (d ≡ 0 → P 0) → (d ≡ 1 → P 1) → P d
by_digit P zero h zero_case one_case = zero_case refl
by_digit P (suc zero) h zero_case one_case = one_case refl
by_digit P _ h zero_case one_case = absurd (omega arith)

pub by_digits : (P : ℕ → ℕ → Type 0) (x y : ℕ) → x < 2 → y < 2 → P 0 0 → P 0 1 → P 1 0 → P 1 1 → P x y
by_digits P x y hx hy p₀₀ p₀₁ p₁₀ p₁₁ = by_digit (λ d. P d y) x hx
    (λ _. by_digit (P 0) y hy (λ _. p₀₀) (λ _. p₀₁)) (λ _. by_digit (P 1) y hy (λ _. p₁₀) (λ _. p₁₁))

digit-xor : (x y : ℕ) → x < 2 → y < 2 → (bit_xor x y == 1) ≡ ◌xor◌ (x == 1) (y == 1)
digit-xor x y hx hy = by_digits (λ x y. (bit_xor x y == 1) ≡ ◌xor◌ (x == 1) (y == 1)) x y hx hy refl refl refl refl

pub bits_of-xor : (k a b : ℕ) → bits_of k (bit_xor a b) ≡ polynomial_sum (bits_of k a) (bits_of k b)
bits_of-xor zero a b = refl
bits_of-xor (suc k) a b =
    ap₂ (λ (x : Bool) (xs : List Bool). x ∷ xs)
    (ap (λ x. x == 1) (xor_mod a b 1) ∙ digit-xor _ (b % 2) (omega arith) (omega arith))
    (ap (bits_of k) (xor_shr a b 1) ∙ bits_of-xor k _ _)

abbrev bit_value : Bool → ℕ
bit_value b = if b then 1 else 0

bit_value-xor : (a b : Bool) → bit_value (◌xor◌ a b) ≡ bit_xor (bit_value a) (bit_value b)
bit_value-xor true true = refl
bit_value-xor true false = refl
bit_value-xor false b = refl

bit_value-lt : (a : Bool) → bit_value a < 2
bit_value-lt true = omega arith
bit_value-lt false = omega arith

pub value_of-add : (p q : List Bool) → length p ≡ length q → value_of (polynomial_sum p q) ≡ bit_xor (value_of p) (value_of q)
value_of-add [] q e = refl
value_of-add (a ∷ p) (b ∷ q) e =
    let tails : length p ≡ length q = omega arith in
    let block = xor_block 1 (value_of p) (value_of q) _ _ (bit_value-lt a) (bit_value-lt b) in
    let turn : (r v : ℕ) → r + 2 * v ≡ v * 2 + r = λ r v. omega arith in
    ap₂ (λ x y. x + 2 * y) (bit_value-xor a b) (value_of-add p q tails)
    ∙ turn _ _
    ∙ sym block
    ∙ ap₂ bit_xor (sym (turn (bit_value a) _)) (sym (turn (bit_value b) _))
value_of-add _ _ e = absurd (omega arith)

digit_back : (x : ℕ) → x < 2 → bit_value (x == 1) ≡ x
digit_back zero h = refl
digit_back (suc zero) h = refl
digit_back _ h = absurd (omega arith)

pub value_of-bits_of : (k n : ℕ) → n < 2 ^ k → value_of (bits_of k n) ≡ n
value_of-bits_of zero n h = omega arith
value_of-bits_of (suc k) n h =
    let half : n / 2 < 2 ^ k = omega (arith, pow-suc 2 k) in
    let low = digit_back (n % 2) (omega arith) in
    let high = value_of-bits_of k (n / 2) half in
    omega arith

digit_of_value : (b : Bool) (v : ℕ) → (((bit_value b + 2 * v) % 2 == 1) ≡ b) × ((bit_value b + 2 * v) / 2 ≡ v)
digit_of_value true v =
    let e : (1 + 2 * v) % 2 ≡ 1 = omega arith in
    (ap (λ x. x == 1) e, omega arith)
digit_of_value false v =
    let e : (0 + 2 * v) % 2 ≡ 0 = omega arith in
    (ap (λ x. x == 1) e, omega arith)

pub bits_of-value_of : (p : List Bool) → bits_of (length p) (value_of p) ≡ p
bits_of-value_of [] = refl
bits_of-value_of (b ∷ p) =
    let both = digit_of_value b _ in
    ap₂ (λ (x : Bool) (xs : List Bool). x ∷ xs) both.0 (ap (bits_of (length p)) both.1 ∙ bits_of-value_of p)

pub value_of-lt : (p : List Bool) → value_of p < 2 ^ length p
value_of-lt [] = omega arith
value_of-lt (b ∷ p) = let h = value_of-lt p in let s = bit_value-lt b in omega (arith, pow-suc 2 (length p))

-- ---- functions that keep sums

abbrev pub IsAdditive : (ℕ → ℕ) → Type 0
IsAdditive f = (a b : ℕ) → f (bit_xor a b) ≡ bit_xor (f a) (f b)

pub IsAdditive_zero : (f : ℕ → ℕ) → IsAdditive f → f 0 ≡ 0
IsAdditive_zero f h = h 0 0 ∙ bit_xor_self (f 0)

-- a number with k + 1 bits has k, or is 2^k plus one that has k
top_bit : (k n : ℕ) → 2 ^ k ≤ n → n < 2 ^ suc k → (n - 2 ^ k < 2 ^ k) × (n ≡ bit_xor (2 ^ k) (n - 2 ^ k))
top_bit k n lo hi =
    let small : n - 2 ^ k < 2 ^ k = omega (arith, pow-suc 2 k) in
    let e = xor_shifted 1 k _ small in
    let one : 1 * 2 ^ k ≡ 2 ^ k = omega arith in
    let sum : 1 * 2 ^ k + (n - 2 ^ k) ≡ n = omega arith in
    (small, sym (sym (ap (λ x. bit_xor x (n - 2 ^ k)) one) ∙ e ∙ sum))

-- two functions that keep sums agree below 2^k if they do at the k powers of two
pub same_additive : (f g : ℕ → ℕ) → IsAdditive f → IsAdditive g → (k : ℕ) → ((i : ℕ) → i < k → f (2 ^ i) ≡ g (2 ^ i))
    → (n : ℕ) → n < 2 ^ k → f n ≡ g n
same_additive f g hf hg zero h n lt =
    let e : n ≡ 0 = omega arith in
    ap f e ∙ IsAdditive_zero f hf ∙ sym (ap g e ∙ IsAdditive_zero g hg)
same_additive f g hf hg (suc k) h n lt = elim (cases_lt n _) [
  | inl less ↦ same_additive f g hf hg k (λ i below. h i (omega arith)) n less
  | inr more ↦
      let top = top_bit k n more lt in
      let rest = same_additive f g hf hg k (λ i below. h i (omega arith)) _ top.0 in
      ap f top.1 ∙ hf _ _ ∙ ap₂ bit_xor (h k (omega arith)) rest ∙ sym (hg (2 ^ k) _) ∙ sym (ap g top.1)
]

-- ---- tests of each number below a bound

abbrev pub all_below : (ℕ → Bool) → ℕ → Bool
all_below p zero = true
all_below p (suc n) = p n && all_below p n

pub all_below_at : (p : ℕ → Bool) (n k : ℕ) → all_below p n ≡ true → k < n → p k ≡ true
all_below_at p (suc n) k h lt =
    let parts = and_parts (p n) _ h in
    elim (cases_lt k n) [
      | inl below ↦ all_below_at p n k parts.1 below
      | inr top ↦ let e : k ≡ n = omega arith in rw e parts.0
    ]
all_below_at p _ k h lt = absurd (omega arith)

pub same_below : (f g : ℕ → ℕ) (n k : ℕ) → all_below (λ i. f i == g i) n ≡ true → k < n → f k ≡ g k
same_below f g n k h lt = eqb-true (f k) (g k) (all_below_at (λ i. f i == g i) n k h lt)

-- the same of two numbers
pub same_in_table : (f g : ℕ → ℕ → ℕ) (m n i j : ℕ) → all_below (λ a. all_below (λ b. f a b == g a b) n) m ≡ true → i < m → j < n → f i j ≡ g i j
same_in_table f g m n i j h hi hj = same_below (f i) (g i) n j (all_below_at (λ a. all_below (λ b. f a b == g a b) n) m i h hi) hj

-- the least number that passes is found
pub find_first : (p : ℕ → Bool) (a n v : ℕ) → a ≤ v → v < a + n → p v ≡ true → ((y : ℕ) → y < v → p y ≡ false)
    → find p (range_with_len a n) ≡ Some v
find_first p a (suc n) v lo hi passes fails = elim (cases_eq a v) [
  | inl same ↦ cond-true (p a) _ _ (ap p same ∙ passes) ∙ ap (λ x. Some x) same
  | inr other ↦
      cond-false (p a) _ _ (fails a (omega arith))
      ∙ find_first p (a + 1) n v (omega arith) (omega arith) passes fails
]
find_first p a _ v lo hi passes fails = absurd (omega arith)

-- the bits from k on do not matter
pub bits_of-mod : (k n : ℕ) → bits_of k (n % 2 ^ k) ≡ bits_of k n
bits_of-mod zero n = refl
bits_of-mod (suc k) n =
    let s : suc k ≡ k + 1 = omega arith in
    let whole = mod-pow-add n k 1 in
    let low : n % 2 ^ (k + 1) % 2 ≡ n % 2 = omega arith in
    ap (λ j. bits_of (suc k) (n % 2 ^ j)) s
    ∙ ap₂ (λ (b : Bool) (q : List Bool). b ∷ q) (ap (λ t. t == 1) low) (ap (bits_of k) (field_of n k 1) ∙ bits_of-mod k _)

-- a bit of a number that is shifted, and of one that is cut
pub bit_at-shr : (x s q : ℕ) → bit_at (x / 2 ^ s) q ≡ bit_at x (q + s)
bit_at-shr x s q = let e : s + q ≡ q + s = omega arith in ap (λ t. t % 2) (shr-shr x s q) ∙ ap (bit_at x) e

pub bit_at-mod : (x w q : ℕ) → q < w → bit_at (x % 2 ^ w) q ≡ bit_at x q
bit_at-mod x w q h =
    let whole : x / 2 ^ w * 2 ^ w + x % 2 ^ w ≡ x = omega (arith, pow_pos w) in
    sym (bit_at_cat_low (x / 2 ^ w) w _ q h) ∙ ap (λ t. bit_at t q) whole
