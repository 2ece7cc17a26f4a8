-- Multiplication of coefficients by a polynomial, modulo another: Horner's rule, one step of x at a time. A remainder is
-- the same multiple of one, and has as many coefficients as the degree.
use Rattle.std.proofs.Common.{◌≡◌, ℕ, zero, suc, ◌+◌, ◌-◌, ◌<◌, ◌≤◌, Bool, true, false, ◌&&◌, List, [], ◌∷◌, length, map, refl, sym, ap, ap₂, ◌∙◌, arith, ext_get_or, zero-add, add-zero, ◌==◌, ◌||◌, suc-add, ne_eqb}
use Rattle.std.proofs.Math.Bool.{and_assoc, and-false, and-true}
use Rattle.std.proofs.Math.ListN.{get_or-eq_default}
use Rattle.std.proofs.Math.Nat.{suc-sub-suc, sub-zero}
use Rattle.std.specs.List.{range_with_len, list_any}
use Rattle.aead_ciphers_base.specs
use specs.Polynomial.{◌xor◌, xor_sum, coefficient, polynomial_product, remainder, field_product}
use Rattle.aead_ciphers_base.proofs
use proofs.PolynomialBits.{xor_comm, xor_assoc, xor_zero, xor_exchange, and_xor, xor_and, Series, same_series, same_steps, none, add, scale, shift, add_comm, add_assoc, add_exchange, scale_add, scale_xor, scale_none, scale_swap, add_self}
use specs.Bytes.{each_below}
use Rattle.std.proofs.Math.Dec.{eqb-suc-suc, eqb-suc-zero}
use proofs.PolynomialSums.{length-polynomial_product, length-remainder}
use proofs.EachLemmas.{length-each}

-- ---- the coefficients of a product, by the first factor's first coefficient

-- coefficient k of the product of a and b
abbrev pub product_coefficient : List Bool → List Bool → Series
product_coefficient a b k = xor_sum (suc k) (λ i. coefficient a i && coefficient b (k - i))

xor_sum-first : (n : ℕ) (f : Series) → xor_sum (suc n) f ≡ (f zero xor xor_sum n (λ k. f (suc k)))
xor_sum-first zero f = xor_comm false _
xor_sum-first (suc n) f = ap (λ b. b xor f (suc n)) (xor_sum-first n f) ∙ xor_assoc _ (xor_sum n (λ k. f _)) _

xor_sum-none : (n : ℕ) (f : Series) → ((k : ℕ) → f k ≡ false) → xor_sum n f ≡ false
xor_sum-none zero f h = refl
xor_sum-none (suc n) f h = ap₂ ◌xor◌ (xor_sum-none n f h) (h n)

product_of_none : (b : List Bool) (k : ℕ) → product_coefficient [] b k ≡ false
product_of_none b k = xor_sum-none (suc k) _ (λ i. refl)

product_coefficient-cons : (x : Bool) (a b : List Bool)
    → product_coefficient (x ∷ a) b ≡ add (scale x (coefficient b)) (shift (product_coefficient a b))
product_coefficient-cons x a b =
    same_steps _ _ (sym (xor_zero (x && coefficient b zero))) (λ k. xor_sum-first (suc k) (λ i. coefficient (x ∷ a) i && coefficient b _)
    ∙ ap (λ j. (x && coefficient b j) xor xor_sum (suc k) (λ i. coefficient a i && coefficient b (suc k - suc i)))
    (sub-zero (suc k))
    ∙ ap (λ g. (x && coefficient b (suc k)) xor xor_sum (suc k) g)
    (same_series (λ i. ap (λ j. coefficient a i && coefficient b j)
    (suc-sub-suc k i))))

-- ---- one step of x, and Horner's rule. `top` is the degree less one, `m` the modulus with its highest coefficient

module _ (top : ℕ) (m : Series) where
  -- x times f
  abbrev pub mul_x : Series → Series
  mul_x f zero = f top && m zero
  mul_x f (suc k) = f k xor (f top && m (suc k))

  pub mul_x-add : (f g : Series) → mul_x (add f g) ≡ add (mul_x f) (mul_x g)
  mul_x-add f g =
      same_steps _ _ (xor_and (f top) _ _) (λ k. ap (λ b. (f k xor g k) xor b) (xor_and (f top) _ _)
      ∙ xor_exchange (f k) (g k) _ _)

  pub mul_x-scale : (b : Bool) (f : Series) → mul_x (scale b f) ≡ scale b (mul_x f)
  mul_x-scale b f =
      same_steps _ _ (and_assoc b _ _) (λ k. ap (λ c. (b && f k) xor c) (and_assoc b _ _) ∙ sym (and_xor b (f k) _))

  pub mul_x-none : mul_x none ≡ none
  mul_x-none = mul_x-scale false none

  -- the polynomial with the n coefficients c 0, .., c (n - 1), times f
  abbrev pub horner : ℕ → Series → Series → Series
  horner zero c f = none
  horner (suc n) c f = add (scale (c zero) f) (mul_x (horner n (λ k. c (suc k)) f))

  -- the polynomial p, times f
  abbrev pub times : List Bool → Series → Series
  times p f = horner (length p) (coefficient p) f

  -- x^n times f
  abbrev pub raise : ℕ → Series → Series
  raise zero f = f
  raise (suc n) f = mul_x (raise n f)

  -- ---- in f

  pub horner-add : (n : ℕ) (c f g : Series) → horner n c (add f g) ≡ add (horner n c f) (horner n c g)
  horner-add zero c f g = refl
  horner-add (suc n) c f g =
      let d : Series = λ k. c (suc k) in
      ap₂ add (scale_add (c zero) f g) (ap mul_x (horner-add n d f g) ∙ mul_x-add (horner n d f) (horner n d g))
      ∙ add_exchange (scale (c zero) f) (scale (c zero) g) (mul_x (horner n d f)) (mul_x (horner n d g))

  pub horner-scale : (n : ℕ) (c : Series) (b : Bool) (f : Series) → horner n c (scale b f) ≡ scale b (horner n c f)
  horner-scale zero c b f = sym (scale_none b)
  horner-scale (suc n) c b f =
      let d : Series = λ k. c (suc k) in
      ap₂ add (scale_swap (c zero) b f) (ap mul_x (horner-scale n d b f) ∙ mul_x-scale b (horner n d f))
      ∙ sym (scale_add b _ _)

  pub horner-none : (n : ℕ) (c : Series) → horner n c none ≡ none
  horner-none n c = horner-scale n c false none

  pub horner-mul_x : (n : ℕ) (c f : Series) → horner n c (mul_x f) ≡ mul_x (horner n c f)
  horner-mul_x zero c f = sym mul_x-none
  horner-mul_x (suc n) c f =
      let d : Series = λ k. c (suc k) in
      ap₂ add (sym (mul_x-scale (c zero) f)) (ap mul_x (horner-mul_x n d f))
      ∙ sym (mul_x-add (scale (c zero) f) (mul_x (horner n d f)))

  pub horner-swap : (n k : ℕ) (c e f : Series) → horner n c (horner k e f) ≡ horner k e (horner n c f)
  horner-swap zero k c e f = sym (horner-none k e)
  horner-swap (suc n) k c e f =
      let d : Series = λ j. c (suc j) in
      ap₂ add (sym (horner-scale k e _ f)) (ap mul_x (horner-swap n k d e f) ∙ sym (horner-mul_x k e (horner n d f)))
      ∙ sym (horner-add k e _ _)

  pub times_swap : (p q : List Bool) (f : Series) → times p (times q f) ≡ times q (times p f)
  times_swap p q f = horner-swap (length p) (length q) (coefficient p) (coefficient q) f

  -- ---- in the coefficients

  pub horner_none : (n : ℕ) (c f : Series) → ((k : ℕ) → c k ≡ false) → horner n c f ≡ none
  horner_none zero c f h = refl
  horner_none (suc n) c f h =
      ap₂ (λ (b : Bool) (s : Series). add (scale b f) (mul_x s)) (h zero) (horner_none n (λ k. c (suc k)) f (λ k. h _)) ∙ mul_x-none

  pub horner_add : (n : ℕ) (c e f : Series) → horner n (add c e) f ≡ add (horner n c f) (horner n e f)
  horner_add zero c e f = refl
  horner_add (suc n) c e f =
      let c' : Series = λ k. c (suc k) in
      let e' : Series = λ k. e (suc k) in
      ap₂ add (scale_xor (c zero) _ f) (ap mul_x (horner_add n c' e' f) ∙ mul_x-add (horner n c' f) (horner n e' f))
      ∙ add_exchange (scale (c zero) f) (scale (e zero) f) (mul_x (horner n c' f)) (mul_x (horner n e' f))

  pub horner_scale : (n : ℕ) (b : Bool) (c f : Series) → horner n (scale b c) f ≡ scale b (horner n c f)
  horner_scale n false c f = horner_none n none f (λ k. refl)
  horner_scale n true c f = refl

  -- coefficients of zero make no difference
  pub horner_more : (n k : ℕ) (c f : Series) → k ≤ n → ((j : ℕ) → k ≤ j → c j ≡ false) → horner n c f ≡ horner k c f
  horner_more n zero c f below above = horner_none n c f (λ j. above j (omega arith))
  horner_more (suc n) (suc k) c f below above =
      ap (λ s. add (scale (c zero) f) (mul_x s)) (horner_more n k (λ j. c _) f (omega arith)
      (λ j h. above (suc j) (omega arith)))
  horner_more _ _ c f below above = absurd (omega arith)

  -- one higher coefficient
  pub horner_push : (n : ℕ) (c f : Series) → horner (suc n) c f ≡ add (horner n c f) (scale (c n) (raise n f))
  horner_push zero c f = ap (add (scale (c zero) f)) mul_x-none ∙ add_comm _ none
  horner_push (suc n) c f =
      let d : Series = λ k. c _ in
      ap (add (scale (c zero) f)) (ap mul_x (horner_push n d f) ∙ mul_x-add (horner n d f) (scale (c (suc n)) (raise n f))
      ∙ ap (add (mul_x (horner n d f))) (mul_x-scale (c (suc n)) (raise n f)))
      ∙ sym (add_assoc (scale (c zero) f) _ _)

  -- ---- of a list given by its coefficients, and of a product

  map_times : (n a : ℕ) (c f : Series) → times (map c (range_with_len a n)) f ≡ horner n (λ k. c (a + k)) f
  map_times zero a c f = refl
  map_times (suc n) a c f =
      ap₂ (λ (b : Bool) (s : Series). add (scale b f) (mul_x s)) (ap c (sym (add-zero a)))
      (map_times n _ c f ∙ ap (λ e. horner n e f) (same_series (λ k. let e : a + 1 + k ≡ a + suc k = omega arith in
      ap c e)))

  pub polynomial_times : (n : ℕ) (c f : Series) → times (each_below n c) f ≡ horner n c f
  polynomial_times n c f = map_times n 0 c f ∙ ap (λ e. horner n e f) (same_series (λ k. ap c (zero-add k)))

  horner-product : (a b : List Bool) (n : ℕ) (f : Series) → 0 < length b → length a + length b ≤ suc n
      → horner n (product_coefficient a b) f ≡ times a (times b f)
  horner-product [] b n f some fits = horner_none n _ f (product_of_none b)
  horner-product (x ∷ a) b (suc n) f some fits =
      ap (λ c. horner (suc n) c f) (product_coefficient-cons x a b)
      ∙ horner_add (suc n) (scale x (coefficient b)) (shift (product_coefficient a b)) f
      ∙ ap₂ add
      (horner_scale (suc n) x (coefficient b) f ∙ ap (scale x) (horner_more (suc n) _ _ f (omega arith)
      (λ k h. get_or-eq_default b false h)))
      (ap mul_x (horner-product a b n f some (omega arith)))
  horner-product _ b _ f some fits = absurd (omega arith)

  pub product_times : (a b : List Bool) (f : Series) → 0 < length b → times (polynomial_product a b) f ≡ times a (times b f)
  unfolding polynomial_product
  product_times a b f some =
      let n = length a + length b - 1 in
      polynomial_times n _ f ∙ horner-product a b n f some (omega arith)

-- ---- reduction

abbrev pub one : Series
one zero = true
one (suc k) = false

-- x^n
abbrev pub monomial : ℕ → Series
monomial zero = one
monomial (suc n) = shift (monomial n)

-- the sum of x^t over the taps t
abbrev pub tap_bits : List ℕ → Series
tap_bits taps j = list_any (λ t. t == j) taps

-- x^d plus x^t for each of the taps t
abbrev pub modulus : List ℕ → ℕ → Series
modulus taps d = add (monomial d) (tap_bits taps)

-- each of the numbers is below d
abbrev pub AllBelow : ℕ → List ℕ → Type 0
AllBelow d [] = Unit {0}
AllBelow d (k ∷ ks) = (k < d) × AllBelow d ks

pub monomial_above : (n k : ℕ) → n < k → monomial n k ≡ false
monomial_above zero (suc k) h = refl
monomial_above (suc n) (suc k) h = monomial_above n k (omega arith)
monomial_above n _ h = absurd (omega arith)

pub monomial_same : (n : ℕ) → monomial n n ≡ true
monomial_same zero = refl
monomial_same (suc n) = monomial_same n

pub same_coefficients : (p q : List Bool) → length p ≡ length q → coefficient p ≡ coefficient q → p ≡ q
same_coefficients p q e h = ext_get_or false p q e (λ k below. ap (λ f. f k) h)

same_test : (f g : ℕ → Bool) (xs : List ℕ) → ((t : ℕ) → f t ≡ g t) → list_any f xs ≡ list_any g xs
same_test f g xs h = ap (λ (test : ℕ → Bool). list_any test xs) (λ i t. h t i)

never : (xs : List ℕ) → list_any (λ t. false) xs ≡ false
never [] = refl
never (x ∷ xs) = never xs

pub taps_above : (d : ℕ) (taps : List ℕ) (k : ℕ) → AllBelow d taps → d ≤ k → tap_bits taps k ≡ false
taps_above d [] k low h = refl
taps_above d (t ∷ taps) k low h = let small = low.0 in ap₂ ◌||◌ (ne_eqb t k (λ e. omega arith)) (taps_above d taps k low.1 h)

-- x^n times f, with nothing reduced
abbrev shifts : ℕ → Series → Series
shifts zero f = f
shifts (suc n) f = shift (shifts n f)

raised_taps : (n : ℕ) (taps : List ℕ) → (λ j. list_any (λ t. n + t == j) taps) ≡ shifts n (tap_bits taps)
raised_taps zero taps = same_series (λ j. same_test _ _ taps (λ t. ap (λ s. s == j) (zero-add t)))
raised_taps (suc n) taps = same_steps _ _
    (same_test _ (λ t. false) taps (λ t. ap (λ s. s == zero) (suc-add n t) ∙ eqb-suc-zero (n + t)) ∙ never taps)
    (λ j. same_test _ _ taps (λ t. ap (λ s. s == suc j) (suc-add n t) ∙ eqb-suc-suc _ j)
    ∙ ap (λ f. f j) (raised_taps n taps))

-- ---- degree `suc top`

module _ (taps : List ℕ) (top : ℕ) (low : AllBelow (suc top) taps) where
  abbrev m : Series
  m = modulus taps (suc top)

  pub mul_x-low : (f : Series) → f top ≡ false → mul_x top m f ≡ shift f
  mul_x-low f h =
      same_steps _ _ (ap (λ b. b && m zero) h) (λ k. ap (λ b. f k xor (b && m (suc k))) h ∙ xor_zero (f k))

  pub mul_x-high : (f : Series) → f top ≡ true → mul_x top m f ≡ add (shift f) m
  mul_x-high f h =
      same_steps _ _ (ap (λ b. b && m zero) h) (λ k. ap (λ b. f k xor (b && m (suc k))) h)

  -- up to x^top nothing is reduced
  raise_monomial : (k : ℕ) → k ≤ top → raise top m k one ≡ monomial k
  raise_monomial zero h = refl
  raise_monomial (suc k) h =
      ap (mul_x top m) (raise_monomial k (omega arith)) ∙ mul_x-low _ (monomial_above k top h)

  -- x^d is the sum of the taps' powers
  raise_degree : raise top m (suc top) one ≡ tap_bits taps
  raise_degree =
      ap (mul_x top m) (raise_monomial top (omega arith))
      ∙ mul_x-high _ (monomial_same top)
      ∙ sym (add_assoc (monomial (suc top)) (monomial (suc top)) (tap_bits taps))
      ∙ ap (λ s. add s (tap_bits taps)) (add_self (monomial (suc top)))

  raise-sum : (n k : ℕ) (f : Series) → raise top m (n + k) f ≡ raise top m n (raise top m k f)
  raise-sum zero k f = ap (λ j. raise top m j f) (zero-add k)
  raise-sum (suc n) k f = ap (λ j. raise top m j f) (suc-add n k) ∙ ap (mul_x top m) (raise-sum n k f)

  horner-shifts : (n k : ℕ) (c f : Series) → horner top m (n + k) (shifts n c) f ≡ raise top m n (horner top m k c f)
  horner-shifts zero k c f = ap (λ j. horner top m j c f) (zero-add k)
  horner-shifts (suc n) k c f = ap (λ j. horner top m j (shift (shifts n c)) f) (suc-add n k)
      ∙ ap (mul_x top m) (horner-shifts n k c f)

  -- coefficients below the degree are their own multiple of one
  horner_one : (n : ℕ) (c : Series) → n ≤ suc top → ((k : ℕ) → n ≤ k → c k ≡ false) → horner top m n c one ≡ c
  horner_one zero c h above = same_series (λ k. sym (above k (omega arith)))
  horner_one (suc n) c h above =
      let rest : Series = λ k. c _ in
      ap (λ s. add (scale (c zero) one) (mul_x top m s))
      (horner_one n rest (omega arith) (λ k g. above (suc k) (omega arith)))
      ∙ ap (add (scale (c zero) one)) (mul_x-low rest (above (suc top) h))
      ∙ same_steps _ _ (xor_zero _ ∙ and-true _) (λ k. ap (λ b. b xor c (suc k)) (and-false (c zero)))

  pub times_one : (p : List Bool) → length p ≤ suc top → times top m p one ≡ coefficient p
  times_one p h = horner_one _ _ h (λ k g. get_or-eq_default p false g)

  -- x^(d + n) is the sum of the powers n + t
  raise_high : (n : ℕ) → horner top m (suc top + n) (λ j. list_any (λ t. n + t == j) taps) one ≡ raise top m (suc top + n) one
  raise_high n =
      let e : suc top + n ≡ n + suc top = omega arith in
      ap₂ (λ (k : ℕ) (c : Series). horner top m k c one) e (raised_taps n taps)
      ∙ horner-shifts n _ (tap_bits taps) one
      ∙ ap (raise top m n) (horner_one (suc top) _ (omega arith) (λ k h. taps_above _ taps k low h) ∙ sym raise_degree)
      ∙ sym (raise-sum n _ one)
      ∙ ap (λ k. raise top m k one) (sym e)

  -- ---- reduction

  -- the highest coefficient removed
  times_removed : (n : ℕ) (p : List Bool) → length p ≡ suc (suc top + n) → let k = suc top + n in
      times top m (each_below k (λ j. coefficient p j xor (coefficient p k && list_any (λ t. n + t == j) taps))) one ≡ times top m p one
  times_removed n p e =
      let k = suc top + n in
      let h = coefficient p k in
      let c : Series = λ j. list_any (λ t. n + t == j) taps in
      polynomial_times top m k _ one
      ∙ horner_add top m k _ _ one
      ∙ ap (add (horner top m k _ one)) (horner_scale top m k h c one ∙ ap (scale h) (raise_high n))
      ∙ sym (horner_push top m k _ one)
      ∙ ap (λ j. horner top m j (coefficient p) one) (sym e)

  times_remainder : (n : ℕ) (p : List Bool) → length p ≡ suc top + n
      → times top m (remainder taps (suc top) n p) one ≡ times top m p one
  unfolding remainder
  times_remainder zero p e = refl
  times_remainder (suc n) p e =
      times_remainder n _ (length-each (suc top + n) _) ∙ times_removed n p (omega arith)

  coefficient-remainder : (n : ℕ) (p : List Bool) → length p ≡ suc top + n → coefficient (remainder taps (suc top) n p) ≡ times top m p one
  coefficient-remainder n p e =
      sym (times_one (remainder taps _ n p) (let same = length-remainder taps _ n p e in omega arith))
      ∙ times_remainder n p e

  -- ---- the product of polynomials of `suc top` coefficients

  pub length-field_product : (a b : List Bool) → length a ≡ suc top → length b ≡ suc top → length (field_product taps (suc top) a b) ≡ suc top
  unfolding field_product
  length-field_product a b la lb = let e = length-polynomial_product a b in length-remainder taps _ _ _ (omega arith)

  pub field_product_is : (a b : List Bool) → length a ≡ suc top → length b ≡ suc top → coefficient (field_product taps (suc top) a b)
      ≡ times top m a (coefficient b)
  unfolding field_product
  field_product_is a b la lb =
      let e = length-polynomial_product a b in
      coefficient-remainder _ _ (omega arith)
      ∙ product_times top m a b one (omega arith)
      ∙ ap (times top m a) (times_one b (omega arith))
