-- Sums of blocks times powers of u^8, by Horner's rule, and a block as the sum of its bytes.
-- By the invariant of `product`, the bytes so far are the sum of the rows passed, multiplied by u^8 once for each row since.
use Rattle.std.proofs.Common.{◌≡◌, ℕ, zero, suc, ◌+◌, ◌*◌, ◌<◌, ◌≤◌, Bool, false, ◌&&◌, List, [], ◌∷◌, ◌++◌, length, flat_map, replicate, slice_index, refl, sym, ap, ap₂, ◌∙◌, arith, inl, inr}
use Rattle.std.proofs.Math.ListN.{get_or-eq_default}
use Rattle.std.proofs.lemmas.List.Elements.{All-cons, All-tail}
use Rattle.std.proofs.lemmas.Bool.{cases_lt}
use Rattle.aead_ciphers_base.specs.Bytes.{◌⊕◌, zero_block}
use Rattle.aead_ciphers_base.specs.Polynomial.{◌xor◌, coefficient}
use Rattle.aead_ciphers_base.proofs.XorLemmas.{xor_comm, xor_exchange, xor_assoc}
use Rattle.aead_ciphers_base.proofs.PolynomialBits.{Series, add, add_none, none, same_series, same_steps, shift, shift-add, xor_zero}
use Rattle.aead_ciphers_base.proofs.PolynomialLaws.{mul_x, modulus}
use Rattle.aead_ciphers.specs.Ghash.{IsBlock, block_of, block_taps, ◌•◌}
use Rattle.aead_ciphers_wide.specs.Products.{first_byte, stepped}
use Rattle.aead_ciphers.specs.Multiples.{monomial_block}
use Rattle.aead_ciphers.proofs.GhashBits.{bits_high_first, length-bits}
use Rattle.aead_ciphers.proofs.GhashBlocks.{series, same_from_series, block_bits-is, IsBlock-product, length-flat}
use Rattle.aead_ciphers.proofs.GhashLaws.{Sized, Sized-xor, Sized-product, IsBlock-xor, IsBlock-zero, series-xor, xor_zero as block_xor_zero, product_zero, product_comm, product_assoc, product_xor_left, product_xor_right}
use Rattle.aead_ciphers.proofs.ProductLoop.{zeros_end}
use Rattle.aead_ciphers.proofs.SubkeyMultiples.{raised, series-monomial}

-- u^8
abbrev pub step : List ℕ
step = monomial_block 8

pub Sized-step : Sized step
unfolding block_of
Sized-step = refl

-- f 0 + u^8 f 1 + .. + u^(8 (n - 1)) f (n - 1)
unfoldable pub ladder : ℕ → (ℕ → List ℕ) → List ℕ
ladder zero f = zero_block
ladder (suc n) f = f 0 ⊕ step • ladder n (λ i. f (suc i))

abbrev pub AllSizedAt : (ℕ → List ℕ) → Type 0
AllSizedAt f = (i : ℕ) → Sized (f i)

pub Sized-ladder : (n : ℕ) (f : ℕ → List ℕ) → AllSizedAt f → Sized (ladder n f)
unfolding ladder
Sized-ladder zero f h = refl
Sized-ladder (suc n) f h = Sized-xor (f 0) _ (h 0) (Sized-product step _)

pub ladder-same : (n : ℕ) (f g : ℕ → List ℕ) → ((i : ℕ) → i < n → f i ≡ g i) → ladder n f ≡ ladder n g
unfolding ladder
ladder-same zero f g h = refl
ladder-same (suc n) f g h =
    ap₂ (λ x y. x ⊕ step • y) (h 0 (omega arith)) (ladder-same n (λ i. f (suc i)) (λ i. g (suc i)) (λ i lt. h (suc i) (omega arith)))

-- the ladder of f + g is the sum of their ladders
pub ladder-xor : (n : ℕ) (f g : ℕ → List ℕ) → AllSizedAt f → AllSizedAt g → ladder n (λ i. f i ⊕ g i) ≡ ladder n f ⊕ ladder n g
unfolding ladder
ladder-xor zero f g hf hg = refl
ladder-xor (suc n) f g hf hg =
    let F = ladder n (λ i. f (suc i)) in
    let G = ladder n (λ i. g (suc i)) in
    let sf = Sized-ladder n (λ i. f (suc i)) (λ i. hf (suc i)) in
    let sg = Sized-ladder n (λ i. g (suc i)) (λ i. hg (suc i)) in
    ap (λ y. (f 0 ⊕ g 0) ⊕ step • y) (ladder-xor n (λ i. f (suc i)) (λ i. g (suc i)) (λ i. hf (suc i)) (λ i. hg (suc i)))
    ∙ ap (λ y. (f 0 ⊕ g 0) ⊕ y) (product_xor_right step F G Sized-step sf sg)
    ∙ xor_exchange (f 0) (g 0) (step • F) (step • G)

-- the ladder of u^8 f is u^8 times that of f
pub ladder-step : (n : ℕ) (f : ℕ → List ℕ) → AllSizedAt f → ladder n (λ i. step • f i) ≡ step • ladder n f
unfolding ladder
ladder-step zero f h = sym (product_zero step Sized-step)
ladder-step (suc n) f h =
    let F = ladder n (λ i. f (suc i)) in
    ap (λ y. step • f 0 ⊕ step • y) (ladder-step n (λ i. f (suc i)) (λ i. h (suc i)))
    ∙ sym (product_xor_right step (f 0) (step • F) Sized-step (h 0) (Sized-product step F))

-- the ladder of f h is that of f times h
pub ladder-times : (n : ℕ) (f : ℕ → List ℕ) (h : List ℕ) → AllSizedAt f → Sized h → ladder n (λ i. f i • h) ≡ ladder n f • h
unfolding ladder
ladder-times zero f h hf sh = sym (product_comm zero_block h refl sh ∙ product_zero h sh)
ladder-times (suc n) f h hf sh =
    let F = ladder n (λ i. f (suc i)) in
    let sf = Sized-ladder n (λ i. f (suc i)) (λ i. hf (suc i)) in
    ap (λ y. f 0 • h ⊕ step • y) (ladder-times n (λ i. f (suc i)) h (λ i. hf (suc i)) sh)
    ∙ ap (λ y. f 0 • h ⊕ y) (sym (product_assoc step F h Sized-step sf sh))
    ∙ sym (product_xor_left (f 0) (step • F) h (hf 0) (Sized-product step F) sh)

pub Sized-stepped : (n : ℕ) (y : List ℕ) → Sized y → Sized (stepped n y)
Sized-stepped zero y h = h
Sized-stepped (suc n) y h = Sized-product step _

-- a ladder in two parts
pub ladder-append : (m n : ℕ) (f : ℕ → List ℕ) → AllSizedAt f → ladder (m + n) f ≡ ladder m f ⊕ stepped m (ladder n (λ i. f (m + i)))
unfolding ladder
ladder-append zero n f h =
    let e : 0 + n ≡ n = omega arith in
    let s = Sized-ladder n f h in
    ap (λ k. ladder k f) e ∙ sym (block_xor_zero (ladder n f) s) ∙ xor_comm (ladder n f) zero_block
    ∙ ap (λ y. zero_block ⊕ y) (ladder-same n f (λ i. f (0 + i)) (λ i lt. (let e : i ≡ 0 + i = omega arith in ap f e)))
ladder-append (suc m) n f h =
    let e : suc m + n ≡ suc (m + n) = omega arith in
    let g = λ (i : ℕ). f (suc i) in
    let front = ladder m g in
    let back = ladder n (λ i. f (suc (m + i))) in
    let s_front = Sized-ladder m g (λ i. h (suc i)) in
    let s_back = Sized-ladder n (λ i. f (suc (m + i))) (λ i. h (suc (m + i))) in
    ap (λ k. ladder k f) e
    ∙ ap (λ y. f 0 ⊕ step • y) (ladder-append m n g (λ i. h (suc i)))
    ∙ ap (λ y. f 0 ⊕ y) (product_xor_right step front (stepped m back) Sized-step s_front (Sized-stepped m back s_back))
    ∙ sym (xor_assoc (f 0) (step • front) (step • stepped m back))
    ∙ ap (λ y. (f 0 ⊕ step • front) ⊕ step • stepped m y)
    (ladder-same n (λ i. f (suc (m + i))) (λ i. f (suc m + i)) (λ i lt. (let e : suc (m + i) ≡ suc m + i = omega arith in ap f e)))

pub ladder-zero : (n : ℕ) → ladder n (λ i. zero_block) ≡ zero_block
unfolding ladder
ladder-zero zero = refl
ladder-zero (suc n) = ap (λ y. zero_block ⊕ step • y) (ladder-zero n) ∙ ap (λ y. zero_block ⊕ y) (product_zero step Sized-step)

-- rows and columns change places
pub ladder-swap : (m n : ℕ) (g : ℕ → ℕ → List ℕ) → ((r : ℕ) → AllSizedAt (g r))
    → ladder m (λ r. ladder n (λ i. g r i)) ≡ ladder n (λ i. ladder m (λ r. g r i))
unfolding ladder
ladder-swap zero n g h = sym (ladder-zero n)
ladder-swap (suc m) n g h =
    let G = λ (i : ℕ). ladder m (λ r. g (suc r) i) in
    let sG : AllSizedAt G = λ i. Sized-ladder m (λ r. g (suc r) i) (λ r. h (suc r) i) in
    ap (λ y. ladder n (g 0) ⊕ step • y) (ladder-swap m n (λ r. g (suc r)) (λ r. h (suc r)))
    ∙ ap (λ y. ladder n (g 0) ⊕ y) (sym (ladder-step n G sG))
    ∙ sym (ladder-xor n (g 0) (λ i. step • G i) (h 0) (λ i. Sized-product step (G i)))

-- ---- a block as a ladder of its bytes

-- x^n times f, if no coefficient is lost
abbrev shifts : ℕ → Series → Series
shifts zero f = f
shifts (suc n) f = shift (shifts n f)

shifts-add : (n : ℕ) (f g : Series) → shifts n (add f g) ≡ add (shifts n f) (shifts n g)
shifts-add zero f g = refl
shifts-add (suc n) f g = ap shift (shifts-add n f g) ∙ shift-add (shifts n f) (shifts n g)

shifts-above : (n d : ℕ) (f : Series) → ((k : ℕ) → d ≤ k → f k ≡ false) → (k : ℕ) → d + n ≤ k → shifts n f k ≡ false
shifts-above zero d f h k le = h k (omega arith)
shifts-above (suc n) d f h zero le = refl
shifts-above (suc n) d f h (suc k) le = shifts-above n d f h k (omega arith)

mul_x-shift : (top : ℕ) (m f : Series) → f top ≡ false → mul_x top m f ≡ shift f
mul_x-shift top m f e =
    same_steps _ _ (ap (λ b. b && m zero) e) (λ k. ap (λ b. f k xor (b && m (suc k))) e ∙ xor_zero (f k))

raised-shifts : (n d : ℕ) (f : Series) → ((k : ℕ) → d ≤ k → f k ≡ false) → d + n ≤ 128 → raised n f ≡ shifts n f
raised-shifts zero d f h le = refl
raised-shifts (suc n) d f h le =
    ap (mul_x 127 (modulus block_taps 128)) (raised-shifts n d f h (omega arith))
    ∙ mul_x-shift 127 (modulus block_taps 128) (shifts n f) (shifts-above n d f h 127 (omega arith))

coefficient-append : (p q : List Bool) → coefficient (p ++ q) ≡ add (coefficient p) (shifts (length p) (coefficient q))
coefficient-append [] q = refl
coefficient-append (b ∷ p) q =
    same_steps _ _ (sym (xor_zero b)) (λ k. ap (λ f. f k) (coefficient-append p q))

abbrev bytes_bits : List ℕ → List Bool
bytes_bits xs = flat_map (bits_high_first 8) xs

abbrev bytes_series : List ℕ → Series
bytes_series xs = coefficient (bytes_bits xs)

bytes_series-cons : (x : ℕ) (xs : List ℕ) → bytes_series (x ∷ xs) ≡ add (coefficient (bits_high_first 8 x)) (shifts 8 (bytes_series xs))
bytes_series-cons x xs =
    coefficient-append (bits_high_first 8 x) (bytes_bits xs)
    ∙ ap (λ n. add (coefficient (bits_high_first 8 x)) (shifts n (bytes_series xs))) (length-bits 8 x)

bytes_series-above : (xs : List ℕ) (k : ℕ) → 8 * length xs ≤ k → bytes_series xs k ≡ false
bytes_series-above xs k le = get_or-eq_default (bytes_bits xs) false (omega (arith, length-flat xs))

shifts-none : (n : ℕ) → shifts n none ≡ none
shifts-none zero = refl
shifts-none (suc n) = ap shift (shifts-none n) ∙ same_steps _ _ refl (λ k. refl)

zeros_series : (n : ℕ) → bytes_series (replicate n 0) ≡ none
unfolding bits_high_first
zeros_series zero = refl
zeros_series (suc n) =
    bytes_series-cons 0 (replicate n 0)
    ∙ ap₂ (λ p f. add p (shifts 8 f)) (same_series {f = coefficient (bits_high_first 8 0)} {g = none} (λ k. zeros_end 8 k)) (zeros_series n)
    ∙ ap (λ f. add none f) (shifts-none 8) ∙ add_none none

series-first_byte : (x : ℕ) → series (first_byte x) ≡ coefficient (bits_high_first 8 x)
series-first_byte x =
    ap coefficient (block_bits-is (first_byte x)) ∙ bytes_series-cons x (replicate 15 0)
    ∙ ap (λ f. add (coefficient (bits_high_first 8 x)) (shifts 8 f)) (zeros_series 15)
    ∙ ap (add (coefficient (bits_high_first 8 x))) (shifts-none 8) ∙ add_none (coefficient (bits_high_first 8 x))

series-ladder : (n : ℕ) (xs : List ℕ) → length xs ≡ n → n ≤ 16 → series (ladder n (λ i. first_byte (slice_index xs i))) ≡ bytes_series xs
unfolding ladder
series-ladder zero [] e le = ap coefficient (block_bits-is zero_block) ∙ zeros_series 16
series-ladder (suc n) (x ∷ xs) e le =
    let tail = ladder n (λ i. first_byte (slice_index xs i)) in
    let s_tail = Sized-ladder n (λ i. first_byte (slice_index xs i)) (λ i. refl) in
    series-xor (first_byte x) (step • tail) refl (Sized-product step tail)
    ∙ ap₂ add (series-first_byte x)
    (series-monomial 8 tail (omega arith) s_tail ∙ ap (raised 8) (series-ladder n xs (omega arith) (omega arith))
    ∙ raised-shifts 8 (8 * length xs) (bytes_series xs) (bytes_series-above xs) (omega arith))
    ∙ sym (bytes_series-cons x xs)
series-ladder zero (x ∷ xs) e le = absurd (omega arith)
series-ladder (suc n) [] e le = absurd (omega arith)

IsBlock-first_byte : (x : ℕ) → x < 256 → IsBlock (first_byte x)
IsBlock-first_byte x h = record {
  size = refl;
  bytes = All-cons (λ byte. byte < 256) x (replicate 15 0) h (All-tail (λ byte. byte < 256) 0 (replicate 15 0) IsBlock-zero.bytes);
}

pub IsBlock-ladder : (n : ℕ) (f : ℕ → List ℕ) → ((i : ℕ) → IsBlock (f i)) → IsBlock (ladder n f)
unfolding ladder
IsBlock-ladder zero f h = IsBlock-zero
IsBlock-ladder (suc n) f h = IsBlock-xor (f 0) (step • ladder n (λ i. f (suc i))) (h 0) (IsBlock-product step _)

byte_below : (b : List ℕ) → IsBlock b → (i : ℕ) → slice_index b i < 256
byte_below b is i = elim (cases_lt i 16) [
  | inl less ↦ is.bytes i 0 (omega (arith, is.size))
  | inr more ↦ let past : slice_index b i ≡ 0 = get_or-eq_default b 0 (omega (arith, is.size)) in omega arith
]

-- a block is the ladder of its bytes
pub block_ladder : (b : List ℕ) → IsBlock b → ladder 16 (λ i. first_byte (slice_index b i)) ≡ b
block_ladder b is =
    same_from_series _ b (IsBlock-ladder 16 (λ i. first_byte (slice_index b i)) (λ i. IsBlock-first_byte (slice_index b i) (byte_below b is i))) is
    (series-ladder 16 b is.size (omega arith) ∙ ap coefficient (sym (block_bits-is b)))
