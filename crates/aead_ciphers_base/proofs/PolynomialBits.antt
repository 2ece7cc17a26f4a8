-- Sums and products of bits, and of coefficients of every power.
use Rattle.std.proofs.Common.{◌≡◌, ℕ, zero, suc, Bool, false, ◌&&◌, refl, arith}
use Rattle.std.proofs.Math.Bool.{and-false}
use Rattle.aead_ciphers_base.specs.Polynomial.{◌xor◌}

-- ---- bits

pub xor_comm : (a b : Bool) → (a xor b) ≡ (b xor a)
xor_comm a b = grind arith

pub xor_assoc : (a b c : Bool) → ((a xor b) xor c) ≡ (a xor (b xor c))
xor_assoc a b c = grind arith

pub xor_zero : (a : Bool) → (a xor false) ≡ a
xor_zero a = grind arith

pub xor_self : (a : Bool) → (a xor a) ≡ false
xor_self a = grind arith

pub xor_exchange : (a b c d : Bool) → ((a xor b) xor (c xor d)) ≡ ((a xor c) xor (b xor d))
xor_exchange a b c d = grind arith

pub and_xor : (a b c : Bool) → (a && (b xor c)) ≡ ((a && b) xor (a && c))
and_xor a b c = grind arith

pub xor_and : (a b c : Bool) → ((a xor b) && c) ≡ ((a && c) xor (b && c))
xor_and a b c = grind arith

pub and_swap : (a b c : Bool) → (a && (b && c)) ≡ (b && (a && c))
and_swap a b c = grind arith

-- ---- coefficients

-- the coefficients of every power
abbrev pub Series : Type 0
Series = ℕ → Bool

pub same_series : {f g : Series} → ((k : ℕ) → f k ≡ g k) → f ≡ g
same_series h = λ i k. h k i

pub same_steps : (f g : Series) → f zero ≡ g zero → ((k : ℕ) → f (suc k) ≡ g (suc k)) → f ≡ g
same_steps f g first rest = same_series (λ k. elim k as (λ j. f j ≡ g j) [ zero ↦ first | suc j ↦ rest j ])

abbrev pub none : Series
none k = false

abbrev pub add : Series → Series → Series
add f g k = f k xor g k

abbrev pub scale : Bool → Series → Series
scale b f k = b && f k

-- x times f
abbrev pub shift : Series → Series
shift f zero = false
shift f (suc k) = f k

pub add_comm : (f g : Series) → add f g ≡ add g f
add_comm f g = same_series (λ k. xor_comm (f k) (g k))

pub add_assoc : (f g h : Series) → add (add f g) h ≡ add f (add g h)
add_assoc f g h = same_series (λ k. xor_assoc (f k) (g k) (h k))

pub add_none : (f : Series) → add f none ≡ f
add_none f = same_series (λ k. xor_zero (f k))

pub add_self : (f : Series) → add f f ≡ none
add_self f = same_series (λ k. xor_self (f k))

pub add_exchange : (f g h j : Series) → add (add f g) (add h j) ≡ add (add f h) (add g j)
add_exchange f g h j = same_series (λ k. xor_exchange (f k) (g k) (h k) (j k))

pub scale_add : (b : Bool) (f g : Series) → scale b (add f g) ≡ add (scale b f) (scale b g)
scale_add b f g = same_series (λ k. and_xor b (f k) (g k))

pub scale_xor : (a b : Bool) (f : Series) → scale (a xor b) f ≡ add (scale a f) (scale b f)
scale_xor a b f = same_series (λ k. xor_and a b (f k))

pub scale_none : (b : Bool) → scale b none ≡ none
scale_none b = same_series (λ k. and-false b)

pub scale_swap : (a b : Bool) (f : Series) → scale a (scale b f) ≡ scale b (scale a f)
scale_swap a b f = same_series (λ k. and_swap a b (f k))

pub shift-add : (f g : Series) → shift (add f g) ≡ add (shift f) (shift g)
shift-add f g = same_steps _ _ refl (λ k. refl)
