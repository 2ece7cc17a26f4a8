-- The operations of `aes::tower` on the coordinates at one place.
use Rattle.std.proofs.Common.{◌≡◌, ℕ, ◌/◌, ◌^◌, Bool, true, ◌&&◌, ◌||◌, inl, inr, List, [], ◌∷◌, ◌++◌, length, take, drop, refl, sym, ap, ap₂, ◌∙◌, arith, find, unwrap_or, slice_index, ◌==◌, eqb-true}
use Rattle.std.specs.Int.{bit_at}
use Rattle.std.specs.List.{range_with_len}
use Rattle.std.proofs.lemmas.Bool.{and_parts, or_cases}
use Rattle.aead_ciphers_base.specs
use specs.Polynomial.{◌xor◌, coefficient}
use specs.ByteField.{bits_of, value_of, mul8, inv, affine}
use specs.Planes.{plane_byte, plane_polynomial}
use specs.Tower.{element, basis_4, basis_16, basis_256, plane_element}
use Rattle.aead_ciphers_base.proofs
use proofs.NumberBits.{all_below, all_below_at, bits_of-value_of, value_of-lt}
use proofs.ByteFieldLaws.{field, inv_is, by_fast_mul8}

-- a test passes at k bits if it does at those of each number below 2^k
all_at_bits : (p : List Bool → Bool) (q : List Bool) → all_below (λ n. p (bits_of (length q) n)) (2 ^ length q) ≡ true → p q ≡ true
all_at_bits p q test =
    ap p (sym (bits_of-value_of q)) ∙ all_below_at (λ n. p _) _ _ test (value_of-lt q)

-- two functions agree at k bits if they do at those of each number below 2^k
same_at_bits : (f g : List Bool → ℕ) (q : List Bool)
    → all_below (λ n. f (bits_of (length q) n) == g (bits_of (length q) n)) (2 ^ length q) ≡ true → f q ≡ g q
same_at_bits f g q test = eqb-true (f q) (g q) (all_at_bits (λ r. f r == g r) q test)

-- ---- coordinates

number_of : List ℕ → ℕ → ℕ
number_of basis e = unwrap_or (find (λ n. element basis (bits_of (length basis) n) == e) (range_with_len 0 (2 ^ length basis))) 0

-- the coordinates of an element, the first that give it
pub coordinates : List ℕ → ℕ → List Bool
coordinates basis e = bits_of (length basis) (number_of basis e)

known : (basis : List ℕ) (q : List Bool) (e : ℕ) → length q ≡ length basis
    → all_below (λ n. number_of basis (element basis (bits_of (length q) n)) == value_of (bits_of (length q) n)) (2 ^ length q) ≡ true
    → element basis q ≡ e → q ≡ coordinates basis e
unfolding coordinates
known basis q e size test h =
    sym (bits_of-value_of q)
    ∙ ap₂ bits_of size (sym (same_at_bits (λ r. number_of basis (element basis r)) value_of q test) ∙ ap (number_of basis) h)

-- bit p of plane k
abbrev bit : List ℕ → ℕ → ℕ → Bool
bit x k p = bit_at (slice_index x k) p == 1

pub two_bits : (x : List ℕ) (p e : ℕ) → plane_element basis_4 x p ≡ e
    → let q = coordinates basis_4 e in (bit x 0 p ≡ coefficient q 0) × (bit x 1 p ≡ coefficient q 1)
unfolding number_of element plane_element plane_polynomial basis_4
two_bits x p e h =
    let s = known basis_4 (plane_polynomial 2 x p) e refl refl h in
    (ap (λ t. coefficient t 0) s, ap (λ t. coefficient t 1) s)

pub four_bits : (x : List ℕ) (p e : ℕ) → plane_element basis_16 x p ≡ e
    → let q = coordinates basis_16 e in
    (bit x 0 p ≡ coefficient q 0) × (bit x 1 p ≡ coefficient q 1) × (bit x 2 p ≡ coefficient q 2) × (bit x 3 p ≡ coefficient q 3)
unfolding number_of element plane_element plane_polynomial basis_16
four_bits x p e h =
    let s = known basis_16 (plane_polynomial 4 x p) e refl refl h in
    (ap (λ t. coefficient t 0) s, ap (λ t. coefficient t 1) s, ap (λ t. coefficient t 2) s, ap (λ t. coefficient t 3) s)

-- ---- the products

abbrev pub product_4 : List Bool → List Bool → List Bool
product_4 (a0 ∷ a1 ∷ []) (b0 ∷ b1 ∷ []) = let both = (a0 xor a1) && (b0 xor b1) in
    ((a0 && b0) xor both) ∷ ((a1 && b1) xor both) ∷ []
product_4 _ _ = []

pub product_4_is : (a b : List ℕ) (p : ℕ)
    → element basis_4 (product_4 (plane_polynomial 2 a p) (plane_polynomial 2 b p)) ≡ mul8 (plane_element basis_4 a p) (plane_element basis_4 b p)
unfolding field element plane_element plane_polynomial basis_4
product_4_is a b p =
    same_at_bits (λ q. element basis_4 (product_4 (take 2 q) (drop 2 q))) (λ q. mul8 (element basis_4 (take 2 q)) (element basis_4 (drop 2 q)))
    (plane_polynomial 2 a p ++ plane_polynomial 2 b p) refl

abbrev both_2 : List Bool → List Bool
both_2 (a0 ∷ a1 ∷ a2 ∷ a3 ∷ []) = (a0 xor a2) ∷ (a1 xor a3) ∷ []
both_2 _ = []

-- the coordinates of a product in the field of 4, for any product
abbrev pub product_4_by : (ℕ → ℕ → ℕ) → List Bool → List Bool → List Bool
product_4_by mul a b = coordinates basis_4 (mul (element basis_4 a) (element basis_4 b))

abbrev pub product_16_by : (ℕ → ℕ → ℕ) → List Bool → List Bool → List Bool
product_16_by mul a b =
    let low = product_4_by mul (take 2 a) (take 2 b) in
    let high = product_4_by mul (drop 2 a) (drop 2 b) in
    let both = product_4_by mul (both_2 a) (both_2 b) in
    let scaled = coefficient both 0 xor coefficient both 1 in
    (coefficient low 0 xor scaled) ∷ (coefficient low 1 xor coefficient both 0)
    ∷ (coefficient high 0 xor scaled) ∷ (coefficient high 1 xor coefficient both 0) ∷ []

abbrev product_16_holds : (ℕ → ℕ → ℕ) → List Bool → Bool
product_16_holds mul q =
    element basis_16 (product_16_by mul (take 4 q) (drop 4 q)) == mul (element basis_16 (take 4 q)) (element basis_16 (drop 4 q))

product_16_test : all_below (λ n. product_16_holds mul8 (bits_of 8 n)) 256 ≡ true
unfolding coordinates number_of element basis_4 basis_16
product_16_test = by_fast_mul8 (λ mul. all_below (λ n. product_16_holds mul (bits_of 8 n)) 256) refl

pub product_16_is : (a b : List ℕ) (p : ℕ)
    → element basis_16 (product_16_by mul8 (plane_polynomial 4 a p) (plane_polynomial 4 b p))
    ≡ mul8 (plane_element basis_16 a p) (plane_element basis_16 b p)
unfolding plane_element plane_polynomial basis_16
product_16_is a b p =
    eqb-true _ _ (all_at_bits (product_16_holds mul8) (plane_polynomial 4 a p ++ plane_polynomial 4 b p) product_16_test)

-- ---- the inverses

-- the least y with product 1, for any product
abbrev inv_by : (ℕ → ℕ → ℕ) → ℕ → ℕ
inv_by mul x = unwrap_or (find (λ y. mul x y == 1) (range_with_len 0 256)) 0

-- y is a byte with product 1, or else the least y with product 1
abbrev inverts : (ℕ → ℕ → ℕ) → ℕ → ℕ → Bool
inverts mul x y = y / 256 == 0 && (mul x y == 1 || y == inv_by mul x)

inverts_is : (x y : ℕ) → inverts mul8 x y ≡ true → y ≡ inv x
unfolding inv
inverts_is x y h =
    let parts = and_parts _ _ h in
    let byte = eqb-true (y / 256) 0 parts.0 in
    elim (or_cases (mul8 x y == 1) (y == inv x) parts.1) [
      | inl one ↦ sym (inv_is x y (omega (arith, byte)) (eqb-true (mul8 x y) 1 one))
      | inr least ↦ eqb-true y (inv x) least
    ]

abbrev pub inverse_16 : List Bool → List Bool
inverse_16 (n0 ∷ n1 ∷ n2 ∷ n3 ∷ []) =
    let both0 = n0 && n2 in
    let both1 = n1 && n3 in
    (n2 xor ((n2 xor n3) && (n0 xor both1))) ∷ ((n2 xor n3) xor (n3 && ((n0 xor n1) xor both0)))
    ∷ (n0 xor ((n0 xor n1) && (n2 xor both1))) ∷ ((n0 xor n1) xor (n1 && ((n2 xor n3) xor both0))) ∷ []
inverse_16 _ = []

abbrev inverse_16_holds : (ℕ → ℕ → ℕ) → List Bool → Bool
inverse_16_holds mul n = inverts mul (element basis_16 n) (element basis_16 (inverse_16 n))

inverse_16_test : all_below (λ n. inverse_16_holds mul8 (bits_of 4 n)) 16 ≡ true
unfolding element basis_16
inverse_16_test = by_fast_mul8 (λ mul. all_below (λ n. inverse_16_holds mul (bits_of 4 n)) 16) refl

pub inverse_16_is : (n : List ℕ) (p : ℕ) → element basis_16 (inverse_16 (plane_polynomial 4 n p)) ≡ inv (plane_element basis_16 n p)
unfolding plane_element plane_polynomial basis_16
inverse_16_is n p =
    let q = plane_polynomial 4 n p in
    inverts_is _ _ (all_at_bits (inverse_16_holds mul8) q inverse_16_test)

-- the power 17, which lies in the field of 16
abbrev power_17_by : (ℕ → ℕ → ℕ) → List Bool → List Bool
power_17_by mul (a0 ∷ a1 ∷ a2 ∷ a3 ∷ a4 ∷ a5 ∷ a6 ∷ a7 ∷ []) =
    let c = coordinates basis_16 (mul (element basis_16 (a0 ∷ a1 ∷ a2 ∷ a3 ∷ []))
    (element basis_16 (a4 ∷ a5 ∷ a6 ∷ a7 ∷ []))) in
    (coefficient c 0 xor ((a1 xor a3) xor (a5 xor a7))) ∷ (coefficient c 1 xor ((a0 xor a2) xor (a4 xor a6)))
    ∷ (coefficient c 2 xor (a2 xor a6)) ∷ (coefficient c 3 xor ((a2 xor a3) xor (a6 xor a7))) ∷ []
power_17_by mul _ = []

-- the inverse, by that of the power 17
abbrev inverse_from : (ℕ → ℕ → ℕ) → ℕ → List Bool → List Bool
inverse_from mul a238 a =
    let low = coordinates basis_16 (mul (element basis_16 (drop 4 a)) a238) in
    let high = coordinates basis_16 (mul (element basis_16 (take 4 a)) a238) in
    coefficient low 0 ∷ coefficient low 1 ∷ coefficient low 2 ∷ coefficient low 3
    ∷ coefficient high 0 ∷ coefficient high 1 ∷ coefficient high 2 ∷ coefficient high 3 ∷ []

-- the inverse in the tower, for any product and any inverse in the field of 16
abbrev pub inverse_by : (ℕ → ℕ → ℕ) → (ℕ → ℕ) → List Bool → List Bool
inverse_by mul inv a = inverse_from mul (inv (element basis_16 (power_17_by mul a))) a

abbrev inverse_holds : (ℕ → ℕ → ℕ) → List Bool → Bool
inverse_holds mul a =
    let a238 = element basis_16 (inverse_16 (power_17_by mul a)) in
    inverts mul (element basis_256 a) (element basis_256 (inverse_from mul a238 a))

inverse_test : all_below (λ n. inverse_holds mul8 (bits_of 8 n)) 256 ≡ true
unfolding coordinates number_of element basis_4 basis_16 basis_256
inverse_test = by_fast_mul8 (λ mul. all_below (λ n. inverse_holds mul (bits_of 8 n)) 256) refl

pub inverse_is : (a : List ℕ) (p : ℕ) → element basis_256 (inverse_by mul8 inv (plane_polynomial 8 a p)) ≡ inv (plane_element basis_256 a p)
unfolding plane_element plane_polynomial basis_256
inverse_is a p =
    let q = plane_polynomial 8 a p in
    let r = power_17_by mul8 q in
    let a238 = element basis_16 (inverse_16 r) in
    let inner = inverts_is (element basis_16 r) a238 (all_at_bits (inverse_16_holds mul8) r inverse_16_test) in
    ap (λ t. element basis_256 (inverse_from mul8 t q)) (sym inner)
    ∙ inverts_is _ _ (all_at_bits (inverse_holds mul8) q inverse_test)

-- ---- the changes of basis

abbrev pub to_tower : List Bool → List Bool
to_tower (a0 ∷ a1 ∷ a2 ∷ a3 ∷ a4 ∷ a5 ∷ a6 ∷ a7 ∷ []) =
    let a06 = a0 xor a6 in
    let a056 = a5 xor a06 in
    let a13 = a1 xor a3 in
    let a0156 = a1 xor a056 in
    a0 ∷ (a0 xor a4 xor (a7 xor a13)) ∷ (a2 xor (a06 xor a13)) ∷ a056
    ∷ (a4 xor a056) ∷ (a0156 xor (a2 xor a7)) ∷ (a7 xor a056) ∷ a0156 ∷ []
to_tower _ = []

pub to_tower_is : (a : List ℕ) (p : ℕ) → element basis_256 (to_tower (plane_polynomial 8 a p)) ≡ plane_byte a p
unfolding element plane_byte plane_polynomial basis_256
to_tower_is a p = same_at_bits (λ q. element basis_256 (to_tower q)) value_of (plane_polynomial 8 a p) refl

abbrev pub affine_of : List Bool → List Bool
affine_of (a0 ∷ a1 ∷ a2 ∷ a3 ∷ a4 ∷ a5 ∷ a6 ∷ a7 ∷ []) =
    let a17 = a1 xor a7 in
    let a157 = a5 xor a17 in
    let a24 = a2 xor a4 in
    let not_a36 = a3 xor a6 xor true in
    (a4 xor not_a36) ∷ (a7 xor not_a36) ∷ (a0 xor (a17 xor a24)) ∷ (a6 xor (a4 xor a157))
    ∷ a157 ∷ (a24 xor true) ∷ (a1 xor a5 xor true) ∷ a17 ∷ []
affine_of _ = []

pub affine_is : (a : List ℕ) (p : ℕ) → value_of (affine_of (plane_polynomial 8 a p)) ≡ affine (plane_element basis_256 a p)
unfolding affine element plane_element plane_polynomial basis_256
affine_is a p = same_at_bits (λ q. value_of (affine_of q)) (λ q. affine (element basis_256 q)) (plane_polynomial 8 a p) refl
