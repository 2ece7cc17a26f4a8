-- The S-box by look-ups in tables of 16 bytes, in each lane: a function of one byte, which is computed at all 256.
use Rattle.std.proofs.Common.{◌≡◌, ℕ, zero, suc, ◌+◌, ◌-◌, ◌*◌, ◌/◌, ◌%◌, ◌^◌, ◌<◌, ◌≤◌, ◌⊎◌, Bool, true, false, ◌&&◌, ◌||◌, T, cond, ltb, leb, inl, inr, List, length, map, get_or, replicate, slice_index, bit_and, bit_xor, Fits, w8, refl, sym, ap, ◌∙◌, arith, ◌==◌, find, unwrap_or, ltb-true, leb-true, lt-ltb, le-leb, subst}
use Rattle.std.specs.List.{range_with_len}
use Rattle.std.specs.Simd.Lanes.{zip2, Each1}
use Rattle.std.proofs.lemmas.Bool.{and_parts, eqb-true, or_cases}
use Rattle.std.proofs.lemmas.List.{get_or-map, get_or_past, length-map, ext_get_or}
use Rattle.std.proofs.lemmas.Simd.{Each1-get_or, Each1-from_get_or, SwzOk, SwzOk-from_Each1, get_or-swz_l, length-swz_l, map-map, splat_is_map, swz_l, zip2_of_maps}
use Rattle.aead_ciphers_base.specs.ByteField.{affine, inv, mul8, sbox}
use Rattle.aead_ciphers_base.proofs.NumberBits.{all_below, all_below_at, by_digit}
use Rattle.aead_ciphers_base.proofs.ByteFieldLaws.{by_fast_mul8, inv_is, two_is}
use Rattle.aead_ciphers_wide.specs.declared.aes.permuted.TheConstants.{LOW_DIGITS, HIGH_DIGITS, INVERSES, SCALED_INVERSES, FROM_IO, FROM_JO}

-- ---- one look-up

-- a place in a table of 16 bytes, or one at which a look-up gives 0
abbrev pub IsPlace : ℕ → Type 0
IsPlace p = (p < 16) ⊎ (128 ≤ p)

abbrev is_place : ℕ → Bool
is_place p = ltb p 16 || leb 128 p

abbrev pub IsVector : List ℕ → Type 0
IsVector v = (length v ≡ 16) × Each1 (Fits w8) v

or_true : (b : Bool) → T (b || true)
or_true true = tt
or_true false = tt

place_ok : (p : ℕ) → IsPlace p → T (leb 128 p || ltb p 16)
place_ok p h = elim h [
  | inl low ↦ subst (λ t. T (leb 128 p || t)) (sym (lt-ltb p 16 low)) (or_true (leb 128 p))
  | inr high ↦ subst (λ t. T (t || ltb p 16)) (sym (le-leb 128 p high)) tt
]

pub look_up_fits : (places : List ℕ) → length places ≡ 16 → ((i : ℕ) → i < 16 → IsPlace (slice_index places i)) → SwzOk w8 16 16 0 places
look_up_fits places size h =
    SwzOk-from_Each1 w8 16 1 16 0 places refl (omega (arith, size))
    (Each1-from_get_or (λ p. T (leb 128 p || ltb p 16)) places 0 (λ i lt. place_ok (slice_index places i) (h i (omega (arith, size)))))

-- past the end of a table is 0
past_end : (table : List ℕ) (p : ℕ) (t : Bool) → leb 128 p ≡ t → length table ≡ 16 → cond t 0 (get_or table p 0) ≡ slice_index table p
past_end table p true e size = sym (get_or_past table p 0 (omega (arith, leb-true 128 p e)))
past_end table p false e size = refl

pub look_up_is : (table places : List ℕ) → length table ≡ 16 → length places ≡ 16 → swz_l w8 16 table 0 places ≡ map (slice_index table) places
look_up_is table places size long =
    ext_get_or 0 _ _ (length-swz_l w8 16 table 0 places ∙ sym (length-map places (slice_index table)))
    (λ i h.
    let lt : i < 16 = omega (arith, length-swz_l w8 16 table 0 places) in
    let p = slice_index places i in
    let place : 16 * ((0 + i) / 16) + p ≡ p = omega arith in
    get_or-swz_l w8 16 table 0 places i (omega arith)
    ∙ ap (λ q. cond (leb 128 p) 0 (get_or table q 0)) place
    ∙ past_end table p (leb 128 p) refl size
    ∙ sym (get_or-map (slice_index table) places i 0 0 (omega arith)))

-- ---- what the S-box computes of a byte

abbrev x_of : ℕ → ℕ
x_of b = bit_xor (slice_index LOW_DIGITS (bit_and b 15)) (slice_index HIGH_DIGITS (b / 2 ^ 4))

abbrev k_of : ℕ → ℕ
k_of b = bit_and (x_of b) 15

abbrev i_of : ℕ → ℕ
i_of b = x_of b / 2 ^ 4

abbrev j_of : ℕ → ℕ
j_of b = bit_xor (i_of b) (k_of b)

abbrev scaled_of : ℕ → ℕ
scaled_of b = slice_index SCALED_INVERSES (k_of b)

abbrev of_i_of : ℕ → ℕ
of_i_of b = bit_xor (slice_index INVERSES (i_of b)) (scaled_of b)

abbrev of_j_of : ℕ → ℕ
of_j_of b = bit_xor (slice_index INVERSES (j_of b)) (scaled_of b)

abbrev io_of : ℕ → ℕ
io_of b = bit_xor (slice_index INVERSES (of_i_of b)) (j_of b)

abbrev jo_of : ℕ → ℕ
jo_of b = bit_xor (slice_index INVERSES (of_j_of b)) (i_of b)

abbrev out_of : ℕ → ℕ
out_of b = bit_xor (bit_xor (slice_index FROM_IO (io_of b)) (slice_index FROM_JO (jo_of b))) 0x63

-- a byte whose bits are turned by n places, and the inverse of the affine transformation
abbrev turned : ℕ → ℕ → ℕ
turned x n = x * 2 ^ n % 2 ^ 8 + x / 2 ^ (8 - n)

abbrev affine_back : ℕ → ℕ
affine_back x = bit_xor (bit_xor (bit_xor (turned x 1) (turned x 3)) (turned x 6)) 0x05 % 256

-- the result is the affine transformation of a byte whose product with b is 1
abbrev is_sbox : (ℕ → ℕ → ℕ) → ℕ → Bool
is_sbox mul b =
    let y = affine_back (out_of b) in
    mul b y == 1 && affine y == out_of b

out_test : all_below (λ b. is_sbox mul8 (suc b)) 255 ≡ true
unfolding affine
out_test = by_fast_mul8 (λ mul. all_below (λ b. is_sbox mul (suc b)) 255) refl

-- 0 has no inverse
none_test : (out_of 0 == sbox 0) ≡ true
unfolding inv affine sbox
none_test = by_fast_mul8 (λ mul. out_of 0 == affine (unwrap_or (find (λ y. mul 0 y == 1) (range_with_len 0 256)) 0)) refl

out_sbox : (b : ℕ) → b < 256 → out_of b ≡ sbox b
unfolding sbox
out_sbox zero h = eqb-true _ _ none_test
out_sbox (suc b) h =
    let y = affine_back (out_of (suc b)) in
    let both = and_parts (mul8 (suc b) y == 1) _ (all_below_at (λ b. is_sbox mul8 (suc b)) 255 b out_test (omega arith)) in
    sym (ap affine (inv_is (suc b) y (omega arith) (eqb-true _ 1 both.0)) ∙ eqb-true (affine y) _ both.1)

-- the product by {02}
abbrev twice_of : ℕ → ℕ
twice_of b = bit_xor (b * 2 ^ 1 % 2 ^ 8) (bit_and ((0 + (2 ^ 8 - b / 2 ^ 7)) % 2 ^ 8) 0x1b)

twice_is : (b : ℕ) → b < 256 → twice_of b ≡ mul8 2 b
twice_is b h =
    ap (bit_xor (b * 2 ^ 1 % 2 ^ 8))
    (by_digit (λ d. bit_and ((0 + (2 ^ 8 - d)) % 2 ^ 8) 0x1b ≡ d * 0x1b) (b / 2 ^ 7) (omega arith) (λ _. refl) (λ _. refl))
    ∙ two_is b h

-- ---- each lane

pub byte_at : (v : List ℕ) → IsVector v → (i : ℕ) → i < 16 → slice_index v i < 256
byte_at v fits i h = (Each1-get_or (Fits w8) v i 0 (omega (arith, fits.0)) fits.1).fits

place_of : (p : ℕ) → is_place p ≡ true → IsPlace p
place_of p h = elim (or_cases (ltb p 16) (leb 128 p) h) [ inl a ↦ inl (ltb-true p 16 a) | inr b ↦ inr (leb-true 128 p b) ]

pub places_of : (js : List ℕ) → all_below (λ i. is_place (slice_index js i)) 16 ≡ true → (i : ℕ) → i < 16 → IsPlace (slice_index js i)
places_of js test i h = place_of (slice_index js i) (all_below_at (λ i. is_place (slice_index js i)) 16 i test h)

module _ (v : List ℕ) (fits : IsVector v) where
  places : (g : ℕ → ℕ) (js : List ℕ) → js ≡ map g v → all_below (λ b. is_place (g b)) 256 ≡ true → (i : ℕ) → i < 16 → IsPlace (slice_index js i)
  places g js e test i h =
      let b = slice_index v i in
      let here : slice_index js i ≡ g b = ap (λ l. slice_index l i) e ∙ get_or-map g v i 0 0 (omega (arith, fits.0)) in
      subst IsPlace (sym here) (place_of (g b) (all_below_at (λ b. is_place (g b)) 256 b test (byte_at v fits i h)))

  maps_same : (f g : ℕ → ℕ) → ((b : ℕ) → b < 256 → f b ≡ g b) → map f v ≡ map g v
  maps_same f g same =
      ext_get_or 0 _ _ (length-map v f ∙ sym (length-map v g))
      (λ i h.
      let lt : i < length v = omega (arith, length-map v f) in
      get_or-map f v i 0 0 lt
      ∙ same (slice_index v i) (byte_at v fits i (omega (arith, fits.0)))
      ∙ sym (get_or-map g v i 0 0 lt))

  looked : (table : List ℕ) (g : ℕ → ℕ) {js : List ℕ} → js ≡ map g v → map (slice_index table) js ≡ map (λ b. slice_index table (g b)) v
  looked table g e = ap (map (slice_index table)) e ∙ map-map (slice_index table) g v

  with_all : (f : ℕ → ℕ → ℕ) (g : ℕ → ℕ) (y : ℕ) {xs : List ℕ} → xs ≡ map g v → zip2 f xs (replicate 16 y) ≡ map (λ b. f (g b) y) v
  with_all f g y e = zip2_of_maps f g (λ _. y) v e (splat_is_map v 16 y fits.0)

  abbrev shr : ℕ → ℕ → ℕ
  shr x n = x / 2 ^ n

  same : v ≡ map (λ b. b) v
  same = ext_get_or 0 v _ (sym (length-map v (λ b. b))) (λ i h. sym (get_or-map (λ b. b) v i 0 0 h))

  low_places_is : zip2 bit_and v (replicate 16 15) ≡ map (λ b. bit_and b 15) v
  low_places_is = with_all bit_and (λ b. b) 15 same

  high_places_is : zip2 shr v (replicate 16 4) ≡ map (λ b. b / 2 ^ 4) v
  high_places_is = with_all shr (λ b. b) 4 same

  pub low_places : (i : ℕ) → i < 16 → IsPlace (slice_index (zip2 bit_and v (replicate 16 15)) i)
  low_places = places (λ b. bit_and b 15) _ low_places_is refl

  pub high_places : (i : ℕ) → i < 16 → IsPlace (slice_index (zip2 shr v (replicate 16 4)) i)
  high_places = places (λ b. b / 2 ^ 4) _ high_places_is refl

  -- the results of the look-ups, of which each has its equation
  module _ {low high : List ℕ} (is_low : low ≡ map (slice_index LOW_DIGITS) (zip2 bit_and v (replicate 16 15)))
      (is_high : high ≡ map (slice_index HIGH_DIGITS) (zip2 shr v (replicate 16 4))) where
    x_is : zip2 bit_xor low high ≡ map x_of v
    x_is = zip2_of_maps bit_xor _ _ v (is_low ∙ looked LOW_DIGITS _ low_places_is) (is_high ∙ looked HIGH_DIGITS _ high_places_is)

    abbrev k_v : List ℕ
    k_v = zip2 bit_and (zip2 bit_xor low high) (replicate 16 15)

    k_is : k_v ≡ map k_of v
    k_is = with_all bit_and x_of 15 x_is

    abbrev i_v : List ℕ
    i_v = zip2 shr (zip2 bit_xor low high) (replicate 16 4)

    i_is : i_v ≡ map i_of v
    i_is = with_all shr x_of 4 x_is

    abbrev j_v : List ℕ
    j_v = zip2 bit_xor i_v k_v

    j_is : j_v ≡ map j_of v
    j_is = zip2_of_maps bit_xor i_of k_of v i_is k_is

    pub k_places : (i : ℕ) → i < 16 → IsPlace (slice_index k_v i)
    k_places = places k_of _ k_is refl

    pub i_places : (i : ℕ) → i < 16 → IsPlace (slice_index i_v i)
    i_places = places i_of _ i_is refl

    pub j_places : (i : ℕ) → i < 16 → IsPlace (slice_index j_v i)
    j_places = places j_of _ j_is refl

    module _ {scaled inverse_i inverse_j : List ℕ} (is_scaled : scaled ≡ map (slice_index SCALED_INVERSES) k_v)
        (is_i : inverse_i ≡ map (slice_index INVERSES) i_v) (is_j : inverse_j ≡ map (slice_index INVERSES) j_v) where
      scaled_is : scaled ≡ map scaled_of v
      scaled_is = is_scaled ∙ looked SCALED_INVERSES k_of k_is

      of_i_is : zip2 bit_xor inverse_i scaled ≡ map of_i_of v
      of_i_is = zip2_of_maps bit_xor _ scaled_of v (is_i ∙ looked INVERSES i_of i_is) scaled_is

      of_j_is : zip2 bit_xor inverse_j scaled ≡ map of_j_of v
      of_j_is = zip2_of_maps bit_xor _ scaled_of v (is_j ∙ looked INVERSES j_of j_is) scaled_is

      pub of_i_places : (i : ℕ) → i < 16 → IsPlace (slice_index (zip2 bit_xor inverse_i scaled) i)
      of_i_places = places of_i_of _ of_i_is refl

      pub of_j_places : (i : ℕ) → i < 16 → IsPlace (slice_index (zip2 bit_xor inverse_j scaled) i)
      of_j_places = places of_j_of _ of_j_is refl

      module _ {inverse_of_i inverse_of_j : List ℕ} (is_of_i : inverse_of_i ≡ map (slice_index INVERSES) (zip2 bit_xor inverse_i scaled))
          (is_of_j : inverse_of_j ≡ map (slice_index INVERSES) (zip2 bit_xor inverse_j scaled)) where
        io_is : zip2 bit_xor inverse_of_i j_v ≡ map io_of v
        io_is = zip2_of_maps bit_xor _ j_of v (is_of_i ∙ looked INVERSES of_i_of of_i_is) j_is

        jo_is : zip2 bit_xor inverse_of_j i_v ≡ map jo_of v
        jo_is = zip2_of_maps bit_xor _ i_of v (is_of_j ∙ looked INVERSES of_j_of of_j_is) i_is

        pub io_places : (i : ℕ) → i < 16 → IsPlace (slice_index (zip2 bit_xor inverse_of_i j_v) i)
        io_places = places io_of _ io_is refl

        pub jo_places : (i : ℕ) → i < 16 → IsPlace (slice_index (zip2 bit_xor inverse_of_j i_v) i)
        jo_places = places jo_of _ jo_is refl

        pub sub_each_is : {from_io from_jo : List ℕ} → from_io ≡ map (slice_index FROM_IO) (zip2 bit_xor inverse_of_i j_v)
            → from_jo ≡ map (slice_index FROM_JO) (zip2 bit_xor inverse_of_j i_v)
            → zip2 bit_xor (zip2 bit_xor from_io from_jo) (replicate 16 0x63) ≡ map sbox v
        sub_each_is is_io is_jo =
            with_all bit_xor _ 0x63
            (zip2_of_maps bit_xor _ _ v (is_io ∙ looked FROM_IO io_of io_is) (is_jo ∙ looked FROM_JO jo_of jo_is))
            ∙ maps_same out_of sbox out_sbox

  -- ---- the product by {02}

  abbrev shl : ℕ → ℕ → ℕ
  shl x n = x * 2 ^ n % 2 ^ 8

  abbrev less : ℕ → ℕ → ℕ
  less x y = (x + (2 ^ 8 - y)) % 2 ^ 8

  pub times_x_is : zip2 bit_xor (zip2 shl v (replicate 16 1)) (zip2 bit_and (zip2 less (replicate 16 0) (zip2 shr v (replicate 16 7))) (replicate 16 0x1b))
      ≡ map (mul8 2) v
  times_x_is =
      zip2_of_maps bit_xor _ _ v (with_all shl (λ b. b) 1 same)
      (with_all bit_and _ 0x1b (zip2_of_maps less (λ _. 0) _ v (splat_is_map v 16 0 fits.0) (with_all shr (λ b. b) 7 same)))
      ∙ maps_same twice_of (mul8 2) twice_is
