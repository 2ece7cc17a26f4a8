-- Where shifts and masks move each bit of a plane.
use Rattle.std.proofs.Common.{length, set, below_more, get_or-set_other, get_or-set_same, ◌≡◌, ℕ, ◌+◌, ◌*◌, ◌/◌, ◌%◌, ◌^◌, ◌<◌, Bool, true, refl, sym, ap, ◌∙◌, ap₂, map, arith, bit_xor, bit_and, List, slice_index, slice_index_or, ◌==◌}
use Rattle.std.specs.Int.{bit_at}
use Rattle.std.proofs.lemmas.List.{get_or-map, length-map, map-set}
use Rattle.std.specs.Int.Bits.{xor_assoc}
use Rattle.aead_ciphers_base.specs
use specs.ByteField.{mul8, value_of}
use specs.Aes.{mixed}
use specs.Planes.{plane_byte, place_of_four, below, shifted_from, Moves, MovesBytes}
use Rattle.aead_ciphers_base.proofs
use proofs.PlaneBits.{set-xor}
use proofs.ByteFieldLaws.{mul8-xor_right, three_is}
use specs.Polynomial.{◌xor◌}
use proofs.NumberBits.{value_of-add, IsAdditive, same_additive, all_below, same_in_table}
use proofs.AdditiveLemmas.{additive_and, additive_shr, additive_shl, additive_xor, additive_after, additive_bit}
use specs.Bytes.{each_below}
use proofs.EachLemmas.{each-same}

-- the place whose bit moves to place p
abbrev source : (ℕ → ℕ → ℕ) → ℕ → ℕ
source from p = place_of_four (p / 16) (from (p % 4) (p / 4 % 4))

abbrev moves : (ℕ → ℕ) → (ℕ → ℕ → ℕ) → Bool
moves f from = all_below (λ p. all_below (λ i. bit_at (f (2 ^ i)) p == bit_at (2 ^ i) (source from p)) 64) 64

-- a function that keeps sums moves bits as it moves those of the powers of two
moved : (f : ℕ → ℕ) (from : ℕ → ℕ → ℕ) → IsAdditive f → moves f from ≡ true
    → (x : ℕ) → x < 2 ^ 64 → Moves place_of_four 4 from x (f x)
moved f from hf test x hx k r c hk hr hc =
    let p = place_of_four k (r + 4 * c) in
    let block : place_of_four k (r + 4 * c) / 16 ≡ k = omega arith in
    let row : place_of_four k (r + 4 * c) % 4 ≡ r = omega arith in
    let column : place_of_four k (r + 4 * c) / 4 % 4 ≡ c = omega arith in
    same_additive (λ t. bit_at (f t) p) (λ t. bit_at t (source from p))
    (additive_after (λ t. bit_at t p) f (additive_bit p) hf) (additive_bit (source from p)) 64
    (λ i lt. same_in_table (λ q j. bit_at (f (2 ^ j)) q) (λ q j. bit_at (2 ^ j) (source from q)) 64 64 p i test (omega arith) lt)
    x hx
    ∙ ap₂ (λ k j. bit_at x (place_of_four k j)) block (ap₂ from row column)

-- `(x >> k) & m`, `(x << k) & m`
right_under : (k m : ℕ) → IsAdditive (λ x. bit_and (x / 2 ^ k) m)
right_under k m = additive_after (λ t. bit_and t m) (λ x. x / 2 ^ k) (additive_and m) (additive_shr k)

left_under : (k m : ℕ) → IsAdditive (λ x. bit_and (x * 2 ^ k % 2 ^ 64) m)
left_under k m = additive_after (λ t. bit_and t m) (λ x. x * 2 ^ k % 2 ^ 64) (additive_and m) (additive_shl k 64)

abbrev pub pair : ℕ → ℕ → ℕ → ℕ → ℕ → ℕ
pair r m l n x = bit_xor (bit_and (x / 2 ^ r) m) (bit_and (x * 2 ^ l % 2 ^ 64) n)

pair_additive : (r m l n : ℕ) → IsAdditive (pair r m l n)
pair_additive r m l n = additive_xor (λ x. bit_and _ m) (λ x. bit_and _ n) (right_under r m) (left_under l n)

abbrev pub one_below_of : ℕ → ℕ
one_below_of x = pair 1 0x7777777777777777 3 0x8888888888888888 x

pub one_below_moves : (x : ℕ) → x < 2 ^ 64 → Moves place_of_four 4 (below 1) x (one_below_of x)
one_below_moves x h = moved one_below_of (below 1) (pair_additive 1 0x7777777777777777 3 0x8888888888888888) refl x h

abbrev pub two_below_of : ℕ → ℕ
two_below_of x = pair 2 0x3333333333333333 2 0xcccccccccccccccc x

pub two_below_moves : (x : ℕ) → x < 2 ^ 64 → Moves place_of_four 4 (below 2) x (two_below_of x)
two_below_moves x h = moved two_below_of (below 2) (pair_additive 2 0x3333333333333333 2 0xcccccccccccccccc) refl x h

-- where the bits of rows 2 and 3 differ from those two columns further
abbrev delta : ℕ → ℕ
delta x = bit_and (bit_xor (x / 2 ^ 8) x) 0x00cc00cc00cc00cc

abbrev by_two : ℕ → ℕ
by_two x = bit_xor (bit_xor x (delta x)) (delta x * 2 ^ 8 % 2 ^ 64)

abbrev by_one : ℕ → ℕ
by_one x = bit_xor (bit_and x 0x5555555555555555) (pair 4 0x0aaa0aaa0aaa0aaa 12 0xa000a000a000a000 x)

delta_additive : IsAdditive delta
delta_additive =
    additive_after (λ t. bit_and t 0x00cc00cc00cc00cc) (λ x. bit_xor _ x) (additive_and 0x00cc00cc00cc00cc)
    (additive_xor (λ x. x / 2 ^ 8) (λ x. x) (additive_shr 8) (λ a b. refl))

by_two_additive : IsAdditive by_two
by_two_additive =
    additive_xor (λ x. bit_xor x _) (λ x. delta x * 2 ^ 8 % 2 ^ 64)
    (additive_xor (λ x. x) delta (λ a b. refl) delta_additive)
    (additive_after (λ t. t * 2 ^ 8 % 2 ^ 64) delta (additive_shl 8 64) delta_additive)

by_one_additive : IsAdditive by_one
by_one_additive =
    additive_xor (λ x. bit_and x 0x5555555555555555) _
    (additive_and 0x5555555555555555) (pair_additive 4 0x0aaa0aaa0aaa0aaa 12 0xa000a000a000a000)

pub rows_shifted_moves : (x : ℕ) → x < 2 ^ 64 → Moves place_of_four 4 shifted_from x (by_one (by_two x))
rows_shifted_moves x h =
    moved (λ t. by_one (by_two t)) shifted_from (additive_after by_one by_two by_one_additive by_two_additive) refl x h

-- ---- all eight planes

pub planes_moved : (place : ℕ → ℕ → ℕ) (n : ℕ) (from : ℕ → ℕ → ℕ) (a s : List ℕ)
    → ((b : ℕ) → b < 8 → Moves place n from (slice_index a b) (slice_index s b)) → MovesBytes place n from a s
unfolding plane_byte
planes_moved place n from a s h k r c hk hr hc =
    ap value_of (each-same 8 (λ b. bit_at (slice_index s b) (place k (r + 4 * c)) == 1)
    (λ b. bit_at (slice_index a b) (place k (from r c)) == 1)
    (λ b lt. ap (λ t. t == 1) (h b lt k r c hk hr hc)))

pub add_plane : (a b s : List ℕ) → ((k : ℕ) → k < 8 → slice_index s k ≡ bit_xor (slice_index a k) (slice_index b k))
    → (p : ℕ) → plane_byte s p ≡ bit_xor (plane_byte a p) (plane_byte b p)
unfolding plane_byte
add_plane a b s h p =
    let f = λ (k : ℕ). bit_at (slice_index a k) p == 1 in
    let g = λ (k : ℕ). bit_at (slice_index b k) p == 1 in
    ap value_of (each-same 8 (λ k. bit_at (slice_index s k) p == 1) (λ k. ◌xor◌ (f k) (g k))
    (λ k lt. ap (λ t. bit_at t p == 1) (h k lt) ∙ set-xor _ _ p))
    ∙ value_of-add (each_below 8 f) (each_below 8 g) refl

-- (2 (x + y) + y) + (z + w) = 2 x + 3 y + z + w
pub mixed_is : (x y z w : ℕ) → y < 256 → bit_xor (bit_xor (mul8 2 (bit_xor x y)) y) (bit_xor z w) ≡ mixed x y z w
mixed_is x y z w hy =
    ap (λ t. bit_xor t (bit_xor z w))
    (ap (λ t. bit_xor t y) (mul8-xor_right 2 x y) ∙ xor_assoc (mul8 2 x) (mul8 2 y) y ∙ ap (bit_xor (mul8 2 x)) (three_is y hy))
    ∙ sym (xor_assoc (bit_xor (mul8 2 x) _) z w)

-- one more plane written
one_more : {X : Type 0} (number : X → ℕ) (M : ℕ → ℕ → Type 0) (out : List X) (k : ℕ) (v : X) → k < length out
    → ((j : ℕ) → j < k → M j (slice_index (map number out) j)) → M k (number v)
    → (j : ℕ) → j < k + 1 → M j (slice_index (map number (set out k v)) j)
one_more number M out k v fits before here =
    let written = map-set number out k v in
    let size = length-map out number in
    below_more (λ j. M j (slice_index (map number (set out k v)) j)) k
    (λ j h.
    let other = get_or-set_other (map number out) k j (number v) 0 (λ e. absurd (omega arith)) in
    rw (ap (λ l. slice_index l j) written ∙ other) (before j h))
    (let same = get_or-set_same (map number out) k (number v) 0 (omega (arith, size)) in
    rw (ap (λ l. slice_index l k) written ∙ same) here)

pub moves_more : {X : Type 0} (number : X → ℕ) (place : ℕ → ℕ → ℕ) (n : ℕ) (from : ℕ → ℕ → ℕ) (a out : List X) (k : ℕ) (v d : X)
    → k < length a → k < length out
    → ((j : ℕ) → j < k → Moves place n from (slice_index (map number a) j) (slice_index (map number out) j))
    → Moves place n from (number (slice_index_or a k d)) (number v)
    → (j : ℕ) → j < k + 1 → Moves place n from (slice_index (map number a) j) (slice_index (map number (set out k v)) j)
moves_more number place n from a out k v d within fits before here =
    one_more number (λ j. Moves place n from (slice_index (map number a) j)) out k v fits before
    (let e = get_or-map number a k d 0 within in rw e here)

pub sums_more : {X : Type 0} (number : X → ℕ) (a b out : List X) (k : ℕ) (v d e : X)
    → k < length a → k < length b → k < length out
    → ((j : ℕ) → j < k → slice_index (map number out) j ≡ bit_xor (slice_index (map number a) j) (slice_index (map number b) j))
    → number v ≡ bit_xor (number (slice_index_or a k d)) (number (slice_index_or b k e))
    → (j : ℕ) → j < k + 1
    → slice_index (map number (set out k v)) j ≡ bit_xor (slice_index (map number a) j) (slice_index (map number b) j)
sums_more number a b out k v d e in_a in_b fits before here =
    one_more number (λ j s. s ≡ bit_xor (slice_index (map number a) j) (slice_index (map number b) j)) out k v fits before
    (here ∙ ap₂ bit_xor (sym (get_or-map number a k d 0 in_a)) (sym (get_or-map number b k e 0 in_b)))
