-- Counter blocks in the bytes of words.
use Rattle.std.proofs.Common.{◌≡◌, ℕ, suc, ◌+◌, ◌-◌, ◌*◌, ◌/◌, ◌%◌, ◌^◌, ◌<◌, List, [], ◌∷◌, ◌++◌, length, take, slice_index, refl, sym, ap, ap₂, ◌∙◌, arith, length-take-le, take_all}
use Rattle.std.specs.Int.{to_be_bytes, w32}
use Rattle.std.specs.Simd.Lanes.{number_l, digits_l, pick_l, Each1}
use Rattle.std.proofs.lemmas.List.{get_or-take, take-append-le}
use Rattle.std.proofs.lemmas.List.FromFn.{fill_by_all}
use Rattle.aead_ciphers_base.specs.CounterMode.{IsCounter, counter_block}
use Rattle.aead_ciphers_base.specs.Bytes.{each_below}

-- byte i of a lane of 32 bits
abbrev byte : ℕ → ℕ → ℕ
byte x i = slice_index (to_be_bytes w32 x) (3 - i)

-- the bytes of one lane more
lane_bytes : (m x y : ℕ) → x < 2 ^ 32 → digits_l 256 (suc (suc (suc (suc m)))) (x + 2 ^ 32 * y) ≡ byte x 0 ∷ byte x 1 ∷ byte x 2 ∷ byte x 3 ∷ digits_l 256 m y
lane_bytes m x y h =
    let z = x + 2 ^ 32 * y in
    let e0 : z % 256 ≡ byte x 0 = omega arith in
    let e1 : z / 256 % 256 ≡ byte x 1 = omega arith in
    let e2 : z / 256 / 256 % 256 ≡ byte x 2 = omega arith in
    let e3 : z / 256 / 256 / 256 % 256 ≡ byte x 3 = omega arith in
    let e4 : z / 256 / 256 / 256 / 256 ≡ y = omega arith in
    ap₂ (λ (a b : ℕ). a ∷ b ∷ z / 256 / 256 % 256 ∷ z / 256 / 256 / 256 % 256 ∷ digits_l 256 m (z / 256 / 256 / 256 / 256)) e0 e1
    ∙ ap₂ (λ (a b : ℕ). byte x 0 ∷ byte x 1 ∷ a ∷ b ∷ digits_l 256 m (z / 256 / 256 / 256 / 256)) e2 e3
    ∙ ap (λ (r : ℕ). byte x 0 ∷ byte x 1 ∷ byte x 2 ∷ byte x 3 ∷ digits_l 256 m r) e4

-- the bytes of lanes
bytes_of_lanes : List ℕ → List ℕ
bytes_of_lanes [] = []
bytes_of_lanes (x ∷ xs) = byte x 0 ∷ byte x 1 ∷ byte x 2 ∷ byte x 3 ∷ bytes_of_lanes xs

lanes_bytes : (xs : List ℕ) → Each1 (λ x. x < 2 ^ 32) xs → digits_l 256 (4 * length xs) (number_l (2 ^ 32) xs) ≡ bytes_of_lanes xs
unfolding bytes_of_lanes
lanes_bytes [] h = refl
lanes_bytes (x ∷ xs) h =
    let count : 4 * length (x ∷ xs) ≡ suc (suc (suc (suc (4 * length xs)))) = omega arith in
    ap (λ n. digits_l 256 n (number_l (2 ^ 32) (x ∷ xs))) count
    ∙ lane_bytes (4 * length xs) x (number_l (2 ^ 32) xs) h.0
    ∙ ap (λ (r : List ℕ). byte x 0 ∷ byte x 1 ∷ byte x 2 ∷ byte x 3 ∷ r) (lanes_bytes xs h.1)

-- a block with another number, from the lanes of the number
pub is_numbered : (block bytes : List ℕ) (x m : ℕ) → length block ≡ 16 → x < 2 ^ 32 → m < 2 ^ 32
    → bytes ≡ pick_l 0 (block ++ digits_l 256 16 (number_l (2 ^ 32) (x ∷ x ∷ x ∷ m ∷ [])))
    (0 ∷ 1 ∷ 2 ∷ 3 ∷ 4 ∷ 5 ∷ 6 ∷ 7 ∷ 8 ∷ 9 ∷ 10 ∷ 11 ∷ 31 ∷ 30 ∷ 29 ∷ 28 ∷ [])
    → bytes ≡ take 12 block ++ to_be_bytes w32 m
unfolding bytes_of_lanes
is_numbered block bytes x m size hx hm e =
    let places = 0 ∷ 1 ∷ 2 ∷ 3 ∷ 4 ∷ 5 ∷ 6 ∷ 7 ∷ 8 ∷ 9 ∷ 10 ∷ 11 ∷ 31 ∷ 30 ∷ 29 ∷ 28 ∷ [] in
    let front : take 12 block ≡ each_below 12 (slice_index block) =
    fill_by_all (slice_index block) (take 12 block) 12 0 (length-take-le 12 block (omega arith)) (λ j h. get_or-take 12 block j 0 h) in
    e ∙ ap₂ (λ (b d : List ℕ). pick_l 0 (b ++ d) places)
    (fill_by_all (slice_index block) block 16 0 size (λ j h. refl))
    (lanes_bytes (x ∷ x ∷ x ∷ m ∷ []) (hx, (hx, (hx, (hm, tt)))))
    ∙ ap (λ b. b ++ to_be_bytes w32 m) (sym front)

-- the block with its number enlarged
pub counter_numbered : (block nonce : List ℕ) (k by number : ℕ) → IsCounter block nonce k → number ≡ k % 2 ^ 32
    → IsCounter (counter_block (take 12 block) (number + by)) nonce (k + by)
unfolding counter_block
counter_numbered block nonce k by number at is =
    let front : take 12 block ≡ nonce =
    ap (take 12) at.value ∙ take-append-le 12 nonce _ (omega (arith, at.size)) ∙ take_all 12 nonce (omega (arith, at.size)) in
    let same : (number + by) % 2 ^ 32 ≡ (k + by) % 2 ^ 32 = omega (arith, is) in
    record { size = at.size; value = ap₂ (λ f n. f ++ to_be_bytes w32 n) front same }
