-- Encoding a packet number in 1 to 4 bytes, and decoding it.
use Rattle.std.proofs.Common.{◌≡◌, ℕ, ◌+◌, ◌-◌, ◌*◌, ◌/◌, ◌%◌, ◌^◌, ◌<◌, ◌≤◌, ◌⊎◌, min, bit_and, Option, None, Some, refl, sym, ap, subst, ◌∙◌, arith}
use Rattle.std.proofs.lemmas.Nat.{and_mask, div-add-mod', mod-mul-add, mod_below, pow_pos, pow-add, row_fits}
use Rattle.std.proofs.Math.Nat.{add-mod_right, pow-le-pow_right}
use Rattle.quic_packets.specs.Numbers.{HasLowBits, InWindow, IsAbove, IsDecoded, Represents, expected, unacknowledged}
use Rattle.quic_packets.specs.Packet.{IsNumber}

-- If one byte less doesn't represent a range, no fewer bytes do.
pub fewest : (m k range : ℕ) → 2 ^ (8 * m) ≤ range → range < 2 ^ (8 * k) → m < k
fewest m k range long short =
    let more : k ≤ m → 2 ^ (8 * k) ≤ 2 ^ (8 * m) = λ le. pow-le-pow_right {n = 2} (omega arith) (omega arith) in
    grind arith

-- Two numbers with the same remainder are equal, or at least a window apart.
pub apart : (w a b : ℕ) → a % w ≡ b % w → (a + w ≤ b) ⊎ ((a ≡ b) ⊎ (b + w ≤ a))
apart w a b same =
    let l : a / w * w + a % w ≡ a = div-add-mod' a w in
    let r : b / w * w + b % w ≡ b = div-add-mod' b w in
    grind (arith, row_fits (a / w) w (b / w) w, row_fits (b / w) w (a / w) w)

half_twice : (n : ℕ) → 0 < n → 2 * (2 ^ (8 * n) / 2) ≡ 2 ^ (8 * n)
half_twice n h =
    let sum : 1 + (8 * n - 1) ≡ 8 * n = omega arith in
    let even : 2 ^ (8 * n) ≡ 2 * 2 ^ (8 * n - 1) = sym (ap (λ (v : ℕ). 2 ^ v) sum) ∙ pow-add 2 1 (8 * n - 1) in
    omega arith

-- For t < w and low ≤ k w: (low + (t + (k w - low)) mod w) mod w = t.
rest_of : (w k t low : ℕ) → t < w → low ≤ k * w → (low + (t + (k * w - low)) % w) % w ≡ t
rest_of w k t low lt le =
    let b = t + (k * w - low) in
    let y = low + b % w in
    let l : b / w * w + b % w ≡ b = div-add-mod' b w in
    let r : y / w * w + y % w ≡ y = div-add-mod' y w in
    let same : (y / w + b / w) * w + y % w ≡ k * w + t = omega arith in
    sym (mod-mul-add (y / w + b / w) w (y % w) (mod_below y w (omega arith))) ∙ ap (λ (v : ℕ). v % w) same ∙ mod-mul-add k w t lt

pub nearest_of : (n e t low : ℕ) → 0 < n → n ≤ 4 → IsNumber e → t < 2 ^ (8 * n) → low ≡ min (e + 1 - 2 ^ (8 * n) / 2) (2 ^ 62 - 2 ^ (8 * n))
    → IsDecoded e t n (low + bit_and (t + (2 ^ 62 - low)) (2 ^ (8 * n) - 1))
nearest_of n e t low some few is lt start =
    let w = 2 ^ (8 * n) in
    let sum : 62 - 8 * n + 8 * n ≡ 62 = omega arith in
    let end : 2 ^ 62 ≡ 2 ^ (62 - 8 * n) * w = sym (ap (λ (v : ℕ). 2 ^ v) sum) ∙ pow-add 2 (62 - 8 * n) (8 * n) in
    let fits : w ≤ 2 ^ 62 = pow-le-pow_right {n = 2} (omega arith) {i = 8 * n} {j = 62} (omega arith) in
    let b = t + (2 ^ 62 - low) in
    let short : b % w < w = mod_below b w (omega arith) in
    let rest : (low + b % w) % w ≡ t =
    subst (λ (v : ℕ). (low + (t + (v - low)) % w) % w ≡ t) (sym end) (rest_of w (2 ^ (62 - 8 * n)) t low lt (omega (arith, end))) in
    let half : 2 * (w / 2) ≡ w = half_twice n some in
    rw (and_mask b (8 * n)) (record {
      has = record { is_number = omega arith; low_bits = rest };
      nearest = λ other has. omega (arith, apart w other (low + b % w) (has.low_bits ∙ sym rest));
      higher = λ other has tie. omega (arith, apart w other (low + b % w) (has.low_bits ∙ sym rest));
    })

-- A number in the window is decoded from its low bits.
pub back : (n e number found : ℕ) → InWindow e n number → IsNumber number → IsDecoded e (number % 2 ^ (8 * n)) n found → found ≡ number
back n e number found in_window is it =
    let w = 2 ^ (8 * n) in
    let has : HasLowBits (number % w) n number = record { is_number = is; low_bits = refl } in
    let near = it.nearest number has in
    let high = it.higher number has in
    omega (arith, apart w found number it.has.low_bits)

-- Conversely, a number that is decoded correctly lies in the window, away from the first and the last numbers.
pub window : (n e number found : ℕ) → IsNumber number → IsDecoded e (number % 2 ^ (8 * n)) n found → 2 ^ (8 * n) ≤ number
    → IsNumber (number + 2 ^ (8 * n)) → found ≡ number → InWindow e n number
window n e number found is it from end same =
    let w = 2 ^ (8 * n) in
    let whole : number - w + w ≡ number = omega arith in
    let up : HasLowBits (number % w) n (number + w) = record { is_number = end; low_bits = add-mod_right number w } in
    let down : HasLowBits (number % w) n (number - w) =
    record { is_number = omega arith; low_bits = sym (add-mod_right (number - w) w) ∙ ap (λ (v : ℕ). v % w) whole } in
    let positive : 0 < w = pow_pos (8 * n) in
    record {
      late = grind (arith, same, it.nearest (number + w) up, it.higher (number + w) up);
      early = omega (arith, same, it.nearest (number - w) down);
    }

pub in_window : (n number : ℕ) (acked : Option ℕ) (e : ℕ) → IsAbove number acked → Represents n (unacknowledged number acked)
    → expected acked ≤ e → 2 * e < 2 * number + 2 ^ (8 * n) → InWindow e n number
in_window n number None e above enough from late = omega arith
in_window n number (Some acked) e above enough from late = omega arith
