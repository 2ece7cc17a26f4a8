-- The number that is written into a header, and the first byte that gives its length and the key phase.
use Rattle.std.proofs.Common.{◌≡◌, ℕ, ◌+◌, ◌-◌, ◌<◌, ◌≤◌, ◌==◌, Bool, true, false, cond, List, ◌++◌, length, get_or, take, drop, bit_and, bit_or, refl, sym, ap, ◌∙◌, arith, length-append, length-drop, length-set, length-take-le, take_all, take_at, drop_at, get_or-set_same}
use Rattle.std.proofs.lemmas.Bool.{eqb-false}
use Rattle.std.proofs.lemmas.List.{drop-drop, drop-set-lt}
use Rattle.std.proofs.Math.ListN.{set}
use Rattle.std.proofs.lemmas.Nat.Bits.{and_pow, bit_at-lt}
use Rattle.std.specs.Int.{to_be_bytes, w64}
use borrow.Rule.Slice.PartMut.{put_mid}
use Rattle.std.proofs.lemmas.Nat.{and_assoc, and_mask, and_or_apart}
use Rattle.std.specs.Int.Bits.{and_zero_r, or_comm}
use Rattle.quic_packets.specs.Header.{number_len}
use Rattle.quic_packets.specs.Packet.{CarriesNumber, HasNumber, low_bytes}
use Rattle.quic_packets.specs.Receiving.{reserved_bits}
use Rattle.quic_packets.specs.Sending.{first_byte, is_long, numbered_packet}
use Rattle.quic_packets.proofs.NumberBytes.{length-low_bytes}

abbrev phase_bit : Bool → ℕ
phase_bit phase = cond phase 0x04 0

-- The first byte without the two bits of the number's length.
abbrev upper : Bool → Bool → ℕ → ℕ
upper long phase first = cond long (bit_and first 0xf0) (bit_or (bit_and first 0xe0) (phase_bit phase))

whole_byte : (long phase : Bool) (low first : ℕ)
    → cond long (bit_or (bit_and first 0xf0) low) (bit_or (bit_or (bit_and first 0xe0) (phase_bit phase)) low)
    ≡ bit_or (upper long phase first) low
whole_byte true phase low first = refl
whole_byte false phase low first = refl

-- The bits of a short header's first byte without that of the key phase.
short_part : (phase : Bool) (first m : ℕ) → bit_and 0x04 m ≡ 0 → bit_and 0 m ≡ 0
    → bit_and (upper false phase first) m ≡ bit_and first (bit_and 0xe0 m)
short_part true first m four none = and_or_apart m (bit_and first 0xe0) 0x04 four ∙ and_assoc m first 0xe0
short_part false first m four none = and_or_apart m (bit_and first 0xe0) 0 none ∙ and_assoc m first 0xe0

-- the two bits of the length leave the bits of a mask above them
above_low : (phase : Bool) (n first m : ℕ) → 0 < n → n ≤ 4 → bit_and 3 m ≡ 0
    → bit_and (first_byte phase n first) m ≡ bit_and (upper (is_long first) phase first) m
above_low phase n first m some few apart =
    let kept : bit_and (n - 1) 3 ≡ n - 1 = and_mask (n - 1) 2 ∙ omega arith in
    let none : bit_and (n - 1) m ≡ 0 =
    ap (λ v. bit_and v m) (sym kept) ∙ and_assoc m (n - 1) 3 ∙ ap (bit_and (n - 1)) apart ∙ and_zero_r (n - 1) in
    ap (λ v. bit_and v m) (whole_byte (is_long first) phase (n - 1) first)
    ∙ and_or_apart m (upper (is_long first) phase first) (n - 1) none

-- the first byte gives the number this length
no_low : (long phase : Bool) (first : ℕ) → bit_and (upper long phase first) 3 ≡ 0
no_low true phase first = and_assoc 3 first 0xf0 ∙ and_zero_r first
no_low false phase first = short_part phase first 3 refl refl ∙ and_zero_r first

pub number_len_of : (phase : Bool) (n first : ℕ) → 0 < n → n ≤ 4 → number_len (first_byte phase n first) ≡ n
number_len_of phase n first some few =
    let long = is_long first in
    ap (λ v. bit_and v 3 + 1) (whole_byte long phase (n - 1) first ∙ or_comm (upper long phase first) (n - 1))
    ∙ ap (λ v. v + 1) (and_or_apart 3 (n - 1) (upper long phase first) (no_low long phase first) ∙ and_mask (n - 1) 2)
    ∙ omega arith

-- The header form stays.
form_bit : (long phase : Bool) (first : ℕ) → bit_and (upper long phase first) 0x80 ≡ bit_and first 0x80
form_bit true phase first = and_assoc 0x80 first 0xf0
form_bit false phase first = short_part phase first 0x80 refl refl

pub same_form : (phase : Bool) (n first : ℕ) → 0 < n → n ≤ 4 → is_long (first_byte phase n first) ≡ is_long first
same_form phase n first some few =
    ap (λ v. v == 0x80) (above_low phase n first 0x80 some few refl ∙ form_bit (is_long first) phase first)

-- the highest bit of a short header's first byte isn't set
not_set : (first : ℕ) → is_long first ≡ false → bit_and first 0x80 ≡ 0
not_set first short = omega (arith, and_pow first 7, bit_at-lt first 7, eqb-false (bit_and first 0x80) 0x80 short)

-- the key phase of a short header
phase_of : (phase : Bool) (first : ℕ) → bit_and first 0x80 ≡ 0 → bit_and (upper false phase first) 0x84 ≡ phase_bit phase
phase_of true first top =
    ap (λ v. bit_and v 0x84) (or_comm (bit_and first 0xe0) 0x04)
    ∙ and_or_apart 0x84 0x04 (bit_and first 0xe0) (and_assoc 0x84 first 0xe0 ∙ top)
phase_of false first top = and_or_apart 0x84 (bit_and first 0xe0) 0 refl ∙ and_assoc 0x84 first 0xe0 ∙ top

pub has_phase : (phase : Bool) (n first : ℕ) → 0 < n → n ≤ 4 → is_long (first_byte phase n first) ≡ false
    → bit_and (first_byte phase n first) 0x84 ≡ cond phase 0x04 0
has_phase phase n first some few short =
    let was : is_long first ≡ false = sym (same_form phase n first some few) ∙ short in
    above_low phase n first 0x84 some few refl ∙ rw was (phase_of phase first (not_set first was))

-- the reserved bits aren't set
unreserved_of : (long phase : Bool) (first : ℕ) → bit_and (upper long phase first) (cond long 0x0c 0x18) ≡ 0
unreserved_of true phase first = and_assoc 0x0c first 0xf0 ∙ and_zero_r first
unreserved_of false phase first = short_part phase first 0x18 refl refl ∙ and_zero_r first

reserved_apart : (long : Bool) → bit_and 3 (cond long 0x0c 0x18) ≡ 0
reserved_apart true = refl
reserved_apart false = refl

pub unreserved : (phase : Bool) (n first : ℕ) → 0 < n → n ≤ 4 → reserved_bits (first_byte phase n first) ≡ 0
unreserved phase n first some few =
    ap (λ b. bit_and (first_byte phase n first) (cond b 0x0c 0x18)) (same_form phase n first some few)
    ∙ above_low phase n first _ some few (reserved_apart (is_long first)) ∙ unreserved_of (is_long first) phase first

-- the last n bytes of a number's eight are its low ones
pub low_is : (n number : ℕ) (all : List ℕ) → n ≤ 8 → length all ≡ 8 → all ≡ to_be_bytes w64 number → take (8 - (8 - n)) (drop (8 - n) all) ≡ low_bytes n number
unfolding low_bytes
low_is n number all few size is =
    take_all (8 - (8 - n)) (drop (8 - n) all) (omega (arith, length-drop (8 - n) all, size)) ∙ ap (drop (8 - n)) is

-- A packet into which the number is written, and then the first byte.
pub written : (first number start end : ℕ) (packet low : List ℕ) → low ≡ low_bytes (end - start) number → start < end
    → set (put_mid start (end - start) packet low) 0 first
    ≡ set (take start packet ++ (low_bytes (end - start) number ++ drop end packet)) 0 first
written first number start end packet low is some =
    let rest : drop (end - start) (drop start packet) ≡ drop end packet =
    drop-drop (end - start) start packet ∙ ap (λ k. drop k packet) (omega arith) in
    rw (rest, is) refl

-- What holds for a packet with its number written.
pub record IsNumbered (phase : Bool) (number start end : ℕ) (packet whole : List ℕ) : Type 0 where
  pub len : length whole ≡ length packet
  pub first : get_or whole 0 0 ≡ first_byte phase (end - start) (get_or packet 0 0)
  pub carries : CarriesNumber number start end whole
  pub has_number : HasNumber start end whole

pub numbered : (phase : Bool) (number start end : ℕ) (packet : List ℕ) → 0 < start → start < end → end ≤ start + 4
    → end ≤ length packet → IsNumbered phase number start end packet (numbered_packet phase number start end packet)
numbered phase number start end packet after_first some few within =
    let first : ℕ = first_byte phase (end - start) (get_or packet 0 0) in
    let low : List ℕ = low_bytes (end - start) number in
    let body : List ℕ = take start packet ++ (low ++ drop end packet) in
    let size = length-low_bytes (end - start) number (omega arith) (omega arith) in
    let before = length-take-le start packet (omega arith) in
    let len : length body ≡ length packet =
    length-append (take start packet) (low ++ drop end packet)
    ∙ omega (arith, before, size, length-append low (drop end packet), length-drop end packet) in
    let here = get_or-set_same body 0 first 0 (omega (arith, len)) in
    let n = ap number_len here ∙ number_len_of phase (end - start) (get_or packet 0 0) (omega arith) (omega arith) in
    record {
      len = length-set body 0 first ∙ len;
      first = here;
      carries =
          ap (take (end - start)) (drop-set-lt start body 0 first after_first)
          ∙ ap (take (end - start)) (drop_at (take start packet) (low ++ drop end packet) start before)
          ∙ take_at low (drop end packet) (end - start) size;
      has_number = record { first_byte = after_first; len = omega (arith, n) };
    }
