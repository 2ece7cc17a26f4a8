-- The parts of a packet lie within its datagram, and a variable-length integer is read from its bytes.
use Rattle.std.proofs.Common.{◌≡◌, ℕ, suc, ◌+◌, ◌-◌, ◌*◌, ◌/◌, ◌%◌, ◌^◌, ◌<◌, ◌≤◌, List, get_or, take, drop, sym, ap, ap₂, subst, ◌∙◌, arith, mul_comm, pow-suc}
use Rattle.std.proofs.Math.Nat.{pow-le-pow_right}
use Rattle.std.proofs.lemmas.Nat.{one_shl, pow_pos}
use Rattle.std.proofs.lemmas.Bool.{cond_both, ltb-false}
use Rattle.std.specs.Int.Digits.{number_from_digits}
use Rattle.std.specs.Prelude.{Err, IfOk, IfSome, IsErrOf, None, Ok, Option, Result, Some, false, length, nat_lt, slice_index, ◌==◌}
use Rattle.std.specs.declared.ops.Range.{Range}
use Rattle.quic_packets.specs.Datagram.{IsIn, IsPlaced, check_fixed_bit, has_long_id, initial_token, known_layout, long_packet, numbered_layout, opaque_layout, parts_of, short_layout, source_end, span, typed_layout, varint, version_of, versioned_layout, whole}
use Rattle.quic_packets.specs.declared.datagram.DatagramError.{DatagramError}
use Rattle.quic_packets.specs.declared.datagram.PacketType.{PacketType}
use Rattle.quic_packets.specs.declared.datagram.PacketType.TheVariants.{Initial, Retry, VersionNegotiation, OtherVersion}
use Rattle.key_derivation.specs.Quic.{numbered_version}
use Rattle.key_derivation.specs.declared.quic.Version.{Version}
use Rattle.quic_packets.specs.FixedBit.{lacks_fixed_bit}
use Rattle.quic_packets.specs.Versions.{bits_of, type_of}
use Rattle.quic_packets.specs.declared.fixed_bit.FixedBit.{FixedBit}
use Rattle.quic_packets.specs.declared.datagram.DatagramError.TheVariants.{Cut, IdTooLong, NoFixedBit}
use Rattle.quic_packets.specs.declared.datagram.Packet.{Packet}

pub power_below : (i j : ℕ) → i ≤ j → 256 ^ i ≤ 256 ^ j
power_below i j le = pow-le-pow_right {n = 256} (omega arith) {i = i} {j = j} le

pub power_next : (i : ℕ) → 256 ^ (i + 1) ≡ 256 * 256 ^ i
power_next i = let more : i + 1 ≡ suc i = omega arith in ap (λ k. 256 ^ k) more ∙ pow-suc 256 i ∙ mul_comm (256 ^ i) 256

-- The length that the first byte of a variable-length integer gives is 1, 2, 4 or 8 bytes.
pub record Few (l b : ℕ) : Type 0 where
  pub is : l ≡ 2 ^ (b / 64)
  pub some : 0 < l
  pub most : l ≤ 8

pub few_bytes : (b : ℕ) → b < 256 → Few (1 * 2 ^ (b / 64) % 2 ^ 64) b
few_bytes b small =
    let is : 1 * 2 ^ (b / 64) % 2 ^ 64 ≡ 2 ^ (b / 64) = one_shl (b / 64) 64 (omega arith) in
    record {
      is = is;
      some = subst (λ v. 0 < v) (sym is) (pow_pos (b / 64));
      most = subst (λ v. v ≤ 8) (sym is) (pow-le-pow_right {n = 2} (omega arith) {i = b / 64} {j = 3} (omega arith));
    }

-- the mask of the bits that are its value
mask : (l : ℕ) → l ≤ 8 → 1 * 2 ^ (8 * l - 2) % 2 ^ 64 ≡ 2 ^ (8 * l - 2)
mask l most = one_shl (8 * l - 2) 64 (omega arith)

pub masked : (l : ℕ) → l ≤ 8 → 0 < 1 * 2 ^ (8 * l - 2) % 2 ^ 64
masked l most = subst (λ v. 0 < v) (sym (mask l most)) (pow_pos (8 * l - 2))

pub varint_read : (d : List ℕ) (at l n : ℕ) → Few l (get_or d at 0) → n ≡ number_from_digits 256 (take (at + l - at) (drop at d))
    → n % (1 * 2 ^ (8 * l - 2) % 2 ^ 64) ≡ varint d at
varint_read d at l n few e =
    let width : 8 * l - 2 ≡ 8 * (at + l - at) - 2 = omega arith in
    ap (λ m. n % m) (mask l few.most) ∙ ap₂ (λ v w. v % 2 ^ w) e width
    ∙ ap (λ v. number_from_digits 256 (take (at + v - at) (drop at d)) % 2 ^ (8 * (at + v - at) - 2)) few.is

abbrev Placed : ℕ → List ℕ → Result Packet DatagramError → Type 0
Placed start d read = IfOk read (IsPlaced start d)

-- The places of a layout, which may end past the datagram.
record IsLaid (start : ℕ) (p : Packet) : Type 0 where
  begins : p.start ≡ start
  some : p.start < p.end
  number : IfSome p.number_at (λ at. (p.start < at) × (at ≤ p.end))
  ranges : IsIn p p.destination_id × IsIn p p.source_id × IsIn p p.token

whole_placed : (start : ℕ) (d : List ℕ) (p : Packet) → IsLaid start p → Placed start d (whole d p)
whole_placed start d p laid =
    cond_both (nat_lt (length d) p.end) (Err Cut) (Ok p) (Placed start d) (λ e. tt)
    (λ e. record { begins = laid.begins; some = laid.some; within = ltb-false (length d) p.end e; number = laid.number; ranges = laid.ranges })

short_laid : (id_len : ℕ) (d : List ℕ) (start : ℕ) → IsLaid start (short_layout id_len d start)
short_laid id_len d start = omega arith

opaque_laid : (d : List ℕ) (start : ℕ) (kind : PacketType) → IsLaid start (opaque_layout d start kind)
opaque_laid d start kind = omega arith

numbered_laid : (d : List ℕ) (start : ℕ) (kind : PacketType) (token : Range ℕ) → source_end d start ≤ token.start
    → token.start ≤ token.end → IsLaid start (numbered_layout d start kind token)
numbered_laid d start kind token after ordered = omega (arith, after, ordered)

typed_laid : (d : List ℕ) (start : ℕ) (kind : PacketType) → IsLaid start (typed_layout kind d start)
typed_laid d start Initial = numbered_laid d start Initial (initial_token d start) (omega arith) (omega arith)
typed_laid d start Retry = omega arith
typed_laid d start kind = numbered_laid d start kind (span (source_end d start) (source_end d start)) (omega arith) (omega arith)

known_laid : (d : List ℕ) (start : ℕ) (version : Option Version) → IsLaid start (known_layout version d start)
known_laid d start (Some version) = typed_laid d start (type_of version (bits_of (get_or d start 0)))
known_laid d start None = opaque_laid d start OtherVersion

packet_placed : (id_len : ℕ) (d : List ℕ) (start : ℕ) → Placed start d (parts_of id_len d start)
packet_placed id_len d start =
    let version = version_of d start in
    cond_both (nat_lt (get_or d start 0) 0x80) (whole d (short_layout id_len d start)) (long_packet d start) (Placed start d)
    (λ e. whole_placed start d (short_layout id_len d start) (short_laid id_len d start))
    (λ e. cond_both (has_long_id d start) (Err IdTooLong) (whole d (versioned_layout d start)) (Placed start d)
    (λ e. tt) (λ e. whole_placed start d (versioned_layout d start)
    (cond_both (version == 0) (opaque_layout d start VersionNegotiation) (known_layout (numbered_version version) d start)
    (IsLaid start)
    (λ e. opaque_laid d start VersionNegotiation) (λ e. known_laid d start (numbered_version version)))))

pub read_placed : (id_len : ℕ) (d : List ℕ) (start : ℕ) (p : Packet) → Ok p ≡ parts_of id_len d start → IsPlaced start d p
read_placed id_len d start p same = subst (Placed start d) (sym same) (packet_placed id_len d start)

-- The check of the fixed bit keeps what is known of the packet.
module _ (fixed_bit : FixedBit) (start : ℕ) (d : List ℕ) (p : Packet) (read : Result Packet DatagramError) (placed : IsPlaced start d p)
    (is : read ≡ check_fixed_bit fixed_bit (slice_index d p.start) (Ok p)) where
  cases : (P : Result Packet DatagramError → Type 0) → P (Err (NoFixedBit p.end))
      → (lacks_fixed_bit fixed_bit p.version (slice_index d p.start) ≡ false → P (Ok p)) → P read
  cases P lacking passed =
      subst P (sym is)
      (cond_both (lacks_fixed_bit fixed_bit p.version (slice_index d p.start)) (Err (NoFixedBit p.end)) (Ok p) P (λ lacks. lacking) passed)

  pub checked : IfOk read (λ packet. lacks_fixed_bit fixed_bit packet.version (slice_index d start) ≡ false)
  checked =
      subst (λ s. IfOk read (λ packet. lacks_fixed_bit fixed_bit packet.version (slice_index d s) ≡ false)) placed.begins
      (cases (λ read. IfOk read (λ packet. lacks_fixed_bit fixed_bit packet.version (slice_index d p.start) ≡ false)) tt (λ none. none))

  pub passed : (P : Packet → Type 0) → P p → IfOk read P
  passed P it = cases (λ read. IfOk read P) tt (λ none. it)

  pub end_within : (end : ℕ) → IsErrOf read (NoFixedBit end) → (start < end) × (end ≤ length d)
  end_within end =
      cases (λ read. IsErrOf read (NoFixedBit end) → (start < end) × (end ≤ length d))
      (λ is. (let same : p.end ≡ end = cc in (omega (arith, same, placed.begins, placed.some), omega (arith, same, placed.within))))
      (λ none is. absurd cc)

  pub of_parts : (parts : Result Packet DatagramError) → Ok p ≡ parts → read ≡ check_fixed_bit fixed_bit (slice_index d start) parts
  of_parts parts same =
      is ∙ ap (λ s. check_fixed_bit fixed_bit (slice_index d s) (Ok p)) placed.begins
      ∙ ap (check_fixed_bit fixed_bit (slice_index d start)) same
