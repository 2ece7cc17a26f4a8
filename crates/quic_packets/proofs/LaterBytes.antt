-- The parts of a packet depend only on the bytes from its first one on.
use Rattle.std.proofs.Common.{◌≡◌, ℕ, ◌+◌, ◌-◌, ◌*◌, ◌/◌, ◌%◌, ◌^◌, ◌≤◌, List, length, get_or, take, drop, sym, ap, ap₂, refl, ◌∙◌, arith, length-drop}
use Rattle.std.proofs.lemmas.List.{ext_get_or, get_or-drop}
use Rattle.std.specs.Int.Digits.{number_from_digits}
use Rattle.std.specs.Prelude.{Option, Some, None, slice_range}
use Rattle.std.specs.declared.ops.Range.{Range}
use Rattle.quic_packets.specs.Datagram.{check_fixed_bit, destination_end, has_long_id, initial_token, known_layout, numbered_layout, opaque_layout, packet_of, parts_of, source_end, span, typed_layout, varint, varint_end, version_of, versioned_layout}
use Rattle.quic_packets.specs.declared.datagram.PacketType.{PacketType}
use Rattle.quic_packets.specs.declared.fixed_bit.FixedBit.{FixedBit}
use Rattle.quic_packets.specs.declared.datagram.PacketType.TheVariants.{Initial, Retry, VersionNegotiation, OtherVersion}
use Rattle.key_derivation.specs.Quic.{numbered_version}
use Rattle.key_derivation.specs.declared.quic.Version.{Version}
use Rattle.quic_packets.specs.Versions.{bits_of, type_of}

module _ (d e : List ℕ) (start : ℕ) (len : length e ≡ length d) (same : (i : ℕ) → start ≤ i → get_or e i 0 ≡ get_or d i 0) where
  tail : (a : ℕ) → start ≤ a → drop a e ≡ drop a d
  tail a le =
      ext_get_or 0 (drop a e) (drop a d) (length-drop a e ∙ ap (λ n. n - a) len ∙ sym (length-drop a d))
      (λ i lt. get_or-drop a e i 0 ∙ same (a + i) (omega arith) ∙ sym (get_or-drop a d i 0))

  range : (a b : ℕ) → start ≤ a → slice_range e a b ≡ slice_range d a b
  range a b le = ap (take (b - a)) (tail a le)

  version : version_of e start ≡ version_of d start
  version = ap (number_from_digits 256) (range (start + 1) (start + 5) (omega arith))

  its_end : (at : ℕ) → start ≤ at → varint_end e at ≡ varint_end d at
  its_end at le = ap (λ v. at + 2 ^ (v / 2 ^ 6)) (same at le)

  value : (at : ℕ) → start ≤ at → varint e at ≡ varint d at
  value at le =
      ap (λ n. number_from_digits 256 (slice_range e at n) % 2 ^ (8 * (n - at) - 2)) (its_end at le)
      ∙ ap (λ xs. number_from_digits 256 xs % 2 ^ (8 * (varint_end d at - at) - 2)) (range at (varint_end d at) le)

  destination : destination_end e start ≡ destination_end d start
  destination = ap (λ v. start + 5 + 1 + v) (same (start + 5) (omega arith))

  source : source_end e start ≡ source_end d start
  source =
      ap₂ (λ x y. x + 1 + y) destination
      (same (destination_end e start) (omega arith) ∙ ap (λ k. get_or d k 0) destination)

  opaque : (kind : PacketType) → opaque_layout e start kind ≡ opaque_layout d start kind
  opaque kind = rw (version, source, destination, len) refl

  numbered : (kind : PacketType) (token : Range ℕ) → start ≤ token.end → numbered_layout e start kind token ≡ numbered_layout d start kind token
  numbered kind token le = rw (value token.end le, its_end token.end le, version, source, destination) refl

  token : initial_token e start ≡ initial_token d start
  token = rw (value (source_end e start) (omega arith), its_end (source_end e start) (omega arith), source) refl

  typed : (kind : PacketType) → typed_layout kind e start ≡ typed_layout kind d start
  typed Initial = numbered Initial (initial_token e start) (omega arith) ∙ ap (numbered_layout d start Initial) token
  typed Retry = rw (version, source, destination, len) refl
  typed kind =
      numbered kind (span (source_end e start) (source_end e start)) (omega arith)
      ∙ ap (λ s. numbered_layout d start kind (span s s)) source

  known : (number : Option Version) → known_layout number e start ≡ known_layout number d start
  known (Some number) = rw (same start (omega arith)) (typed (type_of number (bits_of (get_or d start 0))))
  known None = opaque OtherVersion

  versioned : versioned_layout e start ≡ versioned_layout d start
  versioned = rw (opaque VersionNegotiation, known (numbered_version (version_of e start)), version) refl

  long_id : has_long_id e start ≡ has_long_id d start
  long_id = rw (version, same (destination_end e start) (omega arith), destination, same (start + 5) (omega arith)) refl

  same_parts : (id_len : ℕ) → parts_of id_len e start ≡ parts_of id_len d start
  same_parts id_len = rw (long_id, versioned, same start (omega arith), len) refl

  pub same_packet : (fixed_bit : FixedBit) (id_len : ℕ) → packet_of fixed_bit id_len e start ≡ packet_of fixed_bit id_len d start
  same_packet fixed_bit id_len = ap₂ (check_fixed_bit fixed_bit) (same start (omega arith)) (same_parts id_len)
