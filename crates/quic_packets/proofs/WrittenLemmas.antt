-- `packet_at` finds in a header that was written the parts that were given.
use Rattle.std.proofs.Common.{◌≡◌, ℕ, zero, suc, ◌+◌, ◌-◌, ◌*◌, ◌/◌, ◌%◌, ◌^◌, ◌<◌, ◌≤◌, List, [], ◌∷◌, ◌++◌, length, get_or, take, drop, refl, sym, ap, ap₂, ◌∙◌, arith, add-zero, append_assoc, drop_at, length-append, take_at, Ok, Some, None, Option, Bool, false, true}
use Rattle.std.proofs.Math.Bool.{and-false}
use Rattle.std.proofs.Math.Seq.{get_or-append_seam}
use Rattle.std.proofs.lemmas.Bool.{cond_both, le-ltb, lt-ltb, ltb-true}
use Rattle.std.proofs.lemmas.List.{append-nil, get_or-append-add, get_or_append_left}
use Rattle.std.proofs.lemmas.Nat.{pow_pos}
use Rattle.std.specs.Int.Digits.{number_from_digits}
use Rattle.std.specs.Prelude.{is_some, nat_lt, slice_range, ◌==◌}
use Rattle.std.specs.declared.ops.Range.{Range}
use Rattle.quic_packets.specs.Datagram.{has_long_id, initial_token, numbered_layout, packet_of, parts_of, short_layout, source_end, span, typed_layout, varint, varint_end, versioned_layout, whole}
use Rattle.quic_packets.specs.declared.datagram.Packet.{Packet}
use Rattle.quic_packets.specs.declared.datagram.PacketType.{PacketType}
use Rattle.quic_packets.specs.declared.datagram.PacketType.TheVariants.{Initial as InitialPacket, ZeroRtt as ZeroRttPacket, Handshake as HandshakePacket}
use Rattle.quic_packets.specs.declared.fixed_bit.FixedBit.{FixedBit}
use Rattle.quic_packets.specs.declared.fixed_bit.FixedBit.TheVariants.{Required, Greased}
use Rattle.key_derivation.specs.Quic.{numbered_version, version_number}
use Rattle.key_derivation.specs.declared.quic.Version.{Version}
use Rattle.key_derivation.specs.declared.quic.Version.TheVariants.{One, Two}
use Rattle.quic_packets.specs.FixedBit.{lacks_fixed_bit}
use Rattle.quic_packets.specs.Versions.{bits_of, type_of}
use Rattle.quic_packets.specs.declared.header_writer.LongHeader.{LongHeader}
use Rattle.quic_packets.specs.declared.header_writer.LongType.{LongType}
use Rattle.quic_packets.specs.declared.header_writer.LongType.TheVariants.{Initial, ZeroRtt, Handshake}
use Rattle.quic_packets.specs.declared.header_writer.ShortHeader.{ShortHeader}
use Rattle.quic_packets.specs.HeaderBytes.{HasLongParts, HasShortParts, IsLongHeader, IsNumberLen, IsShortHeader, fewest, header_bits, id_field, integer, length_log, length_of, long_first_byte, long_header, packet_type_of, short_first_byte, short_header, token_field, token_of, version_field}
use Rattle.quic_packets.proofs.FieldLemmas.{length-high_first}
use Rattle.quic_packets.proofs.NumberBytes.{bytes_read}

-- A list between two others, found by its positions.
range : (xs ys zs : List ℕ) (start end : ℕ) → start ≡ length xs → end ≡ start + length ys → slice_range (xs ++ (ys ++ zs)) start end ≡ ys
range xs ys zs start end from to =
    ap (take (end - start)) (drop_at xs (ys ++ zs) start (sym from)) ∙ take_at ys zs (end - start) (omega arith)

empty : (at : ℕ) (xs : List ℕ) → slice_range xs at at ≡ []
empty at xs = let none : at - at ≡ 0 = omega arith in ap (λ n. take n (drop at xs)) none

-- the item after a list
behind : (xs ys : List ℕ) (y at : ℕ) → at ≡ length xs → get_or (xs ++ y ∷ ys) at 0 ≡ y
behind xs ys y at is = ap (λ n. get_or (xs ++ y ∷ ys) n 0) is ∙ get_or-append_seam xs y ys 0

-- the value that 2^log bytes encode
abbrev Encodes : (log value : ℕ) → Type 0
Encodes log value = value < 2 ^ (8 * 2 ^ log - 2)

first_byte : (log value : ℕ) → log ≤ 2 → Encodes log value → get_or (integer log value) 0 0 / 2 ^ 6 ≡ log
first_byte (suc (suc (suc n))) value few fits = absurd (omega arith)
first_byte log value few fits = omega arith

value_of : (log value : ℕ) → log ≤ 2 → Encodes log value → number_from_digits 256 (integer log value) % 2 ^ (8 * 2 ^ log - 2) ≡ value
value_of zero value few fits = ap (λ n. n % 64) (bytes_read 1 (0 + value) 0) ∙ omega arith
value_of (suc zero) value few fits = ap (λ n. n % 2 ^ 14) (bytes_read 2 (1 * 2 ^ 14 + value) 0) ∙ omega arith
value_of (suc (suc zero)) value few fits = ap (λ n. n % 2 ^ 30) (bytes_read 4 (2 * 2 ^ 30 + value) 0) ∙ omega arith
value_of (suc (suc (suc n))) value few fits = absurd (omega arith)

-- the bytes of a Length field encode its value, and so do the fewest bytes
length_encodes : (value : ℕ) → value < 2 ^ 30 → (length_log value ≤ 2) × Encodes (length_log value) value
length_encodes value lt =
    cond_both (nat_lt value (2 ^ 14)) 1 2 (λ log. (log ≤ 2) × Encodes log value)
    (λ e. (omega arith, ltb-true value (2 ^ 14) e)) (λ e. (omega arith, lt))

fewest_encodes : (value : ℕ) → value < 2 ^ 30 → (fewest value ≤ 2) × Encodes (fewest value) value
fewest_encodes value lt =
    cond_both (nat_lt value (2 ^ 6)) 0 (length_log value) (λ log. (log ≤ 2) × Encodes log value)
    (λ e. (omega arith, ltb-true value (2 ^ 6) e)) (λ e. length_encodes value lt)

-- an integer in a datagram is read back
module _ (d xs ys : List ℕ) (log value at : ℕ) (is : d ≡ xs ++ (integer log value ++ ys)) (from : at ≡ length xs)
    (encodes : (log ≤ 2) × Encodes log value) where
  its_length : length (integer log value) ≡ 2 ^ log
  its_length = length-high_first (2 ^ log) (log * 2 ^ (8 * 2 ^ log - 2) + value)

  first : get_or d at 0 ≡ get_or (integer log value) 0 0
  first =
      let some : 0 < length (integer log value) = omega (arith, its_length, pow_pos log) in
      ap₂ (λ l n. get_or l n 0) is (from ∙ sym (add-zero (length xs)))
      ∙ get_or-append-add xs (integer log value ++ ys) 0 0
      ∙ get_or_append_left (integer log value) ys 0 0 some

  its_end : varint_end d at ≡ length (xs ++ integer log value)
  its_end =
      ap (λ b. at + 2 ^ (b / 2 ^ 6)) first ∙ ap (λ l. at + 2 ^ l) (first_byte log value encodes.0 encodes.1)
      ∙ omega (arith, from, its_length, length-append xs (integer log value))

  its_value : varint d at ≡ value
  its_value =
      let end = length (xs ++ integer log value) in
      let long : end ≡ at + length (integer log value) = length-append xs (integer log value) ∙ omega (arith, from) in
      ap (λ end. number_from_digits 256 (slice_range d at end) % 2 ^ (8 * (end - at) - 2)) its_end
      ∙ ap₂ (λ l n. number_from_digits 256 l % 2 ^ (8 * n - 2))
      (ap (λ l. slice_range l at end) is ∙ range xs (integer log value) ys at end from long) (omega (arith, long, its_length))
      ∙ value_of log value encodes.0 encodes.1

-- A datagram that begins with a long header of these fields is parsed to a packet with these parts.
abbrev IsParsed : (number id_len : ℕ) (datagram : List ℕ) (kind : PacketType) (id source text : List ℕ) (at to : ℕ) → Type 0
IsParsed number id_len datagram kind id source text at to = (p : Packet) × (parts_of id_len datagram 0 ≡ Ok p) × record {
  start : p.start ≡ 0;
  packet_type : p.packet_type ≡ kind;
  version : p.version ≡ Some number;
  destination_id : slice_range datagram p.destination_id.start p.destination_id.end ≡ id;
  source_id : slice_range datagram p.source_id.start p.source_id.end ≡ source;
  token : slice_range datagram p.token.start p.token.end ≡ text;
  number_at : p.number_at ≡ Some at;
  end : p.end ≡ to;
}

-- these four bytes are the version
abbrev number_of : (a b c d : ℕ) → ℕ
number_of a b c d = number_from_digits 256 (a ∷ b ∷ c ∷ d ∷ [])

record IsVersion (version : Version) (a b c d : ℕ) : Type 0 where
  some : (number_of a b c d == 0) ≡ false
  known : numbered_version (number_of a b c d) ≡ Some version

-- A long header with its fields, and the bytes that follow it.
module _ (version : Version) (a b c d : ℕ) (is_version : IsVersion version a b c d) (first : ℕ) (id source token : List ℕ)
    (log n : ℕ) (rest : List ℕ) (long : 0x80 ≤ first) (short_id : length id ≤ 20) (short_source : length source ≤ 20)
    (encodes : (log ≤ 2) × Encodes log n) (whole_packet : n ≤ length rest) where
  abbrev with_id : List ℕ
  with_id = (first ∷ a ∷ b ∷ c ∷ d ∷ []) ++ id_field id

  abbrev with_source : List ℕ
  with_source = with_id ++ id_field source

  abbrev with_token : List ℕ
  with_token = with_source ++ token

  abbrev header : List ℕ
  header = with_token ++ integer log n

  abbrev datagram : List ℕ
  datagram = header ++ rest

  after_token : datagram ≡ with_token ++ (integer log n ++ rest)
  after_token = append_assoc with_token (integer log n) rest

  after_source : datagram ≡ with_source ++ (token ++ (integer log n ++ rest))
  after_source = after_token ∙ append_assoc with_source token (integer log n ++ rest)

  after_id : datagram ≡ with_id ++ (id_field source ++ (token ++ (integer log n ++ rest)))
  after_id = after_source ∙ append_assoc with_id (id_field source) (token ++ (integer log n ++ rest))

  source_len : get_or datagram (6 + length id) 0 ≡ length source
  source_len =
      ap (λ l. get_or l (6 + length id) 0) after_id
      ∙ behind with_id (source ++ (token ++ (integer log n ++ rest))) (length source) (6 + length id) (omega arith)

  its_source_end : source_end datagram 0 ≡ length with_source
  its_source_end =
      ap (λ v. 6 + length id + 1 + v) source_len ∙ omega (arith, length-append with_id (id_field source))

  short_ids : has_long_id datagram 0 ≡ false
  short_ids = rw (is_version.known, source_len, le-ltb 20 (length id) short_id, le-ltb 20 (length source) short_source) refl

  typed : (kind : PacketType) → type_of version (bits_of first) ≡ kind → versioned_layout datagram 0 ≡ typed_layout kind datagram 0
  typed kind is = rw (is_version.some, is_version.known, is) refl

  module _ (kind : PacketType) (place : Range ℕ) (text : List ℕ) (layout : versioned_layout datagram 0 ≡ numbered_layout datagram 0 kind place)
      (ends : place.end ≡ length with_token) (bytes : slice_range datagram place.start place.end ≡ text) where
    number_is : varint_end datagram place.end ≡ length header
    number_is = its_end datagram with_token rest log n place.end after_token ends encodes

    end_is : varint_end datagram place.end + varint datagram place.end ≡ length header + n
    end_is = ap₂ (λ a b. a + b) number_is (its_value datagram with_token rest log n place.end after_token ends encodes)

    inside : nat_lt (length datagram) (varint_end datagram place.end + varint datagram place.end) ≡ false
    inside = le-ltb _ _ (omega (arith, end_is, length-append header rest, whole_packet))

    abbrev packet : Packet
    packet = numbered_layout datagram 0 kind place

    parsed : (id_len : ℕ) → parts_of id_len datagram 0 ≡ Ok packet
    parsed id_len = rw (le-ltb first 0x80 long, short_ids, layout, inside) refl

    is_parsed : (id_len : ℕ)
        → IsParsed (number_of a b c d) id_len datagram kind id source text (length header) (length header + n)
    is_parsed id_len = (
      packet,
      parsed id_len,
      record {
        start = refl;
        packet_type = refl;
        version = refl;
        destination_id =
            ap (λ l. slice_range l 6 (6 + length id)) after_id
            ∙ range (first ∷ a ∷ b ∷ c ∷ d ∷ length id ∷ []) id _ 6 (6 + length id) refl refl;
        source_id =
            ap₂ (λ l e. slice_range l (6 + length id + 1) e)
            (after_id ∙ sym (append_assoc with_id (length source ∷ []) (source ++ (token ++ (integer log n ++ rest)))))
            its_source_end
            ∙ range (with_id ++ length source ∷ []) source _ (6 + length id + 1) (length with_source)
            (omega (arith, length-append with_id (length source ∷ []))) (omega (arith, length-append with_id (id_field source)));
        token = bytes;
        number_at = ap (λ v. Some v) number_is;
        end = end_is;
      },
    )

  -- a type without a token
  plain : (kind : PacketType) (id_len : ℕ) → token ≡ [] → (let none = span (source_end datagram 0) (source_end datagram 0) in
      typed_layout kind datagram 0 ≡ numbered_layout datagram 0 kind none) → type_of version (bits_of first) ≡ kind
      → IsParsed (number_of a b c d) id_len datagram kind id source [] (length header) (length header + n)
  plain kind id_len none layout is =
      let from = source_end datagram 0 in
      let ends : from ≡ length with_token = its_source_end ∙ sym (ap length (ap (λ t. with_source ++ t) none ∙ append-nil with_source)) in
      is_parsed kind (span from from) [] (typed kind is ∙ layout) ends (empty from datagram) id_len

  module _ (text : List ℕ) (is : token ≡ integer (fewest (length text)) (length text) ++ text) (short : length text < 2 ^ 30) where
    abbrev text_log : ℕ
    text_log = fewest (length text)

    abbrev from : ℕ
    from = source_end datagram 0

    at_token : datagram ≡ with_source ++ (integer text_log (length text) ++ (text ++ (integer log n ++ rest)))
    at_token =
        after_source ∙ ap (λ l. with_source ++ (l ++ (integer log n ++ rest))) is
        ∙ ap (λ l. with_source ++ l) (append_assoc (integer text_log (length text)) text (integer log n ++ rest))

    begins : varint_end datagram from ≡ length (with_source ++ integer text_log (length text))
    begins =
        its_end datagram with_source (text ++ (integer log n ++ rest)) text_log (length text) from at_token its_source_end
        (fewest_encodes (length text) short)

    text_len : varint datagram from ≡ length text
    text_len =
        its_value datagram with_source (text ++ (integer log n ++ rest)) text_log (length text) from at_token its_source_end
        (fewest_encodes (length text) short)

    abbrev place : Range ℕ
    place = initial_token datagram 0

    ends : place.end ≡ length with_token
    ends =
        ap₂ (λ a b. a + b) begins text_len ∙ sym (length-append (with_source ++ integer text_log (length text)) text)
        ∙ ap length (append_assoc with_source (integer text_log (length text)) text ∙ ap (λ l. with_source ++ l) (sym is))

    bytes : slice_range datagram place.start place.end ≡ text
    bytes =
        ap (λ l. slice_range l place.start place.end)
        (at_token ∙ sym (append_assoc with_source (integer text_log (length text)) (text ++ (integer log n ++ rest))))
        ∙ range (with_source ++ integer text_log (length text)) text (integer log n ++ rest) place.start place.end begins
        (ap (λ v. place.start + v) text_len)

    initial : (id_len : ℕ) → type_of version (bits_of first) ≡ InitialPacket
        → IsParsed (number_of a b c d) id_len datagram InitialPacket id source text (length header) (length header + n)
    initial id_len type_is = is_parsed InitialPacket place text (typed InitialPacket type_is) ends bytes id_len

-- the type bits of a first byte
header_few : (version : Version) (kind : LongType) → header_bits version kind < 4
header_few One (Initial token) = omega arith
header_few Two (Initial token) = omega arith
header_few version kind = omega arith

type_back : (version : Version) (kind : LongType) → type_of version (header_bits version kind) ≡ packet_type_of kind
type_back One (Initial token) = refl
type_back Two (Initial token) = refl
type_back version kind = refl

type_is : (version : Version) (kind : LongType) (m : ℕ) → IsNumberLen m
    → type_of version (bits_of (long_first_byte (header_bits version kind) m)) ≡ packet_type_of kind
type_is version kind m is =
    ap (type_of version) (omega (arith, is.some, is.few, header_few version kind)) ∙ type_back version kind

-- a long header of each type, with this version in these bytes
abbrev IsParsedOf : (version : Version) (number : ℕ) (bytes : List ℕ) → Type 0
IsParsedOf version number bytes = (kind : LongType) (id source : List ℕ) (m n : ℕ) (rest : List ℕ) → IsNumberLen m
    → length id ≤ 20 → length source ≤ 20 → length (token_of kind) < 2 ^ 30 → n < 2 ^ 30 → n ≤ length rest → (id_len : ℕ)
    → (let header = (long_first_byte (header_bits version kind) m ∷ bytes) ++ id_field id ++ id_field source ++ token_field kind
    ++ integer (length_log n) n in
    IsParsed number id_len (header ++ rest) (packet_type_of kind) id source (token_of kind) (length header) (length header + n))

module _ (version : Version) (a b c d : ℕ) (is_version : IsVersion version a b c d) where
  by_type : IsParsedOf version (number_of a b c d) (a ∷ b ∷ c ∷ d ∷ [])
  by_type (Initial token) id source m n rest is short_id short_source short_token short_len whole id_len =
      initial version a b c d is_version (long_first_byte (header_bits version (Initial token)) m) id source (token_field (Initial token))
      (length_log n) n rest (omega arith) short_id short_source (length_encodes n short_len) whole token.now refl short_token
      id_len (type_is version (Initial token) m is)
  by_type ZeroRtt id source m n rest is short_id short_source short_token short_len whole id_len =
      plain version a b c d is_version (long_first_byte (header_bits version ZeroRtt) m) id source [] (length_log n) n rest
      (omega arith) short_id short_source (length_encodes n short_len) whole ZeroRttPacket id_len refl refl
      (type_is version ZeroRtt m is)
  by_type Handshake id source m n rest is short_id short_source short_token short_len whole id_len =
      plain version a b c d is_version (long_first_byte (header_bits version Handshake) m) id source [] (length_log n) n rest
      (omega arith) short_id short_source (length_encodes n short_len) whole HandshakePacket id_len refl refl
      (type_is version Handshake m is)

by_version : (version : Version) → IsParsedOf version (version_number version) (version_field version)
by_version One = by_type One 0 0 0 1 (record { some = refl; known = refl })
by_version Two = by_type Two 0x6b 0x33 0x43 0xcf (record { some = refl; known = refl })

-- The fixed bit of a header that is written is 1.
with_bit : (fixed_bit : FixedBit) (version : Option ℕ) (byte : ℕ) → byte / 2 ^ 6 % 2 ≡ 1 → lacks_fixed_bit fixed_bit version byte ≡ false
with_bit Required None byte is = ap (λ b. b == 0) is
with_bit Required (Some version) byte is = rw is (and-false (is_some (numbered_version version)))
with_bit Greased version byte is = refl

short_bits : (phase : Bool) (m : ℕ) → IsNumberLen m
    → (short_first_byte phase m < 0x80) × (short_first_byte phase m / 2 ^ 6 % 2 ≡ 1)
short_bits true m is = omega (arith, is.some, is.few)
short_bits false m is = omega (arith, is.some, is.few)

pub long_parsed : (header : LongHeader) → IsLongHeader header → (rest : List ℕ) → length_of header ≤ length rest
    → (fixed_bit : FixedBit) (id_len : ℕ) → (p : Packet) × (packet_of fixed_bit id_len (long_header header ++ rest) 0 ≡ Ok p)
    × HasLongParts header (long_header header ++ rest) p
long_parsed header is rest whole fixed_bit id_len =
    let first : ℕ = long_first_byte (header_bits header.version header.packet_type) header.number_len in
    let bit : first / 2 ^ 6 % 2 ≡ 1 =
    omega (arith, is.number.some, is.number.few, header_few header.version header.packet_type) in
    let found =
    by_version header.version header.packet_type header.destination_id.now header.source_id.now header.number_len (length_of header) rest is.number
    is.ids.destination is.ids.source is.fields.token is.fields.payload whole id_len in (
      found.0,
      rw (found.1, with_bit fixed_bit found.0.version first bit) refl,
      assumption found.2,
    )

pub short_parsed : (header : ShortHeader) → IsShortHeader header → (rest : List ℕ) → (fixed_bit : FixedBit)
    → (p : Packet) × (packet_of fixed_bit (length header.destination_id.now) (short_header header ++ rest) 0 ≡ Ok p)
    × HasShortParts header (short_header header ++ rest) p
short_parsed header is rest fixed_bit =
    let id : List ℕ = header.destination_id.now in
    let d : List ℕ = short_header header ++ rest in
    let p : Packet = short_layout (length id) d 0 in
    let first : ℕ = short_first_byte header.phase header.number_len in
    let bits = short_bits header.phase header.number_len is.number in
    let len : length d ≡ 1 + length id + length rest = ap suc (length-append id rest) ∙ omega arith in
    let end : p.end ≡ length d = omega (arith, len) in
    let at : 0 + 1 + length id ≡ length (first ∷ id) = omega arith in (
      p,
      rw (lt-ltb first 0x80 bits.0, le-ltb (length d) p.end (omega (arith, end)), with_bit fixed_bit None first bits.1) refl,
      record {
        start = refl;
        packet_type = refl;
        version = refl;
        destination_id = range (first ∷ []) id rest 1 (1 + length id) refl refl;
        source_id = empty (1 + length id) d;
        token = empty (1 + length id) d;
        number_at = ap (λ v. Some v) at;
        end = end;
      },
    )
