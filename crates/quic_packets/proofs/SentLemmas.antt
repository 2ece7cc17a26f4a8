-- Each packet that a sender has sent carries its number, and the key phase of the key under which it was sealed.
use Rattle.std.proofs.Common.{◌≡◌, ℕ, zero, suc, ◌+◌, ◌-◌, ◌<◌, ◌≤◌, if◌then◌else◌, inl, inr, Bool, false, not, List, [], ◌∷◌, length, get_or, bit_and, refl, sym, ap, subst, ◌∙◌, arith}
use Rattle.std.proofs.lemmas.Bool.{cases_lt, le-leb, le-ltb, lt-leb, lt-ltb}
use Rattle.std.proofs.lemmas.List.Elements.{All-cons, All-contains, All-head, All-nil, All-tail}
use Rattle.std.specs.Prelude.{All, Contains}
use Rattle.aead_ciphers.specs.Counting.{xored_nonce}
use Rattle.aead_ciphers.specs.HeaderProtection.{HeaderKey}
use Rattle.aead_ciphers.specs.Packet.{PacketFits, sealed_packet}
use Rattle.quic_packets.specs.Exchange.{HasSent, Life, Sent, Update, begins, confirms, hears, key_after, lowers, sends, skips, updates, updates_before}
use Rattle.quic_packets.specs.Header.{HasSample, Protected}
use Rattle.quic_packets.specs.Keys.{PacketKey}
use Rattle.quic_packets.specs.Packet.{CarriesNumber, HasNumber, IsNumber}
use Rattle.quic_packets.specs.Receiving.{reserved_bits}
use Rattle.quic_packets.specs.declared.fixed_bit.FixedBit.{FixedBit}
use Rattle.quic_packets.specs.Sending.{IsInTurn, IsSealable, IsSent, Sender, is_long, numbered_packet}
use Rattle.quic_packets.proofs.NumberedLemmas.{has_phase, numbered, unreserved}

-- The Key Phase bit after n key updates (RFC 9001 section 6).
abbrev pub phase_after : ℕ → Bool
phase_after zero = false
phase_after (suc n) = not (phase_after n)

-- a first byte with this Key Phase bit
abbrev pub HasPhase : ℕ → Bool → Type 0
HasPhase first phase = bit_and first 0x84 ≡ (if phase then 0x04 else 0x00)

-- The number of updates before a packet number, and the key after them.

pub before_all : (us : List Update) (n : ℕ) → All (λ u. u.first ≤ n) us → updates_before us n ≡ length us
before_all [] n h = refl
before_all (u ∷ us) n h =
    let P : Update → Type 0 = λ x. x.first ≤ n in
    let rest : updates_before us n ≡ length us = before_all us n (All-tail P u us h) in
    rw (le-leb u.first n (All-head P u us h)) (omega (arith, rest))

pub before-le : (us : List Update) (n : ℕ) → updates_before us n ≤ length us
before-le [] n = omega arith
before-le (u ∷ us) n =
    elim (cases_lt n u.first) [
      | inl under ↦ rw (lt-leb u.first n under) (omega (arith, before-le us n))
      | inr from ↦ rw (le-leb u.first n from) (omega (arith, before-le us n))
    ]

before_in_order : (us : List Update) (m n : ℕ) → m ≤ n → updates_before us m ≤ updates_before us n
before_in_order [] m n le = omega arith
before_in_order (u ∷ us) m n le =
    let rest : updates_before us m ≤ updates_before us n = before_in_order us m n le in
    elim (cases_lt m u.first) [
      | inl under ↦ rw (lt-leb u.first m under) (omega (arith, rest))
      | inr from ↦ rw (le-leb u.first m from, le-leb u.first n (omega arith)) (omega (arith, rest))
    ]

pub before_less : (us : List Update) (m n : ℕ) → updates_before us m < updates_before us n → m < n
before_less us m n less =
    elim (cases_lt m n) [
      | inl lt ↦ lt
      | inr from ↦ absurd (omega (arith, before_in_order us n m from))
    ]

before_later : (u : Update) (us : List Update) (n : ℕ) → n < u.first → updates_before (u ∷ us) n ≡ updates_before us n
before_later u us n lt = rw (lt-leb u.first n lt) (omega arith)

key_last : (key : PacketKey) (u : Update) (us : List Update) → key_after key (u ∷ us) (length (u ∷ us)) ≡ u.key
key_last key u us = rw (lt-ltb (length us) (length (u ∷ us)) (omega arith)) refl

key_earlier : (key : PacketKey) (u : Update) (us : List Update) (n : ℕ) → n ≤ length us → key_after key (u ∷ us) n ≡ key_after key us n
key_earlier key u us n le = rw (le-ltb (length us) n le) refl

-- a packet that was sent under this key, in the phase of this Key Phase bit
pub record WasSent (header : HeaderKey) (key : PacketKey) (bit : Bool) (p : Sent) : Type 0 where
  pub fits : PacketFits p.header_len (length p.packet)
  pub has_number : HasNumber p.number_at p.header_len p.packet
  pub sample : HasSample p.number_at (length p.packet)
  pub is_number : IsNumber p.number
  pub carries : CarriesNumber p.number p.number_at p.header_len p.packet
  pub phase : is_long (get_or p.packet 0 0) ≡ false → HasPhase (get_or p.packet 0 0) bit
  pub unreserved : reserved_bits (get_or p.packet 0 0) ≡ 0
  pub payload : p.header_len + 16 < length p.packet
  pub sealed : Protected header p.number_at (sealed_packet key.bytes (xored_nonce key.iv p.number) p.header_len p.packet) p.wire

-- a packet that was sent under the key after the updates before its number
abbrev pub WasSentIn : HeaderKey → Life → Sent → Type 0
WasSentIn header life p =
    let count = updates_before life.updates p.number in
    WasSent header (key_after life.key life.updates count) (phase_after count) p

-- Another update changes nothing for the packets before it.
moved : (header : HeaderKey) (key : PacketKey) (u : Update) (us : List Update) (p : Sent) → p.number < u.first
    → WasSentIn header (record { key = key; updates = us }) p → WasSentIn header (record { key = key; updates = u ∷ us }) p
moved header key u us p lt was =
    rw (before_later u us p.number lt, key_earlier key u us (updates_before us p.number) (before-le us p.number)) was

-- What holds for a sender and the packets that it has sent.
record Stands (header : HeaderKey) (now : PacketKey) (bit : Bool) (next : ℕ) (life : Life) (sent : List Sent) : Type 0 where
  key : key_after life.key life.updates (length life.updates) ≡ now
  phase : phase_after (length life.updates) ≡ bit
  firsts : All (λ u. u.first ≤ next) life.updates
  below : All (λ p. p.number < next) sent
  each : All (WasSentIn header life) sent

-- a packet that is sent now
sent_now : (s : Sender) (fixed_bit : FixedBit) (start end : ℕ) (packet wire : List ℕ)
    → IsSealable s.version fixed_bit start end packet → IsInTurn s start end → IsSent s start end packet wire
    → WasSent s.header_key s.key s.phase (record {
      number = s.next;
      number_at = start;
      header_len = end;
      packet = numbered_packet s.phase s.next start end packet;
      wire = wire;
    })
sent_now s fixed_bit start end packet wire sealable turn is =
    let within : end ≤ length packet = omega (arith, sealable.fits.room) in
    let it = numbered s.phase s.next start end packet sealable.sample.first_byte turn.room.some turn.room.few within in
    let few : (0 < end - start) × (end - start ≤ 4) = omega (arith, turn.room.some, turn.room.few) in
    let byte = get_or packet 0 0 in
    record {
      fits = subst (PacketFits end) (sym it.len) sealable.fits;
      has_number = it.has_number;
      sample = subst (HasSample start) (sym it.len) sealable.sample;
      is_number = turn.is_open.left;
      carries = it.carries;
      phase = λ short. rw it.first (has_phase s.phase (end - start) byte few.0 few.1 (ap is_long (sym it.first) ∙ short));
      unreserved = ap reserved_bits it.first ∙ unreserved s.phase (end - start) byte few.0 few.1;
      payload = omega (arith, sealable.payload, it.len);
      sealed = is;
    }

state : (s : Sender) (life : Life) (sent : List Sent) → HasSent s life sent → Stands s.header_key s.key s.phase s.next life sent
state s life sent (begins version key header_key secret from) = record {
  key = refl;
  phase = refl;
  firsts = All-nil (λ u. u.first ≤ from);
  below = All-nil (λ p. p.number < from);
  each = All-nil _;
}
state t l ps (sends s life sent fixed_bit start end packet wire sealable turn is run) =
    let stands = state s life sent run in
    let now = sent_now s fixed_bit start end packet wire sealable turn is in
    record {
      key = stands.key;
      phase = stands.phase;
      firsts = λ i d lt. omega (arith, stands.firsts i d lt);
      below = All-cons (λ p. p.number < s.next + 1) _ sent (omega arith) (λ i d lt. omega (arith, stands.below i d lt));
      each = All-cons (WasSentIn s.header_key life) _ sent
          (rw (before_all life.updates s.next stands.firsts, stands.key, stands.phase) now) stands.each;
    }
state t l ps (skips s life sent number le run) =
    let stands = state s life sent run in
    record {
      key = stands.key;
      phase = stands.phase;
      firsts = λ i d lt. omega (arith, stands.firsts i d lt);
      below = λ i d lt. omega (arith, stands.below i d lt);
      each = stands.each;
    }
state t l ps (updates s life sent key secret run) =
    let stands = state s life sent run in
    let u : Update = record { key = key; first = s.next } in
    record {
      key = key_last life.key u life.updates;
      phase = ap not stands.phase;
      firsts = All-cons (λ x. x.first ≤ s.next) u life.updates (omega arith) stands.firsts;
      below = stands.below;
      each = λ i d lt. moved s.header_key life.key u life.updates (get_or sent i d) (stands.below i d lt) (stands.each i d lt);
    }
state t l ps (hears s life sent number below run) = state s life sent run
state t l ps (confirms s life sent run) = state s life sent run
state t l ps (lowers s life sent limit run) = state s life sent run

-- This holds for each packet that was sent.
pub was_sent : (s : Sender) (life : Life) (sent : List Sent) (p : Sent) → HasSent s life sent → Contains sent p
    → WasSentIn s.header_key life p
was_sent s life sent p run has = All-contains (WasSentIn s.header_key life) sent p (state s life sent run).each has
