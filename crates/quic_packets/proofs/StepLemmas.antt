-- The packet at a byte of a datagram, and the step past it, whether it was given to a receiver or not.
use Rattle.std.proofs.Common.{◌≡◌, ℕ, ◌+◌, ◌<◌, ◌≤◌, ◌↔◌, ◌⊎◌, Bool, true, false, inl, inr, List, length, Option, None, Some, Ok, Err, Result, OnErr, IfOk, IfSome, IsSome, IsFalse, IsTrue, is_some, if◌then◌else◌, unwrap_or, refl, sym, ap, subst, arith, ◌∙◌}
use Rattle.quic_packets.specs.Connection.{Connection, IfPacket, IsOwn, IsPacketAt, IsReceiving, IsStranger, IsToOpen, IsUnopened, IsWithoutKeys, StepOutcome, given_of, is_discarded, next_packet_at, packet_in, receiver_of, sender_after, space_of, tried, unopened, update_after, with_receiver, with_sender}
use Rattle.quic_packets.specs.Datagram.{packet_of}
use Rattle.quic_packets.specs.Errors.{receive_error_code}
use Rattle.quic_packets.specs.Failures.{Failures}
use Rattle.quic_packets.specs.Receiving.{ReceiveOutcome, Receiver, failures_after}
use Rattle.quic_packets.specs.declared.connection.incoming.Incoming.{Incoming}
use Rattle.quic_packets.specs.declared.connection.incoming.Incoming.TheVariants.{Packet as PacketOf, NoKeys, Dropped, Ignored}
use Rattle.quic_packets.specs.declared.connection.incoming.PeerUpdate.{PeerUpdate}
use Rattle.quic_packets.specs.declared.connection.incoming.Step.{Step}
use Rattle.quic_packets.specs.declared.datagram.Packet.{Packet}
use Rattle.quic_packets.specs.declared.datagram.PacketType.{PacketType}
use Rattle.quic_packets.specs.declared.receive_error.ReceiveError.{ReceiveError}
use Rattle.quic_packets.specs.declared.receive_error.ReceiveError.TheVariants.{Refused}
use Rattle.quic_packets.specs.declared.receiver.Received.{Received}

-- A fact holds for the result `given_of` if it holds in each of its three cases: received, closed, and dropped.
given_cases : (P : Result Received ReceiveError → Result Step ReceiveError → Type 0) (next : ℕ) (t : PacketType)
    (u : Option PeerUpdate) (o : Result Received ReceiveError)
    → ((r : Received) → P (Ok r) (Ok (record { next = next; incoming = PacketOf t r u })))
    → ((e : ReceiveError) → is_some (receive_error_code e) ≡ true → P (Err e) (Err e))
    → ((e : ReceiveError) → P (Err e) (Ok (record { next = next; incoming = Dropped e })))
    → P o (given_of next t u o)
given_cases P next t u (Ok r) received closed dropped = received r
given_cases P next t u (Err e) received closed dropped = by_code (is_some (receive_error_code e)) (closed e)
  where
    by_code : (b : Bool) → (b ≡ true → P (Err e) (Err e))
        → P (Err e) (if b then Err e else Ok (record { next = next; incoming = Dropped e }))
    by_code true closes = closes refl
    by_code false closes = dropped e

-- An error that closes the connection isn't counted as a failure.
uncounted : (f : Failures) (e : ReceiveError) → is_some (receive_error_code e) ≡ true → failures_after f (Err e) ≡ f
uncounted f Refused is = absurd cc
uncounted f e is = refl

-- The count is below the limit if the test of the limit returns false.
pub is_below : (test : Bool) (count limit : ℕ) → IsTrue test ↔ (limit ≤ count) → test ≡ false → count < limit
is_below test count limit is unmet =
    let below : (limit ≤ count) → ⊥ = λ most. (let yes : test ≡ true = is.1 most in absurd cc) in
    omega (arith, below)

some_of : (o : Option Receiver) → IsSome o → (r : Receiver) × (o ≡ Some r)
some_of (Some r) is = (r, refl)
some_of None is = absurd cc

-- A fact about a receiver that is there before and after a call holds for its two states.
tried_at : (T : Receiver → Receiver → Type 0) (o o' : Option Receiver) (r : Receiver) → o ≡ Some r → IsSome o'
    → IfSome o (λ r. IfSome o' (λ r'. T r r')) → T r (unwrap_or o' r)
tried_at T o (Some r') r is some both = subst (λ o. IfSome o (λ r. T r r')) is both
tried_at T o None r is some both = absurd cc

module _ (c : Connection) (id_len : ℕ) (id datagram : List ℕ) (at : ℕ) (parts : Packet)
    (parsed : packet_of c.fixed_bit id_len datagram at ≡ Ok parts) where
  -- There is only one packet at a byte.
  same_parts : (p : Packet) → IsPacketAt c id_len id datagram at p → p ≡ parts
  same_parts p is = let its : packet_of c.fixed_bit id_len datagram at ≡ Ok p = is.parsed in cc

  -- The packet doesn't belong to the connection, or its keys were discarded.
  abbrev IsOther : Type 0
  IsOther = IsOwn id datagram parts → IsFalse (is_discarded c parts.packet_type) → ⊥

  not_own : IsOther → (p : Packet) → IsPacketAt c id_len id datagram at p → ⊥
  not_own other p is =
      let same = same_parts p is in
      other (subst (IsOwn id datagram) same is.own) (subst (λ p. IsFalse (is_discarded c p.packet_type)) same is.undropped)

  -- The step past a packet that isn't opened begins the next packet at its end.
  module _ (begins : parts.start ≡ at) (some : parts.start < parts.end) (within : parts.end ≤ length datagram) where
    past : (i : Incoming) → IsStranger c id_len id datagram at i ⊎ IsWithoutKeys c id_len id datagram at i
        → IsUnopened c id_len id datagram at (record { next = parts.end; incoming = i })
    past i why = record {
      next = sym (ap (λ p. next_packet_at p (length datagram)) parsed);
      moves_on = λ inside. (omega (arith, begins, some), within);
      incoming = why;
    }

    pub past_stranger : IsOther → IsUnopened c id_len id datagram at (record { next = parts.end; incoming = Ignored })
    past_stranger other = past Ignored (inl (refl, not_own other))

    pub past_keyless : IsOwn id datagram parts → IsFalse (is_discarded c parts.packet_type)
        → (IsSome (receiver_of c parts.packet_type) → ⊥)
        → IsUnopened c id_len id datagram at (record { next = parts.end; incoming = NoKeys parts.packet_type })
    past_keyless own undropped none =
        past (NoKeys parts.packet_type) (inr (parts, record { parsed = parsed; own = own; undropped = undropped }, refl, none))

-- The outcome of `receive` for a packet that is passed over unopened.
pub passed_over : (c : Connection) (id_len : ℕ) (id datagram : List ℕ) (at : ℕ) (step : Step) → IsReceiving c
    → IsUnopened c id_len id datagram at step → StepOutcome c c id_len id datagram datagram at (Ok step)
passed_over c id_len id datagram at step receiving it = record {
  case = unopened receiving step it refl (refl, refl);
  next = it.next;
  moves_on = it.moves_on;
  payload =
      elim it.incoming [
        | inl stranger ↦ none step.incoming Ignored stranger.0 refl
        | inr keyless ↦ none step.incoming (NoKeys keyless.0.packet_type) keyless.2 refl
      ];
  kept = tt;
  outside = λ i apart. refl;
}
  where
    none : (i j : Incoming) → i ≡ j → packet_in j ≡ None
        → IfSome (packet_in i) (λ p. (at < p.1.payload.start) × (p.1.payload.start ≤ p.1.payload.end)
        × (p.1.payload.end + 16 ≤ length datagram))
    none i j same absent = subst (λ o. IfSome o (λ p. (at < p.1.payload.start) × (p.1.payload.start ≤ p.1.payload.end)
        × (p.1.payload.end + 16 ≤ length datagram))) (sym (ap packet_in same ∙ absent)) tt

-- The outcome of `receive` for a packet that was given to a receiver.
module _ (c c' : Connection) (id_len : ℕ) (id old new : List ℕ) (at : ℕ) (parts : Packet) (receiving : IsReceiving c)
    (it : IsToOpen c id_len id old at parts) (opened : Result Received ReceiveError) (result : Result Step ReceiveError)
    (given : result ≡ given_of parts.end parts.packet_type (update_after parts.packet_type c.one_rtt c'.one_rtt.receiver) opened)
    (some : IsSome (receiver_of c' parts.packet_type))
    (both : IfSome (receiver_of c parts.packet_type) (λ r. IfSome (receiver_of c' parts.packet_type) (λ r'. ReceiveOutcome r
    (space_of c parts.packet_type) c.failures parts old opened r' (space_of c' parts.packet_type) c'.failures new)))
    (followed : c'.one_rtt.sender ≡ sender_after parts.packet_type c.one_rtt c'.one_rtt.receiver)
    (others : c' ≡ record (with_sender (with_receiver c parts.packet_type (receiver_of c' parts.packet_type)
    (space_of c' parts.packet_type)) c'.one_rtt.sender) { failures = c'.failures })
    (kept : OnErr opened (c' ≡ record c { failures = c'.failures })) where
  there : (r : Receiver) × (receiver_of c parts.packet_type ≡ Some r)
  there = some_of (receiver_of c parts.packet_type) it.receiver

  outcome : ReceiveOutcome there.0 (space_of c parts.packet_type) c.failures parts old opened
      (unwrap_or (receiver_of c' parts.packet_type) there.0) (space_of c' parts.packet_type) c'.failures new
  outcome =
      tried_at (λ r r'. ReceiveOutcome r (space_of c parts.packet_type) c.failures parts old opened r' (space_of c' parts.packet_type)
      c'.failures new) (receiver_of c parts.packet_type) (receiver_of c' parts.packet_type) there.0 there.1 some both

  by_given : (P : Result Received ReceiveError → Result Step ReceiveError → Type 0)
      → ((r : Received) → P (Ok r) (Ok (record {
        next = parts.end;
        incoming = PacketOf parts.packet_type r
            (update_after parts.packet_type c.one_rtt c'.one_rtt.receiver);
      })))
      → ((e : ReceiveError) → is_some (receive_error_code e) ≡ true → P (Err e) (Err e))
      → ((e : ReceiveError) → P (Err e) (Ok (record { next = parts.end; incoming = Dropped e })))
      → P opened result
  by_given P received closed dropped =
      subst (P opened) (sym given) (given_cases P parts.end parts.packet_type
      (update_after parts.packet_type c.one_rtt c'.one_rtt.receiver) opened received closed dropped)

  ends : parts.end ≡ next_packet_at (packet_of c.fixed_bit id_len old at) (length old)
  ends = sym (ap (λ p. next_packet_at p (length old)) it.packet.parsed)

  pub given_step : StepOutcome c c' id_len id old new at result
  given_step = record {
    case = tried parts there.0 (record { receiving = receiving; packet = it.packet; receiver = there.1 }) (record {
      opened = opened;
      given = given;
      outcome = outcome;
      receiver = some;
      followed = followed;
      others = others;
      kept = kept;
    });
    next = by_given (λ o step. IfOk step (λ step. step.next ≡ next_packet_at (packet_of c.fixed_bit id_len old at) (length old)))
        (λ r. ends) (λ e code. tt) (λ e. ends);
    moves_on = λ inside. (
        let past : (at < parts.end) × (parts.end ≤ length old) = (omega (arith, it.begins, it.some), it.within) in
        by_given (λ o step. IfOk step (λ step. (at < step.next) × (step.next ≤ length old))) (λ r. past) (λ e code. tt) (λ e. past)
        );
    payload = by_given (λ o step. IfOk o (λ p. (parts.start < p.payload.start) × (p.payload.start ≤ p.payload.end)
        × (p.payload.end + 16 ≡ parts.end) × (parts.end ≤ length old))
        → IfPacket step (λ t r. (at < r.payload.start) × (r.payload.start ≤ r.payload.end) × (r.payload.end + 16 ≤ length old)))
        (λ r d. (omega (arith, it.begins, d.0), d.1, omega (arith, d.2, d.3))) (λ e code d. tt) (λ e d. tt) outcome.payload;
    kept = by_given (λ o step. c'.failures ≡ failures_after c.failures o → OnErr o (c' ≡ record c { failures = c'.failures })
        → OnErr step (c' ≡ c)) (λ r counted but. tt)
        (λ e code counted but. but ∙ ap (λ f. record c { failures = f }) (counted ∙ uncounted c.failures e code))
        (λ e counted but. tt) outcome.counted kept;
    outside = λ i apart. outcome.outside i (subst (λ s. (i < s) ⊎ (parts.end ≤ i)) (sym it.begins)
        (subst (λ p. (i < at) ⊎ (next_packet_at p (length old) ≤ i)) it.packet.parsed apart));
  }
