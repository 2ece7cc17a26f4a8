-- The outcome of a packet that is read, in three cases: it isn't opened, it is opened and not received, or it is received.
use Rattle.std.proofs.Common.{◌≡◌, ℕ, ◌+◌, ◌-◌, ◌<◌, ◌≤◌, ◌↔◌, true, false, inl, inr, List, length, take, drop, Ok, Err, Result, IsOk, refl, sym, ap, subst, arith, ◌∙◌}
use borrow.Rule.Slice.PartMut.{put_mid}
use Rattle.quic_packets.specs.Datagram.{bytes_of, number_in}
use Rattle.quic_packets.specs.Failures.{Failures}
use Rattle.quic_packets.specs.Receiving.{AcceptRefuses, IsAcceptable, IsReadable, Opening, Outcome, Reads, ReceiveOutcome, Receiver, failures_after, is_of_opened, received}
use Rattle.quic_packets.specs.Space.{Marks, Space}
use Rattle.quic_packets.specs.declared.datagram.Packet.{Packet}
use Rattle.quic_packets.specs.declared.receive_error.ReceiveError.{ReceiveError}
use Rattle.quic_packets.specs.declared.receive_error.ReceiveError.TheVariants.{Duplicate, KeyUpdate, NoFrames, Refused, ReservedBits}
use Rattle.quic_packets.specs.declared.receiver.Received.{Received}
use Rattle.quic_packets.proofs.PartLemmas.{kept, outside, part_of}

-- A packet that is opened isn't counted as a failure.
opened_uncounted : (r : Receiver) (s : Space) (f : Failures) (first : ℕ) (o : Received) (e : ReceiveError) → AcceptRefuses r s first o e
    → f ≡ failures_after f (Err e)
opened_uncounted r s f first o Refused why = absurd why
opened_uncounted r s f first o e why = refl

of_opened : (r : Receiver) (s : Space) (first : ℕ) (o : Received) (e : ReceiveError) → AcceptRefuses r s first o e → is_of_opened e ≡ true
of_opened r s first o ReservedBits why = refl
of_opened r s first o Duplicate why = refl
of_opened r s first o KeyUpdate why = refl
of_opened r s first o NoFrames why = refl
of_opened r s first o e why = absurd why

module _ (r : Receiver) (s : Space) (f : Failures) (parts : Packet) (old : List ℕ) (able : IsReadable r f parts (length old)) (part : List ℕ)
    (whole : length part ≡ length (take (parts.end - parts.start) (drop parts.start old))) (at expected : ℕ)
    (place : at ≡ number_in parts) (next : expected ≡ s.next) (plain : List ℕ) (number : ℕ)
    (reads : Reads r.header expected at (bytes_of parts old) plain number) where
  ordered : parts.start ≤ parts.end
  ordered = omega (arith, able.sample.sampled)

  abbrev pub new : List ℕ
  new = put_mid parts.start (parts.end - parts.start) old part

  read : (result : Result Received ReceiveError) (r' : Receiver) → Outcome r s parts.start at plain number result r' part
      → (plain : List ℕ) × (number : ℕ) × Reads r.header s.next (number_in parts) (bytes_of parts old) plain number
      × Outcome r s parts.start (number_in parts) plain number result r' (bytes_of parts new)
  read result r' is = (
    plain,
    number,
    subst (λ e. Reads r.header e (number_in parts) (bytes_of parts old) plain number) next
        (subst (λ k. Reads r.header expected k (bytes_of parts old) plain number) place reads),
    subst (λ xs. Outcome r s parts.start (number_in parts) plain number result r' xs)
        (sym (part_of parts.start parts.end old part ordered able.within whole))
        (subst (λ k. Outcome r s parts.start k plain number result r' part) place is),
  )

  -- The packet isn't opened.
  pub unopened : (e : ReceiveError) (f' : Failures) → Opening r parts.start at plain number (Err e) part
      → part ≡ take (parts.end - parts.start) (drop parts.start old) → f' ≡ failures_after f (Err e)
      → ReceiveOutcome r s f parts old (Err e) r s f' new
  unopened e f' is same counted = record {
    readable = tt;
    refused = inr able;
    read = λ able. read (Err e) r (record {
      accepted = (λ ok. absurd cc, λ it. absurd (let ok = is.accepted.1 it.0 in cc));
      refused = inl is.refused;
      opens = λ it. absurd (let ok = is.accepted.1 it in cc);
      returns = tt;
      moves_on = tt;
    });
    payload = tt;
    marked = tt;
    counted = counted;
    kept = (refl, refl);
    bytes_kept = kept {T = Received} (λ e. is_of_opened e ≡ false) parts.start (parts.end - parts.start) old part (Err e) (λ early. same);
    outside = outside parts.start parts.end old part ordered able.within whole;
  }

  module _ (first : ℕ) (o : Received) (is : Opening r parts.start at plain number (Ok (first, o)) part) where
    -- The packet is opened, and not received.
    pub unaccepted : (e : ReceiveError) (r' : Receiver) (s' : Space) → IsOk {T = Unit {0}} (Err e) ↔ IsAcceptable r s first o
        → AcceptRefuses r s first o e → (r' ≡ r) × (s' ≡ s) → ReceiveOutcome r s f parts old (Err e) r' s' f new
    unaccepted e r' s' accepted why same = record {
      readable = tt;
      refused = inr able;
      read = λ able. read (Err e) r' (record {
        accepted = (
          λ ok. absurd cc,
          λ it. absurd (let ok = accepted.1 (subst (λ p. IsAcceptable r s p.0 p.1) (sym is.returns) it.1) in cc),
        );
        refused = inr (is.accepted.0 refl, subst (λ p. AcceptRefuses r s p.0 p.1 e) is.returns why);
        opens = λ it. is.opens;
        returns = tt;
        moves_on = tt;
      });
      payload = tt;
      marked = tt;
      counted = opened_uncounted r s f first o e why;
      kept = same;
      bytes_kept = λ early. absurd (let late = of_opened r s first o e why in cc);
      outside = outside parts.start parts.end old part ordered able.within whole;
    }

    -- The packet is received.
    pub accepted_packet : (r' : Receiver) (s' : Space) → IsAcceptable r s first o → r' ≡ received r first o.number → Marks s o.number s'
        → (parts.start < o.payload.start) × (o.payload.start ≤ o.payload.end) × (o.payload.end + 16 ≡ parts.end)
        → ReceiveOutcome r s f parts old (Ok o) r' s' f new
    accepted_packet r' s' it moved marks payload = record {
      readable = able;
      refused = tt;
      read = λ able. read (Ok o) r' (record {
        accepted = (λ ok. (is.accepted.0 refl, subst (λ p. IsAcceptable r s p.0 p.1) is.returns it), λ d. refl);
        refused = tt;
        opens = λ authentic. is.opens;
        returns = ap (λ p. p.1) is.returns;
        moves_on = moved ∙ ap (λ p. received r p.0 p.1.number) is.returns;
      });
      payload = (payload.0, payload.1, payload.2, able.within);
      marked = (it.new, marks);
      counted = refl;
      kept = tt;
      bytes_kept = tt;
      outside = outside parts.start parts.end old part ordered able.within whole;
    }
