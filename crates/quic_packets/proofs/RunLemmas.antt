-- A receiver that follows a sender holds the sender's keys in their order.
use Rattle.std.proofs.Common.{nat_lt, ◌≡◌, ◌≢◌, ℕ, zero, suc, ◌+◌, ◌<◌, ◌≤◌, ◌==◌, if◌then◌else◌, inl, inr, max, Bool, true, false, not, List, [], ◌∷◌, length, get_or, Option, None, Some, IsSome, bit_and, refl, sym, ap, subst, ◌∙◌, arith, add-one}
use Rattle.std.proofs.lemmas.Bool.{cases_Bool, eqb-true, le-ltb, lt-ltb, ne_eqb}
use Rattle.std.proofs.Math.Bool.{not-not}
use Rattle.std.proofs.lemmas.Nat.{and_assoc}
use Rattle.std.specs.Prelude.{Contains}
use Rattle.quic_packets.specs.Exchange.{Counts, Follows, HasSent, Holds, Life, Sent, Update, begins, forgets, key_after, marks, none, receives, takes_next, updates_before}
use Rattle.quic_packets.specs.Keys.{PacketKey}
use Rattle.quic_packets.specs.Receiving.{Receiver, highest_before, is_other_phase, key_of, received}
use Rattle.quic_packets.specs.Sending.{Sender, is_long}
use Rattle.quic_packets.specs.Space.{IsNew, Space}
use Rattle.quic_packets.proofs.SentLemmas.{HasPhase, before-le, before_less, phase_after, was_sent}

-- the current key after `own` updates, and the numbers that its phase, the one before it and those before that have
record Phases (life : Life) (key : PacketKey) (bit : Bool) (lowest highest highest_previous highest_earlier own : ℕ)
    : Type 0 where
  current : key ≡ key_after life.key life.updates own
  phase : bit ≡ phase_after own
  earlier : (n : ℕ) → updates_before life.updates n < own → n < lowest
  later : (n : ℕ) → own < updates_before life.updates n → (lowest ≤ n) × (highest ≤ n)
  after_previous : (n : ℕ) → own ≤ updates_before life.updates n → highest_previous ≤ n
  after_earlier : (n : ℕ) → own ≤ updates_before life.updates n + 1 → highest_earlier ≤ n

-- What holds for a receiver after `own` updates.
record Stands (life : Life) (r : Receiver) (own : ℕ) : Type 0 where
  phases : Phases life r.current r.phase r.lowest r.highest r.highest_previous r.highest_earlier own
  next : (k : PacketKey) → r.next ≡ Some k → own < length life.updates → k ≡ key_after life.key life.updates (own + 1)
  previous : (k : PacketKey) (u : ℕ) → r.previous ≡ Some k → u + 1 ≡ own → k ≡ key_after life.key life.updates u

-- a long header has no Key Phase bit
not_that : (first v : ℕ) → is_long first ≡ true → bit_and v 0x80 ≡ 0 → (bit_and first 0x84 == v) ≡ false
not_that first v long low =
    ne_eqb (bit_and first 0x84) v
    (λ e.
    let top : 0x80 ≡ 0 = sym (eqb-true (bit_and first 0x80) 0x80 long) ∙ sym (and_assoc 0x80 first 0x84) ∙ ap (λ x. bit_and x 0x80) e ∙ low in
    omega arith)

long_bit : (first : ℕ) (c : Bool) → is_long first ≡ true → (bit_and first 0x84 == (if c then 0x00 else 0x04)) ≡ false
long_bit first true long = not_that first 0x00 long refl
long_bit first false long = not_that first 0x04 long refl

-- Whether a short header's Key Phase bit differs from the receiver's.
same_bit : (first : ℕ) (b c : Bool) → HasPhase first b → b ≡ c → (bit_and first 0x84 == (if c then 0x00 else 0x04)) ≡ false
same_bit first true true is e = ap (λ v. v == 0x00) is
same_bit first false false is e = ap (λ v. v == 0x04) is
same_bit first b c is e = cc

other_bit : (first : ℕ) (b c : Bool) → HasPhase first b → b ≡ not c → (bit_and first 0x84 == (if c then 0x00 else 0x04)) ≡ true
other_bit first false true is e = ap (λ v. v == 0x00) is
other_bit first true false is e = ap (λ v. v == 0x04) is
other_bit first b c is e = cc

some_of : {X : Type 0} {P : Type 0} (o : Option X) → IsSome o → ((x : X) → o ≡ Some x → P) → P
some_of None some f = absurd cc
some_of (Some x) some f = f x refl

-- the first key, which comes before all updates
first_key : (key : PacketKey) (us : List Update) → key ≡ key_after key us 0
first_key key [] = refl
first_key key (u ∷ us) = rw (le-ltb (length us) 0 (omega arith)) (first_key key us)

-- What holds for a packet whose key a receiver holds.
pub record Takes (life : Life) (r : Receiver) (first number : ℕ) : Type 0 where
  pub key : key_of r first number ≡ Some (key_after life.key life.updates (updates_before life.updates number))
  pub later : highest_before r first number ≤ number

-- The key of a packet that was sent and whose key a receiver holds is the current, the next or the previous one.
module _ (sender : Sender) (life : Life) (sent : List Sent) (run : HasSent sender life sent) (r : Receiver) (own : ℕ) (p : Sent)
    (has : Contains sent p) (s : Stands life r own) where
  abbrev first : ℕ
  first = get_or p.packet 0 0

  abbrev its : ℕ
  its = updates_before life.updates p.number

  marked : is_long first ≡ false → HasPhase first (phase_after its)
  marked = (was_sent sender life sent p run has).phase

  same : its ≡ own → is_other_phase r first ≡ false
  same e =
      elim (cases_Bool (is_long first)) [
        | inl long ↦ long_bit first r.phase long
        | inr short ↦ same_bit first (phase_after its) r.phase (marked short) (ap phase_after e ∙ sym s.phases.phase)
      ]

  after : is_long first ≡ false → its ≡ own + 1 → is_other_phase r first ≡ true
  after short e =
      other_bit first (phase_after its) r.phase (marked short) (ap phase_after (e ∙ add-one own) ∙ ap not (sym s.phases.phase))

  before : is_long first ≡ false → its + 1 ≡ own → is_other_phase r first ≡ true
  before short e =
      other_bit first (phase_after its) r.phase (marked short)
      (sym (not-not (phase_after its)) ∙ ap not (ap phase_after (sym (add-one its) ∙ e) ∙ sym s.phases.phase))

  below : its + 1 ≡ own → nat_lt p.number r.lowest ≡ true
  below e = lt-ltb p.number r.lowest (s.phases.earlier p.number (omega arith))

  above : its ≡ own + 1 → nat_lt p.number r.lowest ≡ false
  above e = le-ltb p.number r.lowest (s.phases.later p.number (omega arith)).0

  next_is : (k : PacketKey) → its ≡ own + 1 → r.next ≡ Some k → k ≡ key_after life.key life.updates its
  next_is k e is = s.next k is (omega (arith, e, before-le life.updates p.number)) ∙ ap (key_after life.key life.updates) (sym e)

  takes : Holds r own life p → Takes life r first p.number
  takes (inl e) = record {
    key = rw (same e) (ap Some (s.phases.current ∙ ap (key_after life.key life.updates) (sym e)));
    later = rw (same e) (s.phases.after_previous p.number (omega (arith, e)));
  }
  takes (inr (short, inl h)) = some_of r.next h.1 (λ k is. record {
    key = rw (after short h.0, above h.0) (is ∙ ap Some (next_is k h.0 is));
    later = rw (after short h.0, above h.0) (s.phases.later p.number (omega (arith, h.0))).1;
  })
  takes (inr (short, inr h)) = some_of r.previous h.1 (λ k is. record {
    key = rw (before short h.0, below h.0) (is ∙ ap Some (s.previous k its is h.0));
    later = rw (before short h.0, below h.0) (s.phases.after_earlier p.number (omega (arith, h.0)));
  })

  received_stands : Holds r own life p → Stands life (received r first p.number) (max own its)
  received_stands (inl e) =
      let top : max own its ≡ own = omega arith in
      rw (top, same e) (record {
        phases = record {
          current = s.phases.current;
          phase = s.phases.phase;
          earlier = λ n lt. omega (arith, e, s.phases.earlier n lt, before_less life.updates n p.number (omega (arith, e, lt)));
          later = λ n lt. omega (arith, s.phases.later n lt, before_less life.updates p.number n (omega (arith, e, lt)));
          after_previous = s.phases.after_previous;
          after_earlier = s.phases.after_earlier;
        };
        next = s.next;
        previous = s.previous;
      })
  received_stands (inr (short, inl h)) =
      let top : max own its ≡ own + 1 = omega (arith, h.0) in
      some_of r.next h.1 (λ k is. rw (top, after short h.0, above h.0, is) (record {
        phases = record {
          current = next_is k h.0 is ∙ ap (key_after life.key life.updates) h.0;
          phase = ap not s.phases.phase ∙ sym (ap phase_after (add-one own));
          earlier = λ n lt. before_less life.updates n p.number (omega (arith, h.0, lt));
          later = λ n lt. omega (arith, before_less life.updates p.number n (omega (arith, h.0, lt)));
          after_previous = λ n le. (s.phases.later n (omega arith)).1;
          after_earlier = λ n le. s.phases.after_previous n (omega arith);
        };
        next = λ k' none. cc;
        previous = λ k' u some one.
            let u_is : own ≡ u = omega arith in
            let k_is : r.current ≡ k' = cc in
            sym k_is ∙ s.phases.current ∙ ap (key_after life.key life.updates) u_is;
      }))
  received_stands (inr (short, inr h)) =
      let top : max own its ≡ own = omega (arith, h.0) in
      rw (top, before short h.0, below h.0) (record {
        phases = record {
          current = s.phases.current;
          phase = s.phases.phase;
          earlier = s.phases.earlier;
          later = s.phases.later;
          after_previous = λ n le.
              omega (arith, s.phases.after_previous n le, before_less life.updates p.number n (omega (arith, h.0, le)));
          after_earlier = s.phases.after_earlier;
        };
        next = s.next;
        previous = s.previous;
      })

stands : (sender : Sender) (life : Life) (sent : List Sent) → HasSent sender life sent → (r : Receiver) (own : ℕ) → Follows life sent r own
    → Stands life r own
stands sender l ps run r own (begins life sent version header secret) = record {
  phases = record {
    current = first_key life.key life.updates;
    phase = refl;
    earlier = omega arith;
    later = omega arith;
    after_previous = omega arith;
    after_earlier = omega arith;
  };
  next = λ k none. cc;
  previous = λ k u none e. cc;
}
stands sender l ps run t o (receives life sent r own p has holds follows) =
    received_stands sender life sent run r own p has (stands sender life sent run r own follows) holds
stands sender l ps run t o (takes_next life sent r own key secret is follows) =
    let s = stands sender life sent run r own follows in
    record {
      phases = s.phases;
      next = λ k some more. (let k_is : key ≡ k = cc in sym k_is ∙ is more);
      previous = s.previous;
    }
stands sender l ps run t o (forgets life sent r own follows) =
    let s = stands sender life sent run r own follows in
    record { phases = s.phases; next = s.next; previous = λ k u none e. cc }

pub held : (sender : Sender) (life : Life) (sent : List Sent) → HasSent sender life sent → (r : Receiver) (own : ℕ) (p : Sent)
    → Contains sent p → Follows life sent r own → Holds r own life p → Takes life r (get_or p.packet 0 0) p.number
held sender life sent run r own p has follows holds =
    takes sender life sent run r own p has (stands sender life sent run r own follows) holds

-- a number that was counted isn't new
counted : (s : Space) (ns : List ℕ) (i d : ℕ) → Counts s ns → i < length ns → IsNew s (get_or ns i d) → ⊥
counted s [] i d (none words) lt new = absurd (omega arith)
counted t (n ∷ ns) zero d (marks s t' n' ns' fresh m run) lt new = ((m.left n').0 new).1 refl
counted t (n ∷ ns) (suc i) d (marks s t' n' ns' fresh m run) lt new = counted s ns' i d run (omega arith) ((m.left (get_or ns' i d)).0 new).0

pub counted_once : (s : Space) (ns : List ℕ) (i j d : ℕ) → Counts s ns → i < j → j < length ns → get_or ns i d ≢ get_or ns j d
counted_once s [] i j d (none words) up lt = absurd (omega arith)
counted_once t (n ∷ ns) i zero d (marks s t' n' ns' fresh m run) up lt = absurd (omega arith)
counted_once t (n ∷ ns) zero (suc j) d (marks s t' n' ns' fresh m run) up lt =
    λ e. counted s ns' j d run (omega arith) (subst (IsNew s) e fresh)
counted_once t (n ∷ ns) (suc i) (suc j) d (marks s t' n' ns' fresh m run) up lt = counted_once s ns' i j d run (omega arith) (omega arith)
