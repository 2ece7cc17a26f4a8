-- The numbers whose acknowledgment a sender counts for a key update: each was sent in the current key phase, which begins with
-- the first number of the phase.
use Rattle.std.proofs.Common.{◌≡◌, ℕ, suc, ◌+◌, ◌<◌, ◌≤◌, inl, inr, true, false, List, ◌∷◌, get_or, refl, subst, arith}
use Rattle.std.proofs.lemmas.Bool.{cases_lt, le-ltb, leb-false, leb-true, lt-leb, lt-ltb, or_from, or_parts}
use Rattle.std.proofs.lemmas.List.Elements.{All-cons, All-contains, All-nil, All-weaker}
use Rattle.std.specs.Prelude.{All, Contains, IsFalse, IsTrue, length, nat_le, ◌↔◌, ◌⊎◌, ◌||◌}
use Rattle.quic_packets.specs.Exchange.{HasSent, Life, Sent, Update, WasSentInPhase, begins, confirms, hears, lowers, sends, skips, updates, updates_before}
use Rattle.quic_packets.specs.Sending.{Sender, after_acknowledgement, is_unsent, numbered_packet}
use Rattle.quic_packets.specs.Skipped.{is_skipped, no_gaps}
use Rattle.quic_packets.specs.declared.skipped.Gap.{Gap}
use Rattle.quic_packets.proofs.SentLemmas.{before-le, before_all}
use Rattle.quic_packets.proofs.SkippedLemmas.{IsBelow, below_more, below_with, forgotten_below, free_above, none_below, still_free, unskipped}

-- a packet with this number was sent
abbrev Has : ℕ → List Sent → Type 0
Has n sent = (p : Sent) × Contains sent p × (p.number ≡ n)

has_more : (n : ℕ) (p : Sent) (sent : List Sent) → Has n sent → Has n (p ∷ sent)
has_more n p sent h = (h.0, (suc h.1.0, omega (arith, h.1.1), h.1.2), h.2)

-- The numbers from `first` up to `next` come after all key updates, and each of them was sent or skipped. No number that was
-- sent is skipped. The key phase begins at `phase`: no update comes later, and each packet that was sent is at or above it, or
-- before the last update.
record Run (first next phase : ℕ) (gaps : List Gap) (life : Life) (sent : List Sent) : Type 0 where
  begun : All (λ u. u.first ≤ first) life.updates
  order : first ≤ next
  ranges : IsBelow next gaps
  below : All (λ p. p.number < next) sent
  used : All (λ p. is_skipped gaps p.number ≡ false) sent
  each : (n : ℕ) → first ≤ n → n < next → is_skipped gaps n ≡ false → Has n sent
  phase_begun : All (λ u. u.first ≤ phase) life.updates
  phase_order : phase ≤ next
  phases : All (λ p. (phase ≤ p.number) ⊎ (updates_before life.updates p.number < length life.updates)) sent

earlier : (u : Update) (us : List Update) (n : ℕ) → n < u.first → updates_before (u ∷ us) n < length (u ∷ us)
earlier u us n lt = rw (lt-leb u.first n lt) (omega (arith, before-le us n))

run_of : (s : Sender) (life : Life) (sent : List Sent) → HasSent s life sent
    → Run s.first s.next s.first_of_phase s.skipped life sent
run_of s life sent (begins version key header_key secret from) = record {
  begun = All-nil (λ u. u.first ≤ from);
  order = omega arith;
  ranges = none_below from;
  below = All-nil (λ p. p.number < from);
  used = All-nil (λ p. is_skipped no_gaps p.number ≡ false);
  each = λ n le lt free. absurd (omega arith);
  phase_begun = All-nil (λ u. u.first ≤ from);
  phase_order = omega arith;
  phases = All-nil _;
}
run_of t l ps (sends s life sent fixed_bit start end packet wire sealable turn is before) =
    let run = run_of s life sent before in
    let p : Sent = record {
      number = s.next;
      number_at = start;
      header_len = end;
      packet = numbered_packet s.phase s.next start end packet;
      wire = wire;
    } in
    record {
      begun = run.begun;
      order = omega (arith, run.order);
      ranges = below_more s.next (s.next + 1) s.skipped (omega arith) run.ranges;
      below = All-cons (λ q. q.number < s.next + 1) p sent (omega arith) (λ i d lt. omega (arith, run.below i d lt));
      used = All-cons (λ q. is_skipped s.skipped q.number ≡ false) p sent (free_above s.next s.next s.skipped (omega arith) run.ranges) run.used;
      each = λ n le lt free. elim (cases_lt n s.next) [
        | inl earlier ↦ has_more n p sent (run.each n le earlier free)
        | inr last ↦ (p, (0, omega arith, refl), omega arith)
      ];
      phase_begun = run.phase_begun;
      phase_order = omega (arith, run.phase_order);
      phases = All-cons (λ q. (s.first_of_phase ≤ q.number) ⊎ (updates_before life.updates q.number < length life.updates)) p sent
          (inl run.phase_order) run.phases;
    }
run_of t l ps (skips s life sent number le before) =
    let run = run_of s life sent before in
    elim (cases_lt s.next number) [
      | inl gap ↦ rw (lt-ltb s.next number gap) (record {
        begun = λ i d at. omega (arith, run.begun i d at);
        order = omega (arith, run.order, forgotten_below s.next s.skipped run.ranges);
        ranges = below_with s.next number s.skipped le run.ranges;
        below = λ i d at. omega (arith, run.below i d at);
        used = λ i d at. still_free s.next number (get_or sent i d).number s.skipped (run.below i d at) (run.used i d at);
        each = λ n from lt free. (
            let was = unskipped s.next number n s.skipped run.ranges lt (omega (arith, from)) free in
            run.each n (omega (arith, from)) was.0 was.1
            );
        phase_begun = run.phase_begun;
        phase_order = omega (arith, run.phase_order);
        phases = run.phases;
      })
      | inr none ↦ (let same : number ≡ s.next = omega arith in rw (le-ltb s.next number none, same) run)
    ]
run_of t l ps (updates s life sent key secret before) =
    let run = run_of s life sent before in
    let u : Update = record { key = key; first = s.next } in
    let begun =
    All-cons (λ u. u.first ≤ s.next) u life.updates (omega arith) (λ i d lt. omega (arith, run.order, run.begun i d lt)) in
    record {
      begun = begun;
      order = omega arith;
      ranges = run.ranges;
      below = run.below;
      used = run.used;
      each = λ n le lt free. absurd (omega arith);
      phase_begun = begun;
      phase_order = omega arith;
      phases = All-weaker (λ p. p.number < s.next)
          (λ p. (s.next ≤ p.number) ⊎ (updates_before (u ∷ life.updates) p.number < length (u ∷ life.updates)))
          (λ p lt. inr (earlier u life.updates p.number lt)) sent run.below;
    }
run_of t l ps (hears s life sent number below before) = run_of s life sent before
run_of t l ps (confirms s life sent before) = run_of s life sent before
run_of t l ps (lowers s life sent limit before) = run_of s life sent before

pub acknowledged_was_sent : (s : Sender) (life : Life) (sent : List Sent) (number : ℕ) → HasSent s life sent → IsFalse s.acknowledged
    → IsFalse (is_unsent s number) → IsTrue (after_acknowledgement s number).acknowledged → WasSentInPhase life sent number
acknowledged_was_sent s life sent number calls was taken now =
    let run = run_of s life sent calls in
    let from : s.first ≤ number = leb-true s.first number (subst (λ b. (b || nat_le s.first number) ≡ true) was now) in
    let parts = or_parts (nat_le s.next number) (is_skipped s.skipped number) taken in
    record {
      was_sent = run.each number from (leb-false s.next number parts.0) parts.1;
      in_phase = before_all life.updates number (λ i d lt. omega (arith, run.begun i d lt));
    }

pub sent_is_acknowledged : (s : Sender) (life : Life) (sent : List Sent) (p : Sent) → HasSent s life sent → Contains sent p
    → IsFalse (is_unsent s p.number)
sent_is_acknowledged s life sent p calls has =
    let run = run_of s life sent calls in
    or_from (nat_le s.next p.number) (is_skipped s.skipped p.number)
    (lt-leb s.next p.number (All-contains (λ q. q.number < s.next) sent p run.below has))
    (All-contains (λ q. is_skipped s.skipped q.number ≡ false) sent p run.used has)

pub of_phase : (s : Sender) (life : Life) (sent : List Sent) (p : Sent) → HasSent s life sent → Contains sent p
    → (updates_before life.updates p.number ≡ length life.updates) ↔ (s.first_of_phase ≤ p.number)
of_phase s life sent p calls has =
    let run = run_of s life sent calls in
    let P : Sent → Type 0 = λ q. (s.first_of_phase ≤ q.number) ⊎ (updates_before life.updates q.number < length life.updates) in (
      λ all. omega (arith, all, All-contains P sent p run.phases has),
      λ from. before_all life.updates p.number (λ i d lt. omega (arith, run.phase_begun i d lt)),
    )
