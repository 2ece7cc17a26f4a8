-- The bits of the numbers that were received. The words of the window are used in turn, so numbers that are a window apart
-- share a bit.
use Rattle.std.proofs.Common.{◌≡◌, ◌≢◌, ℕ, ◌+◌, ◌-◌, ◌*◌, ◌/◌, ◌%◌, ◌<◌, ◌≤◌, ◌↔◌, ◌⊎◌, List, length, get_or, inl, inr, max, refl, sym, ap₂, subst, ◌∙◌, arith, set}
use Rattle.std.proofs.lemmas.Bool.{cases_eq, cases_lt}
use Rattle.std.proofs.lemmas.List.{get_or-set_other, get_or-set_same, length-set}
use Rattle.std.specs.Int.{bit_at}
use Rattle.quic_packets.specs.Space.{IsNew, ShareBit, bit_of}
use Rattle.quic_packets.proofs.NumberLemmas.{apart as same_rest}

-- Two numbers of one window don't share a bit.
apart : (words m n : ℕ) → m ≢ n → m < n + 64 * words → n < m + 64 * words → ¬ ShareBit words m n
apart words m n other near near' share =
    let bit = share.bit in
    omega (arith, same_rest words (m / 64) (n / 64) share.word)

-- The numbers that are still new once a number within the window is received.
pub left_within : (next number : ℕ) (old new : List ℕ) → length new ≡ length old → number < next → next ≤ number + 64 * length old
    → bit_of new number ≡ 1 → ((n : ℕ) → ¬ ShareBit (length old) n number → bit_of new n ≡ bit_of old n)
    → (n : ℕ) → IsNew (record { next = next; seen = new }) n
    ↔ (IsNew (record { next = next; seen = old }) n × (n ≢ number) × (next ≤ n + 64 * length old))
left_within next number old new len below inside here others n = (
  λ is.
      let other : n ≢ number = λ e. cc (is.unseen (omega (arith, e))) in
      let within : next ≤ n + 64 * length old = omega (arith, is.in_window, len) in (
        record {
          in_window = within;
          unseen = λ lt. sym (others n (apart (length old) n number other (omega arith) (omega arith))) ∙ is.unseen lt;
        },
        other,
        within,
      ),
  λ was. record {
    in_window = omega (arith, was.2, len);
    unseen = λ lt. others n (apart (length old) n number was.1 (omega arith) (omega (arith, was.2))) ∙ was.0.unseen lt;
  },
)

-- The numbers that are still new once a number above all others is received: the bits from `low` up to it are cleared, and then
-- its own is set.
pub left_above : (next number low : ℕ) (old mid new : List ℕ) → 0 < length old → length mid ≡ length old → length new ≡ length old
    → next ≤ number → low ≡ max next (number + 1 - 64 * length old) → ((n : ℕ) → low ≤ n → n < number + 1 → bit_of mid n ≡ 0)
    → ((n : ℕ) → ((m : ℕ) → low ≤ m → m < number + 1 → ¬ ShareBit (length old) n m) → bit_of mid n ≡ bit_of old n)
    → bit_of new number ≡ 1 → ((n : ℕ) → ¬ ShareBit (length mid) n number → bit_of new n ≡ bit_of mid n)
    → (n : ℕ) → IsNew (record { next = number + 1; seen = new }) n
    ↔ (IsNew (record { next = next; seen = old }) n × (n ≢ number) × (number + 1 ≤ n + 64 * length old))
left_above next number low old mid new some len_mid len_new up is_low cleared kept here others n =
    let last = left_within (number + 1) number mid new (omega arith) (omega arith) (omega arith) here others n in
    let same : n < next → number + 1 ≤ n + 64 * length old → bit_of mid n ≡ bit_of old n =
    λ lt within. kept n (λ m from to. apart (length old) n m (omega arith) (omega arith) (omega arith)) in (
      λ is.
          let was = last.0 is in
          let within : number + 1 ≤ n + 64 * length old = omega (arith, was.2) in (
            record { in_window = omega arith; unseen = λ lt. sym (same lt within) ∙ was.0.unseen (omega arith) },
            was.1,
            within,
          ),
      λ was. last.1 (
        record {
          in_window = omega (arith, was.2);
          unseen = λ lt. elim (cases_lt n next) [
            | inl earlier ↦ same earlier was.2 ∙ was.0.unseen earlier
            | inr later ↦ cleared n (omega (arith, was.2)) (omega arith)
          ];
        },
        was.1,
        omega (arith, was.2),
      ),
    )

shared_bit : (seen : List ℕ) (m n : ℕ) → ShareBit (length seen) m n → bit_of seen m ≡ bit_of seen n
shared_bit seen m n share = ap₂ (λ w b. bit_at (get_or seen w 0) b) share.word share.bit

cases_share : (words m n : ℕ) → ShareBit words m n ⊎ ¬ ShareBit words m n
cases_share words m n = grind (arith, cases_eq (m / 64 % words) (n / 64 % words), cases_eq (m % 64) (n % 64))

-- The bits of a range are cleared one by one: what holds up to a number also holds with this number.
module _ (from number : ℕ) (old mid new : List ℕ) (len_mid : length mid ≡ length old) (len_new : length new ≡ length mid)
    (here : bit_of new number ≡ 0) (kept : (n : ℕ) → ¬ ShareBit (length mid) n number → bit_of new n ≡ bit_of mid n) where
  pub cleared_more : ((n : ℕ) → from ≤ n → n < number → bit_of mid n ≡ 0) → (n : ℕ) → from ≤ n → n < number + 1 → bit_of new n ≡ 0
  cleared_more was n above below =
      elim (cases_share (length new) n number) [
        | inl share ↦ shared_bit new n number share ∙ here
        | inr other ↦
            let apart : n ≢ number = λ e. other (rw e (record { word = refl; bit = refl })) in
            kept n (rw (← len_new) other) ∙ was n above (omega arith)
      ]

  pub others_more : ((n : ℕ) → ((m : ℕ) → from ≤ m → m < number → ¬ ShareBit (length old) n m) → bit_of mid n ≡ bit_of old n) → from ≤ number
      → (n : ℕ) → ((m : ℕ) → from ≤ m → m < number + 1 → ¬ ShareBit (length old) n m) → bit_of new n ≡ bit_of old n
  others_more was up n unshared =
      kept n (subst (λ l. ¬ ShareBit l n number) (sym len_mid) (unshared number up (omega arith)))
      ∙ was n (λ m from_on below. unshared m from_on (omega arith))

-- When a word is written, the bit of a number is the bit of that word, and the bits of other numbers stay.
module _ (seen : List ℕ) (number v : ℕ) (some : 0 < length seen) where
  abbrev word : ℕ
  word = number / 64 % length seen

  inside : word < length seen
  inside = omega (arith, some)

  pub its_bit : bit_of (set seen word v) number ≡ bit_at v (number % 64)
  its_bit = rw (length-set seen word v, get_or-set_same seen word v 0 inside) refl

  pub other_bits : ((i : ℕ) → i < 64 → i ≢ number % 64 → bit_at v i ≡ bit_at (get_or seen word 0) i)
      → (n : ℕ) → ¬ ShareBit (length seen) n number → bit_of (set seen word v) n ≡ bit_of seen n
  other_bits same n unshared =
      elim (cases_eq (n / 64 % length seen) word) [
        | inl here ↦
            rw (length-set seen word v, here, get_or-set_same seen word v 0 inside)
            (same (n % 64) (omega arith) (λ bit. unshared (record { word = here; bit = bit })))
        | inr there ↦ rw (length-set seen word v, get_or-set_other seen word (n / 64 % length seen) v 0 there) refl
      ]
