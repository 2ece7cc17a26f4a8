-- The messages that an endpoint may send in a row.
use Rattle.std.proofs.Common.{◌≡◌, ◌≢◌, ◌≤◌, ℕ, Bool, true, false, ◌&&◌, ◌||◌, ◌==◌, not, ◌++◌, List, [], ◌∷◌, length, take, drop, slice_index, ap, sym, refl, ◌∙◌, arith, rules}
use Rattle.std.proofs.Math.Bool.{and_assoc, and-true}
use Rattle.std.specs.List.{concat}
use Rattle.tls_messages.specs.Messages.{IsPart, may_send, may_send_all, message_len, messages_of, part_of}
use Rattle.tls_messages.specs.declared.stage.Stage.{Stage}
use Rattle.tls_messages.proofs.StreamLemmas.{front, no_message, splits_of}

-- there is no message in no bytes
none_of : (messages_of [] ≡ []) × (part_of [] ≡ [])
none_of = no_message [] (λ there. absurd (omega (arith, there)))

-- a stream of whole messages that has no message has no bytes
all_of : (stream : List ℕ) → part_of stream ≡ [] → messages_of stream ≡ [] → stream ≡ []
all_of stream whole none = (splits_of stream).joined ∙ ap (λ m. concat m ++ part_of stream) none ∙ whole

next_of : (stage : Stage) (first : List ℕ) (later : List (List ℕ)) (is_last : Bool) → (is_last ≡ true → later ≡ [])
    → (is_last ≡ false → later ≢ []) → may_send_all stage (first ∷ later)
    ≡ ((may_send stage (slice_index first 0) && (is_last || not (slice_index first 0 == 20))) && may_send_all stage later)
next_of stage first [] true none some = sym (and-true _ ∙ and-true _)
next_of stage first [] false none some = absurd (some refl refl)
next_of stage first (next ∷ later) true none some = absurd (search rules)
next_of stage first (next ∷ later) false none some = refl

-- all messages of a stream may be sent if and only if the first may and those after it may
pub next_sent : (stage : Stage) (stream later messages : List ℕ) (n : ℕ) (may is_last : Bool) → n ≡ message_len stream → 4 ≤ n
    → n ≤ length stream → later ≡ drop n stream → (is_last ≡ true → later ≡ []) → (is_last ≡ false → later ≢ [])
    → part_of stream ≡ part_of messages
    → (part_of stream ≡ [] → may_send_all stage (messages_of messages) ≡ (may && may_send_all stage (messages_of stream)))
    → (part_of later ≡ part_of messages) × (part_of later ≡ [] → may_send_all stage (messages_of messages)
    ≡ ((may && (may_send stage (slice_index (take n stream) 0) && (is_last || not (slice_index (take n stream) 0 == 20))))
    && may_send_all stage (messages_of later)))
next_sent stage stream later messages n may is_last is there inside rest last more same all =
    let first = front stream n is there inside in
    let part : part_of stream ≡ part_of later = first.1 ∙ ap part_of (sym rest) in (
      sym part ∙ same,
      λ whole.
          let next = next_of stage (take n stream) (messages_of later) is_last
          (λ l. ap messages_of (last l) ∙ none_of.0)
          (λ m none. more m (all_of later whole none)) in
          all (part ∙ whole) ∙ ap (λ m. may && may_send_all stage m) (first.0 ∙ ap (λ r. take n stream ∷ messages_of r) (sym rest))
          ∙ ap (λ b. may && b) next ∙ sym (and_assoc may _ _),
    )

-- at the end of a stream all its messages were seen
pub ends_sent : (stage : Stage) (stream messages : List ℕ) (may : Bool) → stream ≡ [] → part_of stream ≡ part_of messages
    → (part_of stream ≡ [] → may_send_all stage (messages_of messages) ≡ (may && may_send_all stage (messages_of stream)))
    → (part_of messages ≡ []) × (may ≡ may_send_all stage (messages_of messages))
ends_sent stage stream messages may none same all =
    let whole : part_of stream ≡ [] = ap part_of none ∙ none_of.1 in
    let last : may_send_all stage (messages_of messages) ≡ (may && true)
    = all whole ∙ ap (λ m. may && may_send_all stage m) (ap messages_of none ∙ none_of.0) in
    (sym same ∙ whole, sym (last ∙ and-true may))

-- a stream that is a part of a message has that part after its messages
pub part_sent : (stream messages : List ℕ) → stream ≢ [] → IsPart stream
    → part_of stream ≡ part_of messages → part_of messages ≢ []
part_sent stream messages some is same none = some (sym (no_message stream is).1 ∙ same ∙ none)
