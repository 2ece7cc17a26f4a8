-- The messages of a stream, which don't depend on how it is cut.
use Rattle.std.proofs.Common.{◌≡◌, ◌<◌, ◌≤◌, ◌+◌, ℕ, zero, suc, true, false, ◌++◌, List, [], ◌∷◌, length, take, drop, rules, arith, ap, subst, refl, ◌∙◌, sym, append_assoc, inl, inr}
use Rattle.std.proofs.lemmas.Bool.{cases_lt, cond-true, cond-false}
use Rattle.std.proofs.lemmas.Bool.Decides.{leb_tells}
use Rattle.std.proofs.lemmas.List.{take-append-drop, length-take-le, length-append}
use Rattle.std.proofs.lemmas.List.Elements.{All-append, All-nil, All-cons, All-head, All-tail}
use Rattle.std.proofs.lemmas.List.Folds.{concat-append}
use Rattle.std.proofs.Math.Seq.{take-append_seam, drop-append_seam}
use Rattle.std.specs.List.{All, concat}
use Rattle.tls_messages.specs.Messages.{message_len, IsMessage, IsPart, Splits, begins_whole, messages_in, part_in, messages_of, part_of}
use Rattle.tls_messages.specs.Messages.{messages_read}
use Rattle.tls_messages.proofs.MessageLemmas.{len_of_start, len_of_take}

begins : (stream : List ℕ) → 4 ≤ length stream → message_len stream ≤ length stream → begins_whole stream ≡ true
begins stream there whole = grind (arith, leb_tells, there, whole)

begins_not : (stream : List ℕ) → IsPart stream → begins_whole stream ≡ false
begins_not stream part = elim (cases_lt (length stream) 4) [
  | inl few ↦ grind (arith, leb_tells, few)
  | inr there ↦ let short : length stream < message_len stream = part there in grind (arith, leb_tells, short)
]

-- a stream splits in one way only
in_splits : (n : ℕ) (stream : List ℕ) (messages : List (List ℕ)) (part : List ℕ) → length stream ≤ n
    → Splits stream messages part → (messages_in n stream ≡ messages) × (part_in n stream ≡ part)
unfolding messages_in part_in
in_splits zero stream [] part short s = (refl, s.joined)
in_splits zero stream (m ∷ ms) part short s =
    let head : IsMessage m = All-head IsMessage m ms s.whole in
    let len : length stream ≡ length m + length (concat ms ++ part)
    = ap length (s.joined ∙ append_assoc m (concat ms) part) ∙ length-append m (concat ms ++ part) in
    absurd (omega (arith, len, short, head.header))
in_splits (suc n) stream [] part short s =
    let no : begins_whole stream ≡ false = begins_not stream (subst IsPart (sym s.joined) s.rest) in
    (cond-false _ _ _ no, cond-false _ _ _ no ∙ s.joined)
in_splits (suc n) stream (m ∷ ms) part short s =
    let head : IsMessage m = All-head IsMessage m ms s.whole in
    let rest = concat ms ++ part in
    let joined : stream ≡ m ++ rest = s.joined ∙ append_assoc m (concat ms) part in
    let total : length stream ≡ length m + length rest = ap length joined ∙ length-append m rest in
    let len : message_len stream ≡ length m
    = ap message_len joined ∙ len_of_start m rest head.header ∙ sym head.len in
    let yes : begins_whole stream ≡ true
    = begins stream (omega (arith, total, head.header)) (omega (arith, total, len)) in
    let front : take (message_len stream) stream ≡ m
    = ap (λ k. take k stream) len ∙ ap (take (length m)) joined ∙ take-append_seam m rest in
    let back : drop (message_len stream) stream ≡ rest
    = ap (λ k. drop k stream) len ∙ ap (drop (length m)) joined ∙ drop-append_seam m rest in
    let fewer : length (drop (message_len stream) stream) ≤ n
    = let l : length (drop (message_len stream) stream) ≡ length rest = ap length back in
    omega (arith, l, total, short, head.header) in
    let later = in_splits n (drop (message_len stream) stream) ms part fewer
    (record { whole = All-tail IsMessage m ms s.whole; rest = s.rest; joined = back }) in (
      cond-true _ _ _ yes ∙ ap (λ f. f ∷ messages_in n (drop (message_len stream) stream)) front ∙ ap (λ t. m ∷ t) later.0,
      cond-true _ _ _ yes ∙ later.1,
    )

pub of_splits : (stream : List ℕ) (messages : List (List ℕ)) (part : List ℕ) → Splits stream messages part
    → (messages_of stream ≡ messages) × (part_of stream ≡ part)
unfolding messages_of part_of
of_splits stream messages part s = in_splits (length stream) stream messages part (omega arith) s

-- each stream splits into whole messages and a part
resplit : (stream : List ℕ) (ms ms' : List (List ℕ)) (p p' : List ℕ) → ms ≡ ms' → p ≡ p' → Splits stream ms p
    → Splits stream ms' p'
resplit stream ms ms' p p' same same' s = subst (λ q. Splits stream ms' q) same' (subst (λ t. Splits stream t p) same s)

stays_part : (n : ℕ) (stream : List ℕ) → IsPart stream → Splits stream (messages_in (suc n) stream) (part_in (suc n) stream)
unfolding messages_in part_in
stays_part n stream part =
    let no : begins_whole stream ≡ false = begins_not stream part in
    resplit stream [] _ stream _ (sym (cond-false _ _ _ no)) (sym (cond-false _ _ _ no))
    (record { whole = All-nil IsMessage; rest = part; joined = refl })

splits_in : (n : ℕ) (stream : List ℕ) → length stream ≤ n → Splits stream (messages_in n stream) (part_in n stream)
unfolding messages_in part_in
splits_in zero stream short =
    record { whole = All-nil IsMessage; rest = λ there. absurd (omega (arith, there, short)); joined = refl }
splits_in (suc n) stream short =
    elim (cases_lt (length stream) 4) [
      | inl few ↦ stays_part n stream (λ there. absurd (omega (arith, there, few)))
      | inr there ↦ elim (cases_lt (length stream) (message_len stream)) [
        | inl part ↦ stays_part n stream (λ _. part)
        | inr whole ↦
            let k = message_len stream in
            let yes : begins_whole stream ≡ true = begins stream there whole in
            let both : take k stream ++ drop k stream ≡ stream = take-append-drop k stream in
            let len : length (take k stream) ≡ k = length-take-le k stream whole in
            let total : length stream ≡ length (take k stream) + length (drop k stream)
            = ap length (sym both) ∙ length-append (take k stream) (drop k stream) in
            let later = splits_in n (drop k stream) (omega (arith, total, len, short)) in
            let own : message_len (take k stream) ≡ k = len_of_take k stream (omega arith) whole in
            resplit stream (take k stream ∷ messages_in n (drop k stream)) _ (part_in n (drop k stream)) _
            (sym (cond-true _ _ _ yes)) (sym (cond-true _ _ _ yes)) (record {
              whole = All-cons IsMessage _ _ (record { header = omega (arith, len); len = len ∙ sym own }) later.whole;
              rest = later.rest;
              joined = sym both ∙ ap (λ t. take k stream ++ t) later.joined ∙ sym (append_assoc (take k stream) _ _);
            })
      ]
    ]

pub splits_of : (stream : List ℕ) → Splits stream (messages_of stream) (part_of stream)
unfolding messages_of part_of
splits_of stream = splits_in (length stream) stream (omega arith)

-- a whole message in front of a stream comes first among its messages
pub first_message : (message rest : List ℕ) → IsMessage message
    → (messages_of (message ++ rest) ≡ message ∷ messages_of rest) × (part_of (message ++ rest) ≡ part_of rest)
first_message message rest whole =
    let s = splits_of rest in
    of_splits (message ++ rest) (message ∷ messages_of rest) (part_of rest) (record {
      whole = All-cons IsMessage _ _ whole s.whole;
      rest = s.rest;
      joined = ap (λ t. message ++ t) s.joined ∙ sym (append_assoc message _ _);
    })

-- a part has no messages
pub no_message : (part : List ℕ) → IsPart part → (messages_of part ≡ []) × (part_of part ≡ part)
no_message part is = of_splits part [] part (record { whole = All-nil IsMessage; rest = is; joined = refl })

-- the messages of joined whole messages are these messages
pub messages_of_whole : (messages : List (List ℕ)) → All IsMessage messages → messages_of (concat messages) ≡ messages
messages_of_whole messages whole = (of_splits (concat messages) messages [] (record {
  whole = whole;
  rest = λ there. absurd (omega (arith, there));
  joined = search rules;
})).0

-- a stream that is cut in two has the same messages
pub cut : (xs ys : List ℕ)
    → (messages_of (xs ++ ys) ≡ messages_of xs ++ messages_of (part_of xs ++ ys)) × (part_of (xs ++ ys) ≡ part_of (part_of xs ++ ys))
cut xs ys =
    let s = splits_of xs in
    let t = splits_of (part_of xs ++ ys) in
    of_splits (xs ++ ys) _ _ (record {
      whole = All-append IsMessage _ _ s.whole t.whole;
      rest = t.rest;
      joined = ap (λ u. u ++ ys) s.joined ∙ append_assoc (concat (messages_of xs)) (part_of xs) ys
          ∙ ap (λ u. concat (messages_of xs) ++ u) t.joined ∙ sym (append_assoc (concat (messages_of xs)) _ _)
          ∙ ap (λ u. u ++ part_of (part_of xs ++ ys)) (sym (concat-append (messages_of xs) _));
    })

-- a stream that is cut into any contents has the same messages
pub read_cut : (part : List ℕ) (contents : List (List ℕ)) → IsPart part
    → messages_read part contents ≡ messages_of (part ++ concat contents)
unfolding messages_read
read_cut part [] is = sym (ap messages_of (search rules) ∙ (no_message part is).0)
read_cut part (content ∷ later) is =
    ap (λ t. messages_of (part ++ content) ++ t) (read_cut (part_of (part ++ content)) later (splits_of (part ++ content)).rest)
    ∙ sym (cut (part ++ content) (concat later)).0 ∙ ap messages_of (append_assoc part content (concat later))

pub cut_anywhere : (contents : List (List ℕ)) → messages_read [] contents ≡ messages_of (concat contents)
cut_anywhere contents = read_cut [] contents (λ there. absurd (omega (arith, there)))

pub cut_whole : (messages contents : List (List ℕ)) → All IsMessage messages → concat contents ≡ concat messages
    → messages_read [] contents ≡ messages
cut_whole messages contents whole same = cut_anywhere contents ∙ ap messages_of same ∙ messages_of_whole messages whole

-- a stream that is a part of a message has no message and this part
pub all_used : (stream part rest : List ℕ) → IsPart part → rest ≡ [] → stream ≡ part ++ rest
    → IsPart part × (rest ≡ []) × (messages_of stream ≡ []) × (part_of stream ≡ part)
all_used stream part rest is none joined =
    let all : stream ≡ part = joined ∙ ap (λ t. part ++ t) none ∙ search rules in
    (is, none, ap messages_of all ∙ (no_message part is).0, ap part_of all ∙ (no_message part is).1)

-- the first n bytes of a stream, if they are a whole message, come first among its messages
pub front : (stream : List ℕ) (n : ℕ) → n ≡ message_len stream → 4 ≤ n → n ≤ length stream
    → (messages_of stream ≡ take n stream ∷ messages_of (drop n stream)) × (part_of stream ≡ part_of (drop n stream))
front stream n is there inside =
    let both : take n stream ++ drop n stream ≡ stream = take-append-drop n stream in
    let len : length (take n stream) ≡ n = length-take-le n stream inside in
    let own : message_len (take n stream) ≡ message_len stream = len_of_take n stream there inside in
    let first = first_message (take n stream) (drop n stream)
    (record { header = omega (arith, len, there); len = omega (arith, len, is, own) }) in
    (ap messages_of (sym both) ∙ first.0, ap part_of (sym both) ∙ first.1)
