-- The header and the length of a message whose bytes come piece by piece, and why it is rejected.
use Rattle.std.proofs.Common.{◌≡◌, ◌<◌, ◌≤◌, ◌+◌, ℕ, ◌++◌, List, length, take, drop, get_or, arith, ap, ◌∙◌, sym, append_assoc}
use Rattle.std.proofs.lemmas.List.{take-append-drop, length-take-le, get_or_append_left}
use Rattle.std.proofs.lemmas.Slice.{take-put_mid}
use borrow.Rule.Slice.PartMut.{put_mid}
use Rattle.std.proofs.Common.{inl, inr}
use Rattle.std.proofs.lemmas.Bool.{cases_lt}
use Rattle.std.proofs.Common.{rules, length-append, subst, IsTrue}
use Rattle.tls_messages.specs.Messages.{may_come, message_len, Begins, IsExpected, IsMessage, IsPart}
use Rattle.tls_messages.specs.Steps.{Refuses, RefusesHeader, RefusesMessage}
use Rattle.tls_messages.specs.declared.stage.Stage.{Stage}
use Rattle.tls_messages.specs.declared.message_error.MessageError.{MessageError}
use Rattle.tls_messages.specs.declared.message_error.MessageError.TheVariants.{DataAfterKeys, KeyUpdateLength, KeyUpdateRequest, TooLong, UnexpectedType}

-- the bytes that are in the buffer and in the content stay the same when some move from the content's front to the buffer
pub moved : (at count k : ℕ) (buffer taken rest content : List ℕ) → at ≤ length buffer → length taken ≡ count
    → content ≡ taken ++ rest → take (at + count) (put_mid at k buffer taken) ++ rest ≡ take at buffer ++ content
moved at count k buffer taken rest content inside len whole =
    ap (λ t. t ++ rest) (take-put_mid at k buffer taken (at + count) (omega (arith, len)) inside)
    ∙ append_assoc (take at buffer) taken rest ∙ ap (λ t. take at buffer ++ t) (sym whole)

-- the length of a message depends on its first 4 bytes alone
pub len_of_start : (start rest : List ℕ) → 4 ≤ length start → message_len (start ++ rest) ≡ message_len start
len_of_start start rest there =
    let one : get_or (start ++ rest) 1 0 ≡ get_or start 1 0 = get_or_append_left start rest 0 1 (omega (arith, there)) in
    let two : get_or (start ++ rest) 2 0 ≡ get_or start 2 0 = get_or_append_left start rest 0 2 (omega (arith, there)) in
    let three : get_or (start ++ rest) 3 0 ≡ get_or start 3 0 = get_or_append_left start rest 0 3 (omega (arith, there)) in
    omega (arith, one, two, three)

pub len_of_take : (n : ℕ) (bytes : List ℕ) → 4 ≤ n → n ≤ length bytes → message_len (take n bytes) ≡ message_len bytes
len_of_take n bytes there inside =
    let long : 4 ≤ length (take n bytes) = omega (arith, length-take-le n bytes inside) in
    sym (len_of_start (take n bytes) (drop n bytes) long) ∙ ap message_len (take-append-drop n bytes)

-- more bytes after the header do not change the length
pub len_stays : (m n : ℕ) (was now content rest : List ℕ) → 4 ≤ m → m ≤ length was → m ≤ n → n ≤ length now
    → take n now ++ rest ≡ take m was ++ content → message_len (take n now) ≡ message_len was
len_stays m n was now content rest there inside more within joined =
    let long : 4 ≤ length (take n now) = omega (arith, length-take-le n now within) in
    let short : 4 ≤ length (take m was) = omega (arith, length-take-le m was inside) in
    sym (len_of_start (take n now) rest long) ∙ ap message_len joined ∙ len_of_start (take m was) content short
    ∙ len_of_take m was there inside

-- a part of a message is shorter than the message, whose length is known when more of it is there
pub part_shorter : (m n : ℕ) (was now content rest : List ℕ) → m ≤ length was → m ≤ n → 4 ≤ n → n ≤ length now
    → take n now ++ rest ≡ take m was ++ content → IsPart (take m was) → m < message_len now
part_shorter m n was now content rest inside more there within joined part =
    elim (cases_lt m 4) [
      | inl few ↦ omega (arith, few)
      | inr long ↦
          let held : length (take m was) ≡ m = length-take-le m was inside in
          let short : length (take m was) < message_len (take m was) = part (omega (arith, held, long)) in
          let same : message_len (take n now) ≡ message_len was
          = len_stays m n was now content rest long inside more within joined in
          let first : message_len (take m was) ≡ message_len was = len_of_take m was long inside in
          let last : message_len (take n now) ≡ message_len now = len_of_take n now there within in
          omega (arith, held, short, same, first, last)
    ]

-- whether a header is rejected depends on its type and its length alone
same_header : (stage : Stage) (bound : ℕ) (was now : List ℕ) (error : MessageError) → get_or now 0 0 ≡ get_or was 0 0
    → message_len now ≡ message_len was → RefusesHeader stage bound was error → RefusesHeader stage bound now error
same_header stage bound was now (UnexpectedType type) first len r = search rules
same_header stage bound was now KeyUpdateLength first len r = search rules
same_header stage bound was now (TooLong n) first len r = search rules
same_header stage bound was now error first len r = r

pub refused_start : (stage : Stage) (bound n : ℕ) (bytes : List ℕ) (error : MessageError) → 4 ≤ n → n ≤ length bytes
    → RefusesHeader stage bound bytes error → RefusesHeader stage bound (take n bytes) error
refused_start stage bound n bytes error there inside refused =
    let long : 4 ≤ length (take n bytes) = omega (arith, length-take-le n bytes inside) in
    let first : get_or (take n bytes) 0 0 ≡ get_or bytes 0 0
    = sym (get_or_append_left (take n bytes) (drop n bytes) 0 0 (omega (arith, long))) ∙ ap (λ t. get_or t 0 0) (take-append-drop n bytes) in
    same_header stage bound bytes (take n bytes) error first (len_of_take n bytes there inside) refused

-- the reason why a whole message is rejected is the reason why the reader rejects the content
pub refused_whole : (stage : Stage) (bound : ℕ) (part message rest : List ℕ) (error : MessageError) → IsMessage message
    → IsExpected stage bound message → RefusesMessage message rest error → Refuses stage bound part message rest error
refused_whole stage bound part message rest KeyUpdateRequest whole expected refused = (whole, expected, refused)
refused_whole stage bound part message rest DataAfterKeys whole expected refused = (whole, expected, refused)
refused_whole stage bound part message rest error whole expected refused = absurd refused

-- a message may come if the stream that it begins has the header of a message that may come
pub expected_front : (stage : Stage) (bound : ℕ) (bytes message rest : List ℕ) → IsMessage message → bytes ≡ message ++ rest
    → Begins stage bound bytes → IsExpected stage bound message
expected_front stage bound bytes message rest whole joined begins =
    let there : 4 ≤ length (message ++ rest) = omega (arith, length-append message rest, whole.header) in
    let expected : IsExpected stage bound (message ++ rest) = subst (Begins stage bound) joined begins there in
    let first : get_or (message ++ rest) 0 0 ≡ get_or message 0 0
    = get_or_append_left message rest 0 0 (omega (arith, whole.header)) in
    let len : message_len (message ++ rest) ≡ message_len message = len_of_start message rest whole.header in
    record {
      type = subst (λ t. IsTrue (may_come stage t)) first expected.type;
      update = λ is. sym len ∙ expected.update (first ∙ is);
      fits = omega (arith, len, expected.fits);
    }
