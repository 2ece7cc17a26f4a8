-- What a call that opens returns, and what is then lent: the plaintext, at the front of the buffer.
use Rattle.std.proofs.Common.{◌≡◌, ◌∙◌, sym, ap, subst, arith, ℕ, List, Bool, true, false, ◌-◌, ◌≤◌, ◌++◌, length, drop, take, length-append, length-drop, Result, Ok, Err, is_ok, IfOk, if◌then◌else◌, append_assoc, take-append-drop, take_at, drop_at, length-take-le}
use Rattle.std.specs.Borrow.{MutBor}
use Rattle.std.proofs.lemmas.List.{drop-append-le}
use Rattle.aead_ciphers_base.proofs.CounterModeLemmas.{length-counter_mode}
use Rattle.aead_ciphers.specs
use specs.BoundState.{BoundState}
use specs.Gcm.{gcm_decrypted, tag_len, Opened, OpenedAttached, Opens}
use specs.Lending.{lent_buffer, Stands}
use specs.Steps.{OpenStep, no_nonce, opened}

-- the result lends the front of the buffer `new`, whose length is the answer; the bytes after it are those of `old`
pub record Lent {E : Type 0} (m : ℕ) (old new : List ℕ) (answer : Result ℕ E) (result : Result (MutBor (List ℕ)) E) : Type 0 where
  pub accepts : is_ok answer ≡ is_ok result
  pub buffer : new ≡ lent_buffer result old
  pub count : IfOk result (λ part. length part.now ≡ m)

-- what holds of the answer and the buffer holds of the result and the buffer with what it lends
pub as_lent : {E : Type 0} {m : ℕ} {old new : List ℕ} (P : Bool → List ℕ → Type 0) {answer : Result ℕ E}
    {result : Result (MutBor (List ℕ)) E} → Lent m old new answer result → P (is_ok answer) new
    → P (is_ok result) (lent_buffer result old)
as_lent {new = new} P {result = result} end said =
    subst (P (is_ok result)) end.buffer (subst (λ b. P b new) end.accepts said)

-- what is lent is what the buffer begins with
pub front_of : {E : Type 0} {m : ℕ} {old new : List ℕ} {answer : Result ℕ E} (front : MutBor (List ℕ))
    → Lent m old new answer (Ok front) → front.now ≡ take m new
front_of {m = m} {old} front end =
    sym (ap (take m) end.buffer ∙ take_at front.now (drop (length front.now) old) m end.count)

module _ {cipher : List ℕ → List ℕ} {nonce aad received ciphertext : List ℕ} {in_range : Type 0}
    {old new : List ℕ} where
  -- the plaintext is what the buffer begins with
  pub stands : {m : ℕ} → length ciphertext ≡ m → Opens cipher nonce aad received ciphertext in_range old true new
      → take m new ≡ gcm_decrypted cipher nonce ciphertext
  stands {m} size opens = ap (take m) opens.buffer
      ∙ take_at (gcm_decrypted cipher nonce ciphertext) (drop (length ciphertext) old) m
      (length-counter_mode cipher nonce 2 ciphertext ∙ size)

  pub opened_fronts : {E : Type 0} {m : ℕ} → length ciphertext ≡ m → (answer : Result ℕ E)
      → Opens cipher nonce aad received ciphertext in_range old (is_ok answer) new → IfOk answer (λ n. n ≡ m)
      → Stands m old new answer
  opened_fronts {m = m} size (Ok n) opens count =
      let plain = gcm_decrypted cipher nonce ciphertext in
      let long = length-counter_mode cipher nonce 2 ciphertext ∙ size in (
        count,
        omega (arith, count, long, ap length opens.buffer, length-append plain (drop (length ciphertext) old)),
        ap (λ k. drop k new) count ∙ ap (drop m) opens.buffer ∙ drop_at plain (drop (length ciphertext) old) m long
            ∙ ap (λ k. drop k old) size,
      )
  opened_fronts size (Err e) opens count = opens.buffer

  -- what is lent is the plaintext
  pub lent_plain : {E : Type 0} {m : ℕ} → length ciphertext ≡ m
      → (answer : Result ℕ E) (result : Result (MutBor (List ℕ)) E)
      → Lent m old new answer result → Opens cipher nonce aad received ciphertext in_range old (is_ok answer) new
      → IfOk result (λ front. front.now ≡ gcm_decrypted cipher nonce ciphertext)
  lent_plain size (Ok n) (Ok front) end opens = front_of front end ∙ stands size opens
  lent_plain size answer (Err f) end opens = tt
  lent_plain size (Err e) (Ok front) end opens = let no : false ≡ true = end.accepts in absurd (cc)

-- opening what stands before an attached tag opens the buffer
pub attached : (cipher : List ℕ → List ℕ) (nonce aad : List ℕ) (start : ℕ) (old : List ℕ) (accepts : Bool)
    (body : List ℕ) → tag_len ≤ length old
    → Opened cipher nonce aad (drop (length old - tag_len) old) start (take (length old - tag_len) old) accepts body
    → OpenedAttached cipher nonce aad start old accepts (body ++ drop (length old - tag_len) old)
attached cipher nonce aad start old accepts body long step =
    let n = length old - tag_len in
    let size : length (take n old) ≡ n = length-take-le n old (omega arith) in
    record {
      accepted = (
        (λ yes. let is = step.accepted.0 yes in (omega (arith, is.0, size), is.1, is.2)),
        λ is. step.accepted.1 (omega (arith, is.0, size), is.1, is.2),
      );
      buffer = kept_behind accepts body step.buffer;
    }
  where
    text : List ℕ
    text = drop start (take (length old - tag_len) old)

    plain : List ℕ
    plain = gcm_decrypted cipher nonce text

    kept_behind : (accepts : Bool) (body : List ℕ)
        → body ≡ (if accepts then plain ++ drop (length text) (take (length old - tag_len) old) else take
        (length old - tag_len) old)
        → body ++ drop (length old - tag_len) old ≡ (if accepts then plain ++ drop (length text) old else old)
    kept_behind true body e =
        ap (λ l. l ++ drop (length old - tag_len) old) e
        ∙ append_assoc plain (drop (length text) (take (length old - tag_len) old)) (drop (length old - tag_len) old)
        ∙ ap (λ l. plain ++ l) (
        sym (drop-append-le (length text) (take (length old - tag_len) old) (drop (length old - tag_len) old) (omega
        (arith, length-drop start (take (length old - tag_len) old))))
        ∙ ap (drop (length text)) (take-append-drop (length old - tag_len) old)
        )
    kept_behind false body e = ap (λ l. l ++ drop (length old - tag_len) old) e ∙ take-append-drop (length old - tag_len) old

-- the length of a ciphertext before its tag
pub length-before_tag : (start : ℕ) (old : List ℕ) (m : ℕ) → m ≡ length old - tag_len - start
    → length (drop start (take (length old - tag_len) old)) ≡ m
length-before_tag start old m is =
    omega (
      arith,
      is,
      length-drop start (take (length old - tag_len) old),
      length-take-le (length old - tag_len) old
          (omega arith),
    )

-- after a step of a bound key, too, the answer is the length of the plaintext at the front, and the bytes after it are unchanged
pub step_fronts : {N : Type 0} (spent : N → List (List ℕ)) (is_closed : N
    → Bool) (was now : BoundState N) (aad : List ℕ) (start : ℕ) (old new : List ℕ)
    {E : Type 0} (m : ℕ) → m ≡ length old - tag_len - start → (answer : Result ℕ E)
    → OpenStep spent is_closed was now aad start old new (is_ok answer) → IfOk answer (λ n. n ≡ m)
    → Stands m old new answer
step_fronts _ _ _ _ _ start old new {E = E} m is (Ok n) (opened nonce accepts spends it) count =
    opened_fronts {E = E} (length-before_tag start old m is) (Ok n) it count
step_fronts _ _ _ _ _ start old new m is (Err e) (opened nonce accepts spends it) count = it.buffer
step_fronts _ _ _ _ _ start old new m is (Err e) (no_nonce closes same) count = same
