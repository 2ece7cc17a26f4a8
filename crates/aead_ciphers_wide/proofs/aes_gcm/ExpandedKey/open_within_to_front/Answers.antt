use Rattle.std.proofs.Common.{◌≡◌, ◌∙◌, ℕ, ◌+◌, ◌-◌, ◌<◌, List, ◌++◌, length, take, drop, Bool, false, Result, Ok, Err, is_ok, IfOk, refl, sym, subst, ap, ap₂, arith, rules, length-drop, length-take-le, take-append-drop}
use Rattle.std.specs.Prelude.{IsErr, IsTrue, OnErr}
use Rattle.aead_ciphers_base.specs.Aes.{aes}
use Rattle.aead_ciphers_base.specs.Values.{aad_bytes}
use Rattle.aead_ciphers.specs.Gcm.{Fits, Opened, OpenedAttached}
use Rattle.aead_ciphers.proofs.LentPlaintext.{attached}
use Rattle.aead_ciphers_wide.specs.ExpandedKey.{bytes_of}
use Rattle.aead_ciphers_wide.proofs.aes_gcm.ExpandedKey.open_within_to_front.Goals as goal

-- A buffer in two parts, of which the second is the tag.
module _ (old before tag : List ℕ) (is_before : before ≡ take (length old - 16) old) (is_tag : tag ≡ drop (length old - 16) old)
    (size : length before + 16 ≡ length old) where
  whole : before ++ tag ≡ old
  whole = ap₂ (λ x y. x ++ y) is_before is_tag ∙ take-append-drop (length old - 16) old

  -- what is opened before the tag is opened in the buffer
  opens : (cipher : List ℕ → List ℕ) (nonce aad received : List ℕ) (start : ℕ) (accepts : Bool) (new : List ℕ) → received ≡ tag
      → Opened cipher nonce aad received start before accepts new → OpenedAttached cipher nonce aad start old accepts (new ++ tag)
  opens cipher nonce aad received start accepts new is_received opened =
      let front = take (length old - 16) old in
      subst (λ t. OpenedAttached cipher nonce aad start old accepts (new ++ t)) (sym is_tag)
      (attached cipher nonce aad start old accepts new (omega arith)
      (subst (λ t. Opened cipher nonce aad t start front accepts new) (is_received ∙ is_tag)
      (subst (λ b. Opened cipher nonce aad received start b accepts new) is_before opened)))

  -- lengths that exceed the limits are refused
  refuses : (cipher : List ℕ → List ℕ) (nonce aad shown : List ℕ) (start len : ℕ) → shown ≡ aad → len ≡ length before - start
      → (Fits (length shown) len → IsTrue false) → OpenedAttached cipher nonce aad start old false (before ++ tag)
  refuses cipher nonce aad shown start len is_aad is_len unfit =
      let n = length old - 16 in
      let text : length (drop start (take n old)) ≡ len = omega (arith, length-drop start (take n old), length-take-le n old (omega arith)) in
      record {
        accepted = (
          λ yes. absurd (cc),
          λ is. unfit (record { aad = omega (arith, is.1.aad, ap length is_aad); message = omega (arith, is.1.message, text) }),
        );
        buffer = whole;
      }

  -- and a start past the end
  refuses_start : (cipher : List ℕ → List ℕ) (nonce aad : List ℕ) (start : ℕ) → length before < start
      → OpenedAttached cipher nonce aad start old false (before ++ tag)
  refuses_start cipher nonce aad start past = record { accepted = (λ yes. absurd (cc), λ is. absurd (omega (arith, is.0))); buffer = whole }

  counts : {E : Type 0} (start : ℕ) (result : Result ℕ E) → IfOk result (λ n. n ≡ length before - start)
      → IfOk result (λ n. n ≡ length old - 16 - start)
  counts start (Ok n) is = omega (arith, is)
  counts start (Err e) is = tt

  kept : {E : Type 0} (cipher : List ℕ → List ℕ) (nonce aad received : List ℕ) (start : ℕ) (new : List ℕ) (result : Result ℕ E)
      → Opened cipher nonce aad received start before (is_ok result) new → OnErr result (new ≡ before)
  kept cipher nonce aad received start new (Ok n) opened = tt
  kept cipher nonce aad received start new (Err e) opened = opened.buffer

  unchanged : {E : Type 0} (new : List ℕ) (result : Result ℕ E) → OnErr result (new ≡ before) → OnErr result (new ++ tag ≡ old)
  unchanged new (Ok n) is = tt
  unchanged new (Err e) is = ap (λ x. x ++ tag) is ∙ whole

-- a buffer that is shorter than a tag is refused
refuses_short : {E : Type 0} (result : Result ℕ E) (cipher : List ℕ → List ℕ) (nonce aad : List ℕ) (start : ℕ) (old : List ℕ) → IsErr result
    → length old < 16 → OpenedAttached cipher nonce aad start old (is_ok result) old
refuses_short (Ok n) cipher nonce aad start old err short = absurd (cc)
refuses_short (Err e) cipher nonce aad start old err short = record {
  accepted = (λ yes. absurd (cc), λ is. absurd (omega (arith, is.0)));
  buffer = refl;
}

pub returns-in_default-clause-opened : goal.returns-in_default-clause-opened
returns-in_default-clause-opened c =
    let parts = rw c.in_ok-in_out.ensures.ok_part at c.split_last_chunk_mut.ensures.cases in
    refuses c.args.in_out.now c.in_ok-in_out.before_tag.now c.in_ok-in_out.tag.now parts.0 parts.1 parts.2
    (aes (bytes_of c.args.self.now)) c.args.nonce (aad_bytes c.args.aad) _ c.args.ciphertext_and_tag.start _
    c.as_ref.ensures c.in-Some.ensures.1 c.if-fits.ensures.1

pub returns-in_ok-in_out-clause-opened : goal.returns-in_ok-in_out-clause-opened
returns-in_ok-in_out-clause-opened c =
    let parts = rw c.in_ok-in_out.ensures.ok_part at c.split_last_chunk_mut.ensures.cases in
    refuses_start c.args.in_out.now c.in_ok-in_out.before_tag.now c.in_ok-in_out.tag.now parts.0 parts.1 parts.2
    (aes (bytes_of c.args.self.now)) c.args.nonce (aad_bytes c.args.aad) c.args.ciphertext_and_tag.start (search rules)

pub returns-in_err-in_out-clause-opened : goal.returns-in_err-in_out-clause-opened
returns-in_err-in_out-clause-opened c =
    refuses_short c.from_residual.result (aes (bytes_of c.args.self.now)) c.args.nonce (aad_bytes c.args.aad) c.args.ciphertext_and_tag.start
    c.args.in_out.now c.from_residual.ensures.0 (rw c.in_err-in_out.ensures.ok_part at c.split_last_chunk_mut.ensures.cases)

pub returns-in-Some-clause-count : goal.returns-in-Some-clause-count
returns-in-Some-clause-count c =
    let parts = rw c.in_ok-in_out.ensures.ok_part at c.split_last_chunk_mut.ensures.cases in
    counts c.args.in_out.now c.in_ok-in_out.before_tag.now c.in_ok-in_out.tag.now parts.0 parts.1 parts.2
    c.args.ciphertext_and_tag.start c.open_fitting_with.result c.open_fitting_with.ensures.count

pub returns-in-Some-clause-refused : goal.returns-in-Some-clause-refused
returns-in-Some-clause-refused c =
    let parts = rw c.in_ok-in_out.ensures.ok_part at c.split_last_chunk_mut.ensures.cases in
    let before = c.in_ok-in_out.before_tag.now in
    let tag = c.in_ok-in_out.tag.now in
    unchanged c.args.in_out.now before tag parts.0 parts.1 parts.2 c.open_fitting_with.new.in_out c.open_fitting_with.result
    (kept c.args.in_out.now before tag parts.0 parts.1 parts.2 _ _ _ _ _ _ _ c.open_fitting_with.ensures.opened)

pub returns-in-Some-clause-opened : goal.returns-in-Some-clause-opened
returns-in-Some-clause-opened c =
    let parts = rw c.in_ok-in_out.ensures.ok_part at c.split_last_chunk_mut.ensures.cases in
    let before = c.in_ok-in_out.before_tag.now in
    let start = c.args.ciphertext_and_tag.start in
    opens c.args.in_out.now before c.in_ok-in_out.tag.now parts.0 parts.1 parts.2
    (aes (bytes_of c.args.self.now)) c.args.nonce (aad_bytes c.args.aad) _ start _ c.open_fitting_with.new.in_out
    c.from-tag.ensures
    (subst (λ key. Opened (aes key) c.args.nonce (aad_bytes c.args.aad) c.from-tag.result start before
    (is_ok c.open_fitting_with.result) c.open_fitting_with.new.in_out) c.aes-aes.ensures c.open_fitting_with.ensures.opened)
