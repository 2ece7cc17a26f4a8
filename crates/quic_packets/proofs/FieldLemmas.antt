-- Writing fields into a buffer one after another writes them as one field.
use Rattle.std.proofs.Common.{◌≡◌, ℕ, zero, suc, refl, ◌+◌, ◌≤◌, List, ◌++◌, length, take, drop, sym, ap, ◌∙◌, arith, append_assoc, drop_at, length-append, length-take-le, take_at, zero-add}
use Rattle.std.proofs.lemmas.List.{drop-drop}
use Rattle.std.specs.Int.{bytes_high_first}
use Rattle.quic_packets.specs.HeaderBytes.{with_field}

-- Two adjacent fields that are written are one.
pub both : (at next : ℕ) (xs ys buffer : List ℕ) → at ≤ length buffer → next ≡ at + length xs
    → with_field next ys (with_field at xs buffer) ≡ with_field at (xs ++ ys) buffer
both at next xs ys buffer within is =
    let front : List ℕ = take at buffer ++ xs in
    let rest : List ℕ = drop (at + length xs) buffer in
    let whole : with_field at xs buffer ≡ front ++ rest = sym (append_assoc (take at buffer) xs rest) in
    let len : length front ≡ next = length-append (take at buffer) xs ∙ omega (arith, is, length-take-le at buffer within) in
    let end : at + length (xs ++ ys) ≡ at + length xs + length ys = omega (arith, length-append xs ys) in
    rw (whole, take_at front rest next len, ← drop-drop (length ys) next (front ++ rest), drop_at front rest next len)
    (rw (drop-drop (length ys) (at + length xs) buffer, end) (simp append_assoc))

pub length-high_first : (k n : ℕ) → length (bytes_high_first k n) ≡ k
length-high_first zero n = refl
length-high_first (suc k) n = ap suc (length-high_first k n)

-- a field that comes after those at the front
pub next_field : (front field was buffer new : List ℕ) (at : ℕ) → buffer ≡ with_field 0 front was → at ≡ length front
    → new ≡ with_field at field buffer → new ≡ with_field 0 (front ++ field) was
next_field front field was buffer new at is end written =
    written ∙ ap (with_field at field) is ∙ both 0 at front field was (omega arith) (omega arith)

-- fields at the front
pub at_front : (field was : List ℕ) → with_field 0 field was ≡ field ++ drop (length field) was
at_front field was = ap (λ n. field ++ drop n was) (zero-add (length field))

-- the five fields of a long header
pub five_fields : (first id source token len was b1 b2 b3 b4 b5 : List ℕ) (a1 a2 a3 a4 : ℕ) → b1 ≡ with_field 0 first was → a1 ≡ length first
    → b2 ≡ with_field a1 id b1 → a2 ≡ a1 + length id → b3 ≡ with_field a2 source b2 → a3 ≡ a2 + length source → b4 ≡ with_field a3 token b3
    → a4 ≡ a3 + length token → b5 ≡ with_field a4 len b4
    → b5 ≡ (first ++ id ++ source ++ token ++ len) ++ drop (length (first ++ id ++ source ++ token ++ len)) was
five_fields first id source token len was b1 b2 b3 b4 b5 a1 a2 a3 a4 w1 e1 w2 e2 w3 e3 w4 e4 w5 =
    let l2 : length (first ++ id) ≡ a2 = length-append first id ∙ omega arith in
    let l3 : length (first ++ id ++ source) ≡ a3 = length-append (first ++ id) source ∙ omega arith in
    let l4 : length (first ++ id ++ source ++ token) ≡ a4 = length-append (first ++ id ++ source) token ∙ omega arith in
    let with_id = next_field first id was b1 b2 a1 w1 e1 w2 in
    let with_source = next_field (first ++ id) source was b2 b3 a2 with_id (sym l2) w3 in
    let with_token = next_field (first ++ id ++ source) token was b3 b4 a3 with_source (sym l3) w4 in
    next_field (first ++ id ++ source ++ token) len was b4 b5 a4 with_token (sym l4) w5
    ∙ at_front (first ++ id ++ source ++ token ++ len) was
