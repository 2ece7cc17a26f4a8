-- Inner plaintexts (RFC 8446 section 5.4).
use Rattle.std.proofs.Common.{◌≡◌, ◌≢◌, ℕ, suc, ◌+◌, ◌-◌, ◌<◌, List, [], ◌∷◌, ◌++◌, length, get_or, take, drop, replicate, refl, sym, ◌∙◌, arith, ext_get_or, get_or-drop, length-append, length-drop, take-append-drop}
use Rattle.std.proofs.lemmas.List.{drop_more, get_or-replicate, length-replicate}
use Rattle.records.specs
use specs.Record.{Inner, IsAllowed, inner_plaintext, plaintext, type_code}
use specs.Refusals.{RefusesInner}
use specs.declared.content_type.ContentType.{ContentType}
use specs.declared.content_type.ContentType.TheVariants.{Alert, Handshake, ApplicationData}
use specs.declared.record_error.RecordError.{RecordError}
use specs.declared.record_error.RecordError.TheVariants.{AlertLength, EmptyContent, NoContentType, UnexpectedType}

-- a list whose elements after index n are zero
pub zeros_behind : (xs : List ℕ) (n : ℕ) → n < length xs → ((k : ℕ) → n < k → k < length xs → get_or xs k 0 ≡ 0)
    → xs ≡ take n xs ++ get_or xs n 0 ∷ replicate (length xs - (n + 1)) 0
zeros_behind xs n h zeros =
    let size = length-drop (n + 1) xs in
    let none : drop (n + 1) xs ≡ replicate (length xs - (n + 1)) 0 = ext_get_or 0 _ _ (size ∙ sym (length-replicate _ 0)) (λ k l.
    get_or-drop (n + 1) xs k 0 ∙ zeros (n + 1 + k) (omega arith) (omega arith) ∙ sym (get_or-replicate _ k 0 0 (omega arith))) in
    sym (take-append-drop n xs) ∙ rw (drop_more xs n 0 h, none)

pub length-plaintext : (content : List ℕ) (code padding : ℕ) → length (plaintext content code padding) ≡ length content + 1 + padding
length-plaintext content code padding = simp (length-append, length-replicate) (omega arith)

typed : (t : ContentType) → type_code t ≢ 0
typed Alert e = absurd (omega arith)
typed content_type e = absurd (omega arith)

same_type : (s t : ContentType) → type_code s ≡ type_code t → s ≡ t
same_type Alert Alert e = refl
same_type Handshake Handshake e = refl
same_type ApplicationData ApplicationData e = refl
same_type s t e = absurd (omega arith)

-- an inner plaintext is all zeros only if its type is zero
zeros_type : (content : List ℕ) (content_type padding n : ℕ) → content ++ content_type ∷ replicate padding 0 ≡ replicate n 0 → content_type ≡ 0
zeros_type [] content_type padding (suc n) e = cc
zeros_type (x ∷ content) content_type padding (suc n) e = zeros_type content content_type padding n (cc)
zeros_type content content_type padding n e = cc

same_parts : (xs ys : List ℕ) (s t m n : ℕ) → s ≢ 0 → t ≢ 0 → xs ++ s ∷ replicate m 0 ≡ ys ++ t ∷ replicate n 0 → (s ≡ t) × (xs ≡ ys)
same_parts [] [] s t m n p q e = (cc, refl)
same_parts (x ∷ xs) (y ∷ ys) s t m n p q e = let same = same_parts xs ys s t m n p q (cc) in (same.0, cc)
same_parts [] (y ∷ ys) s t m n p q e = absurd (q (zeros_type ys t n m (cc)))
same_parts (x ∷ xs) [] s t m n p q e = absurd (p (zeros_type xs s m n (cc)))

-- an inner plaintext has one type and one content
pub same_inner : (i j : Inner) → inner_plaintext i ≡ inner_plaintext j → (i.content_type ≡ j.content_type) × (i.content ≡ j.content)
same_inner i j e =
    let same = same_parts i.content j.content (type_code i.content_type) (type_code j.content_type) i.padding j.padding
    (typed i.content_type) (typed j.content_type) e in
    (same_type i.content_type j.content_type same.0, same.1)

-- what may be sent isn't refused
pub allowed_not_refused : (size_limit : ℕ) (i : Inner) (error : RecordError)
    → IsAllowed size_limit i.content_type (length i.content) i.padding → RefusesInner (inner_plaintext i) error → ⊥
allowed_not_refused size_limit i NoContentType allowed r =
    typed i.content_type (zeros_type i.content (type_code i.content_type) i.padding (length (inner_plaintext i)) r)
allowed_not_refused size_limit i UnexpectedType allowed r =
    r.4 i.content_type (same_parts i.content r.0 (type_code i.content_type) r.1 i.padding r.2 (typed i.content_type) r.3 r.5).0
allowed_not_refused size_limit i EmptyContent allowed r =
    let same = same_parts i.content [] (type_code i.content_type) (type_code r.0) i.padding r.1 (typed i.content_type) (typed r.0) r.3 in
    let none : length i.content ≡ 0 = rw same.1 refl in
    r.2 (sym (same_type i.content_type r.0 same.0) ∙ allowed.nonempty none)
allowed_not_refused size_limit i AlertLength allowed r =
    let same = same_parts i.content r.0 (type_code i.content_type) (type_code Alert) i.padding r.1 (typed i.content_type) (typed Alert) r.4 in
    let two : length i.content ≡ 2 = allowed.alert (same_type i.content_type Alert same.0) in
    r.3 (rw (← same.1) two)
allowed_not_refused size_limit i error allowed r = r
