-- A part of a datagram is written in place, and the bytes outside it stay.
use Rattle.std.proofs.Common.{◌≡◌, ℕ, ◌+◌, ◌-◌, ◌≤◌, ◌++◌, inl, inr, List, length, get_or, take, drop, sym, ap, ◌∙◌, arith, get_or-take, length-drop, length-take-le, Ok, Err, Result, IfErr}
use Rattle.std.proofs.lemmas.List.{get_or-drop, take-append-drop}
use Rattle.std.proofs.lemmas.Slice.{between-put_mid, drop-put_mid, take-put_mid_below}
use borrow.Rule.Slice.PartMut.{put_mid}
use Rattle.quic_packets.specs.Datagram.{KeepsOutside}

whole : (start end : ℕ) (old part : List ℕ) → start ≤ end → end ≤ length old → length part ≡ length (take (end - start) (drop start old))
    → length part ≡ end - start
whole start end old part ordered within same =
    same ∙ length-take-le (end - start) (drop start old) (omega (arith, length-drop start old))

pub outside : (start end : ℕ) (old part : List ℕ) → start ≤ end → end ≤ length old → length part ≡ length (take (end - start) (drop start old))
    → KeepsOutside start end old (put_mid start (end - start) old part)
outside start end old part ordered within same i (inl before) =
    let new : List ℕ = put_mid start (end - start) old part in
    sym (get_or-take start new i 0 before)
    ∙ ap (λ xs. get_or xs i 0) (take-put_mid_below start (end - start) old part start (omega arith) (omega arith))
    ∙ get_or-take start old i 0 before
outside start end old part ordered within same i (inr after) =
    let len : length part ≡ end - start = whole start end old part ordered within same in
    let new : List ℕ = put_mid start (end - start) old part in
    let at : i ≡ end + (i - end) = omega arith in
    ap (λ k. get_or new k 0) at ∙ sym (get_or-drop end new (i - end) 0)
    ∙ ap (λ xs. get_or xs (i - end) 0) (drop-put_mid start (end - start) old part end (omega arith) (omega arith) len)
    ∙ get_or-drop end old (i - end) 0 ∙ ap (λ k. get_or old k 0) (sym at)

pub part_of : (start end : ℕ) (old part : List ℕ) → start ≤ end → end ≤ length old → length part ≡ length (take (end - start) (drop start old))
    → take (end - start) (drop start (put_mid start (end - start) old part)) ≡ part
part_of start end old part ordered within same =
    between-put_mid start (end - start) old part end (omega arith) (whole start end old part ordered within same)

put_back : (start n : ℕ) (old : List ℕ) → put_mid start n old (take n (drop start old)) ≡ old
put_back start n old =
    ap (λ (xs : List ℕ). take start old ++ xs) (take-append-drop n (drop start old)) ∙ take-append-drop start old

-- If an error leaves the part as it was, it leaves the whole as it was.
pub kept : {T E : Type 0} (P : E → Type 0) (start n : ℕ) (old part : List ℕ) (result : Result T E)
    → IfErr result (λ e. P e → part ≡ take n (drop start old)) → IfErr result (λ e. P e → put_mid start n old part ≡ old)
kept P start n old part (Ok x) same = tt
kept P start n old part (Err e) same = λ is. ap (λ (xs : List ℕ). put_mid start n old xs) (same is) ∙ put_back start n old
