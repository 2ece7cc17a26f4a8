-- A part of a slice is lent: its front, or what comes after an item. Assumes `Logic`.
--     lends_front, lends_back      the slice becomes the part and what the slice follows
use Rattle.aead_ciphers_base.proofs.WalkNames.{◌≡◌, refl, sym, ap, ◌∙◌, List, [], ◌∷◌, ◌++◌, ℕ, ◌+◌, ◌-◌, ◌*◌, ◌^◌, ◌<◌, ◌≤◌, arith, length, take, drop_list, length-drop, length-append, take-append-drop, Ura, named, Val, SProp, ent, sep, ex, coded_list, Fml, Lft, GName, Share, flft, fobs, fbor, size, Logic, sem, open_ref, Item, ‵, ◌⊛◌, some, later, ◌$◌, ◌∵◌, !, qed, move, drop, split, split3, group, fsplit, fsplit3, fjoin, feq_l, feq_i, use1, use2, await, pick, rewrite, done, updating, now, show, cells, Arr, Body, Items, follows, mem, param, layout, RattleType, MutBor, MutSlice, Room, slice_val}
use native.Mathlib.Nat.{mul-le-mul_right}
use base.Stored.{Gv}
use types.Follow.{takes_part}
use denote.FollowSlice.{heres_id, slice_of}
use borrow.Table.Elements.{at, at_mul, cut_app, join_app, length-take-le}

module _ (X : RattleType) {M : Type 1} {𝓤 : Ura M} (𝓛 : Logic 𝓤) (κ : Lft) (q : Share) (s : MutBor (List X.Denot)) where
  open 𝓛 use {H, A}

  abbrev R : RattleType
  R = param 0 X

  abbrev S : RattleType
  S = MutSlice (named 0) κ R

  abbrev xs : List X.Denot
  xs = s.now

  abbrev b : ℕ
  b = s.ref_ptr.0

  abbrev o : ℕ
  o = s.ref_ptr.1

  abbrev code : List X.Denot → Gv
  code = (coded_list R.coded).code

  abbrev elements : List X.Denot → ℕ → Fml
  elements ws = cells (mem R) ws b

  abbrev Owns : ℕ → List X.Denot → ℕ → Fml
  Owns k ws p = (Arr (mem R) k).own_at ws b p

  -- the part that is lent, at p
  module _ (part : List X.Denot) (after : List X.Denot → List X.Denot) where
    abbrev pub Part : ℕ → ℕ → GName → Fml
    Part p k δ = S.own_val (record { ref_ptr = (b, p); ghost_name = δ; now = part }) (slice_val (b, p) k ∷ [])

    abbrev pub Lent : ℕ → ℕ → GName → SProp 𝓤
    Lent p k δ = sep 𝓤 (sem 𝓛 (Part p k δ)) (sep 𝓤 (A.lft κ q) (sem 𝓛 (follows (Items R 0) (Items R 0) s.ghost_name δ after)))

    abbrev pub lent : ℕ → ℕ → GName → Item 𝓤
    lent p k δ = ‵ (Part p k δ) ⊛ ‵ (flft κ q) ⊛ ‵ (follows (Items R 0) (Items R 0) s.ghost_name δ after)

    lends : (p p' k : ℕ) (Rest : Fml) → ((ws : List X.Denot) → ent 𝓤 (sep 𝓤 (sem 𝓛 (Owns (length part) ws p)) (sem 𝓛 Rest)) (sem 𝓛 (Owns (length xs)
        (after ws) o)))
        → ent 𝓤 (sem 𝓛 (elements xs o)) (sep 𝓤 (sem 𝓛 (elements part p)) (sem 𝓛 Rest)) → p ≡ p' → length part ≡ k → length part ≤ length xs
        → Room R (length xs) → (vs : List Val) → ent 𝓤 (sep 𝓤 (sem 𝓛 (S.own_val s vs)) (A.lft κ q)) (H.⇛ (ex 𝓤 (Lent p' k)))
    lends p p' k Rest put cut place count fits rm vs =
        let bytes : length part * size (layout X) ≤ length xs * size (layout X) = mul-le-mul_right (size (layout X)) fits in
        let fit : length xs * size (layout X) < 2 ^ 63 = rm.1 in let long : length xs < 2 ^ 64 = rm.0 in
        let room : Room R (length part) = (omega arith, omega arith) in
        qed 𝓛 (‵ (S.own_val s vs) ∷ ‵ (flft κ q) ∷ []) ∵ updating ! $ fsplit3 ! $ drop ! $
        rewrite ! 0 (λ (l : List X.Denot). ‵ (fobs s.ghost_name (code l))) (heres_id R xs) refl $
        open_ref ! tt (Arr (mem R) (length xs)) {b = b} {o = o} $
        fsplit ! $ drop ! $ use1 𝓛 (‵ (elements part p) ⊛ ‵ Rest) cut $ split ! $ feq_i ! ℕ (length part) (length part) refl $ fjoin ! $
        move ! (2 ∷ 3 ∷ 4 ∷ 0 ∷ 1 ∷ []) $ group ! 5 $
        use1 𝓛 (later (some (λ (δ : GName). ‵ (fobs δ (code part)) ⊛ ‵ (fbor κ (Body (Arr (mem R) (length part)) b p δ)) ⊛ ‵ (flft κ q)
        ⊛ ‵ (follows (Items R 0) (Items R 0) s.ghost_name δ after))))
        (takes_part 𝓛 (Arr (mem R) (length xs)) (Arr (mem R) (length part)) after κ q b o b p s.ghost_name
        (sem 𝓛 Rest) put (code xs) (code xs) part) $
        await ! tt $ pick ! (λ δ. split3 ! $ use2 𝓛 (‵ (Part p (length part) δ)) (slice_of 𝓛 R (named 0) κ b p δ part room) $
        rewrite ! 0 (λ (e : ℕ × ℕ). ‵ (Part e.0 e.1 δ)) (λ i. (place i, count i)) refl $ now ! $ show ! (Lent p' k) δ $ done !)

  module _ (m : ℕ) where
    abbrev pub front : List X.Denot
    front = take m xs

    abbrev pub back : List X.Denot
    back = drop_list m xs

    abbrev past : ℕ → ℕ
    past = at o (mem R).size

    whole-long : length xs ≡ length front + length back
    whole-long = ap length (sym (take-append-drop m xs)) ∙ length-append front back

    cut : ent 𝓤 (sem 𝓛 (elements xs o)) (sep 𝓤 (sem 𝓛 (elements front o)) (sem 𝓛 (elements back (past (length front)))))
    cut = qed 𝓛 (‵ (elements xs o) ∷ []) ∵ rewrite ! 0 (λ (l : List X.Denot). ‵ (elements l o)) (sym (take-append-drop m xs)) refl $
        use1 𝓛 (‵ (elements front o) ⊛ ‵ (elements back (past (length front)))) (cut_app 𝓛 (mem R) front back b o) $ split ! $ done !

    joined : (fs bs : List X.Denot) → length fs + length bs ≡ length xs
        → ent 𝓤 (sep 𝓤 (sem 𝓛 (elements fs o)) (sem 𝓛 (elements bs (past (length fs))))) (sem 𝓛 (Owns (length xs) (fs ++ bs) o))
    joined fs bs e = qed 𝓛 (‵ (elements fs o) ∷ ‵ (elements bs (past (length fs))) ∷ []) ∵
        use2 𝓛 (‵ (elements (fs ++ bs) o)) (join_app 𝓛 (mem R) fs bs b o) $
        feq_i ! ℕ (length (fs ++ bs)) (length xs) (length-append fs bs ∙ e) $ fjoin ! $ done !

    put_front : (ws : List X.Denot) → ent 𝓤 (sep 𝓤 (sem 𝓛 (Owns (length front) ws o)) (sem 𝓛 (elements back (past (length front)))))
        (sem 𝓛 (Owns (length xs) (ws ++ back) o))
    put_front ws = qed 𝓛 (‵ (Owns (length front) ws o) ∷ ‵ (elements back (past (length front))) ∷ []) ∵ fsplit ! $ feq_l ! (λ e.
        rewrite ! 1 (λ (k : ℕ). ‵ (elements back (past k))) (sym e) refl $
        use2 𝓛 (‵ (Owns (length xs) (ws ++ back) o)) (joined ws back (ap (λ k. k + length back) e ∙ sym whole-long)) $ done !)

    put_back : (ws : List X.Denot) → ent 𝓤 (sep 𝓤 (sem 𝓛 (Owns (length back) ws (past (length front)))) (sem 𝓛 (elements front o)))
        (sem 𝓛 (Owns (length xs) (front ++ ws) o))
    put_back ws = qed 𝓛 (‵ (Owns (length back) ws (past (length front))) ∷ ‵ (elements front o) ∷ []) ∵ fsplit ! $ feq_l ! (λ e.
        move ! (1 ∷ []) $ use2 𝓛 (‵ (Owns (length xs) (front ++ ws) o)) (joined front ws (ap (λ k. length front + k) e ∙ sym whole-long)) $ done !)

    cut_back : ent 𝓤 (sem 𝓛 (elements xs o)) (sep 𝓤 (sem 𝓛 (elements back (past (length front)))) (sem 𝓛 (elements front o)))
    cut_back = qed 𝓛 (‵ (elements xs o) ∷ []) ∵ use1 𝓛 (‵ (elements front o) ⊛ ‵ (elements back (past (length front)))) cut $
        split ! $ move ! (1 ∷ []) $ done !

    pub lends_front : m ≤ length xs → Room R (length xs) → (vs : List Val)
        → ent 𝓤 (sep 𝓤 (sem 𝓛 (S.own_val s vs)) (A.lft κ q)) (H.⇛ (ex 𝓤 (Lent front (λ ws. ws ++ back) o m)))
    lends_front fits rm vs =
        let count : length front ≡ m = length-take-le m xs fits in
        lends front (λ ws. ws ++ back) o o m (elements back (past (length front))) put_front cut refl count (omega arith) rm vs

    pub lends_back : m ≤ length xs → Room R (length xs) → (vs : List Val)
        → ent 𝓤 (sep 𝓤 (sem 𝓛 (S.own_val s vs)) (A.lft κ q)) (H.⇛ (ex 𝓤 (Lent back (λ ws. front ++ ws) (m * size (layout X) + o) (length xs - m))))
    lends_back fits rm vs =
        let count : length back ≡ length xs - m = length-drop m xs in
        let place : past (length front) ≡ m * size (layout X) + o = at_mul o (mem R).size (length front)
        ∙ ap (λ (k : ℕ). k * size (layout X) + o) (length-take-le m xs fits) in
        lends back (λ ws. front ++ ws) (past (length front)) (m * size (layout X) + o) (length xs - m)
        (elements front o) put_back cut_back place count
        (omega arith) rm vs
