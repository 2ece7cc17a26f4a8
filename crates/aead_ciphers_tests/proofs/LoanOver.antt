-- A loan of the front of a buffer that is over.
--     tag                      the number of a result's variant
--     ok_at, err_at            which result a tag is of
--     after                    what the buffer ends as where the front isn't written
--     sized                    how long the front is
--     concludes, unchanged     what is said of the buffer at the return is said of it once the loan is over
--     let_go                   the result is let go: the buffer's last value
--     loan_ends                the same, and the buffer is back
use Rattle.aead_ciphers_base.proofs.WalkNames.{SProp, Ura, named, Val, of_list, ent, sep, ex, coded_list, Fml, Lft, GName, flft, fres, Logic, sem, Item, Seq, Goal, ‵, ◌⊛◌, some, later, pick, split, use3, ◌$◌, ◌∵◌, !, qed, move, keep, drop, use1, use2, await, fsplit, fpick, feq_l, rewrite, updating, now, show, check, done, RattleType, MutBor, Is, shows, MutSlice, mut_slice_vals, mut_slice_Lawful, peeks, drop_list}
use Rattle.std.proofs.Common.{◌≡◌, refl, sym, ap, subst, ◌∙◌, List, [], ◌∷◌, ◌++◌, ℕ, ◌-◌, length, take, arith, length-drop, length-take-le, Bool, true, false, Result, Ok, Err, is_ok, IfOk}
use mir.Syntax.{erased}
use base.Logic.{guard}
use base.Fraction.{full_share}
use types.Match.{live}
use types.Kit.{Soaks, given, learn}
use denote.Array.{Array}
use denote.Builtin.{u8}
use denote.Follow.{follows_by}
use denote.FollowSlice.{heres_id, slice_given_up}
use denote.Laws.{Typed}
use denote.Slice.{finally, res-finally}
use types.Tokens.{lft_end}
use borrow.Rule.Slice.Lend.{sl_relent_backˡ}
use native.Mathlib.Nat.{suc-ne-zero}
use Rattle.aead_ciphers_base.proofs.CounterModeLemmas.{length-counter_mode}
use Rattle.aead_ciphers.specs
use specs.Gcm.{gcm_decrypted}
use specs.Lending.{LendsFront, lent_buffer}
use Rattle.aead_ciphers.proofs
use proofs.Lending.{Out, Own, out_Lawful, as_slice}
use proofs.LendingWalk.{Buffer, kept, renamed, word}

module _ {A E : Type 0} where
  abbrev pub tag : Result A E → ℕ
  tag (Ok x) = 0
  tag (Err e) = 1

  pub ok_at : (r : Result A E) → tag r ≡ 0 → is_ok r ≡ true
  ok_at (Ok x) is = refl
  ok_at (Err e) is = absurd (suc-ne-zero 0 is)

  pub err_at : (r : Result A E) → tag r ≡ 1 → is_ok r ≡ false
  err_at (Ok x) is = absurd (suc-ne-zero 0 (sym is))
  err_at (Err e) is = refl

-- what a buffer s ends as, of which the first n bytes were lent
abbrev pub after : {E : Type 0} → List ℕ → ℕ → Result (MutBor (List ℕ)) E → List ℕ
after old n (Ok front) = front.now ++ drop_list n old
after old n (Err e) = old

lent_after : {E : Type 0} (old : List ℕ) (n : ℕ) (r : Result (MutBor (List ℕ)) E)
    → IfOk r (λ front. length front.now ≡ n)
    → lent_buffer r old ≡ after old n r
lent_after old n (Ok front) long = ap (λ k. front.now ++ drop_list k old) long
lent_after old n (Err e) long = refl

pub sized : {E : Type 0} (cipher : List ℕ → List ℕ) (nonce : List ℕ) (start : ℕ) (old : List ℕ) (r : Result (MutBor
    (List ℕ)) E)
    → IfOk r (λ front. front.now ≡ gcm_decrypted cipher nonce (drop_list start (take (length old - 16) old)))
    → IfOk r (λ front. length front.now ≡ length old - 16 - start)
sized cipher nonce start old (Ok front) is =
    let before = take (length old - 16) old in
    ap length is ∙ length-counter_mode cipher nonce 2 (drop_list start before) ∙ length-drop start before
    ∙ ap (λ k. k - start) (length-take-le (length old - 16) old (omega arith))
sized cipher nonce start old (Err e) is = tt

pub concludes : {E : Type 0} (P : Bool → List ℕ → Type 0) (old : List ℕ) (n : ℕ) (r : Result (MutBor (List ℕ)) E)
    (t : Bool) → is_ok r ≡ t
    → IfOk r (λ front. length front.now ≡ n) → P (is_ok r) (lent_buffer r old) → P t (after old n r)
concludes P old n r t is long said =
    subst (P t) (lent_after old n r long) (subst (λ b. P b (lent_buffer r old)) is said)

pub unchanged : {E : Type 0} (old : List ℕ) (n : ℕ) (r : Result (MutBor (List ℕ)) E) → is_ok r ≡ false
    → after old n r ≡ old
unchanged old n (Ok front) is = absurd (let h = is in cc)
unchanged old n (Err e) is = refl

module _ {M : Type 1} {𝓤 : Ura M} (𝓛 : Logic 𝓤) (κ : Lft) (s : MutBor (List ℕ)) (n : ℕ) (v : Val) where
  open 𝓛 use {H}

  abbrev Slice : RattleType
  Slice = MutSlice erased κ u8

  abbrev Owed : (Out Slice).Denot → Fml
  Owed r = LendsFront s r n

  abbrev Last : List ℕ → Fml
  Last xs = fres s.ghost_name ((coded_list u8.coded).code xs)

  abbrev End : (Out Slice).Denot → List Val → SProp 𝓤
  End r us = guard 𝓤 (v ∷ [] ≡ live (tag r) (of_list us) ∷ []) (sem 𝓛 (finally u8 s.ghost_name (after s.now n r)))

  pub let_go : (r : (Out Slice).Denot) → ent 𝓤 (sep 𝓤 (sem 𝓛 (Owed r)) (sem 𝓛 ((Out Slice).own_val r (v ∷ []))))
      (H.⇛ (ex 𝓤 (End r)))
  unfolding follows_by
  let_go (Ok front) =
      let last = front.now ++ drop_list n s.now in
      qed 𝓛 (‵ (Owed (Ok front)) ∷ ‵ ((Out Slice).own_val (Ok front) (v ∷ [])) ∷ []) ∵ updating ! $ move ! (1 ∷ []) $
      fpick ! (λ us. fsplit ! $ feq_l ! (λ told. fpick ! (λ vss. fsplit ! $ drop ! $ fsplit ! $ move ! (0 ∷ 2 ∷ []) $
      use2 𝓛 (later (given (vss.0 ≡ mut_slice_vals front) (‵ (Last last))))
      (slice_given_up 𝓛 (Array u8 0) u8 (λ w. w ++ drop_list n s.now) erased κ s.ghost_name front vss.0) $
      await ! tt $ learn ! (λ _.
      rewrite ! 0 (λ l. ‵ (Last l)) (sym (heres_id u8 last)) refl $
      use1 𝓛 (‵ (finally u8 s.ghost_name last)) (res-finally 𝓛 erased κ u8 s.ghost_name last) $
      keep ! (0 ∷ []) $ now ! $ show ! (End (Ok front)) us $ check ! told $ done !))))
  let_go (Err e) =
      qed 𝓛 (‵ (Owed (Err e)) ∷ ‵ ((Out Slice).own_val (Err e) (v ∷ [])) ∷ []) ∵ updating ! $ move ! (1 ∷ []) $
      fpick ! (λ us. fsplit ! $ feq_l ! (λ told. drop ! $
      rewrite ! 0 (λ l. ‵ (Last l)) (sym (heres_id u8 s.now)) refl $
      use1 𝓛 (‵ (finally u8 s.ghost_name s.now)) (res-finally 𝓛 erased κ u8 s.ghost_name s.now) $
      keep ! (0 ∷ []) $ now ! $ show ! (End (Err e)) us $ check ! told $ done !))

module _ {M : Type 1} {𝓤 : Ura M} (𝓛 : Logic 𝓤) (B : Buffer) (n : ℕ) where
  -- the buffer was lent for the lifetime α under the name δ, and the call answered r
  pub loan_ends : {K : Type 0} {Γ : List (Item 𝓤)} {G : Goal 𝓤 𝓛.H} → K → Soaks G → (α : ℕ) (δ : GName) (v : Val)
      → (let X = Out (MutSlice erased (α ∷ []) u8) in (r : X.Denot) → (let ys = after B.arg.now n r in
      ((us : List Val) → v ∷ [] ≡ live (tag r) (of_list us) ∷ [] → Typed X.mir (live (tag r) (of_list us) ∷ [])
      → length ys ≡ length B.arg.now
      → Seq K 𝓛 (‵ ((MutSlice (named B.name) B.lft u8).own_val (record B.arg { now = ys }) (word B))
      ∷ ‵ (flft B.lft B.share) ∷ Γ) G)
      → Seq K 𝓛 (‵ (LendsFront (renamed B δ) r n) ∷ ‵ (X.own_val r (v ∷ []))
      ∷ ‵ (flft (α ∷ []) full_share) ∷ kept 𝓛 B α δ ∷ Γ) G))
  loan_ends t soaks α δ v r k =
      let X = Out (MutSlice erased (α ∷ []) u8) in let κ = B.lft in let q = B.share in let b = B.arg.ref_ptr.0 in
      let o = B.arg.ref_ptr.1 in
      let γ = B.arg.ghost_name in let xs = B.arg.now in let ys = after xs n r in
      move t (1 ∷ []) $ peeks t X (Is X) (shows 𝓛 X) r (v ∷ []) (λ is-r. move t (1 ∷ 0 ∷ []) $
      use2 𝓛 (later (some (λ (us : List Val). given (v ∷ [] ≡ live (tag r) (of_list us) ∷ []) (‵ (finally u8 δ ys)))))
      (let_go 𝓛 (α ∷ []) (renamed B δ) n v r) $ await t soaks $ pick t (λ us. learn t (λ told.
      -- [its last value; the loan's token; what is kept]
      move t (1 ∷ []) $ lft_end t soaks $ move t (0 ∷ 2 ∷ 1 ∷ []) $
      use3 𝓛 (later (given (length ys ≡ length xs) (‵ (Own b o κ γ ys) ⊛ ‵ (flft κ q)))) (sl_relent_backˡ 𝓛 u8 κ q
      (α ∷ []) b o γ δ xs ys) $
      await t soaks $ learn t (λ same. split t $
      use1 𝓛 (‵ ((MutSlice (named B.name) κ u8).own_val (record B.arg { now = ys }) (word B)))
      (as_slice 𝓛 (named B.name) κ b o γ ys (length xs) same B.room) $
      k us told (subst (Typed X.mir) told ((out_Lawful 𝓛 (MutSlice erased (α ∷ []) u8) (mut_slice_Lawful 𝓛 erased
      (α ∷ []) u8)).typed r (v ∷ []) is-r)) same))))
