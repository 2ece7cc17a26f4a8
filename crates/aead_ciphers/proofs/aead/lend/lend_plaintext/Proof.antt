-- `lend_plaintext` lends the front of a slice, or lets it go. The borrow checker shows no write-back clause for a
-- slice that lends a slice, so this proof walks the code by hand; brackets name the entries of the context, as the base
-- crate's `Walks` says.
use Rattle.aead_ciphers_base.proofs
use proofs.WalkNames.{◌≡◌, refl, sym, ap, ◌∙◌, List, [], ◌∷◌, ◌++◌, ℕ, ◌^◌, ◌<◌, arith, length, take, drop_list, take-append-drop, Ura, named, Val, vstruct, vnil, of_list, flft, Logic, Sq, prop, ‵, raw, some, later, ◌$◌, ◌∵◌, !, qed, move, keep, split3, use1, use2, await, pick, whole, sub, agg, stop, fld, from, hop, lit, of_opd, addr, and_then, first, exec, returns, alloc_all, pass_all, free_all, look_at, look_in_at, get, get_in, sets, env, fact, usize, Is, MutBor, MutSlice, Room, slice_val, mut_slice_vals, nothing, heard, rewrite, follows, Items, RattleType, Stays, Ok, Err}
use proofs.Walks.{dropped, goes, spreads, slice_typed, tell, tells, says, ends}
use proofs.WalkLocals.{alone, both}
use proofs.ViewWalks.{usize_laws, usize_told, ok_of, err_of, let_go}
use proofs.LentParts.{lent, lends_front}
use native.Mathlib.Nat.{suc-ne-zero}
use borrow.Table.Elements.{length-take-le}
use contract.Lifetimes.{Lfts, Shares}
use contract.Running.{Running, tables}
use Rattle.std.proofs.Common.{lit<, is_ok, true, false}
use prog.Model.{Model}
use prog.Wp.{WpFn}
use types.ByLocal.{get_tag, sets_last}
use types.Kit.{at_ret}
use types.Match.{live, vrt, by_variants, in_variant}
use types.Run.{enter}
use denote.Builtin.{u8}
use denote.Follow.{follows_by}
use denote.Laws.{Typed}
use denote.Slice.{mut_slice_Tells}
use denote.Steps.{owned}
use denote.Struct.Struct.{Struct, Struct-Makes}
use denote.Triple.Entry.{Vals, on_entry}
use denote.Triple.Statement.{Contract}
use denote.Triple.Walked.{walk_of}
use Rattle.std.proofs.raw_atomic.Walks.{proved}
use Rattle.aead_ciphers.proofs.Lending.{Answer, answer_Lawful, Out}
use Rattle.aead_ciphers.specs
use specs.Lending.{LendsFront, Stands}
use denote.Enum.Laws as EL
use denote.Struct.Declared as Declared
use Rattle.std.proofs.result.Result.TheLaws as RL
use Rattle.std.specs.contracts.result.Result as RS
use proofs.error.Unspecified.TheLaws as UL
use Rattle.aead_ciphers_base.specs.contracts.error.Unspecified as US
use Rattle.aead_ciphers.proofs.aead.lend.lend_plaintext as P
use specs.contracts.aead.lend.lend_plaintext as F

abbrev laws : EL.Laws (RS.the_type usize US.the_row)
laws = RL.the_laws usize US.the_row usize_laws UL.the_row_laws usize_told UL.the_told

abbrev word : Answer.Denot → Val
word = EL.val (RS.the_type usize US.the_row) laws

abbrev hs : Stays F.ended.signature.params F.ended.kept
hs = dropped F.ended.signature.params F.ended.kept

-- the list is its front, which is lent, and the rest
whole_of : (old now : List ℕ) (n m : ℕ) → length (take n now) ≡ m → drop_list n now ≡ drop_list m old
    → now ≡ take n now ++ drop_list (length (take n now)) old
whole_of old now n m long rest =
    sym (take-append-drop n now) ∙ ap (λ l. take n now ++ l) (rest ∙ ap (λ k. drop_list k old) (sym long))

module _ {M : Type 1} {𝓤 : Ura M} (𝓛 : Logic 𝓤) (𝓜 : Model 𝓤 𝓛.H) (𝓡 : Running 𝓤 𝓛.H 𝓜) (κs : Lfts 1) (qs : Shares 1)
    (s : MutBor (List ℕ)) (rm : Room u8 (length s.now)) (old : List ℕ) (m : ℕ) where
  abbrev W : Contract 𝓤
  W = walk_of 𝓛 F.ended hs (F.clauses 𝓛 𝓜.mem 𝓡.returns)

  abbrev y : Answer.Denot → W.Ghost
  y x = ((κs, qs, tt, (s, (x, tt)), (mut_slice_vals s, (word x ∷ [], tt))), (old, m))

  abbrev Slice : RattleType
  Slice = MutSlice (named 0) κs.0 u8

  walks : (x : Answer.Denot) → Stands m old s.now x → Typed Answer.mir (word x ∷ []) → (let 𝓣 =
      tables 𝓤 𝓛.H 𝓜 𝓡 𝓡.env in
      Sq 𝓛 (‵ (Slice.own_val s (mut_slice_vals s)) ∷ ‵ (flft κs.0 qs.0) ∷ [])
      (prop (WpFn 𝓤 𝓛.H 𝓣.C 𝓣.Λ P.Code.function (slice_val s.ref_ptr (length s.now) ∷ word x ∷ []) (W.post (y x)))))
  unfolding follows_by
  walks (Ok n) (same, le, rest) typed =
      let 𝓣 = tables 𝓤 𝓛.H 𝓜 𝓡 𝓡.env in let fits = typed.0.1.1.0 in let total : length s.now < 2 ^ 64 = rm.0 in
      let front = take n s.now in let v = slice_val s.ref_ptr n in let w = live 0 (of_list (v ∷ [])) in
      let of-v = slice_typed s.ref_ptr n (omega (arith, le, total)) in
      let long : length front ≡ m = length-take-le n s.now le ∙ same in
      enter ! _ _ _ _ _ $ alloc_all ! (λ l. pass_all ! refl (slice_typed s.ref_ptr (length s.now) rm.0, (typed.0, tt)) $
      first ! $ by_variants ! 12 (whole !) (get_tag ! (vrt ! refl (fld ! refl (stop !))) (whole !)) tt (
        (λ _. sets ! (of_opd ! (get_in ! (vrt ! refl (fld ! refl (stop !))) (in_variant ! 0 0 refl refl
            (whole !)))) refl (tt, fits) $
            sets ! (addr ! (from ! (fld ! refl (hop ! (look_in_at ! 1 (sub ! 0 refl (whole !))) (stop !))))) refl
            (tt, tt) $ sets ! (agg ! (both ! refl refl)) refl of-v $
            sets_last ! (agg ! (and_then ! (lit ! tt) (alone ! refl))) refl
            (tt, (record { fits = lit< tt }, (of-v.1, tt))) $
            exec ! 𝓣.C 𝓣.Λ (env P.Code.Mir.locals l) P.Code.Mir.t-2 (at_ret (env P.Code.Mir.locals l) (W.post (y
            (Ok n)))) $
            sets ! (of_opd ! (get ! refl)) refl (tt, (record { fits = lit< tt }, (of-v.1, tt))) $
            use2 𝓛 (later (some (lent u8 𝓛 κs.0 qs.0 s front (λ ws. ws ++ drop_list n s.now) s.ref_ptr.1 n)))
            (lends_front u8 𝓛 κs.0 qs.0 s n le rm (mut_slice_vals s)) $ await ! tt $
            pick ! (λ δ. split3 ! $ let lends = record s { ghost_name = δ; now = front } in
            let r : (Out Slice).Denot = Ok lends in
            use1 𝓛 (‵ ((Out Slice).own_val r (w ∷ []))) (ok_of 𝓛 Slice US.the_row lends v) $
            returns ! (look_at ! 0 refl) $ free_all ! refl $
            -- [the answer; the token; what the slice follows]
            move ! (2 ∷ []) $ rewrite ! 0 (λ (l : List ℕ). ‵ (follows (Items u8 0) (Items u8 0) s.ghost_name δ
            (λ ws. ws ++ l))) rest refl $
            tell ! long $ tells ! (whole_of old s.now n m long rest) $
            tells {φ = true ≡ is_ok r} ! refl $ move ! (1 ∷ 0 ∷ []) $ says ! $ nothing ! $ nothing ! $
            keep ! (4 ∷ 0 ∷ 1 ∷ 3 ∷ 2 ∷ []) $
            ends 𝓛 F.ended hs (F.clauses 𝓛 𝓜.mem 𝓡.returns) (y (Ok n)) w r (tt, (tt, tt)) ! (tt, (tt, tt)))),
        ((λ e. absurd (suc-ne-zero 0 (sym e))), tt),
      ))
  walks (Err e) same typed =
      let 𝓣 = tables 𝓤 𝓛.H 𝓜 𝓡 𝓡.env in let v = vstruct vnil in let w = live 1 (of_list (v ∷ [])) in
      enter ! _ _ _ _ _ $ alloc_all ! (λ l. pass_all ! refl (slice_typed s.ref_ptr (length s.now) rm.0, (typed.0, tt)) $
      first ! $ by_variants ! 12 (whole !) (get_tag ! (vrt ! refl (fld ! refl (stop !))) (whole !)) tt (
        (λ z. absurd (suc-ne-zero 0 z)),
        (
          (λ _. sets ! (of_opd ! (get_in ! (vrt ! refl (fld ! refl (stop !))) (in_variant ! 1 0 refl refl
              (whole !)))) refl (tt, tt) $
              sets_last ! (agg ! (and_then ! (lit ! tt) (alone ! refl))) refl
              (tt, (record { fits = lit< tt }, (tt, tt))) $
              exec ! 𝓣.C 𝓣.Λ (env P.Code.Mir.locals l) P.Code.Mir.t-2 (at_ret (env P.Code.Mir.locals l) (W.post (y
              (Err e)))) $
              sets ! (of_opd ! (get ! refl)) refl (tt, (record { fits = lit< tt }, (tt, tt))) $
              returns ! (look_at ! 0 refl) $ free_all ! refl $
              let r : (Out Slice).Denot = Err e in let S = Declared.shape US.the_type in
              use1 𝓛 (‵ (LendsFront (record s { now = s.now }) r m)) (let_go 𝓛 u8 κs.0 s (mut_slice_vals s)) $
              rewrite ! 0 (λ (l : List ℕ). ‵ (LendsFront (record s { now = l }) r m)) same refl $
              nothing ! $ owned ! (Struct S) (Is (Struct S)) (Struct-Makes 𝓛 S tt) tt (v ∷ []) (tt, (refl, tt)) $
              use1 𝓛 (‵ ((Out Slice).own_val r (w ∷ []))) (err_of 𝓛 Slice US.the_row e v) $
              -- [the answer; nothing; what the slice ends as; the token]
              move ! (2 ∷ []) $ tell {φ = Unit {0}} ! tt $ tells ! same $
              tells {φ = false ≡ is_ok r} ! refl $ move ! (1 ∷ 0 ∷ []) $ says ! $
              nothing ! $ keep ! (4 ∷ 0 ∷ 3 ∷ 2 ∷ 1 ∷ []) $
              ends 𝓛 F.ended hs (F.clauses 𝓛 𝓜.mem 𝓡.returns) (y (Err e)) w r (tt, (tt, tt)) ! (tt, (tt, tt))),
          tt,
        ),
      ))

pub lend_plaintext_spec : {M : Type 1} → P.Statement.statement M
lend_plaintext_spec 𝓤 𝓛 𝓜 𝓡 wired =
    proved 𝓛 F.ended hs (F.clauses 𝓛 𝓜.mem 𝓡.returns) 𝓜 𝓡
    (goes 𝓛 1 F.signature.params F.ended.kept (λ _ _ _. refl, (λ _ _ _. refl, tt)))
    F.Key.name P.Code.function (P.Code.unfolded 𝓤 𝓛.H 𝓜 𝓡 wired) (λ _. (mut_slice_vals, ((λ x. word x ∷ []), tt)))
    (λ κs. (mut_slice_Tells (named 0) κs.0 u8, (EL.tells (RS.the_type usize US.the_row) laws, tt)))
    (λ κs qs bounds a g are.
    let vals : Vals F.signature κs = (mut_slice_vals a.0, (word a.1.0 ∷ [], tt)) in
    qed 𝓛 (raw (on_entry 𝓛 F.signature κs qs a vals) ∷ raw (fact 𝓤 (Stands g.1 g.0 a.0.now a.1.0)) ∷ []) ∵
    spreads 𝓛 ! F.signature κs qs a vals $ move ! (3 ∷ []) $ heard ! _ (λ stands. keep ! (1 ∷ 0 ∷ []) $
    walks 𝓛 𝓜 𝓡 κs qs a.0 are.0.0.1 g.0 g.1 a.1.0 stands ((answer_Lawful 𝓛).typed a.1.0 _ are.1.0)))
