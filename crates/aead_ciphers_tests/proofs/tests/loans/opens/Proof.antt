-- The plaintext that `open_within` lends is let go, and the buffer is back.
use Rattle.aead_ciphers.proofs
use proofs.LendingWalk as Walk
use proofs.LendingWalk.{refl, ◌-◌, [], ◌∷◌, ◌$◌, !, move}
use proofs.Lending.{Range}
use Rattle.aead_ciphers.specs
use specs.Lending.{LendsFront}
use Rattle.aead_ciphers_base.proofs.Walks.{takes}
use Rattle.std.proofs.Common.{Bool, ◌≡◌, true, false, IsFalse, ap, List, ℕ}
use contract.Running.{tables}
use mir.Val.{vbool}
use types.Kit.{at_ret}
use types.Match.{vrt, by_variants}
use types.Part.{whole}
use types.Run.{fld, first, exec, true_lit, false_lit}
use types.ByLocal.{get_tag, sets_last, env}
use denote.Builtin.{u8, bool, RefOf}
use denote.Exit.{yes}
use denote.Signature.{Slot}
use denote.Laws.{Is}
use denote.Plain.{bool_Makes}
use denote.Steps.{owned, only}
use denote.Triple.Walked.{Stays, walk_of, stay_dropped, stay_slice, Goes-dropped, Goes-slice}
use Rattle.aead_ciphers_tests.proofs.LoanOver.{ok_at, err_at, after, loan_ends, sized, concludes, unchanged}
use proofs.aead.less_safe_key.LessSafeKey.open_within.Met.{met}
use specs.contracts.aead.less_safe_key.LessSafeKey as Key
use Rattle.aead_ciphers_base.specs.contracts.values.Aad as Aad
use Rattle.aead_ciphers_base.specs.contracts.values.Nonce as Nonce
use Rattle.aead_ciphers_tests.specs.contracts.tests.loans.opens as Contract
use specs.contracts.aead.less_safe_key.LessSafeKey.open_within as Within
use Rattle.aead_ciphers_tests.proofs.tests.loans.opens as Proofs

pub opens_spec : {M : Type 1} → Proofs.Statement.statement M
opens_spec 𝓤 𝓛 𝓜 𝓡 wired K LK g d gc dc dd met-k met-c met-d =
    let inst = Walk.bounded (Walk.a_type ∷ []) (K, tt) (Walk.dcons d (Walk.dcons dc (Walk.dcons dd Walk.dnil))) in
    let T = Contract.ended K g d gc dc dd in let c = Contract.clauses K g d gc dc dd 𝓛 𝓜.mem 𝓡.returns in
    let 𝓣 = tables 𝓤 𝓛.H 𝓜 𝓡 𝓡.env in
    let stayed : Stays T.signature.params T.kept =
    (stay_dropped _ _, (stay_dropped _ _, (stay_dropped _ _, (stay_slice (2 ∷ []) tt (Walk.plain (λ _. u8)), (stay_dropped _ _, tt)))))
    in
    let V = walk_of 𝓛 T stayed c in let none = λ (s : Slot 4). Goes-dropped 𝓛 4 s yes in
    let key = none (RefOf (0 ∷ []) tt (Walk.plain (λ _. Key.the_row (Walk.param 0 K) g gc)) (λ _. tt)) (λ _ _ _. refl) in
    let nonce = none (Walk.plain (λ _. Nonce.the_row)) (λ _ _ _. refl) in
    let aad = none (Walk.plain (λ κs. Aad.the_row (Walk.named_lft 4 1 tt κs))) (λ _ _ _. refl) in
    let buffer = Goes-slice 𝓛 4 2 tt (Walk.plain (λ _. u8)) in
    let range = none (Walk.plain (λ _. Range)) (λ _ _ _. refl) in
    Walk.walked 𝓛 T stayed c 𝓜 𝓡 (key, (nonce, (aad, (buffer, (range, tt))))) (Contract.Key.name inst)
    (Walk.inst_fn inst Proofs.Code.function) (Proofs.Code.unfolded 𝓤 𝓛.H 𝓜 𝓡 wired (K, tt) d dc dd) (λ y are.
    let (κs, qs, bounds, a, vs) = y.0 in let b = Walk.buffer 2 κs.1.1.0 qs.1.1.0 a.1.1.1.0 are.1.1.1.0.0.1 in
    let Ts = Walk.types_at T.signature.params κs in
    let (self, (nonce, (aad, (in_out, (range, _))))) = a in
    let (is-self, (is-nonce, (is-aad, (is-in_out, (is-range, _))))) = are in
    let old = in_out.now in let n = Walk.length old - 16 - range.start in
    let nonce-word = Walk.nonce_word 𝓛 nonce _ is-nonce in let aad-word = Walk.aad_word 𝓛 (Walk.named_lft 4 1 tt κs) aad _
    is-aad in
    let words : Walk.Words Ts vs = (
      (_, is-self.0, (tt, tt)),
      (
        nonce-word,
        (
          aad-word,
          (
            (_, is-in_out.0.0, Walk.typed b),
            (
              Walk.range_word 𝓛 range _ is-range,
              tt,
            ),
          ),
        ),
      ),
    )
    in
    let vals = Walk.words_vals Ts vs words in let at_end : V.Ghost = ((κs, qs, bounds, a, vals), tt) in
    Walk.at_words words (move ! (7 ∷ 2 ∷ []) $ Walk.alloc_all ! (λ l. let locals = env Proofs.Code.Mir.locals l in
    Walk.pass_all ! refl (Walk.words_typed Ts vs words) $
    Walk.sets ! (Walk.of_opd ! (Walk.get ! refl)) refl words.1.1.0.2 $
    Walk.reborrows ! in_out.ref_ptr (Walk.length old) refl refl (tt, tt) (Walk.typed b) $
    Walk.relends 𝓛 b ! tt (λ α δ. let (κs-lent, qs-lent) = Walk.lent_for 2 4 (α ∷ []) κs qs in
    -- [in_out and its lifetime's token; what is kept; three tokens; self, nonce, aad, range; the premise]
    move ! (3 ∷ 4 ∷ 1 ∷ 5 ∷ 6 ∷ 7 ∷ 8 ∷ 0 ∷ 9 ∷ 10 ∷ []) $
    Walk.consults 𝓛 (Within.ended K g d gc dc dd) (Within.clauses K g d gc dc dd 𝓛 𝓜.mem 𝓡.returns) !
    (Walk.table_of 𝓛 𝓜 𝓡) (met 𝓤 𝓛 𝓜 𝓡
    (Proofs.Code.calls-aead_ciphers::aead::less_safe_key::LessSafeKey::open_within 𝓡.env wired)
    K LK g d gc dc dd met-k met-c met-d)
    ((κs-lent, qs-lent, bounds, (self, (nonce, (aad, (Walk.renamed b δ, (range, tt))))), vals), tt)
    (Walk.gets ! tt refl) (λ v r ws. let ys = after old n r in
    takes ! (LendsFront (Walk.renamed b δ) r n) $ move ! (1 ∷ []) $ Walk.learns ! (λ opened. Walk.heard ! _ (λ plaintext.
    let Said : Bool → List ℕ → Type 0 = λ accepts new. Walk.OpenedAttached (Walk.aes self.now.bytes) nonce
    (Walk.aad_bytes aad) range.start old accepts new in
    let long = sized (Walk.aes self.now.bytes) nonce range.start old r plaintext in
    -- [what is owed of in_out; the answer; four tokens; five times nothing; what is kept]
    move ! (0 ∷ 1 ∷ 4 ∷ 11 ∷ []) $ loan_ends 𝓛 b n ! tt α δ v r (λ us told is-r same.
    -- [in_out; four tokens; five times nothing]
    Walk.lands_as ! (ap only told) refl is-r.0 $ first ! $
    by_variants ! 18 (whole !) (get_tag ! (vrt ! refl (fld ! refl (Walk.stop !))) (whole !)) tt (
      (λ is-ok. sets_last ! (Walk.of_opd ! (true_lit !)) refl (tt, tt) $
          exec ! 𝓣.C 𝓣.Λ locals Proofs.Code.Mir.t-6 (at_ret locals (V.post at_end)) $
          Walk.sets ! (Walk.of_opd ! (Walk.get ! refl)) refl (tt, tt) $ Walk.returns ! (Walk.look_at ! 0 refl) $
          Walk.free_all ! refl $
          Walk.tell {φ = IsFalse true → ys ≡ old} ! (λ h. absurd (let g = h in cc)) $
          Walk.tells ! (concludes Said old n r true (ok_at r is-ok) long opened) $
          owned ! bool (Is bool) (bool_Makes 𝓛) true (vbool true ∷ []) refl $
          Walk.keep ! (4 ∷ 5 ∷ 3 ∷ 6 ∷ 7 ∷ 8 ∷ 9 ∷ 2 ∷ 11 ∷ 0 ∷ 1 ∷ []) $
          Walk.ends 𝓛 T stayed c at_end (vbool true) true (tt, (tt, (tt, (ys, (tt, tt))))) !
          (tt, (tt, (tt, (same, (tt, tt)))))),
      (
        (λ is-err. sets_last ! (Walk.of_opd ! (false_lit !)) refl (tt, tt) $
            exec ! 𝓣.C 𝓣.Λ locals Proofs.Code.Mir.t-6 (at_ret locals (V.post at_end)) $
            Walk.sets ! (Walk.of_opd ! (Walk.get ! refl)) refl (tt, tt) $ Walk.returns ! (Walk.look_at ! 0 refl) $
            Walk.free_all ! refl $
            Walk.tell {φ = IsFalse false → ys ≡ old} ! (λ _. unchanged old n r (err_at r is-err)) $
            Walk.tells ! (concludes Said old n r false (err_at r is-err) long opened) $
            owned ! bool (Is bool) (bool_Makes 𝓛) false (vbool false ∷ []) refl $
            Walk.keep ! (4 ∷ 5 ∷ 3 ∷ 6 ∷ 7 ∷ 8 ∷ 9 ∷ 2 ∷ 11 ∷ 0 ∷ 1 ∷ []) $
            Walk.ends 𝓛 T stayed c at_end (vbool false) false (tt, (tt, (tt, (ys, (tt, tt))))) !
            (tt, (tt, (tt, (same, (tt, tt)))))),
        tt,
      ),
    )))))))))
