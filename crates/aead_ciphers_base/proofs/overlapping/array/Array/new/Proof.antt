-- The buffer is handed on, or its slice is let go as it came.
-- This walks the code by hand; brackets name the entries of the context, as `Walks` says.
use Rattle.aead_ciphers_base.proofs
use proofs.WalkNames as Names
use proofs.WalkNames.{‵, ◌≡◌, refl, ap, ◌∙◌, List, [], ◌∷◌, ℕ, ◌-◌, ◌^◌, ◌<◌, length, w64, Val, ◌$◌, !, move, sub, agg, fld, lit, bin, get, sets, Is, number}
use proofs.BufferWalk as Buffer
use proofs.BufferWalk.{boxed, held}
use Rattle.std.proofs.Common.{zero, suc, T, T_not, eqb, eqb→eq, lit<, not, ◌||◌, inl, inr}
use lib.Dec.{eqb_refl}
use mir.Facts.{T_not-not, or_yes, or_no}
use Rattle.aead_ciphers_base.specs
use specs.declared.overlapping.array.Array.{Array}
use specs.contracts.error.LenMismatchError as LE
use proofs.error.LenMismatchError as LEP
use specs.contracts.overlapping.array.Array as Contract
use proofs.overlapping.array.Array as Proofs

above : (n : ℕ) → T (not (eqb n 0)) → 0 < n
above zero h = absurd (T_not (eqb 0 0) h (eqb_refl 0))
above (suc n) h = omega Names.arith

not_exact : (m n : ℕ) → T (eqb n 0 || not (eqb m n)) → (0 < n) × (m ≡ n) → ⊥
not_exact m n h sizes = elim (or_yes (eqb n 0) (not (eqb m n)) h) [
  | inl none ↦ let e : n ≡ 0 = eqb→eq n 0 none in omega (Names.arith, sizes.0)
  | inr other ↦ T_not (eqb m n) other (Names.subst (λ k. T (eqb m k)) sizes.1 (eqb_refl m))
]

exact : (m n : ℕ) → T (not (eqb n 0 || not (eqb m n))) → (0 < n) × (m ≡ n)
exact m n h =
    let parts = or_no (eqb n 0) (not (eqb m n)) h in (above n parts.0, eqb→eq m n (T_not-not (eqb m n) parts.1))

pub new_spec : {M : Type 1} → Proofs.new.Statement.statement M
new_spec 𝓤 𝓛 𝓜 𝓡 wired X n L fits =
    let N = number n in let R = Names.param 0 X in let K = Names.param 1 N in
    let inst = Names.layouts (Names.a_type ∷ Names.a_number ∷ []) (X, (N, tt)) in
    let fn = Names.inst_fn inst Proofs.new.Code.function in let 𝓣 = Buffer.tables 𝓤 𝓛.H 𝓜 𝓡 𝓡.env in
    let T = Contract.new.ended X N in let c = Contract.new.clauses X N 𝓛 𝓜.mem 𝓡.returns in
    let hs = Buffer.dropped T.signature.params T.kept in
    Buffer.walked 𝓛 T hs c 𝓜 𝓡 ((λ κs x f vs fits. Buffer.gone 𝓛), tt) _ _
    (Proofs.new.Code.unfolded 𝓤 𝓛.H 𝓜 𝓡 wired (X, (N, tt))) (λ y are.
    let (κs, qs, bounds, a, passed) = y.0 in let Ts = Names.types_at T.signature.params κs in let b = a.0 in
    let x = b.in_out in let xs = x.now in
    let s = b.start in let m : ℕ = length xs - s in let ℓ = Names.named_lft 3 0 tt κs in
    let is = Buffer.buffer_word 𝓛 ℓ R b passed.0 are.0 in
    let u = Names.slice_val x.ref_ptr (length xs) in let typed = Buffer.slice_typed x.ref_ptr (length xs) is.1.0 in
    let number : Names.Fits w64 s = record { fits = is.2 } in
    let words : Buffer.Words Ts passed = ((held u s, is.0, (tt, (typed.1, (number, tt)))), tt) in
    let vals = Buffer.words_vals Ts passed words in
    let m-fits : m < 2 ^ 64 = let long : length xs < 2 ^ 64 = is.1.0 in omega Names.arith in let Row = Contract.the_row ℓ R K in
    let made = Buffer.making R Row LE.the_row κs.0 x s ((0 < n) × (m ≡ n)) n (λ o. o.in_out) in
    let Walk = Buffer.walk_of 𝓛 T hs c in let at_end : Walk.Ghost = ((κs, qs, bounds, a, vals), tt) in
    let Post = Walk.post at_end in Buffer.at_words words (
    -- [three tokens; the buffer; the premise]
    move ! (4 ∷ []) $ Names.drop ! $ move ! (3 ∷ []) $
    Names.alloc_all ! (λ l. Names.pass_all ! refl (Buffer.words_typed Ts passed words) $
    sets ! (Names.of_opd ! (Names.get_in ! (fld ! refl (fld ! refl (Names.stop !))) (sub ! 1 refl (sub ! 0 refl (Names.whole
    !))))) refl
    (tt, record { fits = is.1.0 }) $
    sets ! (Names.of_opd ! (Names.get_in ! (fld ! refl (Names.stop !)) (sub ! 1 refl (Names.whole !)))) refl (tt, number) $
    sets ! (bin ! (get ! refl) (get ! refl) b.within) refl (tt, record { fits = m-fits }) $
    sets ! (bin ! (Names.num_lit ! fits) (lit ! tt) tt) refl (tt, tt) $
    sets ! (bin ! (get ! refl) (Names.num_lit ! fits) tt) refl (tt, tt) $
    sets ! (bin ! (get ! refl) (get ! refl) tt) refl (tt, tt) $ Names.first ! $ Names.branches ! (get ! refl)
    (λ other. Buffer.premise ! $
    Buffer.owned ! Names.usize (Is Names.usize) (Buffer.uint_Makes 𝓛 w64) n (Names.vint w64 n ∷ []) (refl, fits.fits) $
    Buffer.consults 𝓛 LE.new.ended (LE.new.clauses 𝓛 𝓜.mem 𝓡.returns) ! (Buffer.table_of 𝓛 𝓜 𝓡)
    (LEP.new.Met.met 𝓤 𝓛 𝓜 𝓡 (Proofs.new.Code.calls-aead_ciphers_base::error::LenMismatchError::new 𝓡.env wired))
    ((tt, tt, tt, (n, tt), (Names.vint w64 n ∷ [], tt)), tt) (Names.and_then ! (Names.num_lit ! fits) (Names.no_more !))
    (λ v e ws. Names.heard ! _ (λ same.
    -- [the error; nothing; the buffer; three tokens]
    Names.peeks ! LE.the_row (Is LE.the_row) (Names.shows 𝓛 LE.the_row) e (v ∷ []) (λ is-e.
    let told : v ∷ [] ≡ boxed n ∷ [] = LEP.TheLaws.lowers.val_is e (v ∷ []) is-e ∙ ap (λ j. boxed j ∷ []) same in
    Names.rewrite ! 0 (λ (ws : List Val). ‵ (LE.the_row.own_val e ws)) told refl $
    Names.lands_as ! (ap Names.only told) refl (tt, (fits, tt)) $
    sets ! (agg ! (Names.and_then ! (lit ! tt) (Buffer.alone ! refl))) refl (tt, (record { fits = lit< tt }, ((fits, tt), tt))) $
    move ! (2 ∷ []) $ Buffer.in_buffer 𝓛 ℓ R ! b _ $ move ! (1 ∷ []) $
    Buffer.refuses made ! e (boxed n) (u ∷ []) same (not_exact m n other) $
    Names.returns_within ! Post refl (Names.look_at ! 0 refl) $ Names.free_all ! refl $ Names.nothing ! $
    -- [nothing; the clauses; the answer; nothing; three tokens]
    Names.keep ! (4 ∷ 5 ∷ 6 ∷ 0 ∷ 2 ∷ 1 ∷ []) $
    Buffer.ends 𝓛 T hs c at_end (Buffer.live 1 (Names.of_list (boxed n ∷ []))) (Names.Err e) ((tt, tt), tt) ! (tt, tt)))))
    (λ equal.
    let sizes = exact m n equal in
    let d : Array X.Denot n = record { in_out = b; some = sizes.0; exact = sizes.1 } in
    let w : Val = Names.vstruct (Names.vcons (held u s) Names.vnil) in
    Names.skips ! $ Names.exec ! 𝓣.C 𝓣.Λ (Names.env fn.locals l) (Buffer.after 7 fn.body) (Buffer.at_ret (Names.env fn.locals l)
    Post) $
    sets ! (Names.of_opd ! (get ! refl)) refl words.0.2 $ sets ! (agg ! (Buffer.alone ! refl)) refl (tt, (words.0.2.1, tt)) $
    sets ! (agg ! (Names.and_then ! (lit ! tt) (Buffer.alone ! refl))) refl
    (tt, (record { fits = lit< tt }, ((words.0.2.1, tt), tt))) $
    Names.nothing ! $ move ! (1 ∷ 0 ∷ []) $ Names.fjoin ! $
    Names.use1 𝓛 (‵ (Row.own_val d (w ∷ [])))
    (Buffer.struct_of 𝓛 (Names.shape (Contract.the_type ℓ R K)) ((x, (s, tt)), tt) (held u s ∷ [], tt)) $
    Buffer.accepts made ! d w sizes refl refl refl $ Names.returns ! (Names.look_at ! 0 refl) $ Names.free_all ! refl $
    Names.nothing ! $
    -- [nothing; the clauses; the answer; three tokens]
    Names.keep ! (3 ∷ 4 ∷ 5 ∷ 0 ∷ 2 ∷ 1 ∷ []) $
    Buffer.ends 𝓛 T hs c at_end (Buffer.live 0 (Names.of_list (w ∷ []))) (Names.Ok d) ((tt, tt), tt) ! (tt, tt)))))
