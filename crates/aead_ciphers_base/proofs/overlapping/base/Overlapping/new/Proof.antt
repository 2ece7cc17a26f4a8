-- The slice is handed on, or let go as it came.
-- This walks the code by hand; brackets name the entries of the context, as `Walks` says.
use Rattle.aead_ciphers_base.proofs
use proofs.WalkNames as Names
use proofs.WalkNames.{‵, ◌≡◌, refl, ap, ◌∙◌, List, [], ◌∷◌, ◌≤◌, length, w64, Val, ◌$◌, !, move, agg, get, sets, Is}
use proofs.BufferWalk as Buffer
use proofs.BufferWalk.{boxed, held}
use Rattle.aead_ciphers_base.specs
use Rattle.std.specs.contracts.ops.RangeFrom as RF
use specs.contracts.error.IndexError as IE
use proofs.error.IndexError as IEP
use specs.contracts.overlapping.base.Overlapping as Overlap
use proofs.overlapping.base.Overlapping as Proofs

pub new_spec : {M : Type 1} → Proofs.new.Statement.statement M
new_spec 𝓤 𝓛 𝓜 𝓡 wired X L =
    let R = Names.param 0 X in let inst = Names.layouts (Names.a_type ∷ []) (X, tt) in
    let fn = Names.inst_fn inst Proofs.new.Code.function in let 𝓣 = Buffer.tables 𝓤 𝓛.H 𝓜 𝓡 𝓡.env in
    let T = Overlap.new.ended X in let c = Overlap.new.clauses X 𝓛 𝓜.mem 𝓡.returns in
    let hs = Buffer.dropped T.signature.params T.kept in
    Buffer.walked 𝓛 T hs c 𝓜 𝓡 (
      Names.Goes-spent_slice 𝓛 2 (0 ∷ []) tt (Names.plain (λ _. R)),
      (Names.Goes-dropped 𝓛 2 (Names.plain (λ _. RF.the_row Names.usize)) Names.yes (λ κs x f. refl), tt),
    )
    _ _ (Proofs.new.Code.unfolded 𝓤 𝓛.H 𝓜 𝓡 wired (X, tt)) (λ y are.
    let (κs, qs, bounds, a, passed) = y.0 in let Ts = Names.types_at T.signature.params κs in let x = a.0 in
    let xs = x.now in let n = a.1.0.start in
    let range-is = Buffer.range_word a.1.0 passed.1.0 are.1.0 in let long-fits = are.0.0.1.0 in
    let number : Names.Fits w64 n = record { fits = range-is.1 } in
    let typed = Buffer.slice_typed x.ref_ptr (length xs) long-fits in
    let words : Buffer.Words Ts passed = ((_, are.0.0.0, typed), ((boxed n, range-is.0, (tt, (number, tt))), tt)) in
    let vals = Buffer.words_vals Ts passed words in
    let u = Names.slice_val x.ref_ptr (length xs) in let Row = Overlap.the_row (Names.named_lft 2 0 tt κs) R in
    let made = Buffer.making R Row IE.the_row κs.0 x n (n ≤ length xs) n (λ o. o) in
    let Walk = Buffer.walk_of 𝓛 T hs c in let at_end : Walk.Ghost = ((κs, qs, bounds, a, vals), tt) in
    let Post = Walk.post at_end in Buffer.at_words words (
    -- [two tokens; the slice; the range; the premise]
    move ! (4 ∷ []) $ Names.drop ! $ Names.alloc_all ! (λ l. Names.pass_all ! refl (Buffer.words_typed Ts passed words) $
    sets ! (Names.of_opd ! (Names.get_in ! (Names.fld ! refl (Names.stop !)) (Names.sub ! 0 refl (Names.whole !)))) refl (
      tt,
      number,
    ) $
    sets ! (Names.of_opd ! (Names.get_in ! (Names.fld ! refl (Names.stop !)) (Names.sub ! 1 refl (Names.whole !))))
    refl (tt, record { fits = long-fits }) $
    sets ! (Names.bin ! (get ! refl) (get ! refl) tt) refl (tt, tt) $ Names.first ! $ Names.branches ! (get ! refl)
    (λ short. Buffer.premise ! $
    Buffer.owned ! Names.usize (Is Names.usize) (Buffer.uint_Makes 𝓛 w64) n (Names.vint w64 n ∷ []) (refl, range-is.1) $
    Buffer.consults 𝓛 IE.new.ended (IE.new.clauses 𝓛 𝓜.mem 𝓡.returns) ! (Buffer.table_of 𝓛 𝓜 𝓡)
    (IEP.new.Met.met 𝓤 𝓛 𝓜 𝓡 (Proofs.new.Code.calls-aead_ciphers_base::error::IndexError::new 𝓡.env wired))
    ((tt, tt, tt, (n, tt), (Names.vint w64 n ∷ [], tt)), tt) (Buffer.gets ! tt refl) (λ v e ws. Names.heard ! _ (λ same.
    -- [the error; nothing; two tokens; the slice; the range]
    Names.peeks ! IE.the_row (Is IE.the_row) (Names.shows 𝓛 IE.the_row) e (v ∷ []) (λ is-e.
    let told : v ∷ [] ≡ boxed n ∷ [] = IEP.TheLaws.lowers.val_is e (v ∷ []) is-e ∙ ap (λ j. boxed j ∷ []) same in
    Names.rewrite ! 0 (λ (ws : List Val). ‵ (IE.the_row.own_val e ws)) told refl $
    Names.lands_as ! (ap Names.only told) refl (tt, (number, tt)) $
    sets ! (agg ! (Names.and_then ! (Names.lit ! tt) (Buffer.alone ! refl))) refl
    (tt, (record { fits = Buffer.lit< tt }, ((number, tt), tt))) $
    move ! (0 ∷ 4 ∷ []) $ Buffer.refuses made ! e (boxed n) (u ∷ []) same
    (λ h. omega (Names.arith, Buffer.ltb→lt (length xs) n short, h)) $
    Names.returns_within ! Post refl (Names.look_at ! 0 refl) $ Names.free_all ! refl $ Names.nothing ! $ Names.nothing ! $
    -- [twice nothing; the clauses; the answer; nothing; two tokens]
    Names.keep ! (5 ∷ 6 ∷ 0 ∷ 1 ∷ 3 ∷ 2 ∷ []) $
    Buffer.ends 𝓛 T hs c at_end (Buffer.live 1 (Names.of_list (boxed n ∷ []))) (Names.Err e) (tt, (tt, tt)) ! (tt, (tt, tt))))))
    (λ long.
    let within : n ≤ length xs = Buffer.nltb→le (length xs) n long in
    let d : Buffer.Overlapping X.Denot = record { in_out = x; start = n; within = within } in
    Names.skips ! $ Names.exec ! 𝓣.C 𝓣.Λ (Names.env fn.locals l) (Buffer.after 4 fn.body) (Buffer.at_ret (Names.env fn.locals l)
    Post) $
    Buffer.reborrows ! x.ref_ptr (length xs) refl refl (tt, tt) typed $
    sets ! (agg ! (Buffer.both ! refl refl)) refl (tt, (typed.1, (number, tt))) $
    sets ! (agg ! (Names.and_then ! (Names.lit ! tt) (Buffer.alone ! refl))) refl
    (tt, (record { fits = Buffer.lit< tt }, ((typed.1, (number, tt)), tt))) $
    -- [two tokens; the slice; the range]
    move ! (2 ∷ []) $ Names.use1 𝓛 (‵ (Row.own_val d (held u n ∷ [])))
    (Buffer.begun 𝓛 (Names.named_lft 2 0 tt κs) R d u range-is.1) $
    Buffer.accepts made ! d (held u n) within refl refl refl $ Names.returns ! (Names.look_at ! 0 refl) $ Names.free_all ! refl $
    Names.nothing ! $ Names.nothing ! $
    -- [twice nothing; the clauses; the answer; two tokens]
    Names.keep ! (4 ∷ 5 ∷ 0 ∷ 1 ∷ 3 ∷ 2 ∷ []) $
    Buffer.ends 𝓛 T hs c at_end (Buffer.live 0 (Names.of_list (held u n ∷ []))) (Names.Ok d) (tt, (tt, tt)) ! (tt, (tt, tt))))))
