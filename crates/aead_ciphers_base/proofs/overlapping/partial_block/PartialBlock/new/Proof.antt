-- The slice is handed on, or let go as it came.
-- This walks the code by hand; brackets name the entries of the context, as `Walks` says.
use Rattle.aead_ciphers_base.proofs
use proofs.WalkNames as Names
use proofs.WalkNames.{‵, ◌≡◌, refl, ap, ◌∙◌, List, [], ◌∷◌, ◌-◌, ◌^◌, ◌<◌, length, w64, Val, ◌$◌, !, move, sub, agg, stop, fld, get, sets, usize, Is, number}
use proofs.BufferWalk as Buffer
use proofs.BufferWalk.{boxed, held}
use lib.Dec.{leb→le, nleb→lt}
use Rattle.aead_ciphers_base.specs
use specs.declared.overlapping.partial_block.PartialBlock.{PartialBlock}
use specs.contracts.error.input_too_long.InputTooLongError as ITL
use proofs.error.input_too_long.InputTooLongError.TheLaws as ITL-laws
use specs.contracts.overlapping.partial_block as Contract
use proofs.overlapping.partial_block as Proofs

abbrev Refusal : Names.RattleType
Refusal = ITL.the_row usize

pub new_spec : {M : Type 1} → Proofs.PartialBlock.new.Statement.statement M
new_spec 𝓤 𝓛 𝓜 𝓡 wired X n L fits =
    let N = number n in let R = Names.param 0 X in let K = Names.param 1 N in
    let inst = Names.layouts (Names.a_type ∷ Names.a_number ∷ []) (X, (N, tt)) in
    let fn = Names.inst_fn inst Proofs.PartialBlock.new.Code.function in let 𝓣 = Buffer.tables 𝓤 𝓛.H 𝓜 𝓡 𝓡.env in
    let T = Contract.PartialBlock.new.ended X N in let c = Contract.PartialBlock.new.clauses X N 𝓛 𝓜.mem 𝓡.returns in
    let hs = Buffer.dropped T.signature.params T.kept in
    Buffer.walked 𝓛 T hs c 𝓜 𝓡 ((λ κs x f vs fits. Buffer.gone 𝓛), tt) _ _
    (Proofs.PartialBlock.new.Code.unfolded 𝓤 𝓛.H 𝓜 𝓡 wired (X, (N, tt))) (λ y are.
    let (κs, qs, bounds, a, passed) = y.0 in let Ts = Names.types_at T.signature.params κs in let b = a.0 in
    let x = b.in_out in let xs = x.now in
    let s = b.start in let m : Names.ℕ = length xs - s in let ℓ = Names.named_lft 3 0 tt κs in
    let is = Buffer.buffer_word 𝓛 ℓ R b passed.0 are.0 in
    let u = Names.slice_val x.ref_ptr (length xs) in let typed = Buffer.slice_typed x.ref_ptr (length xs) is.1.0 in
    let number : Names.Fits w64 s = record { fits = is.2 } in
    let words : Buffer.Words Ts passed = ((held u s, is.0, (tt, (typed.1, (number, tt)))), tt) in
    let vals = Buffer.words_vals Ts passed words in
    let m-fits : m < 2 ^ 64 = let long : length xs < 2 ^ 64 = is.1.0 in omega Names.arith in
    let Row = Contract.PartialBlock.the_row ℓ R K in
    let made = Buffer.making R Row Refusal κs.0 x s (m < n) m
    (λ o. record { in_out = o.in_out; start = o.start; within = o.within }) in
    let Walk = Buffer.walk_of 𝓛 T hs c in let at_end : Walk.Ghost = ((κs, qs, bounds, a, vals), tt) in
    let Post = Walk.post at_end in Buffer.at_words words (
    -- [three tokens; the buffer; the premise]
    move ! (4 ∷ []) $ Names.drop ! $ move ! (3 ∷ []) $ Buffer.in_buffer 𝓛 ℓ R ! b _ $
    Names.alloc_all ! (λ l. Names.pass_all ! refl (Buffer.words_typed Ts passed words) $
    sets ! (Names.of_opd ! (Names.get_in ! (fld ! refl (stop !)) (sub ! 0 refl (Names.whole !)))) refl
    typed $
    sets ! (Names.of_opd ! (Names.get_in ! (fld ! refl (stop !)) (sub ! 1 refl (Names.whole !)))) refl (tt, number) $
    sets ! (Names.of_opd ! (Names.get_in ! (fld ! refl (stop !)) (sub ! 1 refl (Names.whole !)))) refl
    (tt, record { fits = is.1.0 }) $
    sets ! (Names.bin ! (get ! refl) (get ! refl) b.within) refl (tt, record { fits = m-fits }) $
    sets ! (Names.bin ! (Names.num_lit ! fits) (get ! refl) tt) refl (tt, tt) $ Names.first ! $ Names.branches ! (get ! refl)
    (λ long. Buffer.premise ! $ Buffer.owned ! usize (Is usize) (Buffer.uint_Makes 𝓛 w64) m (Names.vint w64 m ∷ []) (
      refl,
      m-fits,
    ) $
    Buffer.consults 𝓛 Contract.too_long.ended (Contract.too_long.clauses 𝓛 𝓜.mem 𝓡.returns) ! (Buffer.table_of 𝓛 𝓜 𝓡)
    (Proofs.too_long.Met.met 𝓤 𝓛 𝓜 𝓡
    (Proofs.PartialBlock.new.Code.calls-aead_ciphers_base::overlapping::partial_block::too_long 𝓡.env wired))
    ((tt, tt, tt, (m, tt), (Names.vint w64 m ∷ [], tt)), tt) (Buffer.gets ! tt refl) (λ v e ws. Names.heard ! _ (λ same.
    -- [the error; nothing; the slice; three tokens]
    Names.peeks ! Refusal (Is Refusal) (Names.shows 𝓛 Refusal) e (v ∷ []) (λ is-e.
    let told : v ∷ [] ≡ boxed m ∷ [] = (ITL-laws.lowers usize Buffer.usize_laws Buffer.usize_told).val_is e (v ∷ []) is-e ∙ ap
    (λ j. boxed j ∷ []) same in
    let fits-m : Names.Fits w64 m = record { fits = m-fits } in
    Names.rewrite ! 0 (λ (ws : List Val). ‵ (Refusal.own_val e ws)) told refl $
    Names.lands_as ! (ap Names.only told) refl (tt, (fits-m, tt)) $
    sets ! (agg ! (Names.and_then ! (Names.lit ! tt) (Buffer.alone ! refl))) refl
    (tt, (record { fits = Buffer.lit< tt }, ((fits-m, tt), tt))) $
    move ! (0 ∷ 2 ∷ []) $ Buffer.refuses made ! e (boxed m) (u ∷ []) same (λ h. omega (Names.arith, leb→le n m long, h)) $
    Names.returns_within ! Post refl (Names.look_at ! 0 refl) $ Names.free_all ! refl $ Names.nothing ! $
    -- [nothing; the clauses; the answer; nothing; three tokens]
    Names.keep ! (4 ∷ 5 ∷ 6 ∷ 0 ∷ 2 ∷ 1 ∷ []) $
    Buffer.ends 𝓛 T hs c at_end (Buffer.live 1 (Names.of_list (boxed m ∷ []))) (Names.Err e) ((tt, tt), tt) ! (tt, tt)))))
    (λ below.
    let short : m < n = nleb→lt n m below in
    let d : PartialBlock X.Denot n = record { in_out = x; start = s; within = b.within; short = short } in
    Names.skips ! $ Names.exec ! 𝓣.C 𝓣.Λ (Names.env fn.locals l) (Buffer.after 6 fn.body) (Buffer.at_ret (Names.env fn.locals l)
    Post) $
    Buffer.reborrows ! x.ref_ptr (length xs) refl refl (tt, tt) typed $
    sets ! (agg ! (Buffer.both ! refl refl)) refl (tt, (typed.1, (number, tt))) $
    sets ! (agg ! (Names.and_then ! (Names.lit ! tt) (Buffer.alone ! refl))) refl
    (tt, (record { fits = Buffer.lit< tt }, ((typed.1, (number, tt)), tt))) $
    Names.use1 𝓛 (‵ (Row.own_val d (held u s ∷ []))) (Buffer.begun 𝓛 ℓ R b u is.2) $
    Buffer.accepts made ! d (held u s) short refl refl refl $ Names.returns ! (Names.look_at ! 0 refl) $ Names.free_all ! refl $
    Names.nothing ! $
    -- [nothing; the clauses; the answer; three tokens]
    Names.keep ! (3 ∷ 4 ∷ 5 ∷ 0 ∷ 2 ∷ 1 ∷ []) $
    Buffer.ends 𝓛 T hs c at_end (Buffer.live 0 (Names.of_list (held u s ∷ []))) (Names.Ok d) ((tt, tt), tt) ! (tt, tt)))))
