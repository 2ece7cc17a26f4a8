-- The slice after the first chunk is handed on after the chunk was mapped, or the slice is let go.
-- This walks the code by hand; brackets name the entries of the context, as `Walks` says.
use Rattle.aead_ciphers_base.proofs
use proofs.WalkNames as Names
use proofs.WalkNames.{◌≡◌, refl, ap, ◌∙◌, List, [], ◌∷◌, ◌++◌, ℕ, ◌+◌, ◌-◌, ◌*◌, ◌^◌, ◌<◌, ◌≤◌, arith, length, drop_list, w64, dcons, Val, vint, Fits, GName, ‵, ◌$◌, !, move, use1, whole, sub, agg, stop, fld, of_opd, bin, get, sets, Is, ◌↔◌}
use proofs.BufferWalk as Buffer
use proofs.BufferWalk.{learns, tells, tell, boxed, held}
use proofs.LentParts.{Part, lends_back}
use native.Mathlib.Nat.{mul-le-mul_right}
use prog.Memory.{capped}
use Rattle.std.proofs.slice.Relends.{uncapped}
use Rattle.aead_ciphers_base.specs
use specs.Overlapping.{AnswersChunk, EndsAs, LendsBehind, LendsRest}
use Rattle.std.specs.contracts.result.Result as RS
use specs.contracts.error.IndexError as IE
use proofs.error.IndexError as IEP
use specs.contracts.overlapping.base as Contract
use proofs.overlapping.base.Overlapping as Proofs

pub split_first_chunk_spec : {M : Type 1} → Proofs.split_first_chunk.Statement.statement M
split_first_chunk_spec 𝓤 𝓛 𝓜 𝓡 wired X Y Z LX LY LZ chunk d₁ once d₂ d₃ d₄ chunk-met once-met drops-x drops-z =
    let R = Names.param 0 X in
    let inst = Names.bounded (Names.a_type ∷ Names.a_type ∷ Names.a_type ∷ []) (X, (Y, (Z, tt)))
    (dcons d₁ (dcons d₂ (dcons d₃ (dcons d₄ Names.dnil)))) in
    let fn = Names.inst_fn inst Proofs.split_first_chunk.Code.function in let 𝓣 = Buffer.tables 𝓤 𝓛.H 𝓜 𝓡 𝓡.env in
    let T = Contract.Overlapping.split_first_chunk.ended X Y Z chunk d₁ once d₂ d₃ d₄ in
    let hs = Buffer.dropped T.signature.params T.kept in
    let c = Contract.Overlapping.split_first_chunk.clauses X Y Z chunk d₁ once d₂ d₃ d₄ 𝓛 𝓜.mem 𝓡.returns in
    Buffer.walked 𝓛 T hs c 𝓜 𝓡 (
      (λ κs x f vs fits. Buffer.gone 𝓛),
      (
        Names.Goes-dropped 𝓛 4 (Names.plain (λ _. Names.param 2 Z)) Names.no (λ κs x f. refl),
        tt,
      ),
    )
    _ _ (Proofs.split_first_chunk.Code.unfolded 𝓤 𝓛.H 𝓜 𝓡 wired (X, (Y, (Z, tt))) d₁ d₂ d₃ d₄) (λ y are.
    let (κs, qs, bounds, a, passed) = y.0 in let Ts = Names.types_at T.signature.params κs in let b = a.0 in
    let f = a.1.0 in let xs = b.in_out.now in
    let n = chunk.chunk_len in let ℓ = Names.named_lft 4 0 tt κs in let Row = Contract.Overlapping.the_row ℓ R in
    let Mid = Contract.FirstMapped.the_row ℓ R in
    let words : Buffer.Words Ts passed = (
      Buffer.one (Names.layout Row) passed.0
          (((Proofs.TheLaws.the_row_laws ℓ R (Buffer.param_laws 0 X LX)).lawful 𝓛).typed b passed.0 are.0),
      (Buffer.one (Names.layout Z) passed.1.0 (((Buffer.param_laws 2 Z LZ).lawful 𝓛).typed f passed.1.0 are.1.0), tt),
    ) in let vals = Buffer.words_vals Ts passed words in
    let Walk = Buffer.walk_of 𝓛 T hs c in let at_end : Walk.Ghost = ((κs, qs, bounds, a, vals), tt) in
    let Post = Walk.post at_end in
    let Out = RS.the_row Row IE.the_row in Buffer.at_words words (
    -- [four tokens; self; the closure; the premise]
    move ! (6 ∷ []) $ learns ! (λ lives. learns ! (λ chunk-lives. learns ! (λ closure-lives. Names.heard ! _ (λ answers.
    Names.alloc_all ! (λ l. Names.pass_all ! refl (Buffer.words_typed Ts passed words) $
    sets ! (of_opd ! (get ! refl)) refl words.0.2 $ sets ! (of_opd ! (get ! refl)) refl words.1.0.2 $
    tell ! answers $ tells ! closure-lives $ tells ! chunk-lives $ tells ! lives $ move ! (1 ∷ 2 ∷ 3 ∷ 4 ∷ 5 ∷ 6 ∷ []) $
    Buffer.consults 𝓛 (Contract.Overlapping.first_chunk_mapped.ended X Y Z chunk d₁ once d₂ d₃ d₄)
    (Contract.Overlapping.first_chunk_mapped.clauses X Y Z chunk d₁ once d₂ d₃ d₄ 𝓛 𝓜.mem 𝓡.returns) ! (Buffer.table_of 𝓛 𝓜 𝓡)
    (Proofs.first_chunk_mapped.Met.met 𝓤 𝓛 𝓜 𝓡
    (Proofs.split_first_chunk.Code.calls-aead_ciphers_base::overlapping::base::Overlapping::first_chunk_mapped
    𝓡.env wired)
    X Y Z LX LY LZ chunk d₁ once d₂ d₃ d₄ chunk-met once-met drops-x drops-z) at_end (Buffer.gets ! tt refl) (λ v r ws.
    learns ! (λ same. learns ! (λ mapped. learns ! (λ kept. learns ! (λ alike. learns ! (λ start-same.
    Names.heard ! _ (λ count-same.
    Names.peeks ! Mid (Is Mid) (Names.shows 𝓛 Mid) r (v ∷ []) (λ is-r.
    let s = r.in_out in let ys = s.now in let k = r.count in let m : ℕ = length ys - r.start in
    let slice-is = is-r.1.1.0 in let start-is = is-r.1.1.1.0 in let count-is = is-r.1.1.1.1.0 in
    let rm : Names.Room R (length ys) = slice-is.0.1 in
    let long : length ys < 2 ^ 64 = rm.0 in let m-fits : m < 2 ^ 64 = omega arith in
    let u = Names.slice_val s.ref_ptr (length ys) in let typed = Buffer.slice_typed s.ref_ptr (length ys) long in
    let start : Fits w64 r.start = record { fits = start-is.1 } in
    let count : Fits w64 k = record { fits = count-is.1 } in
    let is : v ∷ [] ≡ Names.vstruct (Names.vcons u (Names.vcons (vint w64 r.start) (Names.vcons (vint w64 k) Names.vnil))) ∷ [] =
    is-r.1.0 ∙ (λ i. Names.vstruct (Names.of_list (slice-is.0.0 i ++ (start-is.0 i ++ (count-is.0 i ++ [])))) ∷ []) in
    Names.lands_as ! (ap Names.only is) refl (tt, (typed.1, (start, (count, tt)))) $
    -- [what the call answered; four tokens; twice nothing]
    Names.fpick ! (λ vss. Names.fsplit ! $ Names.feq_l ! (λ ev. Names.fsplit ! $ move ! (1 ∷ []) $ Names.drop ! $
    sets ! (of_opd ! (Names.get_in ! (fld ! refl (stop !)) (sub ! 0 refl (whole !)))) refl typed $
    sets ! (of_opd ! (Names.get_in ! (fld ! refl (stop !)) (sub ! 1 refl (whole !)))) refl (tt, start) $
    sets ! (of_opd ! (Names.get_in ! (fld ! refl (stop !)) (sub ! 2 refl (whole !)))) refl (tt, count) $
    sets ! (of_opd ! (Names.get_in ! (fld ! refl (stop !)) (sub ! 1 refl (whole !)))) refl (tt, record { fits = long }) $
    sets ! (bin ! (get ! refl) (get ! refl) r.within) refl (tt, record { fits = m-fits }) $
    sets ! (bin ! (get ! refl) (get ! refl) tt) refl (tt, tt) $ Names.first ! $ Names.branches ! (get ! refl)
    (λ short. Buffer.premise ! $ Buffer.owned ! Names.usize (Is Names.usize) (Buffer.uint_Makes 𝓛 w64) k (vint w64 k ∷ [])
    (refl, count-is.1) $
    Buffer.consults 𝓛 IE.new.ended (IE.new.clauses 𝓛 𝓜.mem 𝓡.returns) ! (Buffer.table_of 𝓛 𝓜 𝓡)
    (IEP.new.Met.met 𝓤 𝓛 𝓜 𝓡
    (Proofs.split_first_chunk.Code.calls-aead_ciphers_base::error::IndexError::new 𝓡.env wired))
    ((tt, tt, tt, (k, tt), (vint w64 k ∷ [], tt)), tt) (Buffer.gets ! tt refl) (λ v e ws. Names.heard ! _ (λ refused.
    -- [the error; nothing; the slice; four tokens; twice nothing]
    Names.peeks ! IE.the_row (Is IE.the_row) (Names.shows 𝓛 IE.the_row) e (v ∷ []) (λ is-e.
    let told : v ∷ [] ≡ boxed k ∷ [] = IEP.TheLaws.lowers.val_is e (v ∷ []) is-e ∙ ap (λ j. boxed j ∷ []) refused in
    Names.rewrite ! 0 (λ (ws : List Val). ‵ (IE.the_row.own_val e ws)) told refl $
    Names.lands_as ! (ap Names.only told) refl (tt, (count, tt)) $
    sets ! (agg ! (Names.and_then ! (Names.lit ! tt) (Buffer.alone ! refl))) refl
    (tt, (record { fits = Buffer.lit< tt }, ((count, tt), tt))) $
    let o : Out.Denot = Names.Err e in let w = Buffer.live 1 (Names.of_list (boxed k ∷ [])) in
    let below : length xs - b.start < n = omega (arith, Buffer.ltb→lt m k short, alike, start-same, count-same) in
    let accepted : Names.IsOk o ↔ (n ≤ length xs - b.start) = ((λ h. cc), λ h. absurd (omega (arith, below, h))) in
    use1 𝓛 (‵ (Out.own_val o (w ∷ []))) (Buffer.err_of 𝓛 Row IE.the_row e (boxed k)) $
    move ! (2 ∷ []) $ use1 𝓛 (‵ (EndsAs R s ys)) (Buffer.let_go 𝓛 R κs.0 s vss.0) $
    Names.rewrite ! 0 (λ (e : GName × List X.Denot). ‵ (Names.fres e.0 ((Names.Items R 0).coded.code e.1)))
    (λ i. (same i, kept below i)) refl $
    Names.returns_within ! Post refl (Names.look_at ! 0 refl) $ Names.free_all ! refl $ tell ! (refused ∙ count-same) $
    tells {φ = Unit {0}} ! tt $ tells {φ = Unit {0}} ! tt $ tells ! accepted $ move ! (1 ∷ 0 ∷ []) $ Buffer.says ! $
    Names.nothing ! $ Names.nothing ! $
    -- [twice nothing; the clauses; the answer; nothing; four tokens; twice nothing]
    Names.keep ! (5 ∷ 6 ∷ 7 ∷ 8 ∷ 0 ∷ 1 ∷ 3 ∷ 2 ∷ []) $ Buffer.ends 𝓛 T hs c at_end w o ((tt, tt), (tt, tt)) ! (tt, (tt, tt))))))
    (λ long-enough.
    let in-input : k ≤ m = Buffer.nltb→le m k long-enough in let within-slice : k ≤ length ys = omega arith in
    let left-fits : length ys - k < 2 ^ 64 = omega arith in let z = Names.size (Names.layout X) in
    let bytes : k * z ≤ length ys * z = mul-le-mul_right z within-slice in let fit : length ys * z < 2 ^ 63 = rm.1 in
    let far : k * capped z ≡ k * z = uncapped k z (omega arith) in
    let bytes-fit : Fits w64 (k * capped z) = record { fits = omega arith } in
    let p : ℕ = k * capped z + s.ref_ptr.1 in let t = Buffer.slice_typed (s.ref_ptr.0, p) (length ys - k) left-fits in
    Names.skips ! $ Names.exec ! 𝓣.C 𝓣.Λ (Names.env fn.locals l) (Buffer.after 10 fn.body) (Buffer.at_ret (Names.env fn.locals
    l) Post) $
    sets ! (bin ! (get ! refl) (Names.size_word !) bytes-fit) refl (tt, bytes-fit) $
    sets ! (bin ! (Names.get_in ! (fld ! refl (stop !)) (sub ! 0 refl (whole !))) (get ! refl) tt)
    refl (tt, tt) $
    sets ! (bin ! (Names.get_in ! (fld ! refl (stop !)) (sub ! 1 refl (whole !))) (get ! refl)
    within-slice) refl
    (tt, record { fits = left-fits }) $
    sets ! (Names.addr ! (Names.through ! refl (stop !))) refl (tt, tt) $ sets ! (agg ! (Buffer.both ! refl refl)) refl t $
    sets ! (agg ! (Buffer.both ! refl refl)) refl (tt, (t.1, (start, tt))) $
    sets ! (agg ! (Names.and_then ! (Names.lit ! tt) (Buffer.alone ! refl))) refl
    (tt, (record { fits = Buffer.lit< tt }, ((t.1, (start, tt)), tt))) $
    Names.use2 𝓛 (Names.later
    (Names.some (Buffer.lent X 𝓛 κs.0 qs.0 s (drop_list k ys) (λ ws. Names.take k ys ++ ws) (k * z + s.ref_ptr.1)
    (length ys - k))))
    (lends_back X 𝓛 κs.0 qs.0 s k within-slice rm vss.0) $ Names.await ! tt $ Names.pick ! (λ δ.
    let d : Buffer.Overlapping X.Denot = record {
      in_out = record { ref_ptr = (s.ref_ptr.0, p); ghost_name = δ; now = drop_list k ys };
      start = r.start;
      within = omega (arith, Names.length-drop k ys, r.within);
    } in
    let v = Names.slice_val (s.ref_ptr.0, p) (length ys - k) in let w = Buffer.live 0 (Names.of_list (held v r.start ∷ [])) in
    let o : Out.Denot = Names.Ok d in
    let h : n ≤ length xs - b.start = omega (arith, in-input, alike, start-same, count-same) in
    let accepted : Names.IsOk o ↔ (n ≤ length xs - b.start) = ((λ _. h), λ _. refl) in
    let maps = mapped h in let answer = chunk.chunk_items maps.answers.answer in
    let sum = ap length maps.written ∙ Names.length-append answer (drop_list n xs) in
    let parts = Buffer.at_seam k ys answer (drop_list n xs) maps.written
    (omega (arith, sum, Names.length-drop n xs, alike, count-same)) in
    Names.split3 ! $ Names.rewrite ! 0
    (λ (k' : ℕ). ‵ (Part X 𝓛 κs.0 qs.0 s (drop_list k ys) (λ ws. Names.take k ys ++ ws) k' (length ys - k) δ))
    (λ i. Names.sym far i + s.ref_ptr.1) refl $
    use1 𝓛 (‵ (Row.own_val d (held v r.start ∷ []))) (Buffer.begun 𝓛 ℓ R d v start-is.1) $
    use1 𝓛 (‵ (Out.own_val o (w ∷ []))) (Buffer.ok_of 𝓛 Row IE.the_row d (held v r.start)) $
    Names.returns ! (Names.look_at ! 0 refl) $ Names.free_all ! refl $
    -- [the answer; the slice's token; what the slice follows; three tokens; twice nothing]
    move ! (2 ∷ []) $
    Names.rewrite ! 0 (λ (e : GName × List X.Denot). ‵ (Names.follows (Names.Items R 0) (Names.Items R 0) e.0 δ (λ w. e.1 ++ w)))
    (λ i. (same i, parts.0 i)) refl $
    Names.fpack ! (AnswersChunk chunk.chunk_items once n f (drop_list b.start xs))
    (λ a. LendsBehind R b.in_out (chunk.chunk_items a.answer) d.in_out)
    maps.answers $
    tell {φ = Unit {0}} ! tt $ tells {φ = d.start ≡ b.start} ! start-same $
    tells {φ = d.in_out.now ≡ drop_list n xs} ! parts.1 $
    tells ! accepted $ move ! (1 ∷ 0 ∷ []) $ Buffer.says {i = ‵ (LendsRest R chunk.chunk_items once n f b o)} ! $
    Names.nothing ! $ Names.nothing ! $
    Names.keep ! (4 ∷ 5 ∷ 6 ∷ 7 ∷ 0 ∷ 1 ∷ 3 ∷ 2 ∷ []) $
    Buffer.ends 𝓛 T hs c at_end w o ((tt, tt), (tt, tt)) ! (tt, (tt, tt)))))))))))))))))))))
