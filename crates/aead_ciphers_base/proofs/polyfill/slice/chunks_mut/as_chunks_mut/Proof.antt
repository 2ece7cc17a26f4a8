-- The slice is lent in two parts, the first of them in a view.
-- This walks the code by hand; brackets name the entries of the context, as `Walks` says.
use Rattle.aead_ciphers_base.proofs
use proofs.WalkNames as Names
use proofs.WalkNames.{◌≡◌, refl, ap, ◌∙◌, [], ◌∷◌, ◌++◌, ◌+◌, ◌*◌, ◌/◌, ◌%◌, ◌<◌, length, ‵, ◌$◌, !, move, sets}
use proofs.WalkLocals.{alone, both, gets, reborrows}
use proofs.Walks as Walk
use proofs.Walks.{learns, tells}
use proofs.ViewWalks.{AsChunksMut, Tuple, in_two, paired, viewed}
use Rattle.std.proofs.Math.Nat.{mod-add-div'}
use proofs.BlocksLemmas.{blocks_take, whole_blocks}
use Rattle.aead_ciphers_base.specs
use specs.Blocks.{blocks}
use specs.contracts.polyfill.slice.chunks_mut as Contract
use proofs.polyfill.slice.chunks_mut as Proofs

-- fewer items than a block has are left over
short : {A : Type 0} (n : Names.ℕ) (xs ys : Names.List A) → 0 < n → ys ≡ Names.drop_list (length xs / n * n) xs → length ys < n
short n xs ys above rest =
    let all : length xs % n + length xs / n * n ≡ length xs = mod-add-div' (length xs) n in
    let left : length ys ≡ length (Names.drop_list (length xs / n * n) xs) = ap length rest in
    omega (Names.arith, Names.length-drop (length xs / n * n) xs)

pub as_chunks_mut_spec : {M : Type 1} → Proofs.as_chunks_mut.Statement.statement M
as_chunks_mut_spec 𝓤 𝓛 𝓜 𝓡 wired X n L fits =
    let J = Names.number n in let R = Names.param 0 X in let K = Names.param 1 J in
    let T = Contract.as_chunks_mut.ended X J in let c = Contract.as_chunks_mut.clauses X J 𝓛 𝓜.mem 𝓡.returns in
    let hs = Walk.dropped T.signature.params T.kept in
    Walk.walked 𝓛 T hs c 𝓜 𝓡 (Names.Goes-spent_slice 𝓛 3 (0 ∷ []) tt (Names.plain (λ _. R)), tt) _ _
    (Proofs.as_chunks_mut.Code.unfolded 𝓤 𝓛.H 𝓜 𝓡 wired (X, (J, tt))) (λ y are.
    let (κs, qs, bounds, a, passed) = y.0 in let Ts = Names.types_at T.signature.params κs in let x = a.0 in
    let xs = x.now in
    let typed = Walk.slice_typed x.ref_ptr (length xs) are.0.0.1.0 in let words : Walk.Words Ts passed =
    ((_, are.0.0.0, typed), tt) in
    let vals = Walk.words_vals Ts passed words in let S = Names.MutSlice (Names.named 0) κs.0 R in
    let ℓ = Names.named_lft 3 0 tt κs in
    let View = Contract.AsChunksMut.the_row ℓ R K in
    -- [three tokens; the slice; the premise]
    Walk.at_words words (move ! (4 ∷ []) $ learns ! (λ lives. learns ! (λ number-lives. learns ! (λ size-of-view.
    Names.heard ! _ (λ some.
    Names.alloc_all ! (λ l. Names.pass_all ! refl (Walk.words_typed Ts passed words) $
    reborrows ! x.ref_ptr (length xs) refl refl (tt, tt) typed $
    Walk.tell ! some $ tells ! number-lives $ tells ! lives $ move ! (1 ∷ 2 ∷ 3 ∷ 4 ∷ []) $
    Walk.consults 𝓛 (Contract.split_after_whole_blocks.ended X J) (Contract.split_after_whole_blocks.clauses X J 𝓛 𝓜.mem
    𝓡.returns) ! (Walk.table_of 𝓛 𝓜 𝓡)
    (Proofs.split_after_whole_blocks.Met.met 𝓤 𝓛 𝓜 𝓡
    (Proofs.as_chunks_mut.Code.calls-aead_ciphers_base::polyfill::slice::chunks_mut::split_after_whole_blocks 𝓡.env wired) X n L
    fits)
    ((κs, qs, bounds, a, vals), tt) (gets ! tt refl) (λ v r ws.
    Walk.takes ! (Names.follows_both (Names.Items R 0) (Names.Items R 0) (Names.Items R 0) x.ghost_name r.0.ghost_name
    r.1.ghost_name ◌++◌)
    $ move ! (1 ∷ []) $
    learns ! (λ front. Names.heard ! _ (λ back. move ! (1 ∷ []) $
    -- [the pair; what the slice follows; three tokens; nothing of the slice]
    in_two κs.0 R ! r v (λ is t₀ t₁. Names.lands_as ! is refl (tt, (t₀.1, (t₁.1, tt))) $
    sets ! (Names.of_opd ! (Names.get_in ! (Names.fld ! refl (Names.stop !)) (Names.sub ! 0 refl (Names.whole !)))) refl t₀ $
    sets ! (Names.of_opd ! (Names.get_in ! (Names.fld ! refl (Names.stop !)) (Names.sub ! 1 refl (Names.whole !)))) refl t₁ $
    reborrows ! r.0.ref_ptr (length r.0.now) refl refl (tt, tt) t₀ $ sets ! (Names.agg ! (alone ! refl)) refl (
      tt,
      (t₀.1, tt),
    ) $
    reborrows ! r.1.ref_ptr (length r.1.now) refl refl (tt, tt) t₁ $ sets ! (Names.agg ! (both ! refl refl)) refl (
      tt,
      ((t₀.1, tt), (t₁.1, tt)),
    ) $
    let d : AsChunksMut X.Denot n = record { items = r.0; whole = ap (λ l. length l % n) front ∙ whole_blocks n xs } in
    let p = Names.slice_val r.1.ref_ptr (length r.1.now) in let w = Names.vstruct (Names.vcons (Names.slice_val r.0.ref_ptr
    (length r.0.now)) Names.vnil) in
    let out = Names.vstruct (Names.vcons w (Names.vcons p Names.vnil)) in
    Names.use1 𝓛 (‵ (View.own_val d (w ∷ []))) (viewed 𝓛 ℓ R n d _) $
    Names.use2 𝓛 (‵ ((Tuple (View ∷ S ∷ [])).own_val (d, r.1) (out ∷ []))) (paired 𝓛 View S d r.1 w p) $
    Names.returns ! (Names.look_at ! 0 refl) $ Names.free_all ! refl $
    Walk.tell ! (short n xs r.1.now some back) $ tells ! back $ tells ! front $
    tells ! (ap (blocks n) front ∙ blocks_take n xs) $
    move ! (2 ∷ 0 ∷ []) $ Walk.says ! $ Names.nothing ! $
    -- [nothing; the clauses; the answer; three tokens]
    Names.keep ! (3 ∷ 4 ∷ 5 ∷ 0 ∷ 2 ∷ 1 ∷ []) $ Walk.ends 𝓛 T hs c ((κs, qs, bounds, a, vals), tt) out (d, r.1) (tt, tt) !
    (tt, tt))))))))))))
