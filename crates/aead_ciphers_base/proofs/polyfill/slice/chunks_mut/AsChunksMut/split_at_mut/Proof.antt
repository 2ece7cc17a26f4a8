-- The items that `as_flattened_mut` lends are handed on in two views.
-- This walks the code by hand; brackets name the entries of the context, as `Walks` says.
use Rattle.aead_ciphers_base.proofs
use proofs.WalkNames as Names
use proofs.WalkNames.{◌≡◌, refl, ap, ◌∙◌, [], ◌∷◌, ◌++◌, ◌*◌, ◌%◌, ◌≤◌, length, vcons, vnil, ‵, ◌$◌, !, move, whole, agg, stop, sets, Items}
use proofs.WalkLocals.{alone, both, gets, reborrows}
use proofs.Walks as Walk
use proofs.Walks.{learns, tells}
use proofs.ViewWalks.{AsChunksMut, Tuple, in_two, paired, viewed, follows_parts}
use proofs.BlocksLemmas.{blocks_fit, blocks_front, blocks_back, whole_front, whole_back}
use Rattle.aead_ciphers_base.specs
use specs.AsChunksMut.{with_items}
use specs.Blocks.{blocks}
use specs.contracts.polyfill.slice.chunks_mut as Contract
use proofs.polyfill.slice.chunks_mut as Proofs

pub split_at_mut_spec : {M : Type 1} → Proofs.AsChunksMut.split_at_mut.Statement.statement M
split_at_mut_spec 𝓤 𝓛 𝓜 𝓡 wired X n L fits =
    let J = Names.number n in let R = Names.param 0 X in let K = Names.param 1 J in
    let T = Contract.AsChunksMut.split_at_mut.ended X J in let c = Contract.AsChunksMut.split_at_mut.clauses X J 𝓛 𝓜.mem
    𝓡.returns in
    let hs = Walk.dropped T.signature.params T.kept in
    Walk.walked 𝓛 T hs c 𝓜 𝓡 (
      Names.Goes-spent_ref 𝓛 4 (0 ∷ []) tt (Names.plain (λ κs. Contract.AsChunksMut.the_row (Names.named_lft 4 1 tt κs) R K)),
      (Names.Goes-dropped 𝓛 4 (Names.plain (λ _. Names.usize)) Names.yes (λ κs x f. refl), tt),
    ) _ _ (Proofs.AsChunksMut.split_at_mut.Code.unfolded 𝓤 𝓛.H 𝓜 𝓡 wired (X, (J, tt))) (λ y are.
    let (κs, qs, bounds, a, passed) = y.0 in let Ts = Names.types_at T.signature.params κs in let x = a.0 in
    let mid = a.1.0 in let xs = x.now.items.now in
    let words : Walk.Words Ts passed = (
      (_, are.0.0, (tt, tt)),
      (
        (
          Names.vint Names.w64 mid,
          are.1.0.0,
          (tt, record { fits = are.1.0.1 }),
        ),
        tt,
      ),
    ) in
    let vals = Walk.words_vals Ts passed words in let S = Names.MutSlice (Names.named 0) κs.0 R in
    let ℓ = Names.named_lft 4 0 tt κs in
    let lender = Contract.AsChunksMut.the_row (Names.named_lft 4 1 tt κs) R K in let View = Contract.AsChunksMut.the_row ℓ R K in
    -- [four tokens; the view's reference; the number; the premise]
    Walk.at_words words (move ! (6 ∷ []) $ learns ! (λ lives. learns ! (λ number-lives. learns ! (λ size-of-lender.
    learns ! (λ size-of-view. Names.heard ! _ (λ inside.
    Names.alloc_all ! (λ l. Names.pass_all ! refl (Walk.words_typed Ts passed words) $
    sets ! (Names.addr ! (Names.through ! refl (stop !))) refl (tt, tt) $
    Walk.premise ! $ tells ! size-of-lender $ tells ! number-lives $ tells ! lives $ move ! (1 ∷ 2 ∷ 3 ∷ 4 ∷ 5 ∷ []) $
    Walk.consults 𝓛 (Contract.AsChunksMut.as_flattened_mut.ended X J) (Contract.AsChunksMut.as_flattened_mut.clauses X J 𝓛 𝓜.mem
    𝓡.returns) ! (Walk.table_of 𝓛 𝓜 𝓡)
    (Proofs.AsChunksMut.as_flattened_mut.Met.met 𝓤 𝓛 𝓜 𝓡
    (Proofs.AsChunksMut.split_at_mut.Code.calls-aead_ciphers_base::polyfill::slice::chunks_mut::AsChunksMut::as_flattened_mut
    𝓡.env wired) X n L fits)
    ((κs, qs, bounds, (x, tt), (vals.0, tt)), tt) (gets ! tt refl) (λ v r ws.
    Walk.takes ! (Names.follows lender (Items R 0) x.ghost_name r.ghost_name (with_items x.now)) $ move ! (1 ∷ []) $
    Names.heard ! _ (λ same. move ! (1 ∷ []) $
    Names.peeks ! S (Names.Is S) (Names.shows 𝓛 S) r (v ∷ []) (λ is-r. Names.lands_as ! refl refl (((Names.mut_slice_Lawful 𝓛
    (Names.named 0) κs.0 R).typed r (v ∷ []) is-r).0) $
    -- [the items; what the view follows; four tokens; nothing of the reference; the number]
    let fit = blocks_fit n mid xs inside in let there : mid * n ≤ length r.now = Names.subst (λ
    (l : Names.List X.Denot). mid * n ≤ length l) (Names.sym same) fit in
    Walk.tell ! there $ tells ! number-lives $ tells ! lives $ move ! (3 ∷ 5 ∷ 6 ∷ 1 ∷ 8 ∷ []) $
    Walk.consults 𝓛 (Contract.split_after_blocks.ended X J) (Contract.split_after_blocks.clauses X J 𝓛 𝓜.mem 𝓡.returns) !
    (Walk.table_of 𝓛 𝓜 𝓡)
    (Proofs.split_after_blocks.Met.met 𝓤 𝓛 𝓜 𝓡
    (Proofs.AsChunksMut.split_at_mut.Code.calls-aead_ciphers_base::polyfill::slice::chunks_mut::split_after_blocks 𝓡.env wired)
    X n
    L fits)
    (((κs.0, κs.1.1), (qs.0, qs.1.1), (bounds.1.0, tt), (r, (mid, tt)), (v ∷ [], vals.1)), tt) (gets ! tt refl)
    (λ w t ws'.
    Walk.takes ! (Names.follows_both (Items R 0) (Items R 0) (Items R 0) r.ghost_name t.0.ghost_name t.1.ghost_name ◌++◌) $
    move ! (1 ∷ []) $
    learns ! (λ first-part. Names.heard ! _ (λ second-part.
    -- [what the items follow; the pair; three tokens; twice nothing; what the view follows; its token; nothing]
    move ! (7 ∷ 0 ∷ []) $
    Names.use2 𝓛 (‵ (Names.follows_both lender (Items R 0) (Items R 0) x.ghost_name t.0.ghost_name t.1.ghost_name (λ f b.
    with_items x.now (f ++ b))))
    (follows_parts 𝓛 lender (Items R 0) (Items R 0) (Items R 0) (with_items x.now) ◌++◌ x.ghost_name r.ghost_name
    t.0.ghost_name t.1.ghost_name) $
    move ! (1 ∷ []) $ in_two κs.0 R ! t w (λ is t₀ t₁. Names.lands_as ! is refl (tt, (t₀.1, (t₁.1, tt))) $
    sets ! (Names.of_opd ! (Names.get_in ! (Names.fld ! refl (stop !)) (Names.sub ! 0 refl (whole !)))) refl t₀ $
    sets ! (Names.of_opd ! (Names.get_in ! (Names.fld ! refl (stop !)) (Names.sub ! 1 refl (whole !)))) refl t₁ $
    reborrows ! t.0.ref_ptr (length t.0.now) refl refl (tt, tt) t₀ $ sets ! (agg ! (alone ! refl)) refl (
      tt,
      (t₀.1, tt),
    ) $
    reborrows ! t.1.ref_ptr (length t.1.now) refl refl (tt, tt) t₁ $ sets ! (agg ! (alone ! refl)) refl (
      tt,
      (t₁.1, tt),
    ) $
    sets ! (agg ! (both ! refl refl)) refl (tt, ((t₀.1, tt), ((t₁.1, tt), tt))) $
    let front : t.0.now ≡ Names.take (mid * n) xs = first-part ∙ ap (Names.take (mid * n)) same in
    let back : t.1.now ≡ Names.drop_list (mid * n) xs = second-part ∙ ap (Names.drop_list (mid * n)) same in
    let d₀ : AsChunksMut X.Denot n = record {
      items = t.0;
      whole = ap (λ l.
          length l % n) front ∙ whole_front n mid xs fit;
    } in
    let d₁ : AsChunksMut X.Denot n = record {
      items = t.1;
      whole = ap (λ l.
          length l % n) back ∙ whole_back n mid xs fit x.now.whole;
    } in
    let w₀ = Names.vstruct (vcons (Names.slice_val t.0.ref_ptr (length t.0.now)) vnil) in
    let w₁ = Names.vstruct (vcons (Names.slice_val t.1.ref_ptr (length t.1.now)) vnil) in
    let out = Names.vstruct (vcons w₀ (vcons w₁ vnil)) in
    Names.use1 𝓛 (‵ (View.own_val d₀ (w₀ ∷ []))) (viewed 𝓛 ℓ R n d₀ _) $ move ! (1 ∷ []) $
    Names.use1 𝓛 (‵ (View.own_val d₁ (w₁ ∷ []))) (viewed 𝓛 ℓ R n d₁ _) $ move ! (1 ∷ 0 ∷ []) $
    Names.use2 𝓛 (‵ ((Tuple (View ∷ View ∷ [])).own_val (d₀, d₁) (out ∷ []))) (paired 𝓛 View View d₀ d₁ w₀ w₁) $
    Names.returns ! (Names.look_at ! 0 refl) $
    Names.free_all ! refl $
    Walk.tell ! back $ tells ! front $ tells ! (ap (blocks n) back ∙ blocks_back n mid xs inside) $
    tells ! (ap (blocks n) front ∙ blocks_front n mid xs inside) $ move ! (2 ∷ 0 ∷ []) $ Walk.says ! $ Names.nothing ! $
    Names.nothing ! $
    -- [twice nothing; the clauses; the answer; three tokens; twice nothing; the view's token]
    Names.keep ! (4 ∷ 9 ∷ 5 ∷ 6 ∷ 0 ∷ 1 ∷ 3 ∷ 2 ∷ []) $
    Walk.ends 𝓛 T hs c ((κs, qs, bounds, a, vals), tt) out (d₀, d₁) (tt, (tt, tt)) ! (tt, (tt, tt)))))))))))))))))
