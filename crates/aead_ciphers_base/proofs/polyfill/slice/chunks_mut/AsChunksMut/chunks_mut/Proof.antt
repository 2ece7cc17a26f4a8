-- The items that `as_flattened_mut` lends are walked in chunks.
-- This walks the two calls by hand; brackets name the entries of the context, as `Walks` says.
use Rattle.aead_ciphers_base.proofs
use proofs.WalkNames as Names
use proofs.WalkNames.{refl, ◌∙◌, [], ◌∷◌, ◌%◌, ◌$◌, !, move, Is}
use proofs.WalkLocals.{gets}
use proofs.Walks as Walk
use proofs.Walks.{learns, tells}
use denote.Param.Laws.{param_laws}
use Rattle.aead_ciphers_base.specs
use specs.AsChunksMut.{with_items}
use specs.contracts.polyfill.slice.chunks_mut as Contract
use proofs.polyfill.slice.chunks_mut as Proofs

pub chunks_mut_spec : {M : Type 1} → Proofs.AsChunksMut.chunks_mut.Statement.statement M
chunks_mut_spec 𝓤 𝓛 𝓜 𝓡 wired X n t L fits fits-t =
    let J = Names.number n in let I = Names.number t in let R = Names.param 0 X in let K = Names.param 1 J in
    let T = Contract.AsChunksMut.chunks_mut.ended X J I in let c = Contract.AsChunksMut.chunks_mut.clauses X J I 𝓛 𝓜.mem
    𝓡.returns in
    let hs = Walk.dropped T.signature.params T.kept in
    Walk.walked 𝓛 T hs c 𝓜 𝓡 (
      Names.Goes-spent_ref 𝓛 5 (0 ∷ []) tt (Names.plain (λ κs.
          Contract.AsChunksMut.the_row (Names.named_lft 5 1 tt κs) R K)),
      tt,
    )
    _ _ (Proofs.AsChunksMut.chunks_mut.Code.unfolded 𝓤 𝓛.H 𝓜 𝓡 wired (X, (J, (I, tt)))) (λ y are.
    let (κs, qs, bounds, a, passed) = y.0 in let Ts = Names.types_at T.signature.params κs in let x = a.0 in
    let words : Walk.Words Ts passed = ((_, are.0.0, (tt, tt)), tt) in let vals = Walk.words_vals Ts passed words in
    let S = Names.MutSlice (Names.named 0) κs.0 R in
    let lender = Contract.AsChunksMut.the_row (Names.named_lft 5 1 tt κs) R K in
    let Iter = Contract.AsChunksMutChunksMutIter.the_row
    (Names.named_lft 5 0 tt κs) R K in
    -- [five tokens; the view's reference; the premise]
    Walk.at_words words (move ! (6 ∷ []) $ learns ! (λ lives. learns ! (λ number-lives. learns ! (λ chunk-lives.
    learns ! (λ size-of-lender. learns ! (λ size-of-iter.
    learns ! (λ some. Names.heard ! _ (λ product-fits.
    Names.alloc_all ! (λ l. Names.pass_all ! refl (Walk.words_typed Ts passed words) $
    Names.sets ! (Names.addr ! (Names.through ! refl (Names.stop !))) refl (tt, tt) $
    Walk.premise ! $ tells ! size-of-lender $ tells ! number-lives $ tells ! lives $ move ! (1 ∷ 2 ∷ 3 ∷ 4 ∷ 6 ∷ []) $
    Walk.consults 𝓛 (Contract.AsChunksMut.as_flattened_mut.ended X J) (Contract.AsChunksMut.as_flattened_mut.clauses X J 𝓛 𝓜.mem
    𝓡.returns) ! (Walk.table_of 𝓛 𝓜 𝓡)
    (Proofs.AsChunksMut.as_flattened_mut.Met.met 𝓤 𝓛 𝓜 𝓡
    (Proofs.AsChunksMut.chunks_mut.Code.calls-aead_ciphers_base::polyfill::slice::chunks_mut::AsChunksMut::as_flattened_mut
    𝓡.env wired) X n L fits) (
      (
        (κs.0, (κs.1.0, (κs.1.1.0, (κs.1.1.1.0, tt)))),
        (
          qs.0,
          (
            qs.1.0,
            (
              qs.1.1.0,
              (qs.1.1.1.0, tt),
            ),
          ),
        ),
        bounds,
        a,
        vals,
      ),
      tt,
    ) (gets ! tt refl) (λ v r ws.
    Walk.takes ! (Names.follows lender (Names.Items R 0) x.ghost_name r.ghost_name (with_items x.now)) $ move ! (1 ∷ []) $
    Names.heard ! _ (λ same. move ! (1 ∷ []) $
    Names.peeks ! S (Is S) (Names.shows 𝓛 S) r (v ∷ []) (λ is-r. Names.lands_as ! refl refl (((Names.mut_slice_Lawful 𝓛
    (Names.named 0) κs.0 R).typed r (v ∷ []) is-r).0) $
    -- [the items; what the view follows; four tokens; nothing of the reference; the last token]
    Walk.tell ! (Names.ap (λ l. Names.length l % n) same ∙ x.now.whole) $ tells ! product-fits $ tells ! some $
    tells ! size-of-iter $ tells ! chunk-lives $
    tells ! number-lives $ tells ! lives $ move ! (3 ∷ 5 ∷ 6 ∷ 8 ∷ 1 ∷ []) $
    Walk.consults 𝓛 (Contract.chunks_of_blocks.ended X J I) (Contract.chunks_of_blocks.clauses X J I 𝓛 𝓜.mem 𝓡.returns) !
    (Walk.table_of 𝓛 𝓜 𝓡)
    (Proofs.chunks_of_blocks.Met.met 𝓤 𝓛 𝓜 𝓡
    (Proofs.AsChunksMut.chunks_mut.Code.calls-aead_ciphers_base::polyfill::slice::chunks_mut::chunks_of_blocks 𝓡.env wired) X n
    t L
    fits fits-t)
    (((κs.0, κs.1.1), (qs.0, qs.1.1), (bounds.1.0, tt), (r, tt), (v ∷ [], tt)), tt) (gets ! tt refl) (λ w it ws'.
    learns ! (λ rest. Names.heard ! _ (λ sized. Names.peeks ! Iter (Is Iter) (Names.shows 𝓛 Iter) it (w ∷ []) (λ is-it.
    Names.lands_as ! refl refl
    ((((Proofs.AsChunksMutChunksMutIter.TheLaws.the_row_laws (Names.named_lft 5 0 tt κs) R K
    (param_laws 0 X L) refl).lawful 𝓛).typed it (w ∷ []) is-it).0) $
    Names.returns ! (Names.look_at ! 0 refl) $ Names.free_all ! refl $
    -- [the walk; four tokens; nothing of the items; what the view follows; its token]
    move ! (6 ∷ []) $ Names.fpack ! Names.GName (λ loan. Names.follows lender (Names.Items R 0) x.ghost_name loan
    (with_items x.now)) r.ghost_name $
    Walk.tell ! sized $ tells ! (rest ∙ same) $ move ! (1 ∷ 0 ∷ []) $ Walk.says ! $ Names.nothing ! $
    -- [nothing; the clauses; the walk; four tokens; nothing; the view's token]
    Names.keep ! (3 ∷ 8 ∷ 4 ∷ 5 ∷ 6 ∷ 0 ∷ 2 ∷ 1 ∷ []) $ Walk.ends 𝓛 T hs c ((κs, qs, bounds, a, vals), tt) w it (tt, tt) !
    (tt, tt))))))))))))))))))
