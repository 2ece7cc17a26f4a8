-- The items that `as_flattened_mut` lends are handed on in a view.
-- This walks the code by hand; brackets name the entries of the context, as `Walks` says.
use Rattle.aead_ciphers_base.proofs
use proofs.WalkNames as Names
use proofs.WalkNames.{refl, ap, ◌∙◌, [], ◌∷◌, ◌%◌, ‵, ◌$◌, !, move}
use proofs.WalkLocals.{alone, gets}
use proofs.Walks as Walk
use proofs.ViewWalks.{AsChunksMut, viewed}
use Rattle.aead_ciphers_base.specs
use specs.AsChunksMut.{with_items}
use specs.contracts.polyfill.slice.chunks_mut.AsChunksMut as Chunks
use proofs.polyfill.slice.chunks_mut.AsChunksMut as Proofs

pub as_mut_spec : {M : Type 1} → Proofs.as_mut.Statement.statement M
as_mut_spec 𝓤 𝓛 𝓜 𝓡 wired X n L fits =
    let J = Names.number n in let R = Names.param 0 X in let K = Names.param 1 J in
    let T = Chunks.as_mut.ended X J in let c = Chunks.as_mut.clauses X J 𝓛 𝓜.mem 𝓡.returns in
    let hs = Walk.dropped T.signature.params T.kept in
    Walk.walked 𝓛 T hs c 𝓜 𝓡 (
      Names.Goes-spent_ref 𝓛 4 (0 ∷ []) tt (Names.plain (λ κs.
          Chunks.the_row (Names.named_lft 4 1 tt κs) R K)),
      tt,
    ) _ _
    (Proofs.as_mut.Code.unfolded 𝓤 𝓛.H 𝓜 𝓡 wired (X, (J, tt))) (λ y are.
    let (κs, qs, bounds, a, passed) = y.0 in let Ts = Names.types_at T.signature.params κs in let x = a.0 in
    let words : Walk.Words Ts passed = ((_, are.0.0, (tt, tt)), tt) in let vals = Walk.words_vals Ts passed words in
    let S = Names.MutSlice (Names.named 0) κs.0 R in let lender = Chunks.the_row (Names.named_lft 4 1 tt κs) R K in
    let lent = Names.named_lft 4 0 tt κs in
    -- [four tokens; the view's reference; the premise]
    Walk.at_words words (move ! (5 ∷ []) $ Walk.learns ! (λ lives. Walk.learns ! (λ number-lives. Walk.learns ! (λ size-of-lender.
    Walk.learns_last ! (λ size-of-view.
    Names.alloc_all ! (λ l. Names.pass_all ! refl (Walk.words_typed Ts passed words) $
    Names.sets ! (Names.addr ! (Names.through ! refl (Names.stop !))) refl (tt, tt) $
    Walk.premise ! $ Walk.tells ! size-of-lender $ Walk.tells ! number-lives $ Walk.tells ! lives $
    move ! (1 ∷ 2 ∷ 3 ∷ 4 ∷ 5 ∷ []) $
    Walk.consults 𝓛 (Chunks.as_flattened_mut.ended X J) (Chunks.as_flattened_mut.clauses X J 𝓛 𝓜.mem 𝓡.returns) ! (Walk.table_of
    𝓛 𝓜 𝓡)
    (Proofs.as_flattened_mut.Met.met 𝓤 𝓛 𝓜 𝓡
    (Proofs.as_mut.Code.calls-aead_ciphers_base::polyfill::slice::chunks_mut::AsChunksMut::as_flattened_mut
    𝓡.env wired) X n L fits) ((κs, qs, bounds, a, vals), tt) (gets ! tt refl) (λ v r ws.
    Walk.takes ! (Names.follows lender (Names.Items R 0) x.ghost_name r.ghost_name (with_items x.now)) $ move ! (1 ∷ []) $
    Names.heard ! _ (λ same. move ! (1 ∷ []) $
    -- [the items; what the view follows; four tokens; nothing of the reference]
    Names.peeks ! S (Names.Is S) (Names.shows 𝓛 S) r (v ∷ []) (λ is-r. Names.rewrite ! 0 (λ (vs : Names.List Names.Val). ‵
    (S.own_val r vs)) is-r.0.0 refl $
    let d : AsChunksMut X.Denot n = record { items = r; whole = ap (λ l. Names.length l % n) same ∙ x.now.whole } in
    let p = Names.slice_val r.ref_ptr (Names.length r.now) in let w = Names.vstruct (Names.vcons p Names.vnil) in
    let typed = Walk.slice_typed r.ref_ptr (Names.length r.now) is-r.0.1.0 in
    Names.lands_as ! (ap Names.only is-r.0.0) refl typed $ Names.sets ! (Names.agg ! (alone ! refl)) refl (tt, (typed.1, tt)) $
    Names.use1 𝓛 (‵ ((Chunks.the_row lent R K).own_val d (w ∷ []))) (viewed 𝓛 lent R n d p) $
    Names.returns ! (Names.look_at ! 0 refl) $
    Names.free_all ! refl $
    Walk.tell ! same $ move ! (2 ∷ 0 ∷ []) $ Walk.says ! $ Names.nothing ! $
    -- [nothing; the clauses; the view; four tokens]
    Names.keep ! (3 ∷ 4 ∷ 5 ∷ 6 ∷ 0 ∷ 2 ∷ 1 ∷ []) $ Walk.ends 𝓛 T hs c ((κs, qs, bounds, a, vals), tt) w d (tt, tt) !
    (tt, tt)))))))))))
