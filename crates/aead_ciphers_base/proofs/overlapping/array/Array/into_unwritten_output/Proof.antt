-- The front of the slice that the buffer holds is lent as an array.
-- This walks the two calls by hand; brackets name the entries of the context, as `Walks` says.
use Rattle.aead_ciphers_base.proofs
use proofs.WalkNames as Names
use proofs.WalkNames.{‵, ◌≡◌, refl, ap, ◌∙◌, List, [], ◌∷◌, ◌++◌, ◌≤◌, length, named, GName, ◌$◌, !, move, Items, Is}
use proofs.BufferWalk as Buffer
use proofs.BufferWalk.{learns, tells}
use denote.Param.{ArrayAt}
use denote.Ref.{mut_Lawful}
use Rattle.aead_ciphers_base.specs.contracts.overlapping.array as Contract
use proofs.overlapping.array as Proofs

pub into_unwritten_output_spec : {M : Type 1} → Proofs.Array.into_unwritten_output.Statement.statement M
into_unwritten_output_spec 𝓤 𝓛 𝓜 𝓡 wired X n L fits =
    let N = Names.number n in let R = Names.param 0 X in let K = Names.param 1 N in
    let T = Contract.Array.into_unwritten_output.ended X N in
    let c = Contract.Array.into_unwritten_output.clauses X N 𝓛 𝓜.mem 𝓡.returns in
    let hs = Buffer.dropped T.signature.params T.kept in
    Buffer.walked 𝓛 T hs c 𝓜 𝓡 ((λ κs x f vs fits. Buffer.gone_within 𝓛), tt) _ _
    (Proofs.Array.into_unwritten_output.Code.unfolded 𝓤 𝓛.H 𝓜 𝓡 wired (X, (N, tt))) (λ y are.
    let (κs, qs, bounds, a, passed) = y.0 in let Ts = Names.types_at T.signature.params κs in let x = a.0 in
    let ℓ = Names.named_lft 3 0 tt κs in
    let typed = ((Proofs.Array.TheLaws.the_row_laws ℓ R K (Buffer.param_laws 0 X L) refl).lawful 𝓛).typed in
    let words : Buffer.Words Ts passed = (
      Buffer.one (Names.layout (Contract.Array.the_row ℓ R K)) passed.0 (typed x passed.0
          are.0),
      tt,
    ) in
    let vals = Buffer.words_vals Ts passed words in
    let S = Names.MutSlice (named 0) κs.0 R in let Out = Names.MutRef (named 0) κs.0 (ArrayAt R K) in Buffer.at_words words (
    -- [three tokens; self; the premise]
    move ! (4 ∷ []) $ learns !
    (λ lives. learns ! (λ number-lives. learns ! (λ size-of-self. Buffer.learns_last ! (λ size-of-array.
    Names.alloc_all ! (λ l. Names.pass_all ! refl (Buffer.words_typed Ts passed words) $
    Names.sets ! (Names.of_opd ! (Names.get ! refl)) refl words.0.2 $
    Buffer.premise ! $ tells ! size-of-self $ tells ! number-lives $ tells ! lives $ move ! (1 ∷ 2 ∷ 3 ∷ 4 ∷ []) $
    Buffer.consults 𝓛 (Contract.Array.into_slice.ended X N) (Contract.Array.into_slice.clauses X N 𝓛 𝓜.mem 𝓡.returns) !
    (Buffer.table_of 𝓛 𝓜 𝓡)
    (Proofs.Array.into_slice.Met.met 𝓤 𝓛 𝓜 𝓡
    (Proofs.Array.into_unwritten_output.Code.calls-aead_ciphers_base::overlapping::array::Array::into_slice 𝓡.env wired) X n
    L fits)
    ((κs, qs, bounds, a, vals), tt) (Buffer.gets ! tt refl) (λ v r ws. learns ! (λ same. Names.heard ! _ (λ kept.
    Names.peeks ! S (Is S) (Names.shows 𝓛 S) r (v ∷ [])
    (λ is-r. Names.lands_as ! refl refl (((Names.mut_slice_Lawful 𝓛 (named 0) κs.0 R).typed r (v ∷ []) is-r).0) $
    -- [the slice; three tokens; nothing of self]
    let long : n ≤ length r.now = let e : length r.now ≡ length x.in_out.in_out.now = ap length kept in omega
    (Names.arith, x.exact) in
    Buffer.tell ! long $ tells ! size-of-array $ tells ! number-lives $ tells ! lives $ move ! (2 ∷ 3 ∷ 4 ∷ 1 ∷ []) $
    Buffer.consults 𝓛 (Contract.first_array.ended X N) (Contract.first_array.clauses X N 𝓛 𝓜.mem 𝓡.returns) ! (Buffer.table_of 𝓛
    𝓜 𝓡)
    (Proofs.first_array.Met.met 𝓤 𝓛 𝓜 𝓡
    (Proofs.Array.into_unwritten_output.Code.calls-aead_ciphers_base::overlapping::array::first_array 𝓡.env wired) X n L
    fits)
    ((κs, qs, bounds, (r, tt), (v ∷ [], tt)), tt) (Buffer.gets ! tt refl) (λ w s ws'.
    Buffer.takes ! (Names.follows (Items R 0) (Items R 0) r.ghost_name s.ghost_name (λ ws. ws ++ Names.drop_list n r.now)) $
    move ! (1 ∷ []) $ Names.heard ! _ (λ value.
    Names.rewrite ! 0
    (λ (p : GName × List X.Denot). ‵
    (Names.follows (Items R 0) (Items R 0) p.0 s.ghost_name (λ ws. ws ++ Names.drop_list n p.1))) (λ i. (
      same i,
      kept i,
    )) refl $
    Buffer.tell ! (value ∙ ap (Names.take n) kept) $ move ! (1 ∷ 0 ∷ []) $ Buffer.says ! $ move ! (1 ∷ []) $
    Names.peeks ! Out (Is Out) (Names.shows 𝓛 Out) s (w ∷ [])
    (λ is-s. Names.lands_as ! refl refl (((mut_Lawful 𝓛 (named 0) κs.0 (ArrayAt R K)).typed s (w ∷ []) is-s).0) $
    Names.returns ! (Names.look_at ! 0 refl) $ Names.free_all ! refl $ Names.nothing ! $
    -- [nothing; the array; the clauses; three tokens]
    Names.keep ! (3 ∷ 4 ∷ 5 ∷ 0 ∷ 1 ∷ 2 ∷ []) $
    Buffer.ends 𝓛 T hs c ((κs, qs, bounds, a, vals), tt) w s (((tt, tt), tt), tt) ! (tt, tt)))))))))))))))
