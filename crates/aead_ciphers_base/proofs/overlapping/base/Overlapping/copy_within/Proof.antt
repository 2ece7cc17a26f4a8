-- The front of the slice is lent after the input was copied to it.
-- This walks the two calls by hand; brackets name the entries of the context, as `Walks` says.
use Rattle.aead_ciphers_base.proofs
use proofs.WalkNames as Names
use proofs.WalkNames.{‵, refl, ◌∙◌, List, [], ◌∷◌, ◌++◌, ◌-◌, GName, ◌$◌, !, move, Items, Is}
use proofs.BufferWalk as Buffer
use denote.Param.{copied}
use denote.Param.Laws.{copied_laws}
use Rattle.aead_ciphers_base.specs.contracts.overlapping.base.Overlapping as Overlap
use proofs.overlapping.base.Overlapping as Proofs

pub copy_within_spec : {M : Type 1} → Proofs.copy_within.Statement.statement M
copy_within_spec 𝓤 𝓛 𝓜 𝓡 wired X L copy clone dict bound =
    let R = copied 0 X in let T = Overlap.copy_within.ended X clone dict in
    let c = Overlap.copy_within.clauses X clone dict 𝓛 𝓜.mem 𝓡.returns in
    let hs = Buffer.dropped T.signature.params T.kept in
    Buffer.walked 𝓛 T hs c 𝓜 𝓡 ((λ κs x f vs fits. Buffer.gone 𝓛), tt) _ _
    (Proofs.copy_within.Code.unfolded 𝓤 𝓛.H 𝓜 𝓡 wired (X, tt) dict) (λ y are.
    let (κs, qs, bounds, a, passed) = y.0 in let Ts = Names.types_at T.signature.params κs in let x = a.0 in
    let Row = Overlap.the_row (Names.named_lft 2 0 tt κs) R in
    let typed = ((Proofs.TheLaws.the_row_laws (Names.named_lft 2 0 tt κs) R (copied_laws 0 X L)).lawful 𝓛).typed in
    let words : Buffer.Words Ts passed = (Buffer.one (Names.layout Row) passed.0 (typed x passed.0 are.0), tt) in
    let vals = Buffer.words_vals Ts passed words in
    let S = Names.MutSlice (Names.named 0) κs.0 R in Buffer.at_words words (
    -- [two tokens; self; the premise]
    move ! (3 ∷ []) $ Buffer.learns_last ! (λ lives. Names.alloc_all ! (λ l. Names.pass_all ! refl (Buffer.words_typed Ts passed
    words) $
    Names.sets ! (Names.of_opd ! (Names.get ! refl)) refl words.0.2 $ Buffer.premise ! $ Buffer.tells ! lives $
    move ! (1 ∷ 2 ∷ 3 ∷ []) $
    Buffer.consults 𝓛 (Overlap.copied_to_front.ended X clone dict) (Overlap.copied_to_front.clauses X clone dict 𝓛 𝓜.mem
    𝓡.returns) !
    (Buffer.table_of 𝓛 𝓜 𝓡)
    (Proofs.copied_to_front.Met.met 𝓤 𝓛 𝓜 𝓡
    (Proofs.copy_within.Code.calls-aead_ciphers_base::overlapping::base::Overlapping::copied_to_front 𝓡.env wired)
    X L copy clone dict bound) ((κs, qs, bounds, a, vals), tt) (Buffer.gets ! tt refl) (λ v r ws.
    Buffer.learns ! (λ same. Buffer.learns ! (λ moved. Names.heard ! _ (λ kept.
    Names.peeks ! Row (Is Row) (Names.shows 𝓛 Row) r (v ∷ []) (λ is-r. Names.lands_as ! refl refl (typed r (v ∷ []) is-r).0 $
    -- [the buffer; two tokens; nothing of self]
    let xs = x.in_out.now in let ys = r.in_out.now in let m : Names.ℕ = Names.length xs - x.start in
    let k : Names.ℕ = Names.length ys - r.start in
    let long = Names.ap Names.length moved ∙ Names.length-append (Names.drop_list x.start xs) (Names.drop_list m xs) in
    let rest = Names.drop_list k ys in
    let parts = Buffer.at_seam k ys (Names.drop_list x.start xs) (Names.drop_list m xs) moved
    (omega (Names.arith, long, kept, x.within, Names.length-drop x.start xs, Names.length-drop m xs)) in
    Buffer.premise ! $ Buffer.tells ! lives $ move ! (2 ∷ 3 ∷ 1 ∷ []) $
    Buffer.consults 𝓛 (Overlap.into_unwritten_output.ended X) (Overlap.into_unwritten_output.clauses X 𝓛 𝓜.mem 𝓡.returns) !
    (Buffer.table_of 𝓛 𝓜 𝓡)
    (Proofs.into_unwritten_output.Met.met 𝓤 𝓛 𝓜 𝓡
    (Proofs.copy_within.Code.calls-aead_ciphers_base::overlapping::base::Overlapping::into_unwritten_output 𝓡.env wired) X L)
    ((κs, qs, bounds, (r, tt), (v ∷ [], tt)), tt) (Buffer.gets ! tt refl) (λ w s ws'.
    Buffer.takes ! (Names.follows (Items R 0) (Items R 0) r.in_out.ghost_name s.ghost_name (λ ws. ws ++ rest)) $
    move ! (1 ∷ []) $ Names.heard ! _ (λ value.
    Names.rewrite ! 0
    (λ (p : GName × List X.Denot). ‵ (Names.follows (Items R 0) (Items R 0) p.0 s.ghost_name (λ ws. ws ++ p.1)))
    (λ i. (same i, parts.1 i)) refl $
    Buffer.tell ! (value ∙ parts.0) $ move ! (1 ∷ 0 ∷ []) $ Buffer.says ! $ move ! (1 ∷ []) $
    Names.peeks ! S (Is S) (Names.shows 𝓛 S) s (w ∷ [])
    (λ is-s. Names.lands_as ! refl refl (((Names.mut_slice_Lawful 𝓛 (Names.named 0) κs.0 R).typed s (w ∷ []) is-s).0) $
    Names.returns ! (Names.look_at ! 0 refl) $ Names.free_all ! refl $
    -- [nothing; the slice; the clauses; two tokens]
    Names.nothing ! $ Names.keep ! (3 ∷ 4 ∷ 0 ∷ 1 ∷ 2 ∷ []) $
    Buffer.ends 𝓛 T hs c ((κs, qs, bounds, a, vals), tt) w s ((tt, tt), tt) ! (tt, tt)))))))))))))
