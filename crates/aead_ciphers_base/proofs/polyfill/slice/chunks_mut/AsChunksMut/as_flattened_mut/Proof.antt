-- The items of a view are lent through the `&mut` to the view, which follows them.
-- This walks the code by hand; brackets name the entries of the context, as `Walks` says.
use Rattle.aead_ciphers_base.proofs
use proofs.WalkNames as Names
use proofs.WalkNames.{◌≡◌, refl, sym, ◌∙◌, List, [], ◌∷◌, ◌++◌, ℕ, length, Val, ent, fsep, fbor, sem, ‵, ◌⊛◌, ◌$◌, ◌∵◌, !, qed, move, fsplit, use1, rewrite, done, sub, fld, sets, Arr, mem, param, number}
use proofs.WalkLocals.{both}
use proofs.Walks as Walk
use proofs.ViewWalks.{AsChunksMut, viewed}
use mir.Syntax.{Ty, erased}
use base.Logic.{guard}
use base.Fraction.{full_share}
use base.Fml.{fat}
use types.Mut.{close_ref}
use types.Through.{hands_through}
use denote.FollowSlice.{heres_id, slice_of}
use denote.Memory.{cell_at, part_at, part_of}
use denote.Slice.{room}
use Rattle.std.specs.List.{length_refill}
use Rattle.std.proofs.Math.Seq.{take-append_seam}
use Rattle.aead_ciphers_base.specs
use specs.AsChunksMut.{with_items}
use specs.contracts.polyfill.slice.chunks_mut.AsChunksMut as Chunks
use proofs.polyfill.slice.chunks_mut.AsChunksMut as Proofs

-- the view at (b, o), whose items are under the name δ
module _ (X : Names.RattleType) (J : ℕ) {M : Type 1} {𝓤 : Names.Ura M} (𝓛 : Names.Logic 𝓤) (a : Names.NamedLft)
    (d : AsChunksMut X.Denot J) (b o : ℕ) where
  open 𝓛 use {A}

  abbrev R : Names.RattleType
  R = param 0 X

  abbrev G : Names.RattleType
  G = Chunks.the_row a R (param 1 (number J))

  abbrev xs : List X.Denot
  xs = d.items.now

  abbrev n : ℕ
  n = length xs

  abbrev δ : Names.GName
  δ = d.items.ghost_name

  abbrev Seen : List X.Denot → Names.Fml
  Seen ws = Names.fobs δ ((Names.coded_list R.coded).code ws)

  abbrev word : ℕ → Val
  word k = Names.vstruct (Names.vcons (Names.slice_val d.items.ref_ptr k) Names.vnil)

  abbrev Cell : ℕ → Names.Fml
  Cell k = cell_at full_share G.mir (word k ∷ []) b o

  abbrev Lies : ℕ → Names.GName → Names.Fml
  Lies k = Names.Body (Arr (mem R) k) d.items.ref_ptr.0 d.items.ref_ptr.1

  abbrev Own : List X.Denot → Names.Fml
  Own ws = (Arr (mem R) n).own_at ws d.items.ref_ptr.0 d.items.ref_ptr.1

  abbrev Rest : Names.SProp 𝓤
  Rest = sem 𝓛 (fsep (Cell n) (room R n))

  abbrev Holds : List X.Denot → Names.SProp 𝓤
  Holds ws = Names.sep 𝓤 (sem 𝓛 (Seen ws)) (Names.sep 𝓤 (A.bor a.lft (Lies n δ)) Rest)

  cut : ent 𝓤 (sem 𝓛 (part_at G full_share d b o)) (Holds xs)
  unfolding part_of
  cut =
      qed 𝓛 (‵ (part_at G full_share d b o) ∷ []) ∵ Names.fpick ! (λ vs. fsplit ! $ move ! (1 ∷ []) $ Names.fpick ! (λ vss.
      fsplit ! $ Names.feq_l ! (λ ev. fsplit ! $
      Names.fsplit3 ! $ fsplit ! $ Names.feq_l ! (λ told.
      rewrite ! 4 (λ (us : List Val). ‵ (cell_at full_share G.mir us b o))
      (ev ∙ (λ i. Names.vstruct (Names.of_list (told i ++ [])) ∷ [])) refl $
      rewrite ! 1 (λ (l : List X.Denot). ‵ (Seen l)) (heres_id R xs) refl $ Names.keep ! (1 ∷ 2 ∷ 4 ∷ 0 ∷ []) $ done !))))

  counts : (ws : List X.Denot) → ent 𝓤 (sem 𝓛 (Own ws)) (guard 𝓤 (length ws ≡ n) (sem 𝓛 (Own ws)))
  counts ws =
      qed 𝓛 (‵ (Own ws) ∷ []) ∵ fsplit ! $ Names.feq_l ! (λ same. Names.check ! same $ Names.feq_i ! ℕ (length ws) n same $
      done !)

  back : (ws : List X.Denot) → length ws ≡ n → ent 𝓤 (Holds ws) (sem 𝓛 (part_at G full_share (with_items d ws) b o))
  unfolding part_of
  back ws same =
      let x = (with_items d ws).items in let kept : n ≡ length x.now = length_refill n xs ws refl in
      let is : x.now ≡ ws = Names.ap (λ k. Names.take k (ws ++ Names.drop_list (length ws) xs)) (sym same) ∙ take-append_seam ws
      (Names.drop_list (length ws) xs) in
      qed 𝓛 (‵ (Seen ws) ∷ ‵ (fbor a.lft (Lies n δ)) ∷ ‵ (fsep (Cell n) (room R n)) ∷ []) ∵
      rewrite ! 0 (λ (l : List X.Denot). ‵ (Seen l)) (sym is ∙ sym (heres_id R x.now)) refl $
      rewrite ! 1 (λ (k : ℕ). ‵ (fbor a.lft (Lies k δ))) kept refl $
      rewrite ! 2 (λ (k : ℕ). ‵ (fsep (Cell k) (room R k))) kept refl $
      move ! (2 ∷ []) $ fsplit ! $ move ! (1 ∷ []) $ Names.feq_i ! (List Val) (Names.mut_slice_vals x)
      (Names.mut_slice_vals x) refl $ Names.fjoin ! $ move ! (0 ∷ 2 ∷ 3 ∷ []) $
      Names.fjoin3 ! $
      use1 𝓛 (‵ (G.own_val (with_items d ws) (word (length x.now) ∷ []))) (viewed 𝓛 a R J (with_items d ws)
      (Names.slice_val d.items.ref_ptr (length x.now))) $
      move ! (1 ∷ 0 ∷ []) $ Names.fjoin ! $
      Names.fpack ! (List Val) (λ us. fsep (cell_at full_share G.mir us b o) (G.own_val (with_items d ws) us)) (word
      (length x.now) ∷ []) $ done !

pub as_flattened_mut_spec : {M : Type 1} → Proofs.as_flattened_mut.Statement.statement M
unfolding part_of
as_flattened_mut_spec 𝓤 𝓛 𝓜 𝓡 wired X J L fits =
    let R = param 0 X in let K = param 1 (number J) in
    let T = Chunks.as_flattened_mut.ended X (number J) in let c = Chunks.as_flattened_mut.clauses X
    (number J) 𝓛 𝓜.mem 𝓡.returns in
    let hs = Walk.dropped T.signature.params T.kept in
    Walk.walked 𝓛 T hs c 𝓜 𝓡 (
      Names.Goes-spent_ref 𝓛 4 (0 ∷ []) tt (Names.plain (λ κs.
          Chunks.the_row (Names.named_lft 4 1 tt κs) R K)),
      tt,
    ) _ _
    (Proofs.as_flattened_mut.Code.unfolded 𝓤 𝓛.H 𝓜 𝓡 wired (X, (number J, tt))) (λ y are.
    let (κs, qs, bounds, a, passed) = y.0 in let Ts = Names.types_at T.signature.params κs in let x = a.0 in
    let d = x.now in
    let b = x.ref_ptr.0 in let o = x.ref_ptr.1 in let κ = κs.0 in let ℓ = Names.named_lft 4 1 tt κs in
    let Row = Chunks.the_row ℓ R K in
    let words : Walk.Words Ts passed = ((_, are.0.0, (tt, tt)), tt) in let vals = Walk.words_vals Ts passed words in
    -- the view's type as the code names it, and its word
    let τ : Ty = Names.layout (Chunks.the_row (record { mir = erased; lft = [] }) R K) in let count = length d.items.now in
    let w = word X J 𝓛 ℓ d b o count in
    -- [four tokens; the reference; the premise]
    Walk.at_words words (move ! (5 ∷ []) $ Names.drop ! $ move ! (4 ∷ []) $ Names.fsplit3 ! $ Names.drop ! $
    Names.alloc_all ! (λ m.
    Names.pass_all ! refl (Walk.words_typed Ts passed words) $
    Names.open_ref ! tt (mem Row) {x = d} $ Names.fpick ! (λ vs. fsplit ! $ move ! (1 ∷ []) $
    Names.peeks ! Row (Names.Is Row) (Names.shows 𝓛 Row) d vs (λ told.
    let ev : vs ≡ w ∷ [] = told.1.0 ∙ (λ i. Names.vstruct (Names.of_list (told.1.1.0.0.0 i ++ [])) ∷ []) in
    let rm : Names.Room R count = told.1.1.0.0.1 in
    rewrite ! 1 (λ (us : List Val). ‵ (cell_at full_share Row.mir us b o)) ev refl $
    move ! (1 ∷ []) $ use1 𝓛 (‵ (fat full_share τ b o w)) (𝓛.laws.raw_at full_share τ b o w) $
    sets ! (Names.of_opd ! (Names.load ! (Names.through ! refl (fld ! refl (fld ! refl (Names.stop !)))) (Names.look_in ! 0 (sub
    ! 1 refl
    (sub ! 0 refl (Names.whole !)))))) refl
    (tt, record { fits = rm.0 }) $
    sets ! (Names.addr ! (Names.through ! refl (fld ! refl (fld ! refl (Names.hop ! (Names.look_in ! 0 (sub ! 0 refl (sub ! 0 refl
    (Names.whole !)))) (Names.stop !)))))) refl (tt, tt) $
    sets ! (Names.agg ! (both ! refl refl)) refl (Walk.slice_typed d.items.ref_ptr count rm.0) $
    use1 𝓛 (‵ (cell_at full_share Row.mir (w ∷ []) b o)) (𝓛.laws.at_raw full_share τ b o w) $
    rewrite ! 0 (λ (us : List Val). ‵ (cell_at full_share Row.mir us b o)) (sym ev) refl $ Names.fjoin ! $
    Names.fpack ! (List Val) (λ us. fsep (cell_at full_share Row.mir us b o) (Row.own_val d us)) vs $
    close_ref ! tt (mem Row) d $
    Names.use3 𝓛 (Names.later (Names.some (λ (δ : Names.GName). ‵ (Names.fobs δ ((Names.coded_list R.coded).code d.items.now)) ⊛
    ‵ (fbor κ
    (Lies X J 𝓛 ℓ d b o count δ))
    ⊛ ‵ (Names.flft κ qs.0) ⊛ ‵ (Names.follows Row (Names.Items R 0) x.ghost_name δ (with_items d)))))
    (hands_through 𝓛 (mem Row) (Arr (mem R) count) (with_items d) κ ℓ.lft bounds.0 b o d.items.ref_ptr.0
    d.items.ref_ptr.1 x.ghost_name
    d.items.ghost_name (Rest X J 𝓛 ℓ d b o) (λ ws. length ws ≡ count) (counts X J 𝓛 ℓ d b o)
    (back X J 𝓛 ℓ d b o) qs.0 d d.items.now
    (cut X J 𝓛 ℓ d b o)) $ Names.await ! tt $ Names.pick ! (λ δ. Names.split3 ! $
    let r : Names.MutBor (List X.Denot) = record { ref_ptr = d.items.ref_ptr; ghost_name = δ; now = d.items.now } in
    let v = Names.slice_val d.items.ref_ptr count in
    Names.use2 𝓛 (‵ ((Names.MutSlice (Names.named 0) κ R).own_val r (v ∷ []))) (slice_of 𝓛 R
    (Names.named 0) κ d.items.ref_ptr.0 d.items.ref_ptr.1 δ d.items.now rm) $
    move ! (1 ∷ []) $ Names.split ! $ Names.returns ! (Names.look_at ! 0 refl) $ Names.free_all ! refl $
    -- [the items' token; what the view follows; the items; three tokens]
    move ! (1 ∷ []) $ Walk.tell {φ = r.now ≡ d.items.now} ! refl $ move ! (1 ∷ 0 ∷ []) $ Walk.says ! $ Names.nothing ! $
    Names.keep ! (2 ∷ 4 ∷ 5 ∷ 6 ∷ 0 ∷ 3 ∷ 1 ∷ []) $
    Walk.ends 𝓛 T hs c ((κs, qs, bounds, a, vals), tt) v r (tt, tt) ! (tt, tt)))))))
