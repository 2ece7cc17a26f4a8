-- Steps of walks over calls that make views of slices and of buffers. Assumes `Logic`.
--     gone, gone_within     nothing is left of a value that is given up
--     in_two                a pair of slices is taken apart
--     struct_of, paired     a struct is made of its fields, a pair of two values
--     viewed, begun         a view, or a buffer with a start, is made of the slice that it holds
--     buffer_word, range_word      the word of a buffer, of a range
--     in_buffer             the slice that a buffer holds
--     follows_parts         what follows a part that is lent on in two parts
--     at_seam               a list is taken apart where two were joined
--     ok_of, err_of         what an `Ok` and an `Err` own
--     let_go, kept_in_ok, kept_at_err      a slice that an answer holds, or that is let go
--     accepts, refuses      the answer of a call that makes a buffer of a slice, and its clauses
use Rattle.aead_ciphers_base.proofs
use proofs.WalkNames.{◌≡◌, refl, sym, ap, ◌∙◌, List, [], ◌∷◌, ◌++◌, ℕ, ◌^◌, ◌<◌, length, take, drop_list, Ura, named, w64, Val, vint, vstruct, vcons, vnil, of_list, SProp, ent, sep, Fml, Lft, GName, ftrue, fsep, feq, fres, fobs, Logic, sem, Item, Seq, Step, Goal, ‵, raw, ◌$◌, ◌∵◌, !, qed, by, move, keep, drop, fsplit, fsplit3, fjoin, fpick, fpack, feq_l, feq_i, use1, use2, rewrite, done, updating, now, each, assume, fact, usize, follows, follows_both, Is, shows, param, number, RattleType, Valss, owns, NamedLft, MutBor, MutSlice, Room, slice_val, nothing, peeks, only, within, shape, Ok, Err, IsOk, IfOk, IfErr, ◌↔◌}
use proofs.Walks.{slice_typed, tells, tell, says}
use mir.Val.{WT}
use base.Stored.{Gv}
use base.Logic.{wand, all_e, apply∗}
use base.Fml.{fex, fauth}
use types.Kit.{step}
use types.Match.{live}
use denote.Array.{Array}
use denote.Follow.{followed, both_by, such_by, follows_by}
use denote.FollowSlice.{heres_id}
use denote.Enum.Declared.{shape as enum_shape}
use denote.Enum.Enum.{form_of, in_a_row}
use denote.Enum.Row.{tagged_with}
use denote.Param.Laws.{Laws, Told, of_field, field_told}
use denote.Param.Shared.{copy_shared}
use denote.Plain.{uint_Makes}
use denote.Steps.{owned}
use denote.Struct.Field.{u64-field}
use denote.Struct.Laws.{u64-laws, u64-copy}
use denote.RattleType.{Denots, flat}
use denote.Struct.Struct.{Shape, Struct}
pub use denote.Struct.Tuple.{Tuple, tuple_type}
use Rattle.std.proofs.Math.Seq.{take-append_seam, drop-append_seam}
use Rattle.std.specs.declared.ops.RangeFrom.{RangeFrom}
use Rattle.aead_ciphers_base.specs
use specs.Overlapping.{KeptIfErr}
use specs.declared.overlapping.base.Overlapping.{Overlapping}
pub use specs.declared.polyfill.slice.chunks_mut.AsChunksMut.{AsChunksMut}
use Rattle.std.specs.contracts.result.Result as RS
use Rattle.std.specs.contracts.ops.RangeFrom as RF
use specs.contracts.overlapping.base.Overlapping as O
use specs.contracts.polyfill.slice.chunks_mut.AsChunksMut as A

-- the laws of numbers, as a row's laws take them
abbrev pub usize_laws : Laws usize
usize_laws = of_field u64-field u64-laws refl (copy_shared u64-field u64-copy)

abbrev pub usize_told : Told usize
usize_told = field_told u64-field u64-laws

-- the word of a number alone in a struct, and of a slice and a number
abbrev pub boxed : ℕ → Val
boxed n = vstruct (vcons (vint w64 n) vnil)

abbrev pub held : Val → ℕ → Val
held u n = vstruct (vcons u (vcons (vint w64 n) vnil))

-- nothing is left at the end of a value that is given up
pub gone : {M : Type 1} {𝓤 : Ura M} (𝓛 : Logic 𝓤) → ent 𝓤 (sem 𝓛 ftrue) (𝓛.H.⇛ (sem 𝓛 (fsep ftrue ftrue)))
gone 𝓛 = qed 𝓛 (‵ ftrue ∷ []) ∵ updating ! $ now ! $ nothing ! $ fjoin ! $ done !

-- nor of a value whose field is given up
pub gone_within : {M : Type 1} {𝓤 : Ura M} (𝓛 : Logic 𝓤) → ent 𝓤 (sem 𝓛 ftrue) (𝓛.H.⇛ (sem 𝓛 (fsep (fsep ftrue ftrue) ftrue)))
gone_within 𝓛 = qed 𝓛 (‵ ftrue ∷ []) ∵ updating ! $ now ! $ nothing ! $ fjoin ! $ nothing ! $ move ! (1 ∷ 0 ∷ []) $ fjoin ! $ done !

-- a pair of slices is taken apart
module _ (κ : Lft) (R : RattleType) where
  abbrev S : RattleType
  S = MutSlice (named 0) κ R

  abbrev word : MutBor (List R.Denot) → Val
  word s = slice_val s.ref_ptr (length s.now)

  module _ {M : Type 1} {𝓤 : Ura M} {𝓛 : Logic 𝓤} {K : Type 0} {Γ : List (Item 𝓤)} {G : Goal 𝓤 𝓛.H} where
    pub in_two : K → (r : MutBor (List R.Denot) × MutBor (List R.Denot)) (v : Val)
        → (v ≡ vstruct (vcons (word r.0) (vcons (word r.1) vnil)) → (Unit {0} × WT (word r.0)) → (Unit {0} × WT (word r.1))
        → Seq K 𝓛 (‵ (S.own_val r.0 (word r.0 ∷ [])) ∷ ‵ (S.own_val r.1 (word r.1 ∷ [])) ∷ Γ) G)
        → Seq K 𝓛 (‵ ((Tuple (S ∷ S ∷ [])).own_val r (v ∷ [])) ∷ Γ) G
    in_two t r v k = fpick t (λ vss. fsplit t $ feq_l t (λ ev. fsplit t $ move t (1 ∷ []) $ fsplit t $
        peeks t S (Is S) (shows 𝓛 S) r.1 vss.1.0 (λ is₁. move t (2 ∷ []) $ peeks t S (Is S) (shows 𝓛 S) r.0 vss.0 (λ is₀.
        rewrite t 0 (λ (ws : List Val). ‵ (S.own_val r.0 ws)) is₀.0.0 refl $ move t (1 ∷ []) $
        rewrite t 0 (λ (ws : List Val). ‵ (S.own_val r.1 ws)) is₁.0.0 refl $ move t (2 ∷ []) $ drop t $ move t (1 ∷ []) $
        k (ap only (ev ∙ (λ i. vstruct (of_list (is₀.0.0 i ++ (is₁.0.0 i ++ []))) ∷ [])))
        (slice_typed r.0.ref_ptr (length r.0.now) is₀.0.1.0) (slice_typed r.1.ref_ptr (length r.1.now) is₁.0.1.0)))))

-- a struct's fields make the struct, and two values make a pair
module _ {M : Type 1} {𝓤 : Ura M} (𝓛 : Logic 𝓤) where
  pub struct_of : (S : Shape) (d : Denots S.fields) (vss : Valss S.fields)
      → ent 𝓤 (sem 𝓛 (owns S.fields d vss)) (sem 𝓛 ((Struct S).own_val d (vstruct (of_list (flat S.fields vss)) ∷ [])))
  struct_of S d vss =
      let w : Val = vstruct (of_list (flat S.fields vss)) in
      qed 𝓛 (‵ (owns S.fields d vss) ∷ []) ∵ feq_i ! (List Val) (w ∷ []) (w ∷ []) refl $ fjoin ! $
      fpack ! (Valss S.fields) (within S d (w ∷ [])) vss $ done !

  pub paired : (P Q : RattleType) (x : P.Denot) (y : Q.Denot) (p q : Val)
      → ent 𝓤 (sep 𝓤 (sem 𝓛 (P.own_val x (p ∷ []))) (sem 𝓛 (Q.own_val y (q ∷ []))))
      (sem 𝓛 ((Tuple (P ∷ Q ∷ [])).own_val (x, y) (vstruct (vcons p (vcons q vnil)) ∷ [])))
  paired P Q x y p q = qed 𝓛 (‵ (P.own_val x (p ∷ [])) ∷ ‵ (Q.own_val y (q ∷ [])) ∷ []) ∵ nothing ! $
      move ! (2 ∷ 0 ∷ []) $ fjoin ! $ move ! (1 ∷ 0 ∷ []) $
      fjoin ! $ by ! (struct_of (shape (tuple_type (P ∷ Q ∷ []))) (x, (y, tt)) (p ∷ [], (q ∷ [], tt)))

module _ {M : Type 1} {𝓤 : Ura M} (𝓛 : Logic 𝓤) (ℓ : NamedLft) (R : RattleType) where
  abbrev Slice : RattleType
  Slice = MutSlice ℓ.mir ℓ.lft R

  -- a view of chunks holds a slice
  pub viewed : (n : ℕ) (d : AsChunksMut R.Denot n) (p : Val)
      → ent 𝓤 (sem 𝓛 (Slice.own_val d.items (p ∷ []))) (sem 𝓛 ((A.the_row ℓ R (param 1 (number n))).own_val d (vstruct (vcons p vnil) ∷ [])))
  viewed n d p = qed 𝓛 (‵ (Slice.own_val d.items (p ∷ [])) ∷ []) ∵ nothing ! $ move ! (1 ∷ 0 ∷ []) $ fjoin ! $
      by ! (struct_of 𝓛 (shape (A.the_type ℓ R (param 1 (number n)))) (d.items, tt) (p ∷ [], tt))

  -- a buffer holds a slice and where its input begins
  pub begun : (d : Overlapping R.Denot) (u : Val) → d.start < 2 ^ 64
      → ent 𝓤 (sem 𝓛 (Slice.own_val d.in_out (u ∷ []))) (sem 𝓛 ((O.the_row ℓ R).own_val d (held u d.start ∷ [])))
  begun d u fits =
      let n = vint w64 d.start in
      qed 𝓛 (‵ (Slice.own_val d.in_out (u ∷ [])) ∷ []) ∵ nothing ! $
      owned ! usize (Is usize) (uint_Makes 𝓛 w64) d.start (n ∷ []) (refl, fits) $ fjoin ! $
      move ! (1 ∷ 0 ∷ []) $ fjoin ! $ by ! (struct_of 𝓛 (shape (O.the_type ℓ R)) (d.in_out, (d.start, tt)) (u ∷ [], (n ∷ [], tt)))

  -- the word of a buffer
  pub buffer_word : (d : Overlapping R.Denot) (vs : List Val) → Is (O.the_row ℓ R) d vs
      → (vs ≡ held (slice_val d.in_out.ref_ptr (length d.in_out.now)) d.start ∷ []) × Room R (length d.in_out.now) × (d.start < 2 ^ 64)
  buffer_word d vs is =
      let is-slice = is.1.1.0 in let is-start = is.1.1.1.0 in
      (is.1.0 ∙ (λ i. vstruct (of_list (is-slice.0.0 i ++ (is-start.0 i ++ []))) ∷ []), is-slice.0.1, is-start.1)

  -- the slice that a buffer holds
  pub in_buffer : {K : Type 0} {Γ : List (Item 𝓤)} {G : Goal 𝓤 𝓛.H} → K → (d : Overlapping R.Denot) (vs : List Val)
      → Step K 𝓛 (‵ (Slice.own_val d.in_out (slice_val d.in_out.ref_ptr (length d.in_out.now) ∷ [])) ∷ Γ) G (‵ ((O.the_row ℓ R).own_val d vs) ∷ Γ) G
  in_buffer t d vs = step (λ s. fpick t (λ vss. fsplit t $ feq_l t (λ ev. fsplit t $ move t (1 ∷ []) $ drop t $
      peeks t Slice (Is Slice) (shows 𝓛 Slice) d.in_out vss.0
      (λ is. rewrite t 0 (λ (ws : List Val). ‵ (Slice.own_val d.in_out ws)) is.0.0 refl $ s))))

-- the word of a range from a number on
pub range_word : (range : RangeFrom ℕ) (vs : List Val) → Is (RF.the_row usize) range vs → (vs ≡ boxed range.start ∷ []) × (range.start < 2 ^ 64)
range_word range vs is = let is-start = is.1.1.0 in (is.1.0 ∙ (λ i. vstruct (of_list (is-start.0 i ++ [])) ∷ []), is-start.1)

-- what follows a part that is lent on in two parts follows the two
module _ {M : Type 1} {𝓤 : Ura M} (𝓛 : Logic 𝓤) (R T U V : RattleType) (F : T.Denot → R.Denot)
    (G : U.Denot → V.Denot → T.Denot) (γ γ' γ₁ γ₂ : GName) where
  open 𝓛 use {A}

  abbrev Both : U.Denot × V.Denot → Fml
  Both w = fsep (fres γ₁ (U.coded.code w.0)) (fres γ₂ (V.coded.code w.1))

  pub follows_parts : ent 𝓤 (sep 𝓤 (sem 𝓛 (follows R T γ γ' F)) (sem 𝓛 (follows_both T U V γ' γ₁ γ₂ G)))
      (sem 𝓛 (follows_both R U V γ γ₁ γ₂ (λ u v. F (G u v))))
  unfolding both_by
  follows_parts = qed 𝓛 (‵ (follows R T γ γ' F) ∷ ‵ (follows_both T U V γ' γ₁ γ₂ G) ∷ []) ∵
      each ! (λ (w : U.Denot × V.Denot). wand 𝓤 (sem 𝓛 (Both w)) (A.res γ (R.coded.code (F (G w.0 w.1))))) (λ w. assume ! (‵ (Both w)) $
      move ! (2 ∷ []) $ use1 𝓛 (raw (wand 𝓤 (sem 𝓛 (Both w)) (A.res γ' (T.coded.code (G w.0 w.1)))))
      (all_e 𝓤 (λ (z : U.Denot × V.Denot). wand 𝓤 (sem 𝓛 (Both z)) (A.res γ' (T.coded.code (G z.0 z.1)))) w) $
      move ! (1 ∷ 0 ∷ []) $ use2 𝓛 (‵ (fres γ' (T.coded.code (G w.0 w.1)))) (apply∗ 𝓤 (sem 𝓛 (Both w)) (A.res γ' (T.coded.code (G w.0 w.1)))) $
      move ! (1 ∷ 0 ∷ []) $ by ! (followed 𝓛 R T F γ γ' (G w.0 w.1)))

-- a list is taken apart where two were joined
pub at_seam : {A : Type 0} (k : ℕ) (ys front back : List A) → ys ≡ front ++ back → k ≡ length front → (take k ys ≡ front) × (drop_list k ys ≡ back)
at_seam k ys front back e is =
    ((λ i. take (is i) (e i)) ∙ take-append_seam front back, (λ i. drop_list (is i) (e i)) ∙ drop-append_seam front back)

-- what an `Ok` and an `Err` own
module _ {M : Type 1} {𝓤 : Ura M} (𝓛 : Logic 𝓤) (X E : RattleType) where
  pub ok_of : (x : X.Denot) (v : Val)
      → ent 𝓤 (sem 𝓛 (X.own_val x (v ∷ []))) (sem 𝓛 ((RS.the_row X E).own_val (Ok x) (live 0 (of_list (v ∷ [])) ∷ [])))
  ok_of x v =
      let w : Val = live 0 (of_list (v ∷ [])) in
      qed 𝓛 (‵ (X.own_val x (v ∷ [])) ∷ []) ∵ nothing ! $ move ! (1 ∷ 0 ∷ []) $ fjoin ! $ feq_i ! (List Val) (v ∷ []) (v ∷ []) refl $ fjoin ! $
      fpack ! (Valss (X ∷ [])) (in_a_row (X ∷ []) (owns (X ∷ []) (x, tt)) (v ∷ [])) (v ∷ [], tt) $
      feq_i ! (List Val) (w ∷ []) (w ∷ []) refl $ fjoin ! $
      fpack ! (List Val) (tagged_with (form_of (enum_shape (RS.the_type X E)))
      (form_of (enum_shape (RS.the_type X E))).payload ((RS.the_type X E).to (Ok
      x)) (w ∷ [])) (v ∷ []) $ done !

  pub err_of : (e : E.Denot) (v : Val)
      → ent 𝓤 (sem 𝓛 (E.own_val e (v ∷ []))) (sem 𝓛 ((RS.the_row X E).own_val (Err e) (live 1 (of_list (v ∷ [])) ∷ [])))
  err_of e v =
      let w : Val = live 1 (of_list (v ∷ [])) in
      qed 𝓛 (‵ (E.own_val e (v ∷ [])) ∷ []) ∵ nothing ! $ move ! (1 ∷ 0 ∷ []) $ fjoin ! $ feq_i ! (List Val) (v ∷ []) (v ∷ []) refl $ fjoin ! $
      fpack ! (Valss (E ∷ [])) (in_a_row (E ∷ []) (owns (E ∷ []) (e, tt)) (v ∷ [])) (v ∷ [], tt) $
      feq_i ! (List Val) (w ∷ []) (w ∷ []) refl $ fjoin ! $
      fpack ! (List Val) (tagged_with (form_of (enum_shape (RS.the_type X E))) (form_of (enum_shape (RS.the_type X E))).payload ((RS.the_type X E).to
      (Err e)) (w ∷ [])) (v ∷ []) $ done !

-- a slice that an answer holds itself, or that is let go
module _ {M : Type 1} {𝓤 : Ura M} (𝓛 : Logic 𝓤) (T : RattleType) where
  open 𝓛 use {A}

  abbrev Items : RattleType
  Items = Array T 0

  abbrev code : List T.Denot → Gv
  code = Items.coded.code

  -- what is let go ends as it is
  pub let_go : (κ : Lft) (s : MutBor (List T.Denot)) (vs : List Val)
      → ent 𝓤 (sem 𝓛 ((MutSlice (named 0) κ T).own_val s vs)) (A.res s.ghost_name (code s.now))
  let_go κ s vs = qed 𝓛 (‵ ((MutSlice (named 0) κ T).own_val s vs) ∷ []) ∵ fsplit3 ! $ drop ! $
      rewrite ! 0 (λ (l : List T.Denot). ‵ (fobs s.ghost_name (code l))) (heres_id T s.now) refl $
      use1 𝓛 (‵ (fres s.ghost_name (code s.now))) (𝓛.names.obs-res s.ghost_name (code s.now)) $ keep ! (0 ∷ []) $ done !

  -- a name follows itself
  follows_itself : (γ : GName) → ent 𝓤 (sem 𝓛 ftrue) (sem 𝓛 (follows Items Items γ γ (λ w. w)))
  follows_itself γ =
      let From : List T.Denot → List T.Denot → Fml = λ z w. fsep (feq (List T.Denot) z w) (fauth γ (code w)) in
      let said = qed 𝓛 (‵ ftrue ∷ []) ∵ each ! (λ (w : List T.Denot). wand 𝓤 (A.res γ (code w)) (A.res γ (code w)))
      (λ w. assume ! (‵ (fres γ (code w))) $
      keep ! (0 ∷ []) $ done !) in
      let back = qed 𝓛 (‵ ftrue ∷ []) ∵ each ! (λ (z : List T.Denot). wand 𝓤 (A.auth γ (code z)) (sem 𝓛 (fex (List T.Denot) (From z)))) (λ z.
      assume ! (‵ (fauth γ (code z))) $ keep ! (0 ∷ []) $ feq_i ! (List T.Denot) z z refl $ fjoin ! $ fpack ! (List T.Denot) (From z) z $ done !) in
      record { apply = λ a p. (said.apply a p, back.apply a p) }

  abbrev Ends : Type 0
  Ends = (List T.Denot → List T.Denot) × List T.Denot

  module _ {V : Type 0} (E : Type 0) (s : MutBor (List T.Denot)) (name : V → GName) where
    pub kept_in_ok : (x : V) → name x ≡ s.ghost_name → ent 𝓤 (sem 𝓛 ftrue) (sem 𝓛 (KeptIfErr T {E = E} s name (Ok x)))
    unfolding such_by follows_by
    kept_in_ok x e =
        qed 𝓛 (‵ ftrue ∷ []) ∵ use1 𝓛 (‵ (follows Items Items s.ghost_name s.ghost_name (λ w. w))) (follows_itself s.ghost_name) $
        rewrite ! 0 (λ (γ : GName). ‵ (follows Items Items s.ghost_name γ (λ w. w))) (sym e) refl $
        fpack ! ((f : Ends) × ((w : List T.Denot) → f.0 w ≡ w) × Unit {0}) (λ f. follows Items Items s.ghost_name (name x) f.0.0)
        (((λ w. w), s.now), (λ w. refl), tt) $ done !

    pub kept_at_err : (e : E) (κ : Lft) (vs : List Val) → ent 𝓤 (sem 𝓛 ((MutSlice (named 0) κ T).own_val s vs)) (sem 𝓛 (KeptIfErr T s name (Err e)))
    unfolding such_by follows_by
    kept_at_err e κ vs =
        qed 𝓛 (‵ ((MutSlice (named 0) κ T).own_val s vs) ∷ []) ∵ use1 𝓛 (‵ (fres s.ghost_name (code s.now))) (let_go κ s vs) $
        fpack ! ((f : Ends) × ((w : List T.Denot) → Unit {0}) × (f.1 ≡ s.now)) (λ f. fres s.ghost_name (code f.0.1))
        (((λ w. w), s.now), (λ w. tt), refl) $
        done !

-- a call makes a buffer of a slice, with its start, or refuses it
pub record Making (T Row E : RattleType) : Type 1 where
  pub lifetime : Lft
  pub slice : MutBor (List T.Denot)
  pub start : ℕ
  pub asked : Type 0
  pub refusal : E.Denot
  pub buffer_of : Row.Denot → Overlapping T.Denot

abbrev pub making : (T Row E : RattleType) → Lft → MutBor (List T.Denot) → ℕ → Type 0 → E.Denot → (Row.Denot → Overlapping T.Denot) → Making T Row E
making T Row E κ s n φ e buffer = record { lifetime = κ; slice = s; start = n; asked = φ; refusal = e; buffer_of = buffer }

module _ {T Row E : RattleType} (m : Making T Row E) where
  abbrev Out : RattleType
  Out = RS.the_row Row E

  abbrev name : Row.Denot → GName
  name o = (m.buffer_of o).in_out.ghost_name

  abbrev Same : Out.Denot → Type 0
  Same r = IfOk r (λ o. name o ≡ m.slice.ghost_name)

  abbrev Kept : Out.Denot → Type 0
  Kept r = IfOk r (λ o. (m.buffer_of o).in_out.now ≡ m.slice.now)

  abbrev Begun : Out.Denot → Type 0
  Begun r = IfOk r (λ o. (m.buffer_of o).start ≡ m.start)

  abbrev Refused : Out.Denot → Type 0
  Refused r = IfErr r (λ e. e ≡ m.refusal)

  abbrev Says : {M : Type 1} {𝓤 : Ura M} → Logic 𝓤 → Out.Denot → SProp 𝓤
  Says {𝓤 = 𝓤} 𝓛 r = sep 𝓤 (sem 𝓛 (KeptIfErr T m.slice name r)) (sep 𝓤 (fact 𝓤 (IsOk r ↔ m.asked))
      (sep 𝓤 (fact 𝓤 (Same r)) (sep 𝓤 (fact 𝓤 (Kept r)) (sep 𝓤 (fact 𝓤 (Begun r)) (fact 𝓤 (Refused r))))))

  module _ {M : Type 1} {𝓤 : Ura M} {𝓛 : Logic 𝓤} {K : Type 0} {Γ : List (Item 𝓤)} {G : Goal 𝓤 𝓛.H} where
    concludes : K → (r : Out.Denot) → (IsOk r ↔ m.asked) → Same r → Kept r → Begun r → Refused r
        → Step K 𝓛 (raw (Says 𝓛 r) ∷ Γ) G (‵ (KeptIfErr T m.slice name r) ∷ Γ) G
    concludes t r accepted same kept begun refused = step (λ k. tell {φ = Refused r} t refused $ tells {φ = Begun r} t begun $
        tells {φ = Kept r} t kept $ tells {φ = Same r} t same $ tells {φ = IsOk r ↔ m.asked} t accepted $ move t (1 ∷ 0 ∷ []) $ says t $ k)

  module _ {M : Type 1} {𝓤 : Ura M} {𝓛 : Logic 𝓤} {K : Type 0} {Γ : List (Item 𝓤)} {G : Goal 𝓤 𝓛.H} where
    pub accepts : K → (o : Row.Denot) (v : Val) → m.asked → name o ≡ m.slice.ghost_name
        → (m.buffer_of o).in_out.now ≡ m.slice.now → (m.buffer_of o).start ≡ m.start
        → Step K 𝓛 (raw (Says 𝓛 (Ok o)) ∷ ‵ (Out.own_val (Ok o) (live 0 (of_list (v ∷ [])) ∷ [])) ∷ Γ) G (‵ (Row.own_val o (v ∷ [])) ∷ Γ) G
    accepts t o v h same kept begun = step (λ k. use1 𝓛 (‵ (Out.own_val (Ok o) (live 0 (of_list (v ∷ [])) ∷ []))) (ok_of 𝓛 Row E o v) $
        nothing t $ use1 𝓛 (‵ (KeptIfErr T {E = E.Denot} m.slice name (Ok o))) (kept_in_ok 𝓛 T E.Denot m.slice name o same) $
        concludes t (Ok o) ((λ _. h), λ _. refl) same kept begun tt $ k)

    pub refuses : K → (e : E.Denot) (w : Val) (us : List Val) → e ≡ m.refusal → (m.asked → ⊥)
        → Step K 𝓛 (raw (Says 𝓛 (Err e)) ∷ ‵ (Out.own_val (Err e) (live 1 (of_list (w ∷ [])) ∷ [])) ∷ Γ) G
        (‵ (E.own_val e (w ∷ [])) ∷ ‵ ((MutSlice (named 0) m.lifetime T).own_val m.slice us) ∷ Γ) G
    refuses t e w us refused h = step (λ k. use1 𝓛 (‵ (Out.own_val (Err e) (live 1 (of_list (w ∷ [])) ∷ []))) (err_of 𝓛 Row E e w) $ move t (1 ∷ []) $
        use1 𝓛 (‵ (KeptIfErr T m.slice name (Err e))) (kept_at_err 𝓛 T E.Denot m.slice name e m.lifetime us) $
        concludes t (Err e) ((λ ok. cc), λ p. absurd (h p)) tt tt tt refused $ k)
