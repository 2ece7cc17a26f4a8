-- Steps of walks over the local variables of a function. Assumes `Logic`.
--     gets, alone, both      operands that are locals read whole
--     reborrows              `&mut *s` of a slice s: its pointer, and then the pointer with the length
use Rattle.std.proofs.Common.{◌≡◌, sym, ap, subst, ◌∙◌, refl, List, [], ◌∷◌, ℕ, zero, T}
use seplogic.Ra.Ura.{Ura}
use base.Fraction.{full_share}
use base.Fml.{fat, froom}
use mir.Syntax.{Lifetime, Ty, ty_int, w64, ty_ref, mut, Body, Opd, copy, place, field, deref, seq, assign, addr_of, aggregate}
use mir.Val.{Val, vptr, vint, WT, has_ty}
use prog.Wp.{Env, Calls, Loops, spot_of}
use types.Logic.{Logic}
use types.Kit.{Item, ‵, nth, del, Post, runs, Step, step, ◌$◌}
use types.Run.{Opd as OneOpd, Finds, Walks, Opds, stop, hop, fld, from, load, init, and_then, no_more, addr, assigns}
use types.Part.{Part, whole, sub, agg, look_in}
use types.ByLocal.{cell, at, set, get}
use denote.Slice.{slice_ty, slice_val}

abbrev local_of : Opd → ℕ
local_of (copy (place i st)) = i
local_of x = 0

-- each operand is a local read whole, and there are as many values
abbrev pub AllLocals : List Opd → List Val → Type 0
AllLocals [] [] = Unit {0}
AllLocals [] (v ∷ vs) = ⊥
AllLocals (copy (place i []) ∷ xs) (v ∷ vs) = AllLocals xs vs
AllLocals (x ∷ xs) vs = ⊥

module _ {M : Type 1} {𝓤 : Ura M} (𝓛 : Logic 𝓤) where
  open 𝓛 use {H}

  abbrev pub holds : Env 𝓤 H → ℕ → Val → Item 𝓤
  holds E i v = ‵ (fat full_share (spot_of 𝓤 H E i).0 (spot_of 𝓤 H E i).1 zero v)

  abbrev pub empty : Env 𝓤 H → ℕ → Item 𝓤
  empty E i = ‵ (froom (spot_of 𝓤 H E i).0 (spot_of 𝓤 H E i).1 zero)

  -- the cells that the operands meet, and those that they want
  abbrev pub meets : List (Item 𝓤) → List Opd → List (Item 𝓤)
  meets Γ [] = []
  meets Γ (x ∷ xs) = at 𝓛 (local_of x) Γ ∷ meets Γ xs

  abbrev pub wants : Env 𝓤 H → List Opd → List Val → List (Item 𝓤)
  wants E [] vs = []
  wants E (x ∷ xs) [] = []
  wants E (x ∷ xs) (v ∷ vs) = holds E (local_of x) v ∷ wants E xs vs

-- local i is a slice
module _ {M : Type 1} {𝓤 : Ura M} (𝓛 : Logic 𝓤) (K : Type 0) (Γ : List (Item 𝓤)) (E : Env 𝓤 𝓛.H) (i : ℕ) (p : ℕ × ℕ)
    (n : ℕ) (ℓ : Lifetime) (ξ : Ty) where
  open 𝓛 use {H}

  abbrev block : ℕ
  block = (spot_of 𝓤 H E i).1

  moved : (j k : Item 𝓤) (τ : Ty) (o : ℕ) (v : Val) (back : Val → Item 𝓤) → j ≡ k → Part K 𝓛 j full_share τ block o v back
      → Part K 𝓛 k full_share τ block o v back
  moved j k τ o v back e = subst (λ l. Part K 𝓛 l full_share τ block o v back) e

  slice_there : (spot_of 𝓤 H E i).0 ≡ slice_ty (ty_ref ℓ mut ξ) → at 𝓛 i Γ ≡ holds 𝓛 E i (slice_val p n)
      → ‵ (fat full_share (slice_ty (ty_ref ℓ mut ξ)) block zero (slice_val p n)) ≡ at 𝓛 i Γ
  slice_there is e = sym (e ∙ ap (λ τ. ‵ (fat full_share τ block zero (slice_val p n))) is)

  pointee_of : K → (τ : Ty) → (spot_of 𝓤 H E i).0 ≡ slice_ty (ty_ref ℓ mut ξ) → at 𝓛 i Γ ≡ holds 𝓛 E i (slice_val p n)
      → Finds K 𝓛 Γ E (place i (field 0 ∷ deref τ ∷ [])) (τ, p.0, p.1)
  pointee_of t τ is e =
      from t (subst (λ σ. Walks K 𝓛 Γ E (σ, block, zero) (field 0 ∷ deref τ ∷ []) (τ, p.0, p.1)) (sym is)
      (fld t refl (hop t (look_in t (cell i Γ) (moved _ _ _ _ _ _ (slice_there is e) (sub t 0 refl (whole t)))) (stop t))))

  length_of : K → (spot_of 𝓤 H E i).0 ≡ slice_ty (ty_ref ℓ mut ξ) → at 𝓛 i Γ ≡ holds 𝓛 E i (slice_val p n)
      → OneOpd K 𝓛 Γ E (copy (place i (field 1 ∷ []))) (vint w64 n)
  length_of t is e =
      load t (from t (subst (λ σ. Walks K 𝓛 Γ E (σ, block, zero) (field 1 ∷ []) (ty_int w64, block, 8)) (sym is) (fld t refl (stop t))))
      (look_in t (cell i Γ) (moved _ _ _ _ _ _ (slice_there is e) (sub t 1 refl (whole t))))

module _ {M : Type 1} {𝓤 : Ura M} {𝓛 : Logic 𝓤} {K : Type 0} {Γ : List (Item 𝓤)} where
  open 𝓛 use {H}

  module _ {E : Env 𝓤 H} where
    gets_each : K → (xs : List Opd) (vs : List Val) → AllLocals xs vs → meets 𝓛 Γ xs ≡ wants 𝓛 E xs vs → Opds K 𝓛 Γ E xs vs
    gets_each t [] [] locals met = no_more t
    gets_each t [] (v ∷ vs) locals met = absurd locals
    gets_each t (copy (place i []) ∷ xs) (v ∷ vs) locals met =
        and_then t (get t (ap (nth 𝓛 0) met)) (gets_each t xs vs locals (ap (del 𝓛 0) met))
    gets_each t (x ∷ xs) vs locals met = absurd locals

    -- one local, and two
    pub alone : K → {i : ℕ} {v : Val} → at 𝓛 i Γ ≡ holds 𝓛 E i v → Opds K 𝓛 Γ E (copy (place i []) ∷ []) (v ∷ [])
    alone t met = and_then t (get t met) (no_more t)

    pub both : K → {i j : ℕ} {v w : Val} → at 𝓛 i Γ ≡ holds 𝓛 E i v → at 𝓛 j Γ ≡ holds 𝓛 E j w
        → Opds K 𝓛 Γ E (copy (place i []) ∷ copy (place j []) ∷ []) (v ∷ w ∷ [])
    both t met met' = and_then t (get t met) (alone t met')

    pub gets : K → {xs : List Opd} {vs : List Val} → AllLocals xs vs → meets 𝓛 Γ xs ≡ wants 𝓛 E xs vs → Opds K 𝓛 Γ E xs vs
    gets t {xs} {vs} = gets_each t xs vs

  module _ {E : Env 𝓤 H} {C : Calls 𝓤 H} {Λ : Loops 𝓤 H} {q : Post 𝓤 H} where
    -- local i is the slice, j its pointer, and k what is lent
    pub reborrows : K → (p : ℕ × ℕ) (n : ℕ) {i j k : ℕ} {τ ξ : Ty} {ℓ : Lifetime} {rest : Body}
        → (spot_of 𝓤 H E i).0 ≡ slice_ty (ty_ref ℓ mut ξ)
        → (let Δ = set 𝓛 j (holds 𝓛 E j (vptr p.0 p.1)) Γ in at 𝓛 j Γ ∷ at 𝓛 i Γ ∷ at 𝓛 i Δ ∷ at 𝓛 j Δ ∷ at 𝓛 k Δ ∷ [])
        ≡ (let s = holds 𝓛 E i (slice_val p n) in empty 𝓛 E j ∷ s ∷ s ∷ holds 𝓛 E j (vptr p.0 p.1) ∷ empty 𝓛 E k ∷ [])
        → T (has_ty (spot_of 𝓤 H E j).0 (vptr p.0 p.1)) × WT (vptr p.0 p.1) → T (has_ty (spot_of 𝓤 H E k).0 (slice_val p n)) × WT (slice_val p n)
        → Step K 𝓛 (set 𝓛 k (holds 𝓛 E k (slice_val p n)) (set 𝓛 j (holds 𝓛 E j (vptr p.0 p.1)) Γ)) (runs C Λ E rest q) Γ
        (runs C Λ E (seq (assign (place j []) (addr_of (place i (field 0 ∷ deref τ ∷ []))))
        (seq (assign (place k []) (aggregate (copy (place j []) ∷ copy (place i (field 1 ∷ [])) ∷ []))) rest)) q)
    reborrows t p n {i} {j} {k} {τ} {ξ} {ℓ} is met of-pointer of-slice = step (λ s.
        assigns t (addr t (pointee_of 𝓛 K Γ E i p n ℓ ξ t τ is (ap (nth 𝓛 1) met))) (from t (stop t))
        (init t (cell j Γ) (ap (nth 𝓛 0) met) of-pointer) $
        assigns t (agg t (and_then t (get t (ap (nth 𝓛 3) met))
        (and_then t (length_of 𝓛 K (set 𝓛 j (holds 𝓛 E j (vptr p.0 p.1)) Γ) E i p n ℓ ξ t is (ap (nth 𝓛 2) met)) (no_more t)))) (from t (stop t))
        (init t (cell k (set 𝓛 j (holds 𝓛 E j (vptr p.0 p.1)) Γ)) (ap (nth 𝓛 4) met) of-slice) $ s)
