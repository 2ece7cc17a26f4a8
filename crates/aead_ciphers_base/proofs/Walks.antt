-- Walks of compiled code by hand. Assumes `Logic`.
-- The context is a list of entries, and a comment in brackets in a walk names them, the head first:
--     a token               a lifetime has not ended
--     a parameter           what it owns; `nothing` once that was given up
--     the premise, the clauses      what the contract's `requires` and `ensures` say
-- The steps:
--     dropped, goes         of no parameter anything is had at the end
--     Word, Words           values that are one word each
--     entered, walked       what there is on entry, and a walk from there to the end of the body
--     consults              a call: what the callee wants on entry and its premise become its answer and what it left
--     ends                  the walk's end
--     learns, takes         a fact, or a formula, is taken from what the head says
--     tell, tells, says     a fact is told, alone or before what the head says; what the head means is said
use Rattle.aead_ciphers_base.proofs.WalkNames.{◌≡◌, refl, sym, subst, List, [], ◌∷◌, ◌++◌, ℕ, ◌^◌, ◌<◌, Ura, Fn, Val, SProp, ent, sep, emp, id⊢, Fml, flft, Logic, sem, Item, Sq, Seq, Step, Goal, prop, mean, ‵, ◌⊛◌, raw, some, later, ◌$◌, ◌∵◌, !, qed, move, drop, split, use0, use1, use2, await, pick, fact, fact_i, RattleType, Valss, owns, types_at, slice_val, heard, Stays, stay_dropped}
use mir.Syntax.{Ty, ty_int, w8, Callee, Opd, Place, Body, seq, call}
use prog.Wp.{Env, Calls, Loops, Closed, WpFn}
use sound.WpLaws.{FmC}
use Rattle.std.proofs.Common.{zero, suc, T}
use mir.Val.{has_ty, WT}
use base.Logic.{mono_l, mono_r, via, emp∗}
use contract.Lifetimes.{Lfts, Shares, toks}
use contract.Running.{Running, tables}
use prog.Model.{Model}
use denote.Exit.{left}
use denote.Laws.{Are, Ises, Typed}
use denote.RattleType.{Denots}
use denote.Signature.{Slot, Signature, type_at}
use denote.Triple.Call.{calls_at}
use denote.Triple.Clauses.{Clauses, Ended, Lasts, lasts, at_exit, closing}
use denote.Triple.End.{Kepts, Fins, lasts_of}
use denote.Triple.Entry.{alive, on_entry, Args, Vals, Res}
use denote.Triple.Spec.{Spec, Meets, triple_of}
use denote.Triple.Statement.{Contract, Triple}
use denote.Triple.Table.{framed}
use denote.Triple.Walked.{Fit, has_of, Silent, AllGo, Goes-dropped, walk_of}
use types.Kit.{step, Post, Soaks, ⋆, push, pop, ++⊢, ⊢++, cut, runs, lands, allocs, params', at_ret}
use types.Run.{Opds, enter}
use Rattle.std.proofs.raw_atomic.Walks.{proved_at, leaves}

abbrev pub lone : List Ty → Ty
lone [] = ty_int w8
lone (τ ∷ τs) = τ

-- where a type's values are one word, the list of them is that word
pub one : (τ : Ty) (vs : List Val) → Typed (τ ∷ []) vs → (v : Val) × (vs ≡ v ∷ []) × (T (has_ty τ v) × WT v)
one τ [] t = absurd t
one τ (v ∷ []) t = (v, refl, t.0)
one τ (v ∷ w ∷ vs) t = absurd t.1

-- the one word that stores a value: the word, that it is the list of the value's words, and that it is of the type
abbrev pub Word : RattleType → List Val → Type 0
Word R vs = (v : Val) × (vs ≡ v ∷ []) × (T (has_ty (lone R.mir) v) × WT v)

-- parameters that are stored as a word each
abbrev pub Words : (Ts : List RattleType) → Valss Ts → Type 0
Words [] vss = Unit {0}
Words (R ∷ Ts) vss = Word R vss.0 × Words Ts vss.1

abbrev pub words_vals : (Ts : List RattleType) (vss : Valss Ts) → Words Ts vss → Valss Ts
words_vals [] vss ws = tt
words_vals (R ∷ Ts) vss ws = (ws.0.0 ∷ [], words_vals Ts vss.1 ws.1)

pub words_same : (Ts : List RattleType) (vss : Valss Ts) (ws : Words Ts vss) → words_vals Ts vss ws ≡ vss
words_same [] vss ws = refl
words_same (R ∷ Ts) vss ws = λ i. (sym (ws.0.1) i, words_same Ts vss.1 ws.1 i)

abbrev pub WordsTyped : (Ts : List RattleType) (vss : Valss Ts) → Words Ts vss → Type 0
WordsTyped [] vss ws = Unit {0}
WordsTyped (R ∷ Ts) vss ws = (T (has_ty (lone R.mir) ws.0.0) × WT ws.0.0) × WordsTyped Ts vss.1 ws.1

abbrev pub words_typed : (Ts : List RattleType) (vss : Valss Ts) (ws : Words Ts vss) → WordsTyped Ts vss ws
words_typed [] vss ws = tt
words_typed (R ∷ Ts) vss ws = (ws.0.2, words_typed Ts vss.1 ws.1)

-- a slice's word is of the slice's type
abbrev pub slice_typed : (p : ℕ × ℕ) (n : ℕ) → n < 2 ^ 64 → Unit {0} × WT (slice_val p n)
slice_typed p n fits = (tt, (tt, (record { fits = fits }, tt)))

-- ---- parameters of which nothing is had at the end
abbrev pub dropped : {n : ℕ} (ss : List (Slot n)) (ks : Kepts ss) → Stays ss ks
dropped [] ks = tt
dropped (s ∷ ss) ks = (stay_dropped s ks.0, dropped ss ks.1)

module _ {M : Type 1} {𝓤 : Ura M} (𝓛 : Logic 𝓤) (n : ℕ) where
  abbrev pub Silents : (ss : List (Slot n)) → Kepts ss → Type 1
  Silents [] ks = Unit {1}
  Silents (s ∷ ss) ks = Silent 𝓛 n s ks.0 × Silents ss ks.1

  pub goes : (ss : List (Slot n)) (ks : Kepts ss) → Silents ss ks → AllGo 𝓛 n ss ks (dropped ss ks)
  goes [] ks silents = tt
  goes (s ∷ ss) ks silents = (Goes-dropped 𝓛 n s ks.0 silents.0, goes ss ks.1 silents.1)

-- the words that store the parameters, and the walk with them
pub at_words {ℓ} : {A : Type 0} {B : A → Type ℓ} (words : A) → B words → (ws : A) × B ws
at_words words walk = (words, walk)

-- ---- entries
module _ {M : Type 1} (𝓤 : Ura M) where
  abbrev pub tokens : (n : ℕ) → Lfts n → Shares n → List (Item 𝓤)
  tokens zero κs qs = []
  tokens (suc n) κs qs = ‵ (flft κs.0 qs.0) ∷ tokens n κs.1 qs.1

  abbrev pub owned : (Ts : List RattleType) → Denots Ts → Valss Ts → List (Item 𝓤)
  owned [] a vss = []
  owned (T ∷ Ts) a vss = ‵ (T.own_val a.0 vss.0) ∷ owned Ts a.1 vss.1

  abbrev pub entered : (S : Signature) (κs : Lfts S.lifetimes) → Shares S.lifetimes → Args S κs → Vals S κs → List (Item 𝓤)
  entered S κs qs a vss = tokens S.lifetimes κs qs ++ owned (types_at S.params κs) a vss

  module _ {n : ℕ} (κs : Lfts n) where
    abbrev pub lasted : (ss : List (Slot n)) (ks : Kepts ss) (a : Denots (types_at ss κs)) → Fins κs ss ks a → List (Item 𝓤)
    lasted [] ks a ws = []
    lasted (s ∷ ss) ks a ws = ‵ (left ((s.row κs).exit ks.0) a.0 ws.0) ∷ lasted ss ks.1 a.1 ws.1

    abbrev pub had : (ss : List (Slot n)) (ks : Kepts ss) → Stays ss ks → (a : Denots (types_at ss κs)) → Fins κs ss ks a → Valss (types_at ss κs)
        → List (Item 𝓤)
    had [] ks hs a ws vss = []
    had (s ∷ ss) ks hs a ws vss = ‵ (hs.0.has κs a.0 ws.0 vss.0) ∷ had ss ks.1 hs.1 a.1 ws.1 vss.1

module _ {M : Type 1} {𝓤 : Ura M} (𝓛 : Logic 𝓤) where
  cons⊢ : (i : Item 𝓤) (Δ : List (Item 𝓤)) (Q : SProp 𝓤) → ent 𝓤 Q (⋆ 𝓛 Δ) → ent 𝓤 (sep 𝓤 (mean 𝓛 i) Q) (⋆ 𝓛 (i ∷ Δ))
  cons⊢ i Δ Q h = via 𝓤 (sep 𝓤 (mean 𝓛 i) (⋆ 𝓛 Δ)) (mono_r 𝓤 (mean 𝓛 i) h) (push 𝓛 i Δ)

  ⊢cons : (i : Item 𝓤) (Δ : List (Item 𝓤)) (Q : SProp 𝓤) → ent 𝓤 (⋆ 𝓛 Δ) Q → ent 𝓤 (⋆ 𝓛 (i ∷ Δ)) (sep 𝓤 (mean 𝓛 i) Q)
  ⊢cons i Δ Q h = via 𝓤 (sep 𝓤 (mean 𝓛 i) (⋆ 𝓛 Δ)) (pop 𝓛 i Δ) (mono_r 𝓤 (mean 𝓛 i) h)

  join⊢ : (Δ Δ' : List (Item 𝓤)) (P Q : SProp 𝓤) → ent 𝓤 P (⋆ 𝓛 Δ) → ent 𝓤 Q (⋆ 𝓛 Δ') → ent 𝓤 (sep 𝓤 P Q) (⋆ 𝓛 (Δ ++ Δ'))
  join⊢ Δ Δ' P Q f g = via 𝓤 (sep 𝓤 (⋆ 𝓛 Δ) Q) (mono_l 𝓤 Q f) (via 𝓤 (sep 𝓤 (⋆ 𝓛 Δ) (⋆ 𝓛 Δ')) (mono_r 𝓤 (⋆ 𝓛 Δ) g) (++⊢ 𝓛 Δ Δ'))

  ⊢join : (Δ Δ' : List (Item 𝓤)) (P Q : SProp 𝓤) → ent 𝓤 (⋆ 𝓛 Δ) P → ent 𝓤 (⋆ 𝓛 Δ') Q → ent 𝓤 (⋆ 𝓛 (Δ ++ Δ')) (sep 𝓤 P Q)
  ⊢join Δ Δ' P Q f g = via 𝓤 (sep 𝓤 (⋆ 𝓛 Δ) (⋆ 𝓛 Δ')) (⊢++ 𝓛 Δ Δ') (via 𝓤 (sep 𝓤 P (⋆ 𝓛 Δ')) (mono_l 𝓤 (⋆ 𝓛 Δ') f) (mono_r 𝓤 P g))

  tokens⊢ : (n : ℕ) (κs : Lfts n) (qs : Shares n) → ent 𝓤 (toks 𝓛 n κs qs) (⋆ 𝓛 (tokens 𝓤 n κs qs))
  tokens⊢ zero κs qs = id⊢ 𝓤 (emp 𝓤)
  tokens⊢ (suc n) κs qs = cons⊢ (‵ (flft κs.0 qs.0)) (tokens 𝓤 n κs.1 qs.1) (toks 𝓛 n κs.1 qs.1) (tokens⊢ n κs.1 qs.1)

  ⊢tokens : (n : ℕ) (κs : Lfts n) (qs : Shares n) → ent 𝓤 (⋆ 𝓛 (tokens 𝓤 n κs qs)) (toks 𝓛 n κs qs)
  ⊢tokens zero κs qs = id⊢ 𝓤 (emp 𝓤)
  ⊢tokens (suc n) κs qs = ⊢cons (‵ (flft κs.0 qs.0)) (tokens 𝓤 n κs.1 qs.1) (toks 𝓛 n κs.1 qs.1) (⊢tokens n κs.1 qs.1)

  owned⊢ : (Ts : List RattleType) (a : Denots Ts) (vss : Valss Ts) → ent 𝓤 (sem 𝓛 (owns Ts a vss)) (⋆ 𝓛 (owned 𝓤 Ts a vss))
  owned⊢ [] a vss = id⊢ 𝓤 (emp 𝓤)
  owned⊢ (T ∷ Ts) a vss = cons⊢ (‵ (T.own_val a.0 vss.0)) (owned 𝓤 Ts a.1 vss.1) (sem 𝓛 (owns Ts a.1 vss.1)) (owned⊢ Ts a.1 vss.1)

  ⊢owned : (Ts : List RattleType) (a : Denots Ts) (vss : Valss Ts) → ent 𝓤 (⋆ 𝓛 (owned 𝓤 Ts a vss)) (sem 𝓛 (owns Ts a vss))
  ⊢owned [] a vss = id⊢ 𝓤 (emp 𝓤)
  ⊢owned (T ∷ Ts) a vss = ⊢cons (‵ (T.own_val a.0 vss.0)) (owned 𝓤 Ts a.1 vss.1) (sem 𝓛 (owns Ts a.1 vss.1)) (⊢owned Ts a.1 vss.1)

  module _ {n : ℕ} (κs : Lfts n) where
    lasted⊢ : (ss : List (Slot n)) (ks : Kepts ss) (a : Denots (types_at ss κs)) (ws : Fins κs ss ks a)
        → ent 𝓤 (sem 𝓛 (lasts_of κs ss ks a ws)) (⋆ 𝓛 (lasted 𝓤 κs ss ks a ws))
    lasted⊢ [] ks a ws = id⊢ 𝓤 (emp 𝓤)
    lasted⊢ (s ∷ ss) ks a ws = cons⊢ (‵ (left ((s.row κs).exit ks.0) a.0 ws.0)) (lasted 𝓤 κs ss ks.1 a.1 ws.1) (sem 𝓛 (lasts_of κs ss ks.1 a.1 ws.1))
        (lasted⊢ ss ks.1 a.1 ws.1)

    ⊢had : (ss : List (Slot n)) (ks : Kepts ss) (hs : Stays ss ks) (a : Denots (types_at ss κs)) (ws : Fins κs ss ks a) (vss : Valss (types_at ss κs))
        → ent 𝓤 (⋆ 𝓛 (had 𝓤 κs ss ks hs a ws vss)) (sem 𝓛 (has_of κs ss ks hs a ws vss))
    ⊢had [] ks hs a ws vss = id⊢ 𝓤 (emp 𝓤)
    ⊢had (s ∷ ss) ks hs a ws vss = ⊢cons (‵ (hs.0.has κs a.0 ws.0 vss.0)) (had 𝓤 κs ss ks.1 hs.1 a.1 ws.1 vss.1)
        (sem 𝓛 (has_of κs ss ks.1 hs.1 a.1 ws.1 vss.1)) (⊢had ss ks.1 hs.1 a.1 ws.1 vss.1)

  module _ (S : Signature) (κs : Lfts S.lifetimes) (qs : Shares S.lifetimes) (a : Args S κs) (vss : Vals S κs) where
    entered⊢ : ent 𝓤 (on_entry 𝓛 S κs qs a vss) (⋆ 𝓛 (entered 𝓤 S κs qs a vss))
    entered⊢ = join⊢ (tokens 𝓤 S.lifetimes κs qs) (owned 𝓤 (types_at S.params κs) a vss) (alive 𝓛 S κs qs) (sem 𝓛 (owns (types_at S.params κs) a vss))
        (tokens⊢ S.lifetimes κs qs) (owned⊢ (types_at S.params κs) a vss)

    ⊢entered : ent 𝓤 (⋆ 𝓛 (entered 𝓤 S κs qs a vss)) (on_entry 𝓛 S κs qs a vss)
    ⊢entered = ⊢join (tokens 𝓤 S.lifetimes κs qs) (owned 𝓤 (types_at S.params κs) a vss) (alive 𝓛 S κs qs) (sem 𝓛 (owns (types_at S.params κs) a vss))
        (⊢tokens S.lifetimes κs qs) (⊢owned (types_at S.params κs) a vss)

  -- ---- steps
  module _ {K : Type 0} {Γ : List (Item 𝓤)} {G : Goal 𝓤 𝓛.H} where
    pub spreads : K → (S : Signature) (κs : Lfts S.lifetimes) (qs : Shares S.lifetimes) (a : Args S κs) (vss : Vals S κs)
        → Step K 𝓛 (entered 𝓤 S κs qs a vss ++ Γ) G (raw (on_entry 𝓛 S κs qs a vss) ∷ Γ) G
    spreads t S κs qs a vss = cut (raw (on_entry 𝓛 S κs qs a vss) ∷ []) (entered 𝓤 S κs qs a vss) Γ (entered⊢ S κs qs a vss)

    pub readies : K → (S : Signature) (c : Spec 𝓤 S) (y : (triple_of 𝓛 S c).Ghost)
        → Step K 𝓛 (raw ((triple_of 𝓛 S c).pre y) ∷ Γ) G ((entered 𝓤 S y.0.0 y.0.1 y.0.3 y.0.4 ++ (raw ((c y.0.0 y.0.3).requires y.1) ∷ [])) ++ Γ) G
    readies t S c y = let Δ = entered 𝓤 S y.0.0 y.0.1 y.0.3 y.0.4 in let R : List (Item 𝓤) = raw ((c y.0.0 y.0.3).requires y.1) ∷ [] in
        cut (Δ ++ R) (raw ((triple_of 𝓛 S c).pre y) ∷ []) Γ
        (⊢join Δ R (on_entry 𝓛 S y.0.0 y.0.1 y.0.3 y.0.4) ((c y.0.0 y.0.3).requires y.1) (⊢entered S y.0.0 y.0.1 y.0.3 y.0.4)
        (id⊢ 𝓤 ((c y.0.0 y.0.3).requires y.1)))

  -- what a callee gave
  module _ (T : Ended) (c : Clauses 𝓤 T) where
    abbrev Called : Contract 𝓤
    Called = triple_of 𝓛 T.signature (closing 𝓛 T c)

    abbrev pub gave : (y : Called.Ghost) (v : Val) (r : Res T.signature y.0.0)
        (ws : Lasts T y.0.0 y.0.3) → List (Item 𝓤)
    gave y v r ws =
        raw ((c y.0.0 y.0.3).ensures y.1 r (at_exit T y.0.0 y.0.3 ws)) ∷ ‵ ((type_at T.signature.result y.0.0).own_val r (v ∷ []))
        ∷ (tokens 𝓤 T.signature.lifetimes y.0.0 y.0.1 ++ lasted 𝓤 y.0.0 T.signature.params T.kept y.0.3 ws)

    module _ (y : Called.Ghost) (v : Val) where
      abbrev answer : Res T.signature y.0.0 → Item 𝓤
      answer r = ‵ ((type_at T.signature.result y.0.0).own_val r (v ∷ []))

      abbrev said : (r : Res T.signature y.0.0) → Lasts T y.0.0 y.0.3 → Item 𝓤
      said r ws = raw ((c y.0.0 y.0.3).ensures y.1 r (at_exit T y.0.0 y.0.3 ws))

      gave⊢ : (r : Res T.signature y.0.0) (ws : Lasts T y.0.0 y.0.3)
          → ent 𝓤 (⋆ 𝓛 (said r ws ∷ answer r ∷ raw (alive 𝓛 T.signature y.0.0 y.0.1) ∷ ‵ (lasts T y.0.0 y.0.3 ws) ∷ [])) (⋆ 𝓛 (gave y v r ws))
      gave⊢ r ws =
          let A = alive 𝓛 T.signature y.0.0 y.0.1 in let L = sem 𝓛 (lasts T y.0.0 y.0.3 ws) in let Ts = tokens 𝓤 T.signature.lifetimes y.0.0 y.0.1 in
          let Δ = lasted 𝓤 y.0.0 T.signature.params T.kept y.0.3 ws in
          cons⊢ (said r ws) (answer r ∷ (Ts ++ Δ)) (sep 𝓤 (mean 𝓛 (answer r)) (sep 𝓤 A L))
          (cons⊢ (answer r) (Ts ++ Δ) (sep 𝓤 A L)
          (join⊢ Ts Δ A L (tokens⊢ T.signature.lifetimes y.0.0 y.0.1) (lasted⊢ y.0.0 T.signature.params T.kept y.0.3 ws)))

      pub answers : {K : Type 0} {Γ : List (Item 𝓤)} {G : Goal 𝓤 𝓛.H} → K → Soaks G
          → ((r : Res T.signature y.0.0) (ws : Lasts T y.0.0 y.0.3) → Seq K 𝓛 (gave y v r ws ++ Γ) G)
          → Seq K 𝓛 (raw (Called.post y v) ∷ Γ) G
      answers {Γ = Γ} t soaks k =
          let A = raw (alive 𝓛 T.signature y.0.0 y.0.1) in
          use1 𝓛 (later (some (λ (r : Res T.signature y.0.0).
          (A ⊛ answer r) ⊛ some (λ (ws : Lasts T y.0.0 y.0.3). ‵ (lasts T y.0.0 y.0.3 ws) ⊛ said r ws))))
          (id⊢ 𝓤 _) $
          await t soaks $ pick t (λ r. split t $ split t $ move t (2 ∷ []) $ pick t (λ ws. split t $ move t (1 ∷ 3 ∷ 2 ∷ 0 ∷ []) $
          cut (said r ws ∷ answer r ∷ A ∷ ‵ (lasts T y.0.0 y.0.3 ws) ∷ []) (gave y v r ws) Γ (gave⊢ r ws) $ k r ws))

    -- a call, from what the callee wants to what it gave
    pub consults : {K : Type 0} {Γ : List
        (Item 𝓤)} {E : Env 𝓤 𝓛.H} {C : Calls 𝓤 𝓛.H} {Λ : Loops 𝓤 𝓛.H} {q : Post 𝓤 𝓛.H} {f : Callee} {xs : List Opd} {d : Place} {rest : Body}
        → K → FmC 𝓤 𝓛.H 𝓛.laws C → Triple 𝓤 (C f) Called → (y : Called.Ghost)
        → Opds K 𝓛 (raw (Called.pre y) ∷ Γ) E xs (Called.args y)
        → ((v : Val) (r : Res T.signature y.0.0) (ws : Lasts T y.0.0 y.0.3) → Seq K 𝓛 (gave y v r ws ++ Γ) (lands C Λ E d v rest q))
        → Seq K 𝓛 ((entered 𝓤 T.signature y.0.0 y.0.1 y.0.3 y.0.4 ++ (raw ((c y.0.0 y.0.3).requires y.1) ∷ []))
        ++ Γ) (runs C Λ E (seq (call f xs d) rest) q)
    consults t table met y operands k =
        readies t T.signature (closing 𝓛 T c) y $
        calls_at t table Called met y operands (λ v. answers y v t tt (k v))

  -- the walk's end
  module _ (T : Ended) (hs : Stays T.signature.params T.kept) (c : Clauses 𝓤 T) (y : (walk_of 𝓛 T hs c).Ghost) (v : Val) (r : Res T.signature y.0.0)
      (ws : Lasts T y.0.0 y.0.3) where
    abbrev pub ending : List (Item 𝓤)
    ending = tokens 𝓤 T.signature.lifetimes y.0.0 y.0.1 ++
        (had 𝓤 y.0.0 T.signature.params T.kept hs y.0.3 ws y.0.4 ++
        (‵ ((type_at T.signature.result y.0.0).own_val r (v ∷ [])) ∷ raw ((c y.0.0 y.0.3).ensures y.1 r (at_exit T y.0.0 y.0.3 ws)) ∷ []))

    pub ends : {K : Type 0} → K → Fit T hs y.0.0 y.0.3 ws → Seq K 𝓛 ending (prop ((walk_of 𝓛 T hs c).post y v))
    ends t fits =
        let Ts = tokens 𝓤 T.signature.lifetimes y.0.0 y.0.1 in let Hs = had 𝓤 y.0.0 T.signature.params T.kept hs y.0.3 ws y.0.4 in
        let R : List (Item 𝓤) = ‵ ((type_at T.signature.result y.0.0).own_val r (v ∷ [])) ∷ raw
        ((c y.0.0 y.0.3).ensures y.1 r (at_exit T y.0.0 y.0.3 ws))
        ∷ [] in
        let O = sem 𝓛 ((type_at T.signature.result y.0.0).own_val r (v ∷ [])) in let P = (c y.0.0 y.0.3).ensures y.1 r (at_exit T y.0.0 y.0.3 ws) in
        let A = alive 𝓛 T.signature y.0.0 y.0.1 in let H = sem 𝓛 (has_of y.0.0 T.signature.params T.kept hs y.0.3 ws y.0.4) in
        record {
          prf = via 𝓤 (sep 𝓤 A (sep 𝓤 H (sep 𝓤 O P)))
              (⊢join Ts (Hs ++ R) A (sep 𝓤 H (sep 𝓤 O P)) (⊢tokens T.signature.lifetimes y.0.0 y.0.1)
              (⊢join Hs R H (sep 𝓤 O P) (⊢had y.0.0 T.signature.params T.kept hs y.0.3 ws y.0.4) (id⊢ 𝓤 (sep 𝓤 O P))))
              (leaves 𝓛 T hs c y v r ws fits);
        }

  -- a walk with the parameters' machine values written out
  pub spelled : (T : Ended) (hs : Stays T.signature.params T.kept) (c : Clauses 𝓤 T) (𝓜 : Model 𝓤 𝓛.H) (𝓡 : Running 𝓤 𝓛.H 𝓜) (e : Fn)
      (y : (walk_of 𝓛 T hs c).Ghost) (vss : Vals T.signature y.0.0) → vss ≡ y.0.4
      → (let 𝓣 = tables 𝓤 𝓛.H 𝓜 𝓡 𝓡.env in let W = walk_of 𝓛 T hs c in let y' : W.Ghost = ((y.0.0, y.0.1, y.0.2, y.0.3, vss), y.1) in
      ent 𝓤 (W.pre y') (WpFn 𝓤 𝓛.H 𝓣.C 𝓣.Λ e (W.args y') (W.post y')))
      → (let 𝓣 = tables 𝓤 𝓛.H 𝓜 𝓡 𝓡.env in let W = walk_of 𝓛 T hs c in ent 𝓤 (W.pre y) (WpFn 𝓤 𝓛.H 𝓣.C 𝓣.Λ e (W.args y) (W.post y)))
  spelled T hs c 𝓜 𝓡 e y vss is walk =
      let 𝓣 = tables 𝓤 𝓛.H 𝓜 𝓡 𝓡.env in let W = walk_of 𝓛 T hs c in
      subst (λ (vs : Vals T.signature y.0.0). let y' : W.Ghost = ((y.0.0, y.0.1, y.0.2, y.0.3, vs), y.1) in
      ent 𝓤 (W.pre y') (WpFn 𝓤 𝓛.H 𝓣.C 𝓣.Λ e (W.args y') (W.post y'))) is walk

  -- a walk from the entries to the end of the body, with the parameters' machine values written out
  pub walked : (T : Ended) (hs : Stays T.signature.params T.kept) (c : Clauses 𝓤 T) (𝓜 : Model 𝓤 𝓛.H) (𝓡 : Running 𝓤 𝓛.H 𝓜)
      → AllGo 𝓛 T.signature.lifetimes T.signature.params T.kept hs → (k : Callee) (e : Fn)
      → (let 𝓣 = tables 𝓤 𝓛.H 𝓜 𝓡 𝓡.env in Closed 𝓤 𝓛.H 𝓣.C 𝓣.Λ k e)
      → ((y : (walk_of 𝓛 T hs c).Ghost) → Are (types_at T.signature.params y.0.0) (Ises (types_at T.signature.params y.0.0)) y.0.3 y.0.4
      → (words : Words (types_at T.signature.params y.0.0) y.0.4) × (let 𝓣 = tables 𝓤 𝓛.H 𝓜 𝓡 𝓡.env in let W = walk_of 𝓛 T hs c in
      let vss = words_vals (types_at T.signature.params y.0.0) y.0.4 words in let y' : W.Ghost = ((y.0.0, y.0.1, y.0.2, y.0.3, vss), y.1) in
      Sq 𝓛 (entered 𝓤 T.signature y.0.0 y.0.1 y.0.3 vss ++ (raw ((c y.0.0 y.0.3).requires y.1) ∷ []))
      (allocs e.locals (λ E. params' E (W.args y') (runs 𝓣.C 𝓣.Λ E e.body (at_ret E (W.post y')))))))
      → (let 𝓣 = tables 𝓤 𝓛.H 𝓜 𝓡 𝓡.env in Meets 𝓛 T.signature (𝓣.C k) (closing 𝓛 T c))
  walked T hs c 𝓜 𝓡 go k e closed walk = proved_at 𝓛 T hs c 𝓜 𝓡 go k e closed (λ y are.
      let w = walk y are in let Ts = types_at T.signature.params y.0.0 in let vss = words_vals Ts y.0.4 w.0 in
      spelled T hs c 𝓜 𝓡 e y vss (words_same Ts y.0.4 w.0)
      (qed 𝓛 (raw (on_entry 𝓛 T.signature y.0.0 y.0.1 y.0.3 vss) ∷ raw ((c y.0.0 y.0.3).requires y.1) ∷ []) ∵
      spreads ! T.signature y.0.0 y.0.1 y.0.3 vss $ enter ! _ _ _ _ _ $ w.1))

  -- an entry of the machine's tables keeps a frame
  abbrev pub table_of : (𝓜 : Model 𝓤 𝓛.H) (𝓡 : Running 𝓤 𝓛.H 𝓜) → FmC 𝓤 𝓛.H 𝓛.laws (tables 𝓤 𝓛.H 𝓜 𝓡 𝓡.env).C
  table_of 𝓜 𝓡 = framed 𝓤 𝓛.H 𝓜 (tables 𝓤 𝓛.H 𝓜 𝓡 𝓡.env)

-- facts, and what is said beside them
module _ {M : Type 1} {𝓤 : Ura M} {𝓛 : Logic 𝓤} {K : Type 0} {Γ : List (Item 𝓤)} {G : Goal 𝓤 𝓛.H} where
  pub learns : {φ : Type 0} {Q : SProp 𝓤} → K → (φ → Seq K 𝓛 (raw Q ∷ Γ) G) → Seq K 𝓛 (raw (sep 𝓤 (fact 𝓤 φ) Q) ∷ Γ) G
  learns {φ} {Q} t k = use1 𝓛 (raw (fact 𝓤 φ) ⊛ raw Q) (id⊢ 𝓤 _) $ split t $ heard t φ k

  pub learns_last : {φ : Type 0} → K → (φ → Seq K 𝓛 Γ G) → Seq K 𝓛 (raw (sep 𝓤 (fact 𝓤 φ) (emp 𝓤)) ∷ Γ) G
  learns_last {φ} t k = use1 𝓛 (raw (fact 𝓤 φ) ⊛ raw (emp 𝓤)) (id⊢ 𝓤 _) $ split t $ heard t φ (λ x. drop t $ k x)

  pub tells : {φ : Type 0} {Q : SProp 𝓤} → K → φ → Step K 𝓛 (raw (sep 𝓤 (fact 𝓤 φ) Q) ∷ Γ) G (raw Q ∷ Γ) G
  tells {φ} {Q} t x = use1 𝓛 (raw (sep 𝓤 (fact 𝓤 φ) Q)) (via 𝓤 (sep 𝓤 (emp 𝓤) Q) (emp∗ 𝓤 Q) (mono_l 𝓤 Q (fact_i 𝓤 φ (emp 𝓤) x)))

  pub tell : {φ : Type 0} → K → φ → Step K 𝓛 (raw (fact 𝓤 φ) ∷ Γ) G Γ G
  tell {φ} t x = use0 𝓛 (raw (fact 𝓤 φ)) (fact_i 𝓤 φ (emp 𝓤) x)

  -- no premise
  pub premise : K → Step K 𝓛 (raw (emp 𝓤) ∷ Γ) G Γ G
  premise t = use0 𝓛 (raw (emp 𝓤)) (id⊢ 𝓤 (emp 𝓤))

  -- the formula A is said, and then the rest
  pub takes : {Q : SProp 𝓤} → K → (A : Fml) → Step K 𝓛 (‵ A ∷ raw Q ∷ Γ) G (raw (sep 𝓤 (sem 𝓛 A) Q) ∷ Γ) G
  takes {Q} t A = step (λ s. use1 𝓛 (‵ A ⊛ raw Q) (id⊢ 𝓤 _) $ split t $ s)

  -- what the head means is said, and then the rest
  pub says : {i : Item 𝓤} {Q : SProp 𝓤} → K → Step K 𝓛 (raw (sep 𝓤 (mean 𝓛 i) Q) ∷ Γ) G (i ∷ raw Q ∷ Γ) G
  says {i} {Q} t = use2 𝓛 (raw (sep 𝓤 (mean 𝓛 i) Q)) (id⊢ 𝓤 _)
