-- Sealing calls spend fresh nonces.
use Rattle.std.proofs
use proofs.Common.{◌≡◌, ℕ, ◌<◌, ◌≤◌, List, [], ◌∷◌, ◌++◌, Bool, length, length-append, take, get_or, Contains, inl, inr, sym, ap, ◌∙◌, subst, arith, get_or-take, length-take, take-take, Some, slice_get}
use proofs.Math.ListN.{get_or-append}
use proofs.Math.Seq.{take-length, take-append_seam, get_or-append_seam}
use proofs.lemmas.Bool.{cases_lt}
use proofs.lemmas.List.Elements.{Contains-get_or}
use proofs.lemmas.Option.{get_or_from_slice_get, slice_get-get_or}
use Rattle.std.specs.Prelude.{⊤}
use Rattle.aead_ciphers.specs
use specs.BoundState.{BoundState}
use specs.FreshNonces.{GrewFresh, SealCalls}
use specs.NonceSequence.{Appends}
use specs.Runs.{JobStep, Performs, Runs}
use specs.declared.session.Job.{Job}
use specs.declared.session.Operation.{Operation}
use specs.declared.session.Operation.TheVariants.{Seal, Open}
use specs.Steps.{SealStep, no_room, no_nonce, too_long, sealed}

-- two places of a list hold the same exactly where reading them gives the same
read_same : (xs : List (List ℕ)) (i j : ℕ) → j < length xs → slice_get xs i ≡ slice_get xs j → get_or xs i [] ≡ get_or xs j []
read_same xs i j h e = get_or_from_slice_get xs i _ [] (e ∙ slice_get-get_or xs j [] h)

got_same : (xs : List (List ℕ)) (i j : ℕ) → i < length xs → j < length xs → get_or xs i [] ≡ get_or xs j [] → slice_get xs i ≡ slice_get xs j
got_same xs i j hi hj e = slice_get-get_or xs i [] hi ∙ ap Some e ∙ sym (slice_get-get_or xs j [] hj)

pub fresh_none : (was now : List (List ℕ)) → now ≡ was → GrewFresh was now
fresh_none was now e = subst (λ (l : List (List ℕ)). GrewFresh was l) (sym e) (record {
  kept = take-length was;
  fresh = λ i j lt from to same. absurd (omega arith);
})

pub fresh_one : (was now : List (List ℕ)) (closed : Bool) (nonce : List ℕ) → Appends was now closed nonce → GrewFresh was now
fresh_one was now closed nonce a = subst (λ (l : List (List ℕ)). GrewFresh was l) (sym a.appended) (record {
  kept = take-append_seam was (nonce ∷ []);
  fresh = λ i j lt from to same.
      let all = was ++ nonce ∷ [] in
      let more = length-append was (nonce ∷ []) in
      let last : j ≡ length was = omega arith in
      let within : i < length was = omega arith in
      let e =
      sym (get_or-append was (nonce ∷ []) [] i within) ∙ read_same all i j to same
      ∙ ap (λ k. get_or all k []) last ∙ get_or-append_seam was nonce [] [] in
      a.fresh (subst (λ x. Contains was x) e (Contains-get_or was i [] within));
})

pub fresh_more : (was mid now : List (List ℕ)) → GrewFresh was mid → GrewFresh mid now → GrewFresh was now
fresh_more was mid now a b =
    let shorter : length was ≤ length mid = omega (arith, ap length a.kept, length-take (length was) mid) in
    let longer : length mid ≤ length now = omega (arith, ap length b.kept, length-take (length mid) now) in
    let at : (i : ℕ) → i < length mid → get_or mid i [] ≡ get_or now i [] =
    λ i h. ap (λ (l : List (List ℕ)). get_or l i []) (sym b.kept) ∙ get_or-take _ now i [] h in
    record {
      kept = sym (take-take (length was) _ now shorter) ∙ ap (take (length was)) b.kept ∙ a.kept;
      fresh = λ i j lt from to same.
          elim (cases_lt j _) [
            | inl early ↦ a.fresh i j lt from early (got_same mid i j (omega arith) early
                (at i (omega arith) ∙ read_same now i j to same ∙ sym (at j early)))
            | inr late ↦ b.fresh i j lt late to same
          ];
    }

module _ {N : Type 0} (spent : N → List (List ℕ)) (is_closed : N → Bool) where
  pub fresh_step : (refuse grant : Type 0) (was now : BoundState N) (aad old new : List ℕ) (accepts : Bool)
      → SealStep spent is_closed refuse grant was now aad old new accepts → GrewFresh (spent was.sequence) (spent now.sequence)
  fresh_step refuse grant was now aad old new accepts (no_room h e b) = fresh_none _ _ (ap (λ (k : BoundState N). spent k.sequence) e)
  fresh_step refuse grant was now aad old new accepts (no_nonce g c b) = fresh_none _ _ c.kept
  fresh_step refuse grant was now aad old new accepts (too_long g nonce s l b) = fresh_one _ _ _ nonce s
  fresh_step refuse grant was now aad old new accepts (sealed g nonce s l b) = fresh_one _ _ _ nonce s

  pub fresh_calls : (first last : BoundState N) (calls : List (List ℕ × List ℕ)) (answers : List (List ℕ × Bool))
      → SealCalls spent is_closed first last calls answers → GrewFresh (spent first.sequence) (spent last.sequence)
  fresh_calls first last [] [] e = fresh_none _ _ (ap (λ (k : BoundState N). spent k.sequence) e)
  fresh_calls first last (c ∷ cs) (a ∷ as') r =
      fresh_more _ _ _ (fresh_step ⊤ ⊤ first r.0 c.0 c.1 a.0 a.1 r.1) (fresh_calls r.0 last cs as' r.2)
  fresh_calls first last [] (a ∷ as') r = absurd r
  fresh_calls first last (c ∷ cs) [] r = absurd r

module _ {S O : Type 0} (s_spent : S → List (List ℕ)) (s_closed : S → Bool) (s_origin : S → List ℕ)
    (o_spent : O → List (List ℕ)) (o_closed : O → Bool) (o_origin : O → List ℕ) where
  fresh_job : (operation : Operation) (was now : BoundState S × BoundState O) (old new : Job)
      → Performs s_spent s_closed s_origin o_spent o_closed o_origin operation was now old new
      → GrewFresh (s_spent was.0.sequence) (s_spent now.0.sequence)
  fresh_job Seal was now old new p = fresh_step s_spent s_closed _ _ was.0 now.0 _ _ _ _ p.2.1
  fresh_job (Open start) was now old new p = fresh_none _ _ (ap (λ (k : BoundState S). s_spent k.sequence) p.0)

  pub fresh_run : (first last : BoundState S × BoundState O) (olds news : List Job)
      → Runs (JobStep s_spent s_closed s_origin o_spent o_closed o_origin) first last olds news → GrewFresh (s_spent first.0.sequence) (s_spent last.0.sequence)
  fresh_run first last [] [] e = fresh_none _ _ (ap (λ (k : BoundState S × BoundState O). s_spent k.0.sequence) e)
  fresh_run first last (old ∷ olds) (new ∷ news) r =
      fresh_more _ _ _ (fresh_job old.operation first r.0 old new r.1.performs) (fresh_run r.0 last olds news r.2)
  fresh_run first last [] (new ∷ news) r = absurd r
  fresh_run first last (old ∷ olds) [] r = absurd r
