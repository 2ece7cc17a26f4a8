-- Records that are taken off the front of a stream, in a buffer whose earlier bytes change.
use Rattle.std.proofs.Common.{◌≡◌, ℕ, ◌+◌, ◌-◌, ◌≤◌, List, length, take, drop, arith, ap, sym, subst, ◌∙◌, drop-drop}
use Rattle.records.specs.Stream.{Taken, nothing, one_more}

-- one further record is taken off a buffer whose bytes from that record on are those of the stream
pub taken_more : {S : Type 0} (Next : S → List ℕ → S → Type 0) (stream buffer : List ℕ) (first was now : S) (at end : ℕ)
    → Taken Next stream first at was → drop at buffer ≡ drop at stream → at ≤ end → end ≤ length stream
    → Next was (take (end - at) (drop at buffer)) now → Taken Next stream first end now
taken_more Next stream buffer first was now at end taken same order inside next =
    one_more at end was now taken order inside (subst (λ t. Next was (take (end - at) t) now) same next)

pub taken_none : {S : Type 0} (Next : S → List ℕ → S → Type 0) (stream : List ℕ) (first : S) → Taken Next stream first 0 first
taken_none Next stream first = nothing

-- bytes that are still those of the stream from `at` on are so from `end` on
pub kept_more : (stream was now : List ℕ) (at end : ℕ) → drop at was ≡ drop at stream → at ≤ end → drop end now ≡ drop end was
    → drop end now ≡ drop end stream
kept_more stream was now at end same order kept =
    let back : at + (end - at) ≡ end = omega (arith, order) in
    kept ∙ sym (ap (λ n. drop n was) back) ∙ sym (drop-drop (end - at) at was) ∙ ap (drop (end - at)) same
    ∙ drop-drop (end - at) at stream ∙ ap (λ n. drop n stream) back
