use Rattle.std.proofs.Common.{ℕ, ◌≡◌, ◌-◌, length, replicate, ap, ◌∙◌, arith, rules}
use Rattle.std.proofs.lemmas.List.{length-set, places}
use Rattle.records.proofs.WriteLemmas.{padded}
use Rattle.records.proofs.inner.write_type_and_padding.Goals as goal

pub returns : goal.returns
returns c =
    let old = c.args.inner.now in
    let n = c.args.content_len in
    let code = c.args.content_type in
    let zeros : c.fill.new.self ≡ replicate (length old - 1 - n) 0 =
    c.fill.ensures.after (search rules) ∙ ap (λ (m : ℕ). replicate m 0) (search (rules, places)) in
    padded old c.fill.new.self n _ code c.requires (omega (arith, length-set old n code)) zeros
