use Rattle.std.proofs.Common.{◌<◌, length, refl, arith, inl, inr}
use Rattle.std.proofs.lemmas.Bool.{cases_lt}
use Rattle.records.specs.Stream.{NeedsMore}
use Rattle.records.proofs.connection.receiving.first_record.Goals as goal

pub returns-in_default-clause-more : goal.returns-in_default-clause-more
unfolding NeedsMore
returns-in_default-clause-more c = λ _.
    let short : length c.args.bytes.now < 5 = elim (cases_lt (length c.args.bytes.now) 5) [
      | inl less ↦ less
      | inr long ↦ (let no = c.in_default.ensures.whole.1 long in absurd (cc no))
    ] in
    (5, (short, λ _. refl, λ long. absurd (omega arith)))
