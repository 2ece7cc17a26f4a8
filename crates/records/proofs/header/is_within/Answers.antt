use Rattle.std.proofs.Common.{◌≤◌, ◌+◌, length, arith}
use Rattle.std.proofs.lemmas.Bool.Decides.{nat_tests}
use Rattle.records.proofs.RecordLemmas.{whole_within}
use Rattle.records.proofs.header.is_within.Goals as goal

pub returns-clause-whole : goal.returns-clause-whole
returns-clause-whole c = λ test.
    let fits : length c.args.bytes.now ≤ 5 + c.args.size_limit + 16 = grind (arith, nat_tests) in
    whole_within c.args.size_limit c.args.bytes.now (λ i. omega (arith, c.type_inv.bytes i)) c.requires.begins fits
