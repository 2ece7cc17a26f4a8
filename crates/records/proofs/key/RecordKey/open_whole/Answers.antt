use Rattle.std.proofs.Common.{◌≡◌, ◌∙◌, ◌+◌, ◌-◌, arith}
use Rattle.std.proofs.lemmas.Result.{err_from_is_err_and}
use Rattle.records.proofs.RecordLemmas.{opens_false, refused_opens}
use Rattle.records.proofs.key.RecordKey.open_whole.Goals as goal

pub returns-in_err-len-clause-opens : goal.returns-in_err-len-clause-opens
returns-in_err-len-clause-opens c =
    let p = err_from_is_err_and c.from_residual.result c.from_residual.ensures.1 in
    rw p.1 (opens_false c.args.self.now c.args.number _ _ (p.2 ∙ c.in_err-len.ensures.refused) c.requires.whole c.in_err-len.ensures.none)

pub returns-in-Err-clause-opens : goal.returns-in-Err-clause-opens
returns-in-Err-clause-opens c =
    let same : c.args.filled + c.in_ok-len.len - c.args.filled ≡ c.in_ok-len.len = omega arith in
    refused_opens _ _ _ _ _ _ _ c.in_ok-len.ensures.opened _ (rw same at c.in-Err.ensures.refused)
