use Rattle.std.proofs.lemmas.Result.{err_from_is_err_and}
use Rattle.records.specs.Keys.{key_state}
use Rattle.records.proofs.RecordLemmas.{opens_none, refused_opens}
use Rattle.records.proofs.key.RecordKey.open_to.Goals as goal

pub returns-in_err-header-clause-opens : goal.returns-in_err-header-clause-opens
returns-in_err-header-clause-opens c = λ room.
    let p = err_from_is_err_and c.from_residual.result c.from_residual.ensures.1 in
    rw (p.1, p.2, ← c.self.view_is) (opens_none (key_state c.self.inside) c.args.number _ _
    (λ whole. let no = c.in_err-header.ensures.accepted.1 whole in cc) c.in_err-header.ensures.refused)

pub returns-in-Err-clause-opens : goal.returns-in-Err-clause-opens
returns-in-Err-clause-opens c = λ room.
    refused_opens _ _ _ _ _ _ _ c.in_ok-len.ensures.opened _ c.in-Err.ensures.refused
