use Rattle.std.proofs.Common.{true, ap}
use Rattle.records.specs.EarlyData.{EarlyDataState}
use Rattle.records.proofs.reader.Reader.gather_past_early_data.Goals as goal

pub returns-in-Ok-clause-reads : goal.returns-in-Ok-clause-reads
returns-in-Ok-clause-reads c =
    (c.in-Ok.ensures.reads, ap (λ (e : EarlyDataState). record e { is_over = true }) c.early_data.view_is)
