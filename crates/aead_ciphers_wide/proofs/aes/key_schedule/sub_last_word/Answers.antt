use Rattle.std.proofs.Common.{ap, ◌∙◌}
use Rattle.aead_ciphers_wide.specs.WideSchedule.{column}
use Rattle.aead_ciphers_wide.proofs.ScheduleColumns.{column_last}
use Rattle.aead_ciphers_wide.proofs.aes.key_schedule.sub_last_word.Goals as goal

pub returns : goal.returns
returns c = λ k h.
    ap (λ l. column l k) c.sub_each.ensures ∙ column_last c.args.last c.last_column.result k h c.last_column.ensures
