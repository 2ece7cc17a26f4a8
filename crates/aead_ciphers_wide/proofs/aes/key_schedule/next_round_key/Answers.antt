use Rattle.aead_ciphers_wide.proofs.ScheduleColumns.{next_first, next_others}
use Rattle.aead_ciphers_wide.proofs.aes.key_schedule.next_round_key.Goals as goal

pub returns-clause-first : goal.returns-clause-first
returns-clause-first c =
    next_first c.args.back c.shift_columns_by_one.result c.shift_columns_by_two.result c.args.word c.fits-back.0 c.fits-word.0
    c.shift_columns_by_one.ensures c.shift_columns_by_two.ensures c.requires

pub returns-clause-others : goal.returns-clause-others
returns-clause-others c =
    next_others c.args.back c.shift_columns_by_one.result c.shift_columns_by_two.result c.args.word c.fits-back.0 c.fits-word.0
    c.shift_columns_by_one.ensures c.shift_columns_by_two.ensures c.requires
