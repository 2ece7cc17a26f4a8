use Rattle.aead_ciphers_base.specs.Aes.{power_of_x}
use Rattle.aead_ciphers_base.specs.Bytes.{◌⊕◌}
use Rattle.std.proofs.Common.{ap}
use Rattle.aead_ciphers_wide.proofs.ScheduleColumns.{turned_is}
use Rattle.aead_ciphers_wide.proofs.aes.key_schedule.sub_rot_last_word.Goals as goal

pub returns : goal.returns
returns c = λ k h.
    turned_is c.args.last c.rotated_column.result c.round_constant.result _ (power_of_x c.args.i) k h
    c.rotated_column.ensures c.round_constant.ensures (ap (λ v. v ⊕ c.round_constant.result) c.sub_each.ensures)
