use Rattle.std.proofs.Common.{[], ◌∷◌, ap}
use Rattle.aead_ciphers_wide.proofs.ScheduleColumns.{round_constant_is}
use Rattle.aead_ciphers_wide.proofs.aes.key_schedule.round_constant.Goals as goal

pub returns : goal.returns
returns c = ap (λ x. x ∷ 0 ∷ 0 ∷ 0 ∷ x ∷ 0 ∷ 0 ∷ 0 ∷ x ∷ 0 ∷ 0 ∷ 0 ∷ x ∷ 0 ∷ 0 ∷ 0 ∷ []) (round_constant_is c.args.n c.requires)
