use Rattle.std.proofs.Common.{[], ◌∷◌, refl}
use Rattle.aead_ciphers_wide.proofs.PermutedBytes.{places_of}
use Rattle.aead_ciphers_wide.proofs.ScheduleColumns.{two_on_is}
use Rattle.aead_ciphers_wide.proofs.aes.key_schedule.shift_columns_by_two.Goals as goal

pub look_up-requires : goal.look_up-requires
look_up-requires c = places_of (128 ∷ 128 ∷ 128 ∷ 128 ∷ 128 ∷ 128 ∷ 128 ∷ 128 ∷ 0 ∷ 1 ∷ 2 ∷ 3 ∷ 4 ∷ 5 ∷ 6 ∷ 7 ∷ []) refl

pub returns : goal.returns
returns c = two_on_is c.args.block c.look_up.result c.fits-block.0 c.look_up.ensures
