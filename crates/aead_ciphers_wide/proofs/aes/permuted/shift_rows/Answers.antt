use Rattle.std.proofs.Common.{◌∷◌, []}
use Rattle.std.proofs.lemmas.Simd.{pick_l_left}
use Rattle.aead_ciphers_base.specs.Aes.{shift_rows}
use Rattle.aead_ciphers_wide.proofs.aes.permuted.shift_rows.Goals as goal

pub returns : goal.returns
unfolding shift_rows
returns c =
    let b = c.args.block in
    pick_l_left 0 b b 16 (0 ∷ 5 ∷ 10 ∷ 15 ∷ 4 ∷ 9 ∷ 14 ∷ 3 ∷ 8 ∷ 13 ∷ 2 ∷ 7 ∷ 12 ∷ 1 ∷ 6 ∷ 11 ∷ []) c.fits-block.0 tt
