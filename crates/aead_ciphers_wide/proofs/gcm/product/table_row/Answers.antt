use Rattle.std.proofs.Common.{◌≡◌, ◌+◌, ◌-◌, slice_index, ap, ◌∙◌, arith}
use Rattle.std.specs.Simd.Lanes.{chunk}
use Rattle.std.proofs.lemmas.Simd.{get_or-chunk}
use Rattle.aead_ciphers_wide.proofs.gcm.product.table_row.Goals as goal

pub returns : goal.returns
returns c = λ n within.
    let at = c.args.at in
    let table = c.args.table.now in
    let place : at + (0 + n) ≡ at + n = omega arith in
    get_or-chunk 0 16 (chunk at (512 - at) table) n 0 within ∙ get_or-chunk at (512 - at) table (0 + n) 0 (omega arith) ∙ ap (slice_index table) place
