use Rattle.std.proofs.Common.{◌≡◌, ◌+◌, ◌-◌, ◌<◌, ◌^◌, slice_index, ap, sym, subst, ◌∙◌, arith, rules}
use Rattle.std.specs.Simd.Lanes.{chunk}
use Rattle.std.proofs.lemmas.Simd.{get_or-chunk}
use Rattle.aead_ciphers.proofs.gcm.product.table_words.Goals as goal

pub returns-clause-read : goal.returns-clause-read
returns-clause-read c = λ j within.
    let at = c.args.at in
    let table = c.args.table.now in
    let place : at + (0 + j) ≡ at + j = omega arith in
    get_or-chunk 0 4 (chunk at (512 - at) table) j 0 within ∙ get_or-chunk at (512 - at) table (0 + j) 0 (omega arith) ∙ ap (slice_index table) place

pub returns-clause-fits : goal.returns-clause-fits
returns-clause-fits c = λ j within.
    let at = c.args.at in
    let table = c.args.table.now in
    let read = get_or-chunk 0 4 (chunk at (512 - at) table) j 0 within ∙ get_or-chunk at (512 - at) table (0 + j) 0 (omega arith) in
    let below : slice_index table (at + (0 + j)) < 2 ^ 32 = search rules in
    subst (λ w. w < 2 ^ 32) (sym read) below
