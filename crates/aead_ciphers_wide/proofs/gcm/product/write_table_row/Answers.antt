use Rattle.std.proofs.Common.{◌-◌, sym, drop, arith, append-nil, length-drop, take_all}
use Rattle.std.proofs.lemmas.List.{drop_all}
use Rattle.std.proofs.lemmas.Simd.{put_chunk_is}
use Rattle.aead_ciphers_wide.proofs.gcm.product.write_table_row.Goals as goal

pub returns : goal.returns
returns c =
    let table = c.args.table.now in
    let at = c.args.at in
    let long = length-drop at table in
    let whole = take_all (512 - at) (drop at table) (omega arith) in
    let written = put_chunk_is 0 (drop at table) c.args.row (omega (arith, c.fits-row.0)) in
    let none = drop_all (512 - at) (drop at table) (omega arith) in
    rw (whole, written, none, append-nil) (sym (put_chunk_is at table c.args.row (omega (arith, c.fits-row.0))))
