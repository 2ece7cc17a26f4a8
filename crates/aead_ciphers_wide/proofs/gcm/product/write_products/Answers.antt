use Rattle.std.specs.Int.{to_be_bytes, w128}
use Rattle.aead_ciphers.proofs.GhashBlocks.{IsBlock-number}
use Rattle.aead_ciphers_wide.proofs.ByteRows.{are_products, subkey_is}
use Rattle.aead_ciphers_wide.proofs.TableRows.{halves_written}
use Rattle.aead_ciphers_wide.proofs.gcm.product.write_products.Goals as goal

pub returns-clause-products : goal.returns-clause-products
returns-clause-products c =
    let block = IsBlock-number c.args.block in
    let blocks = c.blocks-multiples in
    let first = c.write_half in
    let second = c.write_half-2 in
    are_products (to_be_bytes w128 c.args.block) c.multiples.result second.new.table blocks.result block.size
    c.multiples.ensures blocks.ensures
    (halves_written blocks.result first.new.table second.new.table first.ensures.written second.ensures.written
    second.ensures.others)

pub returns-clause-subkey : goal.returns-clause-subkey
returns-clause-subkey c =
    let block = IsBlock-number c.args.block in
    let blocks = c.blocks-multiples in
    let first = c.write_half in
    let second = c.write_half-2 in
    subkey_is (to_be_bytes w128 c.args.block) c.multiples.result second.new.table blocks.result block.size
    c.multiples.ensures blocks.ensures
    (halves_written blocks.result first.new.table second.new.table first.ensures.written second.ensures.written
    second.ensures.others)
    block
