use Rattle.std.proofs.Common.{◌≡◌, ◌+◌, ◌-◌, length, slice_index, ap, ap₂, refl, ◌∙◌, arith}
use Rattle.aead_ciphers_base.specs.Bytes.{◌⊕◌}
use Rattle.aead_ciphers_wide.specs.Products.{subkey, first_byte}
use Rattle.aead_ciphers_wide.proofs.ByteLadder.{ladder}
use Rattle.aead_ciphers_wide.proofs.ByteRows.{IsBlock-vector, looked_value, moved_zeros, pair_value, product_end, row_byte, small_digits, start_value, turn, zero_at}
use Rattle.aead_ciphers_wide.proofs.gcm.product.product.Goals as goal

pub looked_up-bytes-requires-clause-high : goal.looked_up-bytes-requires-clause-high
looked_up-bytes-requires-clause-high c =
    small_digits c.args.block c.digits.result.0 (IsBlock-vector c.args.block c.fits-block.0 c.fits-block.1) c.digits.ensures.high

pub loop-k-init : goal.loop-k-init
loop-k-init c = record {
  value = start_value (λ r. ladder 16 (λ i. first_byte (row_byte c.args.table.now c.digits.result.0 c.digits.result.1 (16 - 0 + r) i)));
  zeros = λ i h. zero_at 16 i;
  empty = λ h. zero_at 16 15;
}

pub loop-k-preserved : goal.loop-k-preserved
loop-k-preserved c =
    let table = c.args.table.now in
    let high = c.digits.result.0 in
    let low = c.digits.result.1 in
    let first = c.loop-k.first in
    let second = c.loop-k.second in
    let k = c.loop-k.k in
    let at = c.loop-k.auto in
    let bytes = c.looked_up-bytes.result in
    let size : length bytes ≡ 16 = omega arith in
    record {
      value =
          ap₂ pair_value
          (c.add-first.ensures ∙ ap (λ b. b ⊕ bytes) c.moved_by_one.ensures.first)
          c.moved_by_one.ensures.second
          ∙ turn first second bytes (λ r. ladder 16 (λ i. first_byte (row_byte table high low r i))) k
          at.first.0 at.second.0 size (omega arith) (c.loop-k.invariant.zeros 15 (omega arith)) c.loop-k.invariant.value
          (looked_value table high low bytes (15 - k) c.looked_up-bytes.ensures);
      zeros = λ i h.
          ap (λ b. slice_index b i) c.moved_by_one.ensures.second
          ∙ moved_zeros (slice_index first 15) k second c.loop-k.invariant.empty c.loop-k.invariant.zeros i h;
      empty = λ h. absurd (omega arith);
    }

pub returns : goal.returns
unfolding subkey
returns c =
    let table = c.args.table.now in
    let first = c.loop-k.first in
    let second = c.loop-k.second in
    let at = c.loop-k.auto in
    product_end table (subkey table) refl c.requires c.args.block c.digits.result.0 c.digits.result.1 first second _ c.loop-k.k
    (IsBlock-vector c.args.block c.fits-block.0 c.fits-block.1) c.digits.ensures.high c.digits.ensures.low
    (IsBlock-vector first at.first.0 at.first.1) (IsBlock-vector second at.second.0 at.second.1) (omega arith)
    c.loop-k.invariant.value c.reduced.ensures
