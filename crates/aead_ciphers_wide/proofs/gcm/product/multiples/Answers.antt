use Rattle.std.proofs.Common.{◌<◌, ◌^◌, ◌∙◌, arith, rules, slice_index, length-set, get_or-set_same, get_or-set_other}
use Rattle.aead_ciphers.proofs.SubkeyMultiples.{IsMultiple, raised_next, multiples_more, block_of-multiple}
use Rattle.aead_ciphers_wide.proofs.gcm.product.multiples.Goals as goal

pub loop-k-preserved : goal.loop-k-preserved
loop-k-preserved c =
    let k = c.loop-k.k in
    let old = c.loop-k.multiples in
    let below : c.loop-k.multiple < 2 ^ 128 = search rules in
    let here : IsMultiple c.args.block k c.loop-k.multiple = record { fits = below; raised = c.loop-k.invariant.multiple } in
    record {
      size = length-set old k c.loop-k.multiple ∙ c.loop-k.invariant.size;
      multiple = raised_next c.args.block k c.loop-k.multiple below c.loop-k.invariant.multiple;
      entries =
          multiples_more c.args.block k c.loop-k.multiple (slice_index old) _ here
          (get_or-set_same old k c.loop-k.multiple 0 (omega (arith, c.loop-k.invariant.size)))
          (λ j less. get_or-set_other old k j c.loop-k.multiple 0 (λ e. absurd (omega arith))) c.loop-k.invariant.entries;
    }

pub returns : goal.returns
returns c = λ k within.
    block_of-multiple c.args.block k (slice_index c.loop-k.multiples k) (omega arith) (c.loop-k.invariant.entries k (omega arith))
