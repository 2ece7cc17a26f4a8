use Rattle.std.proofs.Common.{◌<◌, ◌^◌, ◌∙◌, arith, rules}
use Rattle.aead_ciphers.specs.Multiples.{entry, place}
use Rattle.aead_ciphers.proofs
use proofs.BlockLanes.{length-written, entry-written, entry-written_other, number-words}
use proofs.SubkeyMultiples.{IsMultiple, raised_next, multiples_more, first_multiple, block_of-multiple}
use proofs.gcm.product.write_multiples.Goals as goal

pub loop-k-preserved : goal.loop-k-preserved
loop-k-preserved c =
    let k = c.loop-k.k in
    let table = c.loop-k.table in
    let below : c.loop-k.multiple < 2 ^ 128 = search rules in
    let here : IsMultiple c.args.block k c.loop-k.multiple = record { fits = below; raised = c.loop-k.invariant.multiple } in
    record {
      size = length-written table (place k) _ _ _ _ ∙ c.loop-k.invariant.size;
      multiple = raised_next c.args.block k c.loop-k.multiple below c.loop-k.invariant.multiple;
      entries =
          multiples_more c.args.block k c.loop-k.multiple (entry table) _ here
          (entry-written table k _ _ _ _ c.loop-k.invariant.size (omega arith) ∙ number-words c.loop-k.multiple c.words.result below c.words.ensures)
          (λ j less. entry-written_other table k _ _ _ _ j (omega arith) less) c.loop-k.invariant.entries;
    }

pub returns-clause-multiples : goal.returns-clause-multiples
returns-clause-multiples c = λ k within.
    block_of-multiple c.args.block k (entry c.loop-k.table k) within (c.loop-k.invariant.entries k (omega arith))

pub returns-clause-first : goal.returns-clause-first
returns-clause-first c =
    first_multiple c.args.block (entry c.loop-k.table 0) (search rules) (c.loop-k.invariant.entries 0 (omega arith))
