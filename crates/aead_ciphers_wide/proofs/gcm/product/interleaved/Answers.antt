use Rattle.std.proofs.Common.{◌+◌, ◌*◌, ◌/◌, ◌%◌, ◌++◌, ◌∙◌, arith, get_or}
use Rattle.aead_ciphers_base.proofs.EachLemmas.{get_or-each}
use Rattle.aead_ciphers_wide.proofs.TableRows.{joined_item}
use Rattle.aead_ciphers_wide.proofs.gcm.product.interleaved.Goals as goal

pub returns-clause-front : goal.returns-clause-front
returns-clause-front c = λ i h.
    let a = c.args.a in
    let b = c.args.b in
    get_or-each 16 (λ i. get_or (a ++ b) (16 * (i % 2) + i / 2) 0) i 0 h
    ∙ joined_item a b (i % 2) (i / 2) c.fits-a.0 (omega arith) (omega arith)

pub returns-clause-back : goal.returns-clause-back
returns-clause-back c = λ i h.
    let a = c.args.a in
    let b = c.args.b in
    get_or-each 16 (λ i. get_or (a ++ b) (16 * (i % 2) + (8 + i / 2)) 0) i 0 h
    ∙ joined_item a b (i % 2) (8 + i / 2) c.fits-a.0 (omega arith) (omega arith)
