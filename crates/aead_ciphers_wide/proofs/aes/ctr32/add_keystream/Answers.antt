use Rattle.std.proofs.Common.{◌∙◌, [], ap, arith, length, refl, slice_index_or}
use Rattle.aead_ciphers_base.specs.Aes.{length_aes}
use Rattle.aead_ciphers_base.proofs.CounterModeLemmas.{encrypts_none}
use Rattle.aead_ciphers_wide.proofs.KeystreamLemmas.{adds_block}
use Rattle.aead_ciphers_wide.proofs.aes.ctr32.add_keystream.Goals as goal

pub loop-i-init : goal.loop-i-init
loop-i-init g c = record { size = refl; output = encrypts_none _ _ c.args.start _ }

pub loop-i-preserved : goal.loop-i-preserved
loop-i-preserved g c =
    let i = c.loop-i.i in
    let inv = c.loop-i.invariant in
    let is = c.requires.keystream i c.loop-i-test.true in
    let both =
    adds_block _ _ (slice_index_or c.args.keystream i []) c.args.start i _ _ c.args.in_out.now c.loop-i.in_out _ (omega (arith, inv.size)) inv.size
    (ap length is.value ∙ length_aes _ _) inv.output is (omega arith) (omega arith) c.add_block.ensures in
    record { size = both.0; output = both.1 }
