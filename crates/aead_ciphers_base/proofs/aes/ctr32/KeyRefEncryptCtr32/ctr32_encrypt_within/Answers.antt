use Rattle.std.proofs.Common.{◌≡◌, ◌%◌, arith}
use Rattle.aead_ciphers_base.proofs
use proofs.CounterModeLemmas.{walked_none, walked_more}
use proofs.aes.ctr32.KeyRefEncryptCtr32.ctr32_encrypt_within.Goals as goal

pub loop-done-init : goal.loop-done-init
loop-done-init c = record { worked = (omega arith, omega arith); within = omega arith; walk = walked_none _ _ _ _ }

pub loop-done-preserved : goal.loop-done-preserved
loop-done-preserved c =
    let s = c.args.in_out.start in
    let d = c.loop-done.done in
    let n = c.min-count.result in
    let walk = c.loop-done.invariant.walk in
    let whole : n % 16 ≡ 0 = omega (arith, walk.aligned) in
    record {
      worked = (omega (arith, walk.aligned, whole), omega arith);
      within = omega arith;
      walk =
          walked_more s d n _ _ c.args.in_out.in_out.now c.loop-done.in_out _ (omega arith) whole (omega arith) (omega arith)
          (omega arith) walk c.encrypt_batch.ensures.output c.encrypt_batch.ensures.counter;
    }
