use Rattle.std.proofs.Common.{◌≡◌, ◌+◌, ◌-◌, ◌%◌, length, arith}
use Rattle.aead_ciphers_base.proofs.CounterModeLemmas.{encrypts_all, walked_none, walked_on, walked_more}
use Rattle.aead_ciphers.proofs
use proofs.aes_gcm.counter_mode.encrypt_within.Goals as goal

pub loop-done-init : goal.loop-done-init
loop-done-init g c = record { worked = (omega arith, omega arith); within = omega arith; walk = walked_none _ _ _ _ }

pub loop-done-preserved : goal.loop-done-preserved
loop-done-preserved g c =
    let s = c.args.start in
    let d = c.loop-done.done in
    let n = c.min-count.result in
    let walk = c.loop-done.invariant.walk in
    let whole : n % 16 ≡ 0 = omega (arith, walk.aligned) in
    record {
      worked = (omega (arith, walk.aligned, whole), omega arith);
      within = omega arith;
      walk =
          walked_more s d n _ (d + n + s - d) c.args.in_out.now c.loop-done.in_out _ (omega arith) whole (omega arith) (omega arith)
          (omega arith) walk c.encrypt_blocks.ensures.output c.encrypt_blocks.ensures.counter;
    }

pub returns-then-whole-len-clause-output : goal.returns-then-whole-len-clause-output
returns-then-whole-len-clause-output g c =
    let s = c.args.start in
    let d = c.whole_len-whole.result in
    let was = c.args.in_out.now in
    let xs = c.loop-done.in_out in
    let n = length was - s - d in
    let walk = c.loop-done.invariant.walk in
    encrypts_all _ _ s (d + n) _ _
    (walked_on s d n (length xs - d) was xs _ (omega arith) (omega arith) (omega arith) walk c.encrypt_rest.ensures.output) (omega arith)
