use Rattle.std.proofs.Common.{◌≡◌, ◌∙◌, ◌+◌, ◌-◌, ◌*◌, ◌/◌, ◌<◌, ◌≤◌, ℕ, ap, arith, length, refl, subst}
use Rattle.std.proofs.lemmas.Simd.{length-put_chunk}
use Rattle.aead_ciphers_base.specs.Aes.{aes, length_aes}
use Rattle.aead_ciphers_base.proofs.CounterModeLemmas.{EncryptsFirst, encrypts_all, encrypts_none}
use Rattle.aead_ciphers_wide.proofs.KeystreamLemmas.{adds_block}
use Rattle.aead_ciphers_wide.proofs.aes.ctr32.encrypt_few.Goals as goal

-- the second block of a pair is in the buffer
second_read : (s i count size : ℕ) {was : ℕ} → was ≡ s + 16 * count → i < count / 2 → size ≡ was → s + 32 * i + 16 + 16 ≤ size
second_read s i count size is less same = omega arith

pub loop-i-init : goal.loop-i-init
loop-i-init c = record { size = refl; output = encrypts_none _ _ c.args.start _ }

pub loop-i-preserved : goal.loop-i-preserved
loop-i-preserved c =
    let i = c.loop-i.i in
    let s = c.args.start in
    let was = c.args.in_out.now in
    let inv = c.loop-i.invariant in
    let pads = c.encrypt_two.ensures in
    let one =
    adds_block (aes c.args.key.now) c.args.counter.now c.encrypt_two.result.0 s (2 * i) _ _ was c.loop-i.in_out c.add_block.new.in_out
    (omega (arith, inv.size)) inv.size (ap length pads.first ∙ length_aes _ _) inv.output
    (record { of = c.plus-first.result; advances = c.plus-first.ensures; value = pads.first }) (omega arith) (omega arith) c.add_block.ensures in
    let two =
    adds_block (aes c.args.key.now) c.args.counter.now c.encrypt_two.result.1 s (2 * i + 1) _ _ was c.add_block.new.in_out c.add_block-in-loop-i.new.in_out
    (omega (arith, inv.size)) one.0 (ap length pads.second ∙ length_aes _ _) one.1
    (record { of = c.plus-second.result; advances = c.plus-second.ensures; value = pads.second }) (omega arith) (omega arith)
    c.add_block-in-loop-i.ensures in
    let next : 16 * (2 * i + 1 + 1) ≡ 16 * (2 * (i + 1)) = omega arith in
    record {
      size = two.0;
      output = subst (λ d. EncryptsFirst (aes c.args.key.now) c.args.counter.now s d was c.add_block-in-loop-i.new.in_out) next two.1;
    }

pub returns-then-count-eq1 : goal.returns-then-count-eq1
returns-then-count-eq1 c =
    let n = c.args.count - 1 in
    let s = c.args.start in
    let was = c.args.in_out.now in
    let inv = c.loop-i.invariant in
    let here : 16 * (2 * c.loop-i.i) ≡ 16 * n = omega arith in
    let last =
    adds_block (aes c.args.key.now) c.args.counter.now c.encrypt_one-last.result s n _ _ was c.loop-i.in_out _
    (omega (arith, inv.size)) inv.size (ap length c.encrypt_one-last.ensures ∙ length_aes _ _)
    (subst (λ d. EncryptsFirst (aes c.args.key.now) c.args.counter.now s d was c.loop-i.in_out) here inv.output)
    (record { of = c.plus.result; advances = c.plus.ensures; value = c.encrypt_one-last.ensures }) (omega arith) (omega arith)
    c.add_block-then-count-eq1.ensures in
    encrypts_all _ _ s (16 * (n + 1)) was _ last.1 (omega arith)

pub add_block-requires-in-loop-i-clause-read : goal.add_block-requires-in-loop-i-clause-read
add_block-requires-in-loop-i-clause-read c =
    let kept = ap length c.add_block.ensures ∙ length-put_chunk _ c.loop-i.in_out _ in
    second_read c.args.start c.loop-i.i c.args.count _ c.requires.within c.loop-i-test.true (kept ∙ c.loop-i.invariant.size)

pub returns-else-count-eq1 : goal.returns-else-count-eq1
returns-else-count-eq1 c =
    let here : 16 * (2 * c.loop-i.i) ≡ length c.args.in_out.now - c.args.start = omega (arith, c.requires.within, c.if-count-eq1.false) in
    encrypts_all _ _ c.args.start _ c.args.in_out.now c.loop-i.in_out c.loop-i.invariant.output here
