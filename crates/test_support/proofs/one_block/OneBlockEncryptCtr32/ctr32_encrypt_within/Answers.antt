use Rattle.std.proofs.Common.{◌≡◌, ℕ, List, [], ◌++◌, ◌∙◌, arith, ap, sym, refl, rules, drop, length, append-nil}
use Rattle.std.proofs.lemmas.List.{drop_all}
use Rattle.aead_ciphers_base.specs.Bytes.{◌⊕◌}
use Rattle.aead_ciphers_base.proofs
use proofs.CounterLemmas.{advances_none, advances_more}
use proofs.CounterModeLemmas.{encrypts_block, encrypts_none}
use Rattle.test_support.proofs.one_block.OneBlockEncryptCtr32.ctr32_encrypt_within.Goals as goal

pub loop-i-init : goal.loop-i-init
loop-i-init g c = record {
  worked = (omega arith, omega arith);
  size = refl;
  output = encrypts_none _ _ c.args.in_out.start _;
  counter = advances_none _;
}

pub loop-i-preserved : goal.loop-i-preserved
loop-i-preserved g c =
    let cipher = g.E.EncryptBlock.cipher c.args.self.now.cipher.now in
    let inv = c.loop-i.invariant in
    let text : List ℕ = c.copy_from_slice.new.self in
    let long : length text ≡ 16 = search rules in
    let counter : List ℕ = c.loop-i.counter in
    let counter_long : length counter ≡ 16 = search rules in
    let pad = cipher counter in
    let size = g.met.E.EncryptBlock.length_cipher c.args.self.now.cipher.now counter counter_long in
    let none : drop (length pad) text ≡ [] = drop_all (length pad) text (omega (arith, size, long)) in
    record {
      worked = (omega arith, omega arith);
      size = omega (arith, inv.size);
      output =
          encrypts_block cipher _ counter pad c.args.in_out.start c.loop-i.i _ _ _ c.loop-i.in_out text _
          (omega (arith, inv.size)) inv.size (omega arith) (omega arith) inv.output inv.counter refl size c.copy_from_slice.ensures.after
          (c.copy_from_slice-in-loop-i.ensures.after ∙ c.encrypt_iv_xor_block-output.ensures.value
          ∙ ap (λ iv. text ⊕ cipher iv) c.increment.ensures.iv
          ∙ sym (append-nil (text ⊕ pad)) ∙ ap (λ u. (text ⊕ pad) ++ u) (sym none));
      counter = advances_more _ _ _ _ _ _ inv.counter c.increment.ensures.counter (omega arith);
    }
