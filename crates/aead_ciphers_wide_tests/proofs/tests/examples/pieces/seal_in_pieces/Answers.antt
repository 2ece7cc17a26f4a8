use Rattle.std.proofs.Common.{◌≡◌, ◌+◌, ◌-◌, ◌++◌, take, drop, arith, ap, ap₂, sym, subst, ◌∙◌, append_assoc, append-nil, length-append, take_at, drop_at, drop-drop}
use Rattle.std.proofs.lemmas.List.{drop_all}
use Rattle.std.proofs.Math.Seq.{take-add}
use Rattle.aead_ciphers_base.specs.Aes.{aes}
use Rattle.aead_ciphers_base.specs.Values.{aad_bytes}
use Rattle.aead_ciphers.specs.Gcm.{gcm_tag}
use Rattle.aead_ciphers_wide.specs.ExpandedKey.{bytes_of}
use Rattle.aead_ciphers_wide.specs.Pieces.{HasSealed}
use Rattle.aead_ciphers_wide_tests.proofs.tests.examples.pieces.seal_in_pieces.Goals as goal

pub loop-done-preserved : goal.loop-done-preserved
loop-done-preserved c =
    let xs = c.args.in_out.now in
    let ys = c.loop-done.in_out in
    let d = c.loop-done.done in
    let n = c.min-count.result in
    let v = c.update.new.in_out in
    let inv = c.loop-done.invariant.sealed in
    let cipher = aes (bytes_of c.args.key.now) in
    let z : d + n - d ≡ n = omega arith in
    let behind : drop d ys ≡ drop d xs = ap (drop d) inv.1 ∙ drop_at inv.0 (drop d xs) d inv.2 in
    let all : take d xs ++ take (d + n - d) (drop d ys) ≡ take (d + n) xs =
    ap (λ p. take d xs ++ p) (ap₂ (λ k w. take k w) z behind) ∙ sym (take-add d n xs) in
    record {
      within = omega arith;
      size = omega arith;
      sealed = (
        inv.0 ++ v,
        ap₂ (λ p k. p ++ (v ++ drop k (drop d ys))) (ap (take d) inv.1 ∙ take_at inv.0 (drop d xs) d inv.2) z
            ∙ ap (λ w. inv.0 ++ (v ++ w)) (ap (drop n) behind ∙ drop-drop n d xs) ∙ sym (append_assoc inv.0 v (drop (d + n) xs)),
        omega (arith, inv.2, length-append inv.0 v),
        subst (λ m. HasSealed cipher c.args.nonce (aad_bytes c.args.aad) m (inv.0 ++ v) c.update.new.state) all
            (c.in_ok-update.ensures.sealed.sealed c.args.nonce (aad_bytes c.args.aad) (take d xs) inv.0 inv.3),
      );
    }

pub returns-clause-tag : goal.returns-clause-tag
returns-clause-tag c =
    let inv = c.loop-done.invariant.sealed in
    let all : inv.0 ≡ c.loop-done.in_out =
    sym (inv.1 ∙ ap (λ w. inv.0 ++ w) (drop_all c.loop-done.done c.args.in_out.now (omega arith)) ∙ append-nil inv.0) in
    c.finish.ensures c.args.nonce (aad_bytes c.args.aad) _ inv.0 inv.3
    ∙ ap (gcm_tag (aes (bytes_of c.args.key.now)) c.args.nonce (aad_bytes c.args.aad)) all
