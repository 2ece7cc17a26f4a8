use Rattle.std.proofs.Common.{true, false, is_ok, rules, ◌∙◌, ◌≡◌, ◌↔◌, sym, refl, ap, ◌++◌, length, drop, length-drop, subst}
use Rattle.aead_ciphers_base.specs.Values.{aad_bytes}
use Rattle.aead_ciphers.specs.Gcm.{Fits, gcm_decrypted, gcm_tag}
use Rattle.aead_ciphers.proofs
use proofs.RunningHash.{to_end}
use proofs.aes_gcm.opening.open_fitting_with.Goals as goal

pub returns-in_err-counter-clause-opened : goal.returns-in_err-counter-clause-opened
returns-in_err-counter-clause-opened g c =
    let aad = aad_bytes c.args.aad in
    let cipher = g.A.EncryptBlock.cipher c.args.aes.now in
    let told = subst (λ text. (false ≡ true) ↔ (c.args.received_tag ≡ gcm_tag cipher c.args.nonce aad text))
    (to_end c.args.start c.args.in_out.now) c.in_err-counter.ensures.accepted in
    let failed : is_ok c.from_residual.result ≡ false = search rules in
    rw failed (record {
      accepted = ((λ no. absurd cc), λ h. let e = told.1 h.2 in cc);
      buffer = refl;
    })

pub returns-clause-opened : goal.returns-clause-opened
returns-clause-opened g c =
    let aad = aad_bytes c.args.aad in
    let cipher = g.A.EncryptBlock.cipher c.args.aes.now in
    let start = c.args.start in
    let was = c.args.in_out.now in
    let told = subst (λ text. (true ≡ true) ↔ (c.args.received_tag ≡ gcm_tag cipher c.args.nonce aad text))
    (to_end start was) c.in_ok-counter.ensures.accepted in
    record {
      accepted = ((λ _. (c.requires.within, subst (Fits (length aad)) (sym (length-drop start was)) c.requires.fits, told.0 refl)), λ _. refl);
      buffer = c.encrypt_within.ensures.output c.args.nonce 2 c.in_ok-counter.ensures.counter
          ∙ ap (λ n. gcm_decrypted cipher c.args.nonce (drop start was) ++ drop n was) (sym (length-drop start was));
    }
