use Rattle.std.proofs.Common.{◌≡◌, ℕ, Result, Ok, Err, false, is_ok, IsOk, IsErr, List, refl, sym, ap, subst, ◌∙◌, rules}
use Rattle.aead_ciphers_base.specs
use specs.Aes.{aes}
use specs.Bytes.{zero_block}
use specs.Values.{aad_bytes}
use Rattle.aead_ciphers.specs.Different.{HasInverse}
use Rattle.aead_ciphers.specs.Gcm.{gcm_tag}
use Rattle.aead_ciphers_tests.proofs.tests.laws.open_changed.Goals as goal

is_refusal : {E : Type 0} (r : Result ℕ E) → ¬ IsOk r → IsErr r × (is_ok r ≡ false)
is_refusal (Ok n) not_ok = absurd (not_ok refl)
is_refusal (Err x) not_ok = (refl, refl)

pub returns : goal.returns
returns c tag_is some same_aad same_text one =
    let key = c.args.sealed.now.key.now in
    let old = c.args.in_out.now in
    let made : c.in_ok-key.key ≡ key = search rules in
    let subkey : c.encrypt_block.result ≡ aes key zero_block =
    c.encrypt_block.ensures.value ∙ ap (λ (k : List ℕ). aes k zero_block) made in
    let inverse = subst HasInverse subkey (c.has_inverse.ensures (λ e. some (sym subkey ∙ e))) in
    let differ = c.one_changed_block.ensures inverse same_aad same_text one in
    let key_is : c.new-key.result.bytes ≡ key = search rules in
    let nonce_is : c.assume_unique_for_key-nonce.result ≡ c.args.sealed.now.nonce = search rules in
    let aad_is : aad_bytes c.from.result ≡ c.args.aad.now = search rules in
    let tag_was : c.from-tag.result ≡ c.args.sealed.now.tag = search rules in
    let tag_now : gcm_tag (aes c.new-key.result.bytes) c.assume_unique_for_key-nonce.result (aad_bytes c.from.result) old
    ≡ gcm_tag (aes key) c.args.sealed.now.nonce c.args.aad.now old = cc in
    let refused = is_refusal c.open_in_place_separate_tag_to_front.result (λ yes.
    differ (sym tag_is ∙ sym tag_was ∙ (c.open_in_place_separate_tag_to_front.ensures.opened.accepted.0 yes).2 ∙ tag_now)) in
    (refused.0, rw (refused.1) at c.open_in_place_separate_tag_to_front.ensures.opened.buffer)
