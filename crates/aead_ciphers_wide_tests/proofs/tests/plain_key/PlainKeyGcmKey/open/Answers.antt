use Rattle.std.proofs.Common.{is_ok, subst}
use Rattle.aead_ciphers_base.specs
use specs.Aes.{aes}
use specs.Values.{aad_bytes}
use Rattle.aead_ciphers.specs.Gcm.{Opened}
use Rattle.aead_ciphers_wide_tests.proofs.tests.plain_key.PlainKeyGcmKey.open.Goals as goal

pub returns-clause-opened : goal.returns-clause-opened
returns-clause-opened c =
    let a = c.args in
    subst (λ key. Opened (aes key) a.nonce (aad_bytes a.aad) a.received_tag a.src.start a.in_out.now
    (is_ok c.open_with.result) c.open_with.new.in_out)
    c.in_ok-aes.ensures.made c.open_with.ensures.opened
