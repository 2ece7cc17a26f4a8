use Rattle.std.proofs.Common.{is_ok, subst}
use Rattle.aead_ciphers_base.specs
use specs.Values.{aad_bytes}
use specs.Aes.{aes}
use Rattle.aead_ciphers.specs.Gcm.{Opened}
use Rattle.aead_ciphers.proofs.aes_gcm.expanded.ExpandedKeyGcmKey.open.Goals as goal

pub returns-clause-opened : goal.returns-clause-opened
returns-clause-opened c =
    let a = c.args in
    subst (λ key. Opened (aes key) a.nonce (aad_bytes a.aad) a.received_tag a.src.start a.in_out.now
    (is_ok c.open_with.result) c.open_with.new.in_out)
    c.new-aes.ensures c.open_with.ensures.opened
