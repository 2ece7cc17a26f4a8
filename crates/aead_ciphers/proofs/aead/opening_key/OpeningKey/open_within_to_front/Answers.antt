use Rattle.std.proofs.Common.{rules}
use Rattle.aead_ciphers.specs.Steps.{opened}
use Rattle.aead_ciphers.proofs
use proofs.NextNonce.{plaintext_next}
use proofs.aead.opening_key.OpeningKey.open_within_to_front.Goals as goal

pub returns-clause-call : goal.returns-clause-call
returns-clause-call g c =
    let core = c.open_within_to_front in
    rw (← c.self.view_is) (record {
      kept = search rules;
      step = opened c.in_ok-nonce.nonce _ c.in_ok-nonce.ensures.ok core.ensures.opened;
      opened = search rules;
      plaintext = plaintext_next _ _ _ _ _ _ _ core.result c.in_ok-nonce.ensures.next core.ensures.opened core.ensures.count;
      refused = core.ensures.refused;
      gives = search rules;
      after_error = search rules;
    })
