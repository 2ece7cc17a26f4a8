use Rattle.std.proofs.Common.{◌∙◌, ap}
use Rattle.aead_ciphers_base.specs.Aes.{aes}
use Rattle.aead_ciphers_base.specs.Bytes.{zero_block}
use Rattle.xaes.specs.Derivation.{first_subkey}
use Rattle.xaes.proofs.DerivationLemmas.{rounds_of_32}
use Rattle.xaes.proofs.expanded.ExpandedKey.expand.Goals as goal

pub returns-clause-expanded : goal.returns-clause-expanded
returns-clause-expanded c =
    let schedule = c.expand-rounds.ensures.schedule in record {
      rounds = rounds_of_32 c.expand-rounds.new.round_keys c.args.bytes.now c.expand-rounds.result schedule c.told-bytes c.expand-rounds.ensures.bytes;
      schedule = schedule;
      subkey = c.first_subkey-self.ensures ∙ ap (λ key. first_subkey (aes key zero_block)) c.new.ensures;
    }
