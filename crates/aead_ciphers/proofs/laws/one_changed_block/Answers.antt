use Rattle.std.proofs.Common.{rules}
use Rattle.aead_ciphers.proofs
use proofs.ChangedBlock.{changed_tag}
use proofs.laws.one_changed_block.Goals as goal

pub returns : goal.returns
returns c inverse _ _ one =
    changed_tag c.args.key.now c.args.nonce c.args.aad.now c.args.ciphertext.now c.args.other_aad.now c.args.other_ciphertext.now
    (search rules) (search rules) (search rules) (search rules) (search rules) one
