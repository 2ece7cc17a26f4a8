use Rattle.sealed_file.proofs
use proofs.PassphraseLaws.{one_commitment_of_two}
use proofs.laws.two_passphrases.Goals as goal

pub returns : goal.returns
returns c =
    one_commitment_of_two c.args.passphrase.now c.args.aad.now c.args.other_passphrase.now c.args.other_aad.now c.args.file.now
    c.requires.first c.requires.second
