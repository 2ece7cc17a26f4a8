use Rattle.sealed_file.specs.Format.{secret}
use Rattle.sealed_file.proofs
use proofs.HeaderLemmas.{one_commitment}
use proofs.laws.two_keys.Goals as goal

pub returns : goal.returns
returns c =
    one_commitment (secret c.args.key.now c.args.aad.now) (secret c.args.other_key.now c.args.other_aad.now) c.args.file.now
    c.requires.first.front c.requires.second.front
