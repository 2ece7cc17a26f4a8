use Rattle.sealed_file.specs.Format.{secret, fresh_key}
use Rattle.sealed_file.proofs
use proofs.ForgedLemmas.{has_forged}
use proofs.HeaderLemmas.{header_of_fresh}
use proofs.laws.another_file.Goals as goal

pub returns : goal.returns
returns c =
    let key = secret c.args.key.now c.args.aad.now in
    has_forged key (fresh_key key c.args.random.now) c.args.file.now c.args.other.now
    (header_of_fresh key c.args.random.now c.told-random) c.requires.header c.requires.another c.requires.accepted
