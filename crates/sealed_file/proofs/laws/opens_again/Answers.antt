use Rattle.sealed_file.specs.Format.{secret, fresh_key}
use Rattle.sealed_file.proofs
use proofs.FileLemmas.{opened_sealed_file, sealed_is_sealed}
use proofs.HeaderLemmas.{header_of_fresh}
use proofs.laws.opens_again.Goals as goal

pub returns-clause-accepted : goal.returns-clause-accepted
returns-clause-accepted c =
    let key = secret c.args.key.now c.args.aad.now in
    sealed_is_sealed (fresh_key key c.args.random.now) c.args.file.now key (header_of_fresh key c.args.random.now c.told-random) c.requires

pub returns-clause-comes_back : goal.returns-clause-comes_back
returns-clause-comes_back c =
    let key = secret c.args.key.now c.args.aad.now in
    opened_sealed_file (fresh_key key c.args.random.now) c.args.file.now key (header_of_fresh key c.args.random.now c.told-random)
