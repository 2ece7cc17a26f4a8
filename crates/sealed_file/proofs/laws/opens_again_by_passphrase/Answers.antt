use Rattle.sealed_file.proofs
use proofs.PassphraseLaws.{all_comes_back, opens_all}
use proofs.laws.opens_again_by_passphrase.Goals as goal

pub returns-clause-accepted : goal.returns-clause-accepted
returns-clause-accepted c =
    opens_all c.args.passphrase.now c.args.aad.now c.args.random.now c.args.iterations c.told-random c.ranges.iterations.fits c.args.file.now
    c.requires.iterations c.requires.few

pub returns-clause-comes_back : goal.returns-clause-comes_back
returns-clause-comes_back c =
    all_comes_back c.args.passphrase.now c.args.aad.now c.args.random.now c.args.iterations c.told-random c.ranges.iterations.fits
    c.args.file.now
