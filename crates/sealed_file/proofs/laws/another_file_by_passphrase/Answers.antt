use Rattle.sealed_file.proofs
use proofs.PassphraseLaws.{another}
use proofs.laws.another_file_by_passphrase.Goals as goal

pub returns : goal.returns
returns c =
    another c.args.passphrase.now c.args.aad.now c.args.random.now c.args.iterations c.told-random c.ranges.iterations.fits c.args.file.now
    c.args.other.now c.requires.header c.requires.another c.requires.accepted
