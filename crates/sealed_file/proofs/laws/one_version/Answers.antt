use Rattle.sealed_file.proofs
use proofs.PassphraseLaws.{not_both}
use proofs.laws.one_version.Goals as goal

pub returns : goal.returns
returns c = not_both c.args.key.now c.args.aad.now c.args.passphrase.now c.args.other_aad.now c.args.file.now
