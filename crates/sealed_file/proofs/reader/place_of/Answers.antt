use Rattle.std.proofs.Common.{arith}
use Rattle.sealed_file.proofs
use proofs.ReaderLemmas.{place_within}
use proofs.reader.place_of.Goals as goal

pub returns-clause-within : goal.returns-clause-within
returns-clause-within c =
    place_within c.args.last c.args.last_len c.args.offset c.requires (omega (arith, c.if-offset-from.false, c.from.ensures))
