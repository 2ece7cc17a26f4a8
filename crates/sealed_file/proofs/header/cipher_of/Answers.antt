use Rattle.sealed_file.proofs
use proofs.HeaderLemmas.{length-header_of-le}
use proofs.header.cipher_of.Goals as goal

pub cipher_in-requires-clause-header : goal.cipher_in-requires-clause-header
cipher_in-requires-clause-header c = rw c.header_of.ensures (length-header_of-le c.args.file.now)
