use Rattle.std.proofs.Common.{◌≡◌, ◌+◌, ◌*◌, length, IfSome, arith, subst}
use Rattle.sealed_file.specs.Opening.{plaintext_under}
use Rattle.sealed_file.specs.Reader.{ReaderState}
use Rattle.sealed_file.proofs
use Rattle.sealed_file.specs.Format.{chunk_len}
use proofs.ReaderLemmas.{length_opened}
use proofs.reader.SealedReader.len.Goals as goal

pub returns-clause-opened : goal.returns-clause-opened
returns-clause-opened g c =
    subst (λ (r : ReaderState). IfSome r.file (λ file. c.from.result * chunk_len + c.self.inside.layout.last_len ≡ length (plaintext_under r.key file)))
    c.self.view_is (length_opened _ _ _ _ _ c.self.invariant.ends (omega (arith, c.from.ensures)))
