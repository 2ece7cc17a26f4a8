use Rattle.std.proofs.Common.{◌↔◌, IsOk, IfOk, IfErr, ◌≡◌}
use Rattle.sealed_file.specs.Format.{secret}
use Rattle.sealed_file.specs.Opening.{HasHeader, chunk_key}
use Rattle.sealed_file.specs.Refusals.{HeaderRefuses}
use Rattle.sealed_file.proofs
use proofs.ReaderLemmas.{of_header}
use proofs.reader.read_chunk_cipher.Goals as goal

pub returns-clause-accepted : goal.returns-clause-accepted
returns-clause-accepted g c =
    of_header _ _ _ _ (λ header. IsOk c.cipher_of.result ↔ HasHeader (secret c.args.key.now c.args.aad.now) header)
    c.in_ok-count.ensures.count c.in_ok-count.ensures.value c.cipher_of.ensures.accepted

pub returns-clause-key : goal.returns-clause-key
returns-clause-key g c =
    of_header _ _ _ _ (λ header. IfOk c.cipher_of.result (λ cipher. cipher ≡ chunk_key (secret c.args.key.now c.args.aad.now) header))
    c.in_ok-count.ensures.count c.in_ok-count.ensures.value c.cipher_of.ensures.cipher

pub returns-clause-refused : goal.returns-clause-refused
returns-clause-refused g c =
    of_header _ _ _ _ (λ header. IfErr c.cipher_of.result (λ error. HeaderRefuses (secret c.args.key.now c.args.aad.now) header error))
    c.in_ok-count.ensures.count c.in_ok-count.ensures.value c.cipher_of.ensures.refused
