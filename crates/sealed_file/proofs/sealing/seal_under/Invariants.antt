-- The chunk is the next, and those before it were written.
use Rattle.std.proofs.Common.{◌≤◌, IfSome, vec_len}
use Rattle.sealed_file.specs.Format.{chunk_len, with_header}
use Rattle.sealed_file.proofs
use proofs.SealLemmas.{Sealing}
use proofs.sealing.seal_under.Given as goal

abbrev pub invariant-loop-number : goal.invariant-loop-number
invariant-loop-number g l = (vec_len l.chunk ≤ chunk_len) × IfSome (g.R.Read.remaining l.fn.input)
    (λ file. Sealing (with_header l.header l.cipher) file l.number l.chunk.items (g.R.Read.remaining l.input)
    (g.W.Write.contents l.fn.output) (g.W.Write.contents l.output))
