-- The chunk is the next, and those before it were right and were written.
use Rattle.std.proofs.Common.{◌≤◌, IfSome, vec_len}
use Rattle.sealed_file.specs.Format.{sealed_chunk_len, secret_of}
use Rattle.sealed_file.proofs
use proofs.OpenLemmas.{Reading, Written}
use proofs.opening.open_version.Given as goal

abbrev pub invariant-loop-number : goal.invariant-loop-number
invariant-loop-number g l = (vec_len l.chunk ≤ sealed_chunk_len) × IfSome (g.R.Read.remaining l.fn.input)
    (λ file. Reading (secret_of l.version l.key l.aad) l.cipher file l.number l.chunk.items (g.R.Read.remaining l.input)
    (g.W.Write.contents l.fn.output) (g.W.Write.contents l.output))
    × Written l.cipher l.number (g.W.Write.contents l.fn.output) (g.W.Write.contents l.output)
