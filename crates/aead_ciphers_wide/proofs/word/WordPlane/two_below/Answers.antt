use Rattle.std.proofs.Common.{arith}
use Rattle.aead_ciphers_base.specs.Planes.{below}
use Rattle.aead_ciphers_wide.proofs.WordMoves.{bytes_move}
use Rattle.aead_ciphers_wide.proofs.word.WordPlane.two_below.Goals as goal

pub returns : goal.returns
returns c =
    bytes_move (below 2) (λ r c hr hc. omega arith) c.args.self c.from_bytes.result
    (rw c.bytes.ensures at c.from_bytes.ensures)
