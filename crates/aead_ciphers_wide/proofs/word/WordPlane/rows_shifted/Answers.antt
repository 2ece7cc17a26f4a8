use Rattle.std.proofs.Common.{arith}
use Rattle.aead_ciphers_base.specs.Planes.{shifted_from}
use Rattle.aead_ciphers_wide.proofs.WordMoves.{bytes_move}
use Rattle.aead_ciphers_wide.proofs.word.WordPlane.rows_shifted.Goals as goal

pub returns : goal.returns
returns c =
    bytes_move shifted_from (λ r c hr hc. omega arith) c.args.self c.from_bytes.result
    (rw c.bytes.ensures at c.from_bytes.ensures)
