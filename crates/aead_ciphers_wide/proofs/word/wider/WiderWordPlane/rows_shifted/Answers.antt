use Rattle.std.proofs.Common.{arith}
use Rattle.aead_ciphers_base.specs.Planes.{shifted_from}
use Rattle.aead_ciphers_wide.proofs.Halves.{pairs_move}
use Rattle.aead_ciphers_wide.proofs.word.wider.WiderWordPlane.rows_shifted.Goals as goal

pub returns : goal.returns
returns c =
    pairs_move shifted_from (λ r c hr hc. omega arith) c.args.self c.new.result c.halves-low.result.0 c.halves-low.result.1
    c.rows_shifted.result c.rows_shifted-2.result (omega arith) (omega arith) (omega arith) (omega arith)
    c.halves-low.ensures c.new.ensures c.rows_shifted.ensures c.rows_shifted-2.ensures
