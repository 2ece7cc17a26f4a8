use Rattle.std.proofs.Common.{arith}
use Rattle.aead_ciphers_base.specs.Planes.{below}
use Rattle.aead_ciphers_wide.proofs.Halves.{pairs_move}
use Rattle.aead_ciphers_wide.proofs.word.wider.WiderWordPlane.one_below.Goals as goal

pub returns : goal.returns
returns c =
    pairs_move (below 1) (λ r c hr hc. omega arith) c.args.self c.new.result c.halves-low.result.0 c.halves-low.result.1
    c.one_below.result c.one_below-2.result (omega arith) (omega arith) (omega arith) (omega arith)
    c.halves-low.ensures c.new.ensures c.one_below.ensures c.one_below-2.ensures
