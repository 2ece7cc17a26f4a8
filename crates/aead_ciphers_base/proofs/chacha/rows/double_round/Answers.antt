use Rattle.std.proofs.Common.{rules}
use Rattle.aead_ciphers_base.proofs
use proofs.ChaChaRounds.{double_round_rows}
use proofs.chacha.rows.double_round.Goals as goal

pub returns : goal.returns
returns c =
    double_round_rows _ _ _ _ _ _ _ _ _ _ _ _ (search rules) (search rules) (search rules) (search rules) (search rules) (search rules)
    c.quarter_round.ensures c.quarter_round-2.ensures
