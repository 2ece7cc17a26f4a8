use Rattle.aead_ciphers_base.proofs
use proofs.ChaChaRounds.{double_round_steps}
use proofs.chacha.lanes.double_round.Goals as goal

pub returns : goal.returns
returns c j h =
    double_round_steps _ _ _ _ _ _ _ _ _ _ _ _ _ _ _ _ _ _ _ _ _ _ _ _ _ _ _ _ _ _ _ _ _ _ _ _ _ _ _ _ _ _ _ _ _ _ _ _
    (c.quarter_round.ensures j h) (c.quarter_round-2.ensures j h) (c.quarter_round-3.ensures j h) (c.quarter_round-4.ensures j h)
    (c.quarter_round-5.ensures j h) (c.quarter_round-6.ensures j h) (c.quarter_round-7.ensures j h) (c.quarter_round-8.ensures j h)
