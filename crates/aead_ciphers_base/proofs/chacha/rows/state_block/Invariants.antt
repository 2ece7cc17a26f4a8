use Rattle.std.proofs.Common.{◌≡◌}
use Rattle.std.specs.Fn.{iterate}
use Rattle.aead_ciphers_base.specs
use specs.ChaCha20.{double_round}
use specs.Lanes.{state_of_rows}
use Rattle.aead_ciphers_base.proofs.chacha.rows.state_block.Given as goal

abbrev pub invariant-loop-round : goal.invariant-loop-round
invariant-loop-round l = state_of_rows l.rows.0 l.rows.1 l.rows.2 l.rows.3 ≡ iterate double_round l._round l.state
