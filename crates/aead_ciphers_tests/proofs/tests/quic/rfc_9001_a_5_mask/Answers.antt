use Rattle.std.proofs.Common.{refl}
use Rattle.aead_ciphers_base.specs
use specs.ChaCha20.{quarter_round, double_round, le_words, le_bytes, initial_state, state_block, chacha20_block}
use specs.Mask.{chacha_mask}
use Rattle.aead_ciphers_tests.proofs.tests.quic.rfc_9001_a_5_mask.Goals as goal

pub returns : goal.returns
unfolding quarter_round double_round le_words le_bytes initial_state state_block chacha20_block chacha_mask
returns c = refl
