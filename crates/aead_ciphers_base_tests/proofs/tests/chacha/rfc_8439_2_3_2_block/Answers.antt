use Rattle.std.proofs.Common.{refl}
use Rattle.aead_ciphers_base.specs.ChaCha20.{quarter_round, double_round, le_words, le_bytes, initial_state, state_block, chacha20_block}
use Rattle.aead_ciphers_base_tests.proofs.tests.chacha.rfc_8439_2_3_2_block.Goals as goal

pub returns : goal.returns
unfolding quarter_round double_round le_words le_bytes initial_state state_block chacha20_block
returns c = refl
