use Rattle.std.proofs.Common.{arith, ◌∙◌, ◌≡◌, ◌*◌, ◌/◌, length}
use Rattle.aead_ciphers_wide.proofs.WideRoundKeys.{key_of_is, is_schedule}
use Rattle.aead_ciphers_wide.proofs.aes.expand.Goals as goal

pub returns-clause-schedule : goal.returns-clause-schedule
returns-clause-schedule c =
    let key = c.as_slice-key.result.now in
    let len : length key ≡ 4 * (length key / 4) = omega arith in
    is_schedule key c.expand.new.round_keys (length key / 4) len (omega arith) (omega arith) c.expand.ensures.words

pub returns-clause-bytes : goal.returns-clause-bytes
returns-clause-bytes c =
    let key = c.as_slice-key.result.now in
    let len : length key ≡ 4 * (length key / 4) = omega arith in
    key_of_is key c.expand.new.round_keys (length key / 4) len (omega arith) (omega arith) c.expand.ensures.words
    ∙ c.as_slice-key.ensures.bytes
