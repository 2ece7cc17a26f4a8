use Rattle.std.proofs.Common.{◌≡◌, length, rules, ap, sym, ◌∙◌}
use Rattle.aead_ciphers_base.specs.ChaCha20.{le_bytes}
use Rattle.aead_ciphers_base.proofs
use proofs.LittleEndian.{drop-elements, le_bytes-le_words}
use proofs.chacha.Counter.from_nonce_and_ctr.Goals as goal

pub returns-clause-nonce : goal.returns-clause-nonce
returns-clause-nonce c =
    let size : length c.le_words.result ≡ 3 = search rules in
    let bytes = c.as_ref.ensures in
    ap le_bytes (sym (drop-elements 3 0 c.le_words.result size) ∙ c.le_words.ensures)
    ∙ le_bytes-le_words 3 _ (search rules) (search rules) ∙ bytes
