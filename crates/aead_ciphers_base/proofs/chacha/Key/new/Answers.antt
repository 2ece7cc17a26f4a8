use Rattle.std.proofs.Common.{rules, ap, ◌∙◌}
use Rattle.aead_ciphers_base.specs.ChaCha20.{le_bytes}
use Rattle.aead_ciphers_base.proofs
use proofs.LittleEndian.{le_bytes-le_words}
use proofs.chacha.Key.new.Goals as goal

pub returns : goal.returns
returns c = ap le_bytes c.le_words.ensures ∙ le_bytes-le_words 8 c.args.value (search rules) (search rules)
