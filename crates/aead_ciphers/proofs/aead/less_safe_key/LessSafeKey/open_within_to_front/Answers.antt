use Rattle.std.proofs.Common.{rules}
use Rattle.aead_ciphers.proofs
use proofs.LentPlaintext.{attached}
use proofs.aead.less_safe_key.LessSafeKey.open_within_to_front.Goals as goal

pub returns-clause-opened : goal.returns-clause-opened
returns-clause-opened g c = search (rules, attached)
