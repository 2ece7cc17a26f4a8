use Rattle.std.proofs.Common.{sym}
use Rattle.sealed_file.proofs
use proofs.ReaderLemmas.{message_len-last, message_len-other}
use proofs.reader.message_len.Goals as goal

pub returns-then-number-last-clause-value : goal.returns-then-number-last-clause-value
returns-then-number-last-clause-value c = sym (message_len-last c.args.last c.args.last_len c.args.number c.if-number-last.true)

pub returns-else-number-last-clause-value : goal.returns-else-number-last-clause-value
returns-else-number-last-clause-value c = sym (message_len-other c.args.last c.args.last_len c.args.number c.if-number-last.false)
