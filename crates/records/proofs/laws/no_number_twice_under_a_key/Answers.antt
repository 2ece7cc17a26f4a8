use Rattle.records.proofs
use proofs.RunLemmas.{fresh}
use proofs.laws.no_number_twice_under_a_key.Goals as goal

pub returns-clause-fresh : goal.returns-clause-fresh
returns-clause-fresh c = λ by_key run k d lt. (fresh c.args.first.now c.args.last.now by_key run k d lt).0

pub returns-clause-limited : goal.returns-clause-limited
returns-clause-limited c = λ by_key run k d lt. (fresh c.args.first.now c.args.last.now by_key run k d lt).1
