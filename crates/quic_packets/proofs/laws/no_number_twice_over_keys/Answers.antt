use Rattle.quic_packets.proofs.SenderRuns.{fresh, limited}
use Rattle.quic_packets.proofs.laws.no_number_twice_over_keys.Goals as goal

pub returns-clause-fresh : goal.returns-clause-fresh
returns-clause-fresh c by_key run = fresh c.args.first.now c.args.last.now by_key run

pub returns-clause-limited : goal.returns-clause-limited
returns-clause-limited c by_key run = limited c.args.first.now c.args.last.now by_key run
