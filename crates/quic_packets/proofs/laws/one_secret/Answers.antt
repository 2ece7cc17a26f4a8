use Rattle.quic_packets.proofs.SecretLemmas.{next_key, same_keys, same_version}
use Rattle.quic_packets.proofs.laws.one_secret.Goals as goal

pub returns-clause-same : goal.returns-clause-same
returns-clause-same c secret updates sender receiver = same_keys secret c.args.sender.now c.args.receiver.now updates sender receiver

pub returns-clause-version : goal.returns-clause-version
returns-clause-version c secret updates sender receiver = same_version secret c.args.sender.now c.args.receiver.now updates sender receiver

pub returns-clause-next : goal.returns-clause-next
returns-clause-next c secret updates key receiver is = next_key secret c.args.receiver.now updates key receiver is
