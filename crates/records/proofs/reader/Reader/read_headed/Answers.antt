use Rattle.records.proofs.reader.Reader.read_headed.Goals as goal

pub returns-in-Some-clause-reads : goal.returns-in-Some-clause-reads
returns-in-Some-clause-reads c = c.in-Some.ensures.reads _

pub returns-in-Some-clause-kept : goal.returns-in-Some-clause-kept
returns-in-Some-clause-kept c = c.in-Some.ensures.kept c.args.bytes.now c.args.bytes.now 0
