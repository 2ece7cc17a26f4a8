use Rattle.std.proofs.Common.{◌-◌, take, drop}
use Rattle.records.proofs.reader.Reader.gather.Goals as goal

pub returns-in-Some-clause-reads : goal.returns-in-Some-clause-reads
returns-in-Some-clause-reads c = c.in-Some.ensures.reads _

pub returns-in-Some-clause-kept : goal.returns-in-Some-clause-kept
returns-in-Some-clause-kept c =
    c.in-Some.ensures.kept (take (c.args.end - c.args.at) (drop c.args.at c.args.bytes.now)) c.args.bytes.now c.args.filled

pub returns-in-Some-clause-closes : goal.returns-in-Some-clause-closes
returns-in-Some-clause-closes c = (c.in-Some.ensures.reads c.args.bytes.now).stands
