use Rattle.std.proofs.Common.{arith, sym, take_all}
use Rattle.sealed_file.proofs.header.header_of.Goals as goal

pub returns-then-file-lt-HEADER_LEN : goal.returns-then-file-lt-HEADER_LEN
returns-then-file-lt-HEADER_LEN c = sym (take_all 60 c.args.file.now (omega (arith, c.if-file-lt-HEADER_LEN.true)))
