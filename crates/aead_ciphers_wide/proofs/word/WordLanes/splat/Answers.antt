use Rattle.std.proofs.Common.{arith}
use Rattle.aead_ciphers_wide.proofs.WordLanes.{lane_splat}
use Rattle.aead_ciphers_wide.proofs.word.WordLanes.splat.Goals as goal

pub returns : goal.returns
returns c = λ j h. lane_splat 2 c.args.lane (omega arith) j h
