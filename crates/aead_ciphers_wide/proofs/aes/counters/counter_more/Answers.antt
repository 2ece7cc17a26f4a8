use Rattle.std.proofs.Common.{◌+◌, ◌%◌, ◌^◌, arith}
use Rattle.aead_ciphers_base.specs.CounterMode.{counter_block}
use Rattle.aead_ciphers_wide.proofs.WideCounters.{is_numbered}
use Rattle.aead_ciphers_wide.proofs.aes.counters.counter_more.Goals as goal

pub returns : goal.returns
unfolding counter_block
returns c =
    is_numbered c.args.block _ ((c.args.number + 0) % 2 ^ 32) ((c.args.number + c.args.more) % 2 ^ 32)
    (omega arith) (omega arith) (omega arith) c.from_bytes.ensures
