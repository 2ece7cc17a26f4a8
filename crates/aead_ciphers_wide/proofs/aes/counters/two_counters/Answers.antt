use Rattle.std.proofs.Common.{◌≡◌, ◌∙◌, ap, arith}
use Rattle.std.specs.Int.{to_le_bytes, w128}
use Rattle.aead_ciphers_wide.specs.Word.{half_of}
use Rattle.aead_ciphers_wide.proofs.aes.counters.two_counters.Goals as goal

pub returns-clause-low : goal.returns-clause-low
returns-clause-low c =
    let half : half_of 0 c.new.result ≡ c.counter_more.result = omega (arith, c.new.ensures) in
    ap (to_le_bytes w128) half ∙ c.counter_more.ensures

pub returns-clause-high : goal.returns-clause-high
returns-clause-high c =
    let half : half_of 1 c.new.result ≡ c.counter_more-2.result = omega (arith, c.new.ensures) in
    ap (to_le_bytes w128) half ∙ c.counter_more-2.ensures
