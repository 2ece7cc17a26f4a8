use Rattle.std.proofs.Common.{◌≡◌, ◌+◌, ◌*◌, ◌/◌, bit_and, ◌∙◌, arith}
use Rattle.std.proofs.lemmas.Nat.{and_mask}
use Rattle.aead_ciphers_wide.proofs.gcm.product.word_of.Goals as goal

pub returns : goal.returns
returns c =
    let n = c.args.number in
    let e : n / 18446744073709551616 * 18446744073709551616 + bit_and n 18446744073709551615 ≡ n = omega (arith, and_mask n 64) in
    c.new.ensures ∙ e
