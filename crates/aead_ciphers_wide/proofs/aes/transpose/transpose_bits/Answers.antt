use Rattle.std.proofs.Common.{refl, map}
use Rattle.aead_ciphers_wide.specs.Word.{lanes_of}
use Rattle.aead_ciphers_base.proofs.PlanePacking.{three_exchanges, bits_from}
use Rattle.aead_ciphers_wide.proofs.aes.transpose.transpose_bits.Goals as goal

pub returns : goal.returns
returns g c = λ j n hj hn.
    let number = g.P.Plane.number in
    three_exchanges (lanes_of j (map number c.args.words)) (lanes_of j (map number c.exchange_digits.result))
    (lanes_of j (map number c.exchange_digits-2.result)) (lanes_of j (map number c.exchange_digits-3.result)) 2 1 0 bits_from
    refl refl refl
    (λ n h. c.exchange_digits.ensures j n hj h) (λ n h. c.exchange_digits-2.ensures j n hj h)
    (λ n h. c.exchange_digits-3.ensures j n hj h) n hn
