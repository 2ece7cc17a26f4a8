use Rattle.std.proofs.Common.{◌∙◌, ap, inl, slice_index}
use Rattle.aead_ciphers_wide.proofs.WordMoves.{filled_is, filled_word}
use Rattle.aead_ciphers_wide.proofs.word.Word.filled.Goals as goal

pub look_up-requires : goal.look_up-requires
look_up-requires c = λ i h. inl (c.requires.digits i h)

pub returns : goal.returns
returns c = λ p h.
    filled_word c.from_bytes.result c.args.bit p c.args.digits c.look_up.result c.from_bytes.ensures
    (λ j lt. ap (λ v. slice_index v j) c.look_up.ensures ∙ filled_is c.args.digits c.args.bit c.fits-digits.0 c.requires.bit c.requires.digits j lt) h
