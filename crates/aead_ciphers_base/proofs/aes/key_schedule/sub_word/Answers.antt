use Rattle.std.proofs.Common.{◌*◌, ◌<◌, arith, rules, ap, ◌∙◌, ◌∷◌, [], ℕ, slice_index}
use Rattle.std.proofs.lemmas.Nat.{le_bytes_4}
use Rattle.aead_ciphers_base.specs
use specs.ByteField.{sbox}
use specs.Aes.{sub_word}
use Rattle.aead_ciphers_base.proofs.aes.key_schedule.sub_word.Goals as goal

pub returns : goal.returns
unfolding sub_word
returns c =
    let bytes = le_bytes_4 c.args.a c.from.result (search rules) (search rules) (c.from.ensures ∙ c.from_le_bytes.ensures) in
    let read = λ (j : ℕ). ap (λ b. sbox (slice_index b j)) bytes in
    let byte = λ (j : ℕ) (h : j < 8).
    ap (λ b. slice_index b j) c.to_le_bytes.ensures ∙ c.gather.ensures j h ∙ c.sub_planes.ensures (8 * j) (omega arith)
    ∙ ap sbox (c.spread-planes.ensures j h) in
    let first = byte 0 (omega arith) ∙ read 0 in
    let second = byte 1 (omega arith) ∙ read 1 in
    let third = byte 2 (omega arith) ∙ read 2 in
    let fourth = byte 3 (omega arith) ∙ read 3 in
    λ i. first i ∷ second i ∷ third i ∷ fourth i ∷ []
