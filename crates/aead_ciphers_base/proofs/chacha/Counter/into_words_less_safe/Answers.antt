use Rattle.std.proofs.Common.{◌≡◌, ◌<◌, ◌^◌, ℕ, List, ◌∷◌, length, get_or, rules, ap, ap₂, sym, ◌∙◌, arith}
use Rattle.std.proofs.Math.Seq.{drop-cons}
use Rattle.aead_ciphers_base.specs.ChaCha20.{le_words, Position}
use Rattle.aead_ciphers_base.proofs
use proofs.LittleEndian.{le_words-le_bytes_rest}
use proofs.chacha.Counter.into_words_less_safe.Goals as goal

pub returns : goal.returns
returns c =
    let fits : (i : ℕ) → get_or c.self.inside.words i 0 < 2 ^ 32 = search rules in
    let len : length c.self.inside.words ≡ 4 = search rules in
    drop-cons c.self.inside.words 0 0 (omega arith)
    ∙ ap₂ (λ (x : ℕ) (xs : List ℕ). x ∷ xs) (ap (λ (p : Position). p.number) c.self.view_is)
    (sym (ap (λ (p : Position). le_words p.nonce) (sym c.self.view_is) ∙ le_words-le_bytes_rest c.self.inside.words fits))
