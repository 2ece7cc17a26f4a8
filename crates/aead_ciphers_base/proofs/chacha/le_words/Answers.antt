use Rattle.std.proofs.Common.{◌≡◌, ◌+◌, ◌*◌, ◌++◌, ◌∷◌, ℕ, List, length-set, sym, ap, ◌∙◌, arith, take, drop, take_all, append_assoc, append-nil}
use Rattle.std.proofs.lemmas.List.{take_more_set, drop_all}
use Rattle.aead_ciphers_base.specs.ChaCha20.{le_words}
use Rattle.aead_ciphers_base.proofs
use proofs.LittleEndian.{le_words-from}
use proofs.chacha.le_words.Goals as goal

pub loop-i-preserved : goal.loop-i-preserved
loop-i-preserved g c =
    let i : ℕ = c.loop-i.i in
    let words : List ℕ = c.loop-i.words in
    let next : 4 * (i + 1) ≡ 4 * i + 4 = omega arith in
    record {
      size = length-set words i c.from_le_bytes.result ∙ c.loop-i.invariant.size;
      read =
          rw (next, take_more_set words i c.from_le_bytes.result (omega (arith, c.loop-i.invariant.size)))
          (c.loop-i.invariant.read
          ∙ ap (λ ws. take i words ++ ws) (le_words-from (4 * i) c.args.bytes.now (omega arith)
          ∙ ap (λ w. w ∷ le_words (drop (4 * i + 4) c.args.bytes.now)) (sym c.from_le_bytes.ensures))
          ∙ sym (append_assoc (take i words) _ _));
    }

pub returns : goal.returns
unfolding le_words
returns g c =
    let words : List ℕ = c.loop-i.words in
    let all = take_all c.loop-i.i words (omega (arith, c.loop-i.invariant.size)) in
    let none = drop_all (4 * c.loop-i.i) c.args.bytes.now (omega (arith, c.requires)) in
    sym (rw (all, none, append-nil words) at c.loop-i.invariant.read)
