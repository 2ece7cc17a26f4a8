use Rattle.std.proofs.Common.{◌≡◌, ap, ap₂, sym, ◌∙◌, ◌+◌, ℕ, List, length, slice_set}
use Rattle.aead_ciphers_base.specs.ChaCha20.{initial_state, le_words, Position}
use Rattle.aead_ciphers_base.proofs
use proofs.LittleEndian.{counter-initial_state, initial_state_words, le_words-le_bytes}
use proofs.chacha.Key.initial_state.Goals as goal

pub returns : goal.returns
returns c =
    let words = c.self.inside.words in
    let size : length (le_words c.args.self.now) ≡ 8 =
    ap (λ k. length (le_words k)) (sym c.self.view_is) ∙ ap length (le_words-le_bytes words c.self.invariant)
    ∙ c.self.told in
    let state =
    initial_state_words words c.counter.inside.words _ c.self.told c.counter.told c.self.invariant c.counter.invariant
    ∙ ap₂ (λ (k : List ℕ) (p : Position). initial_state k (p.number + c.args.j) p.nonce) c.self.view_is c.counter.view_is in
    record {
      state = state;
      word_12 = ap (λ (p : Position). p.number + c.args.j) c.counter.view_is;
      counter_in_word_12 = λ n.
          ap (λ s. slice_set s 12 n) state
          ∙ counter-initial_state c.args.self.now c.args.counter.now.nonce (c.args.counter.now.number + c.args.j) n size;
    }
