use Rattle.std.proofs.Common.{◌≡◌, ℕ, List, ◌+◌, ◌∷◌, [], ◌∙◌, slice_index, subst, sym, take}
use Rattle.std.specs.Int.{to_le_bytes, w128}
use Rattle.aead_ciphers_base.specs.CounterMode.{IsCounter, counter_block}
use Rattle.aead_ciphers_base.proofs.CounterLemmas.{number_is}
use Rattle.aead_ciphers_wide.proofs.WideCounters.{counter_numbered}
use Rattle.aead_ciphers_wide.proofs.WideBlocks.{by_eight}
use Rattle.aead_ciphers_wide.proofs.aes.counters.counters.Goals as goal

pub returns : goal.returns
returns c = λ nonce k at.
    let block = c.as_ref.result.now in
    let here : IsCounter block nonce k = subst (λ b. IsCounter b nonce k) (sym c.as_ref.ensures.bytes) at in
    let words = c.counter_more.result ∷ c.counter_more-2.result ∷ c.counter_more-3.result ∷ c.counter_more-4.result
    ∷ c.counter_more-5.result ∷ c.counter_more-6.result ∷ c.counter_more-7.result ∷ c.counter_more-8.result ∷ [] in
    let is = c.from_be_bytes-number.ensures ∙ number_is block nonce k here in
    let enlarged = λ (i : ℕ) (bytes : List ℕ) (same : bytes ≡ counter_block (take 12 block) (c.from_be_bytes-number.result + i)).
    subst (λ b. IsCounter b nonce (k + i)) (sym same) (counter_numbered block nonce k i c.from_be_bytes-number.result here is) in
    by_eight (λ i. IsCounter (to_le_bytes w128 (slice_index words i)) nonce (k + i))
    (enlarged 0 _ c.counter_more.ensures) (enlarged 1 _ c.counter_more-2.ensures) (enlarged 2 _ c.counter_more-3.ensures)
    (enlarged 3 _ c.counter_more-4.ensures) (enlarged 4 _ c.counter_more-5.ensures) (enlarged 5 _ c.counter_more-6.ensures)
    (enlarged 6 _ c.counter_more-7.ensures) (enlarged 7 _ c.counter_more-8.ensures)
