use Rattle.std.proofs.Common.{◌≡◌, ℕ, List, ◌+◌, ◌/◌, ◌%◌, ◌∷◌, [], ◌∙◌, slice_index, subst, sym, take}
use Rattle.std.specs.Int.{to_le_bytes, w128}
use Rattle.aead_ciphers_base.specs.CounterMode.{IsCounter, counter_block}
use Rattle.aead_ciphers_base.proofs.CounterLemmas.{number_is}
use Rattle.aead_ciphers_wide.specs.Word.{half_of}
use Rattle.aead_ciphers_wide.proofs.WideCounters.{counter_numbered}
use Rattle.aead_ciphers_wide.proofs.WideBlocks.{by_sixteen}
use Rattle.aead_ciphers_wide.proofs.aes.counters.sixteen_counters.Goals as goal

pub returns : goal.returns
returns c = λ nonce k at.
    let block = c.as_ref.result.now in
    let here : IsCounter block nonce k = subst (λ b. IsCounter b nonce k) (sym c.as_ref.ensures.bytes) at in
    let words = c.two_counters.result ∷ c.two_counters-2.result ∷ c.two_counters-3.result ∷ c.two_counters-4.result
    ∷ c.two_counters-5.result ∷ c.two_counters-6.result ∷ c.two_counters-7.result ∷ c.two_counters-8.result ∷ [] in
    let is = c.from_be_bytes-number.ensures ∙ number_is block nonce k here in
    let enlarged = λ (i : ℕ) (bytes : List ℕ) (same : bytes ≡ counter_block (take 12 block) (c.from_be_bytes-number.result + i)).
    subst (λ b. IsCounter b nonce (k + i)) (sym same) (counter_numbered block nonce k i c.from_be_bytes-number.result here is) in
    by_sixteen (λ i. IsCounter (to_le_bytes w128 (half_of (i % 2) (slice_index words (i / 2)))) nonce (k + i))
    (enlarged 0 _ c.two_counters.ensures.low) (enlarged 1 _ c.two_counters.ensures.high)
    (enlarged 2 _ c.two_counters-2.ensures.low) (enlarged 3 _ c.two_counters-2.ensures.high)
    (enlarged 4 _ c.two_counters-3.ensures.low) (enlarged 5 _ c.two_counters-3.ensures.high)
    (enlarged 6 _ c.two_counters-4.ensures.low) (enlarged 7 _ c.two_counters-4.ensures.high)
    (enlarged 8 _ c.two_counters-5.ensures.low) (enlarged 9 _ c.two_counters-5.ensures.high)
    (enlarged 10 _ c.two_counters-6.ensures.low) (enlarged 11 _ c.two_counters-6.ensures.high)
    (enlarged 12 _ c.two_counters-7.ensures.low) (enlarged 13 _ c.two_counters-7.ensures.high)
    (enlarged 14 _ c.two_counters-8.ensures.low) (enlarged 15 _ c.two_counters-8.ensures.high)
