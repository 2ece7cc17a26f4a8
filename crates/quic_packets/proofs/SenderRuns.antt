-- The numbers under which a sender seals over every run: they increase, and under each key there are at most as many as its
-- limit.
use Rattle.std.proofs.Common.{ℕ, zero, suc, ◌+◌, ◌-◌, ◌<◌, ◌≤◌, min, List, [], ◌∷◌, length, get_or, arith}
use Rattle.std.proofs.lemmas.List.Elements.{All-cons}
use Rattle.std.proofs.lemmas.List.Kept.{AllPairs-cons}
use Rattle.std.specs.Prelude.{All, AllPairs, flat_map, true}
use Rattle.quic_packets.specs.Sending.{Runs, Sender, after_acknowledgement, after_send, after_skip, after_update, confirms, goes_on, hears, lowers, none, sends, skips, updates, with_installed_keys}

abbrev all_of : List (List ℕ) → List ℕ
all_of = flat_map (λ ns. ns)

-- No number is below the next one, and each is below all later ones.
rises : (s t : Sender) (by_key : List (List ℕ)) → Runs s t by_key
    → All (λ n. s.next ≤ n) (all_of by_key) × AllPairs (λ m n. m < n) (all_of by_key)
rises s t by_key (none x) = (λ i d lt. absurd (omega arith), λ i j d lt within. absurd (omega arith))
rises s t by_key (sends x y ns later may rest) =
    let after = rises (after_send x) y (ns ∷ later) rest in (
      All-cons (λ n. x.next ≤ n) x.next (all_of (ns ∷ later)) (omega arith) (λ i d lt. omega (arith, after.0 i d lt)),
      AllPairs-cons (λ m n. m < n) x.next (all_of (ns ∷ later)) (λ i d lt. omega (arith, after.0 i d lt)) after.1,
    )
rises s t by_key (skips x y ks n le rest) =
    let after = rises (after_skip x n) y ks rest in (λ i d lt. omega (arith, le, after.0 i d lt), after.1)
rises s t by_key (hears x y ks n below rest) = rises (after_acknowledgement x n) y ks rest
rises s t by_key (confirms x y ks rest) = rises (record x { confirmed = true }) y ks rest
rises s t by_key (lowers x y ks limit rest) = rises (record x { limit = min x.limit limit }) y ks rest
rises s t by_key (updates x y ks key secret rest) = rises (after_update x key secret) y ks rest
rises s t by_key (goes_on x y ks version key hk secret rest) = rises (with_installed_keys x version key hk secret) y ks rest

pub fresh : (s t : Sender) (by_key : List (List ℕ)) → Runs s t by_key → AllPairs (λ m n. m < n) (all_of by_key)
fresh s t by_key run = (rises s t by_key run).1

-- The first list has at most this many numbers, and each later one at most as many as the limit.
abbrev Capped : ℕ → ℕ → List (List ℕ) → Type 0
Capped left limit [] = Unit {0}
Capped left limit (ns ∷ later) = (length ns ≤ left) × Capped limit limit later

looser : (a b a' b' : ℕ) (by_key : List (List ℕ)) → a ≤ a' → b ≤ b' → Capped a b by_key → Capped a' b' by_key
looser a b a' b' [] le le' h = tt
looser a b a' b' (ns ∷ later) le le' h = (omega (arith, h.0), looser b b b' b' later le' le' h.1)

one_more : (sealed limit : ℕ) (n : ℕ) (ns : List ℕ) (later : List (List ℕ)) → sealed < limit → Capped (limit - (sealed + 1)) limit (ns ∷ later)
    → Capped (limit - sealed) limit ((n ∷ ns) ∷ later)
one_more sealed limit n ns later lt h = (omega (arith, h.0), h.1)

capped : (s t : Sender) (by_key : List (List ℕ)) → Runs s t by_key → Capped (s.limit - s.sealed) s.limit by_key
capped s t by_key (none x) = (omega arith, tt)
capped s t by_key (sends x y ns later may rest) =
    one_more x.sealed x.limit x.next ns later may.unused (capped (after_send x) y (ns ∷ later) rest)
capped s t by_key (skips x y ks n le rest) = capped (after_skip x n) y ks rest
capped s t by_key (hears x y ks n below rest) = capped (after_acknowledgement x n) y ks rest
capped s t by_key (confirms x y ks rest) = capped (record x { confirmed = true }) y ks rest
capped s t by_key (lowers x y ks limit rest) =
    looser (min x.limit limit - x.sealed) (min x.limit limit) (x.limit - x.sealed) x.limit ks (omega arith) (omega arith)
    (capped (record x { limit = min x.limit limit }) y ks rest)
capped s t by_key (updates x y ks key secret rest) =
    (omega arith, looser (x.limit - 0) x.limit x.limit x.limit ks (omega arith) (omega arith) (capped (after_update x key secret) y ks rest))
capped s t by_key (goes_on x y ks version key hk secret rest) = (
  omega arith,
  looser (x.limit - 0) x.limit x.limit x.limit ks (omega arith) (omega arith)
      (capped (with_installed_keys x version key hk secret) y ks rest),
)

each : (a b : ℕ) (by_key : List (List ℕ)) (k : ℕ) (d : List ℕ) → a ≤ b → Capped a b by_key → k < length by_key → length (get_or by_key k d) ≤ b
each a b [] k d le h lt = absurd (omega arith)
each a b (ns ∷ later) zero d le h lt = omega (arith, h.0)
each a b (ns ∷ later) (suc k) d le h lt = each b b later k d (omega arith) h.1 (omega arith)

pub limited : (s t : Sender) (by_key : List (List ℕ)) → Runs s t by_key → All (λ ns. length ns ≤ s.limit) by_key
limited s t by_key run = λ k d lt. each (s.limit - s.sealed) s.limit by_key k d (omega arith) (capped s t by_key run) lt
