use Rattle.std.proofs.Common.{◌≡◌, ◌≢◌, ◌⊎◌, ◌<◌, ◌≤◌, ℕ, get_or}
use Rattle.records.proofs.inner.last_nonzero.Given as goal

-- what comes after `len` so far is zero, and what is at `len`, unless it is the first byte, isn't
abbrev pub invariant-loop-i : goal.invariant-loop-i
invariant-loop-i l = record {
  in_range : l.len ≤ l.i;
  typed : (l.len ≡ 0) ⊎ ((l.len < l.i) × (get_or l.inner l.len 0 ≢ 0));
  zeros : (k : ℕ) → l.len < k → k < l.i → get_or l.inner k 0 ≡ 0;
}
