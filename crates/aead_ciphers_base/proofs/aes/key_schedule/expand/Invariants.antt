use Rattle.std.proofs.Common.{◌≡◌, ◌+◌, ◌-◌, ◌*◌, length, take, slice_index}
use Rattle.aead_ciphers_base.specs
use specs.Bytes.{each_below}
use specs.Aes.{key_words}
use Rattle.aead_ciphers_base.proofs.aes.key_schedule.expand.Given as goal

abbrev pub invariant-loop-i : goal.invariant-loop-i
invariant-loop-i l =
    (length l.words ≡ 60) × (take l.i l.words ≡ each_below l.i (λ i. each_below 4 (λ k. slice_index l.key (4 * i + k))))

abbrev pub invariant-loop-n : goal.invariant-loop-n
invariant-loop-n l =
    (length l.words ≡ 60) × (take l.n l.words ≡ key_words l.nk l.key (l.n - l.nk))
