-- What the outcome of a job of `session` says of its buffer.
use Rattle.std.proofs.Common.{◌≡◌, ℕ, ◌-◌, ◌≤◌, Bool, true, false, List, length, Ok, refl, arith, if◌then◌else◌}
use Rattle.aead_ciphers.specs
use specs.BoundState.{BoundState}
use specs.Gcm.{tag_len}
use specs.Steps.{OpenStep}
use specs.declared.session.Outcome.TheVariants.{Opened, Refused}
use Rattle.aead_ciphers.proofs.LentPlaintext.{step_fronts}

-- the plaintext of a job that opened is within the buffer
pub opened_within : {N : Type 0} (spent : N → List (List ℕ)) (is_closed : N → Bool) (was now : BoundState N) (aad : List ℕ) (start : ℕ)
    (old new : List ℕ) (accepts : Bool) (n : ℕ)
    → OpenStep spent is_closed was now aad start old new accepts
    → (if accepts then Opened (length old - tag_len - start) else Refused) ≡ Opened n → n ≤ length new
opened_within spent is_closed was now aad start old new true n step is =
    let m = length old - tag_len - start in
    let count : n ≡ m = cc in
    let fits = (step_fronts spent is_closed was now aad start old new {E = Unit {0}} m refl (Ok n) step count).1 in
    omega (arith, fits)
opened_within spent is_closed was now aad start old new false n step is = cc
