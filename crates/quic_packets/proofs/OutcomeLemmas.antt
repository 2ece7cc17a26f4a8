-- The outcome of sending a packet at a level is also one for the connection that has the level.
use Rattle.std.proofs.Common.{◌≡◌, ℕ, Bool, List, Option, None, Some, Ok, Err, Result, OnOk, OnErr, ap}
use Rattle.quic_packets.specs.Ends.{EndOutcome}
use Rattle.quic_packets.specs.Sending.{Sender}
use Rattle.quic_packets.specs.declared.connection.ends.SentPacket.{SentPacket}
use Rattle.quic_packets.specs.declared.fixed_bit.FixedBit.{FixedBit}
use Rattle.quic_packets.specs.declared.send_error.SendError.{SendError}

counted : {A B : Type 0} (f : A → B) (result : Result SentPacket SendError) (now after : A) → OnOk result (now ≡ after)
    → OnOk result (f now ≡ f after)
counted f (Ok p) now after is = ap f is
counted f (Err e) now after is = tt

kept : {A B : Type 0} (f : A → B) (result : Result SentPacket SendError) (old new : List ℕ) (before now : A)
    → OnErr result ((new ≡ old) × (now ≡ before)) → OnErr result ((new ≡ old) × (f now ≡ f before))
kept f (Ok p) old new before now is = tt
kept f (Err e) old new before now is = (is.0, ap f is.1)

-- If an outcome holds for a state, it holds for what a function makes of the state.
pub within : {A B : Type 0} (f : A → B) (sender : Option Sender) (kept_for_close : ℕ) (fixed_bit : FixedBit) (start end : ℕ)
    (old new : List ℕ) (result : Result SentPacket SendError) (follows : Sender → Bool) (before now : A) (after : Sender → A)
    → EndOutcome sender kept_for_close fixed_bit start end old new result follows before now after
    → EndOutcome sender kept_for_close fixed_bit start end old new result follows (f before) (f now) (λ s. f (after s))
within f None kept_for_close fixed_bit start end old new result follows before now after is = (is.0, is.1, ap f is.2)
within f (Some s) kept_for_close fixed_bit start end old new result follows before now after is = record {
  accepted = is.accepted;
  refused = is.refused;
  sent = is.sent;
  returns = is.returns;
  counted = counted f result now (after s) is.counted;
  kept = kept f result old new before now is.kept;
}
