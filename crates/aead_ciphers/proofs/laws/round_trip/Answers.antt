use Rattle.std.proofs.Common.{◌≡◌, ◌<◌, ◌≤◌, ◌^◌, ◌-◌, arith, length, rules, vec_len}
use Rattle.aead_ciphers.proofs
use proofs.RoundTripLemmas.{All-slice_get, opens_again}
use proofs.laws.round_trip.Goals as goal

pub returns : goal.returns
returns c i nonce aad message _ here there =
    let short = All-slice_get (λ v. vec_len v < 2 ^ 61) c.args.aads.now i aad c.requires.aads_fit here in
    let fits = All-slice_get (λ v. vec_len v ≤ 2 ^ 36 - 32) c.args.messages.now i message c.requires.messages_fit there in
    let aad_len : vec_len aad ≡ length aad.items = search rules in
    let message_len : vec_len message ≡ length message.items = search rules in
    opens_again c.args.key.now nonce aad.items message.items (record { aad = omega arith; message = omega arith })
