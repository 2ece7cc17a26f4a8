use Rattle.std.proofs.Common.{◌≡◌, ℕ, ◌+◌, ◌<◌, ◌≤◌, ◌⊎◌, List, get_or, length, ap, arith, subst}
use Rattle.quic_packets.proofs.HeaderLemmas.{written_back}
use Rattle.quic_packets.proofs.receiver.Receiver.unprotect_and_open.Goals as goal

-- A packet that is refused is as it was.
pub returns-in-Err-clause-kept : goal.returns-in-Err-clause-kept
returns-in-Err-clause-kept c =
    let at = c.args.number_at in
    let back = c.restore_masked_bytes.new.packet in
    written_back c.self.inside.header at c.args.packet.now c.unprotect_sampled-number_len.new.packet back _
    c.unprotect_sampled-number_len.ensures.unprotected c.masked_bytes-masked.ensures c.restore_masked_bytes.ensures.bytes
    (subst (λ (p : List ℕ). (i : ℕ) → 0 < i → (i < at) ⊎ (at + 4 ≤ i) → get_or back i 0 ≡ get_or p i 0)
    c.in-Err.ensures.kept c.restore_masked_bytes.ensures.others)
    (omega (arith, ap length c.in-Err.ensures.kept))
