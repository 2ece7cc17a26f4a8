use Rattle.std.proofs.Common.{◌≡◌, ◌∙◌, refl, sym, rules, arith}
use Rattle.quic_packets.proofs.RetryLemmas.{genuine}
use Rattle.quic_packets.proofs.retry.is_genuine_retry.Goals as goal

pub returns-in-Ok : goal.returns-in-Ok
returns-in-Ok c =
    let ok = c.in-Ok.ensures.accepted.0 refl in
    let made = c.as_ref.ensures ∙ c.in-Ok.ensures.tag in
    let law = genuine c.args.version c.args.original_id.now c.args.header.now c.args.payload.now c.split_at.result.0.now c.split_at.result.1.now
    c.in-Some.token_len (omega arith) c.split_at.ensures.front c.split_at.ensures.back in (
      λ same.
          let equal : c.as_ref.result.now ≡ c.split_at.result.1.now = search rules in
          (ok.0, omega arith, law.1 (ok.1, sym equal ∙ made)),
      λ all.
          let equal : c.as_ref.result.now ≡ c.split_at.result.1.now = made ∙ sym (law.0 all.2).1 in
          search rules,
    )
