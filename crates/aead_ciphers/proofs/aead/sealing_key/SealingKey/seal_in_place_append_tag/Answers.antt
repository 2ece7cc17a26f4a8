use Rattle.std.proofs.Common.{refl, inl, inr, ◌≡◌, ◌++◌, ◌-◌, ◌∙◌, length, take, replicate}
use Rattle.std.proofs.lemmas.Bool.{false≢true}
use Rattle.std.proofs.Math.Seq.{take-append_seam}
use Rattle.aead_ciphers_base.specs.Aes.{aes}
use Rattle.aead_ciphers_base.specs.Values.{aad_bytes}
use Rattle.aead_ciphers.specs.Gcm.{gcm_sealed, tag_len}
use Rattle.aead_ciphers.specs.Steps.{no_nonce}
use Rattle.aead_ciphers.proofs
use proofs.SealLemmas.{grown_less, grown_more, grown_front, in_ok, in_err, no_err, under_next, spent_step}
use proofs.aead.sealing_key.SealingKey.seal_in_place_append_tag.Goals.{in-Ok, in-Err}
use proofs.aead.sealing_key.SealingKey.seal_in_place_append_tag.Goals as goal

pub returns-clause-call : goal.returns-clause-call
returns-clause-call g c =
    let bytes = g.B.InOut.bytes in
    let old = bytes c.args.in_out.now in
    let grown : bytes c.grow_by_tag.new.self ≡ old ++ replicate tag_len 0 = c.in_ok-grow_by_tag.ensures.grown in
    let few : length (bytes c.grow_by_tag.new.self) - tag_len ≡ length old = rw grown (grown_less old) in
    let front : take (length old) (bytes c.grow_by_tag.new.self) ≡ old = rw grown (take-append_seam old (replicate tag_len 0)) in
    elim c.match-advance.branch [
      | in-Ok w ↦
          let made = rw (few, front) at w.seal_with_room.ensures in
          rw (← c.self.view_is, w.in_out-is, w.result-is) (record {
            kept = record { key_kept = refl; origin_kept = c.advance.ensures.origin_kept };
            step = spent_step _ _ _ _ _ _ _ _ _ _ w.seal_with_room.result c.in_ok-grow_by_tag.ensures.granted w.in-Ok.ensures.ok made.accepted
                made.sealed made.kept;
            granted = λ _. c.in_ok-grow_by_tag.ensures.granted;
            fits = made.accepted.0;
            gives = in_ok w.seal_with_room.result w.in-Ok.ensures.gives;
            refuses = λ fits room. no_err _ w.seal_with_room.result made.accepted fits;
            after_error = in_err w.seal_with_room.result (inr (inr w.in-Ok.ensures.gives));
          })
      | in-Err w ↦
          rw (← c.self.view_is, w.in_out-is, w.result-is) (record {
            kept = record { key_kept = refl; origin_kept = c.advance.ensures.origin_kept };
            step = no_nonce c.in_ok-grow_by_tag.ensures.granted w.in-Err.ensures.err (w.cut_tag.ensures ∙ rw grown (grown_front old));
            granted = λ no. absurd (false≢true no);
            fits = λ no. absurd (false≢true no);
            gives = tt;
            refuses = λ fits room. w.in-Err.ensures.refuses;
            after_error = inr (inl w.in-Err.ensures.refuses);
          })
    ]

pub returns-clause-sealed : goal.returns-clause-sealed
returns-clause-sealed g c =
    let bytes = g.B.InOut.bytes in
    let old = bytes c.args.in_out.now in
    let grown : bytes c.grow_by_tag.new.self ≡ old ++ replicate tag_len 0 = c.in_ok-grow_by_tag.ensures.grown in
    let few : length (bytes c.grow_by_tag.new.self) - tag_len ≡ length old = rw grown (grown_less old) in
    let front : take (length old) (bytes c.grow_by_tag.new.self) ≡ old = rw grown (take-append_seam old (replicate tag_len 0)) in
    elim c.match-advance.branch [
      | in-Ok w ↦
          rw (← c.self.view_is, w.in_out-is, w.result-is)
          (under_next w.seal_with_room.result
          (λ nonce. bytes w.seal_with_room.new.in_out ≡ gcm_sealed (aes c.self.inside.key.bytes) nonce (aad_bytes c.args.aad) old) w.in-Ok.ensures.next
          (rw (few, front) at w.seal_with_room.ensures).sealed)
      | in-Err w ↦ rw w.result-is tt
    ]

pub returns-clause-refused : goal.returns-clause-refused
returns-clause-refused g c =
    let bytes = g.B.InOut.bytes in
    let old = bytes c.args.in_out.now in
    let grown : bytes c.grow_by_tag.new.self ≡ old ++ replicate tag_len 0 = c.in_ok-grow_by_tag.ensures.grown in
    let few : length (bytes c.grow_by_tag.new.self) - tag_len ≡ length old = rw grown (grown_less old) in
    let front : take (length old) (bytes c.grow_by_tag.new.self) ≡ old = rw grown (take-append_seam old (replicate tag_len 0)) in
    elim c.match-advance.branch [
      | in-Ok w ↦ rw (w.in_out-is, w.result-is) (rw (few, front) at w.seal_with_room.ensures).kept
      | in-Err w ↦ rw (w.in_out-is, w.result-is) (w.cut_tag.ensures ∙ rw grown (grown_front old))
    ]

pub returns-clause-length : goal.returns-clause-length
returns-clause-length g c =
    let more = grown_more (g.B.InOut.bytes c.args.in_out.now) in
    elim c.match-advance.branch [
      | in-Ok w ↦ rw (w.in_out-is, w.result-is) (rw (c.in_ok-grow_by_tag.ensures.grown, more) at w.seal_with_room.ensures.length)
      | in-Err w ↦ rw w.result-is tt
    ]
