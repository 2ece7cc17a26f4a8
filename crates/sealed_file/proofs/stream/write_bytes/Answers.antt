use Rattle.std.proofs.Common.{◌++◌, length, take, drop, ◌-◌, sym, ap, ◌∙◌, ◌≡◌}
use Rattle.std.proofs.KnownBytes.{Appends-kept, Appends-trans}
use Rattle.sealed_file.proofs
use proofs.StreamLemmas.{moves_front}
use proofs.stream.write_bytes.Goals.{in-Ok, in-Err+else-ne}
use proofs.stream.write_bytes.Goals as goal

pub loop-preserved : goal.loop-preserved
loop-preserved g c =
    let (done, split, appended) = c.loop.invariant in
    elim c.match-write.branch [
      | in-Ok w ↦
          let n = w.in-Ok.n in
          let rest : c.match-write.rest.now ≡ take (length c.loop.rest.now - n) (drop n c.loop.rest.now) = ap (λ r. r.now) w.rest-is in
          (done ++ take n c.loop.rest.now, moves_front _ done _ _ n split rest, Appends-trans _ _ _ _ _ appended w.in-Ok.ensures.bytes)
      | in-Err+else-ne w ↦ (
        done,
        split ∙ ap (λ l. done ++ l) (sym (ap (λ r. r.now) w.rest-is)),
        Appends-kept _ _ _ _ appended w.in-Err.ensures.bytes,
      )
    ]
