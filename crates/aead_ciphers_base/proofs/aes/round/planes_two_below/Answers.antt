use Rattle.std.proofs.Common.{arith, length-set, map, ◌∙◌, ◌/◌}
use Rattle.aead_ciphers_base.specs.Planes.{below}
use Rattle.aead_ciphers_base.proofs
use proofs.PlaneShifts.{moves_more, planes_moved}
use proofs.aes.round.planes_two_below.Goals as goal

pub loop-k-preserved : goal.loop-k-preserved
loop-k-preserved g c =
    let t = g.P.Plane in (
      length-set _ _ _ ∙ c.loop-k.invariant.0,
      moves_more t.number t.place (t.width / 16) (below 2) c.args.a c.loop-k.out c.loop-k.k c.two_below.result
          _ (omega arith) (omega arith) c.loop-k.invariant.1 c.two_below.ensures,
    )

pub returns : goal.returns
returns g c =
    let t = g.P.Plane in
    planes_moved t.place (t.width / 16) (below 2) (map t.number c.args.a) (map t.number c.loop-k.out)
    (λ j lt. c.loop-k.invariant.1 j (omega arith))
