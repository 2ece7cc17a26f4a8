use Rattle.std.proofs.Common.{arith, length-set, map, ◌∙◌}
use Rattle.aead_ciphers_base.proofs
use proofs.PlaneShifts.{add_plane, sums_more}
use proofs.aes.round.add_planes.Goals as goal

pub loop-k-preserved : goal.loop-k-preserved
loop-k-preserved g c = (
  length-set _ _ _ ∙ c.loop-k.invariant.0,
  sums_more g.P.Plane.number c.args.a c.args.b c.loop-k.out c.loop-k.k c.bitxor.result _ _
      (omega arith) (omega arith) (omega arith) c.loop-k.invariant.1 (g.met.P.Plane.xor_is _ _ _ c.bitxor.ensures),
)

pub returns : goal.returns
returns g c =
    let number = g.P.Plane.number in
    add_plane (map number c.args.a) (map number c.args.b) (map number c.loop-k.out) (λ j lt. c.loop-k.invariant.1 j (omega arith))
