use Rattle.std.proofs.Common.{arith, length-set, map, ◌∙◌, ◌/◌}
use Rattle.aead_ciphers_base.specs.Planes.{shifted_from}
use Rattle.aead_ciphers_base.proofs
use proofs.PlaneShifts.{moves_more, planes_moved}
use proofs.PlaneBlocks.{shift_block}
use proofs.aes.round.shift_rows.Goals as goal

pub loop-k-preserved : goal.loop-k-preserved
loop-k-preserved g c =
    let t = g.P.Plane in (
      length-set _ _ _ ∙ c.loop-k.invariant.0,
      moves_more t.number t.place (t.width / 16) shifted_from c.args.a c.loop-k.out c.loop-k.k c.rows_shifted.result
          _ (omega arith) (omega arith) c.loop-k.invariant.1 c.rows_shifted.ensures,
    )

pub returns : goal.returns
returns g c = let t = g.P.Plane in λ k hk.
    shift_block t.place (t.width / 16) (map t.number c.args.a) (map t.number c.loop-k.out) k hk
    (planes_moved t.place (t.width / 16) shifted_from (map t.number c.args.a) (map t.number c.loop-k.out)
    (λ j lt. c.loop-k.invariant.1 j (omega arith)))
