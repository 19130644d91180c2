use Rattle.std.proofs.Common.{◌-◌, ◌+◌, ◌∷◌, [], arith, length-append, ◌∙◌}
use Rattle.lr_base.specs.RowLaws.{joined-more}
use Rattle.lr_codec.specs.Parts.{part_format}
use Rattle.lr_codec.proofs.Stamps.{part-low}
use Rattle.lr_codec.proofs.parts.stamp_field.Goals as goal

pub loop-preserved : goal.loop-preserved
loop-preserved c =
    rw c.push.ensures record {
      reads = joined-more (λ last. part_format.field) c.loop.stamp (c.args.parts - c.loop.counter)
          (c.args.parts - (c.loop.counter + 1)) c.loop.rest.now c.in_ok-number.number c.in_ok-number.end.now
          (omega arith) c.in_ok-number.ensures ∙ c.loop.invariant.reads;
      count = omega (arith, length-append c.loop.stamp (c.in_ok-number.number ∷ []), c.loop.invariant.count);
    }

pub push-requires-clause-number : goal.push-requires-clause-number
push-requires-clause-number c = part-low c.loop.rest.now c.in_ok-number.number c.in_ok-number.end.now c.in_ok-number.ensures
