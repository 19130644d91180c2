use Rattle.std.proofs.Common.{ℕ, List, arith, refl, subst}
use Rattle.lr_base.specs.declared.messages.LogUpdate.{LogUpdate}
use Rattle.svc_tally.specs.declared.op.TallyOp.{TallyOp}
use Rattle.lr_tests.specs.Sample.{AreSample}
use Rattle.lr_tests.proofs.Places.{sample-up}
use Rattle.lr_tests.proofs.value.OfPlace.as_slice.Goals as goal

pub returns-clause-sample : goal.returns-clause-sample
returns-clause-sample c =
    subst (λ (v : ℕ × List (LogUpdate TallyOp)). AreSample v.0 1000 v.1) c.self.view_is
    (sample-up c.self.inside.place c.self.inside.last 1000 c.self.inside.items.items c.self.inside.items.items refl
    c.self.invariant.most (omega arith) c.self.invariant)
