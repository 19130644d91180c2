use Rattle.std.proofs.Common.{subst, sym}
use Rattle.std.specs.Prelude.{not}
use Rattle.lr_base.specs.Rules.{is_new}
use Rattle.lr_log.specs.Items.{IsOrdered, items_of}
use Rattle.lr_log.specs.ItemLaws.{IsOrdered-filter}
use Rattle.lr_log.proofs.log.Log.drop_new.Goals as goal

pub invariant_of-self : goal.invariant_of-self
invariant_of-self g c =
    subst IsOrdered (λ i. items_of (sym c.drop_new.ensures i) (sym c.drop_new-2.ensures i))
    (IsOrdered-filter (λ u. not (is_new c.args.rep_ts.now u.spot)) (λ a. not (is_new c.args.rep_ts.now a.spot))
    (items_of c.self.inside.updates c.self.inside.acks) c.self.invariant)
