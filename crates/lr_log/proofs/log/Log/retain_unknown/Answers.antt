use Rattle.std.proofs.Common.{List, subst, sym}
use Rattle.lr_base.specs.Ascending.{is_before}
use Rattle.lr_base.specs.InsertionLaws.{ascends-filter}
use Rattle.lr_base.specs.Rules.{is_new}
use Rattle.lr_base.specs.declared.messages.LogUpdate.{LogUpdate}
use Rattle.lr_log.specs.ItemLaws.{each-filter}
use Rattle.lr_log.specs.Items.{IsOrdered, NoneAt, items_of}
use Rattle.lr_log.proofs.log.Log.retain_unknown.Goals as goal

pub invariant_of-self : goal.invariant_of-self
invariant_of-self g c =
    subst (λ (updates : List (LogUpdate g.row.O.Denot)). IsOrdered (items_of updates c.self.inside.acks))
    (sym c.drop_known.ensures) (record {
      in_order = ascends-filter (λ (a b : LogUpdate g.row.O.Denot). is_before a.spot b.spot)
          (λ u. is_new c.floor-floor.result u.spot) c.self.inside.updates c.self.invariant.in_order;
      acks_in_order = c.self.invariant.acks_in_order;
      apart = each-filter (λ (u : LogUpdate g.row.O.Denot). NoneAt (λ a. a.spot) u.spot c.self.inside.acks)
          (λ u. is_new c.floor-floor.result u.spot) c.self.inside.updates c.self.invariant.apart;
    })
