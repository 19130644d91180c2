use Rattle.std.proofs.Common.{◌≢◌, List, subst, sym}
use Rattle.lr_base.specs.Ascending.{is_before}
use Rattle.lr_base.specs.InsertionLaws.{ascends-filter}
use Rattle.lr_base.specs.declared.messages.LogAck.{LogAck}
use Rattle.lr_base.specs.declared.messages.LogUpdate.{LogUpdate}
use Rattle.lr_log.specs.ItemLaws.{each-filter, each-map}
use Rattle.lr_log.specs.Items.{IsOrdered, NoneAt, items_of}
use Rattle.lr_log.proofs.log.Log.drop_acks.Goals as goal

pub invariant_of-self : goal.invariant_of-self
invariant_of-self g c =
    subst (λ (acks : List LogAck). IsOrdered (items_of c.self.inside.updates acks)) (sym c.drop_that.ensures) (record {
      in_order = c.self.invariant.in_order;
      acks_in_order = ascends-filter (λ (a b : LogAck). is_before a.spot b.spot) _ c.self.inside.acks
          c.self.invariant.acks_in_order;
      apart = each-map (λ (u : LogUpdate g.row.O.Denot). NoneAt (λ a. a.spot) u.spot c.self.inside.acks) _
          c.self.inside.updates
          (λ u none. each-filter (λ (a : LogAck). a.spot ≢ u.spot) _ c.self.inside.acks none) c.self.invariant.apart;
    })
