use Rattle.std.proofs.Common.{subst, sym}
use Rattle.lr_log.specs.Items.{NoneAt}
use Rattle.lr_log.proofs.CallLemmas.{IsPlaced-more, IsPlaced-same, index-free, index-in_order, inserted-again}
use Rattle.lr_log.proofs.placed.Placed.insert.Goals as goal

pub insert-requires-clause-in_order : goal.insert-requires-clause-in_order
insert-requires-clause-in_order g c =
    index-in_order g.T.AtSpot.spot_of g.T.AtSpot.cid_of c.self.inside.rows.items c.self.inside.index c.self.invariant

pub insert-requires-clause-free : goal.insert-requires-clause-free
insert-requires-clause-free g c =
    index-free g.T.AtSpot.spot_of g.T.AtSpot.cid_of c.spot.result c.self.inside.rows.items c.args.self.now
    c.self.inside.index c.self.invariant
    c.self.view_is (subst (λ s. NoneAt g.T.AtSpot.spot_of s c.args.self.now) (sym c.spot.ensures) c.requires)

pub invariant_of-self-in-Ok : goal.invariant_of-self-in-Ok
invariant_of-self-in-Ok g c =
    IsPlaced-more g.T.AtSpot.spot_of g.T.AtSpot.cid_of c.args.item c.self.inside.rows.items c.put.new.rows.items
    c.self.inside.index
    c.insert.new.self (record { cid = c.cid.result; spot = c.spot.result }) c.self.invariant c.in-Ok.ensures.rows
    c.in-Ok.ensures.ok
    (λ i. record { cid = c.cid.ensures i; spot = c.spot.ensures i }) c.in_ok-insert.ensures.ok

pub invariant_of-self-in_default : goal.invariant_of-self-in_default
invariant_of-self-in_default g c =
    IsPlaced-same g.T.AtSpot.spot_of g.T.AtSpot.cid_of c.self.inside.rows.items c.put.new.rows.items
    c.self.inside.index c.remove.new.self
    c.self.invariant c.in_default.ensures.rows c.in_default.ensures.err
    (inserted-again g.T.AtSpot.spot_of g.T.AtSpot.cid_of (record { cid = c.cid.result; spot = c.spot.result })
    c.self.inside.rows.items
    c.args.self.now c.self.inside.index c.insert.new.self c.remove.new.self c.self.invariant c.self.view_is
    (subst (λ s. NoneAt g.T.AtSpot.spot_of s c.args.self.now) (sym c.spot.ensures) c.requires)
    c.in_ok-insert.ensures.ok c.remove.ensures)
