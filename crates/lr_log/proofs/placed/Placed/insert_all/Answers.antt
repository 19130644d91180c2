use Rattle.lr_log.proofs.Taking.{lent-free, lent-more}
use Rattle.lr_log.proofs.placed.Placed.insert_all.Goals as goal

pub insert_copy-requires : goal.insert_copy-requires
insert_copy-requires g c =
    lent-free g.T.AtSpot.spot_of g.R.Lends.lent c.args.items.now c.args.self.now c.loop-at.self c.loop-at.at
    c.index-items-at.result
    c.lend.result.now c.loop-at-test.true c.index-items-at.is c.lend.ensures c.requires.in_order c.requires.free
    c.loop-at.invariant

pub loop-at-preserved : goal.loop-at-preserved
loop-at-preserved g c =
    lent-more g.T.AtSpot.spot_of g.R.Lends.lent c.args.items.now c.args.self.now c.loop-at.self
    c.insert_copy.new.self c.loop-at.at
    c.index-items-at.result c.lend.result.now c.loop-at-test.true c.index-items-at.is c.lend.ensures
    c.loop-at.invariant c.in-Ok.ensures.ok
