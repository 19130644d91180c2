use Rattle.lr_graph.proofs.Told.ToldLists.{set_of-more}
use Rattle.lr_graph.proofs.facts.spots.add_all.Goals as goal

pub loop-spot-preserved : goal.loop-spot-preserved
loop-spot-preserved c =
    set_of-more c.as_slice-spot-items.result.now c.loop-spot.spot-index _ c.args.set.now c.loop-spot.set c.add.new.self c.loop-spot-test.true c.loop-spot.invariant c.in_ok-add.ensures
