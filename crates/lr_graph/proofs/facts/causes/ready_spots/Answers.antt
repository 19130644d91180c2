use Rattle.std.proofs.Common.{map, sym, ◌∙◌}
use Rattle.lr_graph.specs.Told.{acceptance_of, set_of}
use Rattle.lr_graph.proofs.Told.ToldLists.{all-ready, ready-passed, ready-taken}
use Rattle.lr_graph.proofs.facts.causes.ready_spots.Goals as goal

pub loop-update-preserved-then-not-is_ready : goal.loop-update-preserved-then-not-is_ready
loop-update-preserved-then-not-is_ready g c =
    ready-passed (map acceptance_of c.args.accepted.now) c.args.accepted.now c.loop-update.update-index c.update-item.result (set_of c.args.received.now) c.loop-update.spots
    c.loop-update-test.true c.update-item.is (sym c.is_ready.ensures ∙ c.if-not-is_ready.true) c.loop-update.invariant

pub loop-update-preserved : goal.loop-update-preserved
loop-update-preserved g c =
    ready-taken (map acceptance_of c.args.accepted.now) c.args.accepted.now c.loop-update.update-index c.update-item.result (set_of c.args.received.now) c.loop-update.spots c.add.new.self
    c.loop-update-test.true c.update-item.is (sym c.is_ready.ensures ∙ c.if-not-is_ready.false) c.loop-update.invariant c.in_ok-add.ensures

pub returns : goal.returns
returns g c = all-ready c.args.accepted.now c.loop-update.update-index (set_of c.args.received.now) c.loop-update.spots c.loop-update-test.false c.loop-update.invariant
