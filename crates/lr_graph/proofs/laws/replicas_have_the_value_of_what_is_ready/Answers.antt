use Rattle.lr_graph.specs.Central.{facts_after}
use Rattle.lr_graph.specs.Graph.{first_facts}
use Rattle.lr_graph.proofs.Histories.Law.{same-after}
use Rattle.lr_graph.proofs.Stamps.StampSets.{same-value}
use Rattle.lr_graph.proofs.laws.replicas_have_the_value_of_what_is_ready.Goals as goal

pub returns : goal.returns
returns g c config steps run made i inside replica there =
    let m = g.S.Service.meaning in
    same-value m config (facts_after m config first_facts steps) run
    (same-after m _ g.met.S.Service.lawful config steps run made) i inside replica there
