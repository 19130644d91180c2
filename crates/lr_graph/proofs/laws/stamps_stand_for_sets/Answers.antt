use Rattle.lr_graph.specs.Central.{facts_after}
use Rattle.lr_graph.specs.Graph.{first_facts}
use Rattle.lr_graph.proofs.Histories.Law.{same-after}
use Rattle.lr_graph.proofs.Stamps.StampSets.{same-central}
use Rattle.lr_graph.proofs.laws.stamps_stand_for_sets.Goals as goal

pub returns : goal.returns
returns g c config steps run made =
    same-central g.S.Service.meaning config (facts_after g.S.Service.meaning config first_facts steps) run (same-after g.S.Service.meaning _ g.met.S.Service.lawful config steps run made)
