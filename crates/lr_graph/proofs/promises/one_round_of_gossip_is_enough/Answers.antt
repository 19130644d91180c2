use Rattle.std.proofs.Common.{◌++◌, sym, ap, ◌∙◌}
use Rattle.lr_graph.specs.Graph.{value}
use Rattle.lr_graph.specs.Promises.{facts_of}
use Rattle.lr_graph.proofs.Lists.Members.{each-at, each-from}
use Rattle.lr_graph.proofs.Promised.Alike.{ready-alike}
use Rattle.lr_graph.proofs.Promised.Rounds.{all-received, none-held}
use Rattle.lr_graph.proofs.promises.one_round_of_gossip_is_enough.Goals as goal

pub returns-clause-received : goal.returns-clause-received
returns-clause-received g c config before round legal whole quiet i here =
    all-received g.S.Service.meaning _ g.met.S.Service.lawful config before round legal whole quiet i here

pub returns-clause-held : goal.returns-clause-held
returns-clause-held g c config before round legal whole quiet i here =
    none-held g.S.Service.meaning _ g.met.S.Service.lawful config before round legal whole quiet i here

pub returns-clause-value : goal.returns-clause-value
returns-clause-value g c config before round legal whole quiet i j here there =
    let w = facts_of g.S.Service.meaning config (before ++ round) in
    let all = all-received g.S.Service.meaning _ g.met.S.Service.lawful config before round legal whole quiet in
    let alike = each-from _ w.accepted (λ a member.
    each-at _ a w.accepted (all i here) member ∙ sym (each-at _ a w.accepted (all j there) member)) in
    ap (value g.S.Service.meaning w.accepted) (ready-alike w i j alike)
