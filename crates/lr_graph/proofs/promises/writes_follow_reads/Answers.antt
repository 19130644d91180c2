use Rattle.std.proofs.Common.{refl}
use Rattle.lr_graph.specs.Graph.{AnswerReply}
use Rattle.lr_graph.proofs.Promised.Later.{told-update}
use Rattle.lr_graph.proofs.promises.writes_follow_reads.Goals as goal

pub returns : goal.returns
returns g c config before between later answer call client first second seen a legal took calls member of =
    told-update g.S.Service.meaning _ g.met.S.Service.lawful config before between later answer call legal client
    first second seen (AnswerReply first seen) (refl, refl) took calls a member of
