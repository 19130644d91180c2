use Rattle.std.proofs.Common.{refl}
use Rattle.lr_graph.specs.Graph.{AnswerReply}
use Rattle.lr_graph.proofs.Promised.Later.{told-answer}
use Rattle.lr_graph.proofs.promises.reads_are_monotonic.Goals as goal

pub returns : goal.returns
returns g c config before between later one other client first second seen seen_later legal took takes =
    told-answer g.S.Service.meaning _ g.met.S.Service.lawful config before between later one other legal client
    first second seen (AnswerReply first seen) (refl, refl) took seen_later takes
