use Rattle.std.proofs.Common.{refl}
use Rattle.lr_graph.specs.Graph.{DoneReply}
use Rattle.lr_graph.proofs.Promised.Spoken.{done-taken}
use Rattle.lr_graph.proofs.promises.replies_stand_for_acceptances.Goals as goal

pub returns : goal.returns
returns g c config before between later one other n i f cid spot names legal said delivers takes =
    done-taken g.S.Service.meaning _ g.met.S.Service.lawful config before between later one other legal
    n delivers f cid (DoneReply cid names) takes i spot names refl said
