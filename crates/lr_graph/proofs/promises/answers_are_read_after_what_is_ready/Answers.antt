use Rattle.std.proofs.Common.{refl}
use Rattle.lr_graph.specs.Graph.{AnswerReply}
use Rattle.lr_graph.proofs.Promised.Spoken.{answer-taken}
use Rattle.lr_graph.proofs.promises.answers_are_read_after_what_is_ready.Goals as goal

pub returns-clause-ready : goal.returns-clause-ready
returns-clause-ready g c config before between later one other n i f cid text seen legal said delivers takes =
    (answer-taken g.S.Service.meaning _ g.met.S.Service.lawful config before between later one other legal
    n delivers f cid (AnswerReply cid seen) takes i text seen refl said).0

pub returns-clause-text : goal.returns-clause-text
returns-clause-text g c config before between later one other n i f cid text seen legal said delivers takes =
    (answer-taken g.S.Service.meaning _ g.met.S.Service.lawful config before between later one other legal
    n delivers f cid (AnswerReply cid seen) takes i text seen refl said).1
