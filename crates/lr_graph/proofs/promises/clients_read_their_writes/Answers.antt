use Rattle.std.proofs.Common.{refl}
use Rattle.lr_graph.specs.Graph.{DoneReply}
use Rattle.lr_graph.proofs.Promised.Later.{done-there, told-answer}
use Rattle.lr_graph.proofs.promises.clients_read_their_writes.Goals as goal

pub returns-clause-all : goal.returns-clause-all
returns-clause-all g c config before between later done answer client write read names seen legal took takes =
    told-answer g.S.Service.meaning _ g.met.S.Service.lawful config before between later done answer legal client
    write read names (DoneReply write names) (refl, refl) took seen takes

pub returns-clause-done : goal.returns-clause-done
returns-clause-done g c config before between later done answer client write read names seen legal took takes =
    let m = g.S.Service.meaning in
    let told = told-answer m _ g.met.S.Service.lawful config before between later done answer legal client
    write read names (DoneReply write names) (refl, refl) took seen takes in
    done-there m _ g.met.S.Service.lawful config before between later done answer legal client
    write read names (DoneReply write names) (refl, refl) took seen refl told
