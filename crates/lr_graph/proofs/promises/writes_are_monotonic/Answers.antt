use Rattle.std.proofs.Common.{refl}
use Rattle.lr_graph.specs.Graph.{DoneReply}
use Rattle.lr_graph.proofs.Promised.Later.{done-there, told-update}
use Rattle.lr_graph.proofs.promises.writes_are_monotonic.Goals as goal

pub returns-clause-all : goal.returns-clause-all
returns-clause-all g c config before between later done call f first second names a legal took calls member of =
    told-update g.S.Service.meaning _ g.met.S.Service.lawful config before between later done call legal f
    first second names (DoneReply first names) (refl, refl) took calls a member of

pub returns-clause-done : goal.returns-clause-done
returns-clause-done g c config before between later done call f first second names a legal took calls member of =
    let m = g.S.Service.meaning in
    let told = told-update m _ g.met.S.Service.lawful config before between later done call legal f
    first second names (DoneReply first names) (refl, refl) took calls a member of in
    done-there m _ g.met.S.Service.lawful config before between later done call legal f
    first second names (DoneReply first names) (refl, refl) took a.below refl told
