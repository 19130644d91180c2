use Rattle.lr_world.proofs.Shaped.{IsGossip-shaped, query-shaped, update-shaped}
use Rattle.lr_world.proofs.replica.Replica.take.Goals as goal

pub on_update-requires : goal.on_update-requires
on_update-requires g c = update-shaped g.S.Op.Operation.kind_of c.args.self.now.config c.args.message.now _ _ c.in-Update.is c.requires.shaped

pub on_query-requires : goal.on_query-requires
on_query-requires g c = query-shaped g.S.Op.Operation.kind_of c.args.self.now.config c.args.message.now _ c.in-Query.is c.requires.shaped

pub returns-in-Update-clause-undo : goal.returns-in-Update-clause-undo
returns-in-Update-clause-undo g c = c.on_update.ensures.undo _

pub returns-in-Query-clause-undo : goal.returns-in-Query-clause-undo
returns-in-Query-clause-undo g c = c.on_query.ensures.undo _

pub returns-in-Ack-clause-undo : goal.returns-in-Ack-clause-undo
returns-in-Ack-clause-undo g c = c.on_ack.ensures.undo _

pub on_gossip-requires-clause-gossip : goal.on_gossip-requires-clause-gossip
on_gossip-requires-clause-gossip g c = IsGossip-shaped g.S.Op.Operation.kind_of c.args.self.now.config c.args.message.now c.in-Gossip.gossip c.in-Gossip.is c.requires.shaped
