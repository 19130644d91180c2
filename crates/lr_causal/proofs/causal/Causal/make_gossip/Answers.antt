use Rattle.std.proofs.Common.{◌≡◌, ◌∙◌, ap, length}
use Rattle.lr_base.specs.Rules.{is_new}
use Rattle.lr_causal.specs.GossipLaws.{StandInOrder-of}
use Rattle.lr_causal.proofs.Facts.{AllLogged-filter}
use Rattle.lr_causal.proofs.Received.{AllAcksReceived-told, AllReceived-told}
use Rattle.lr_log.specs.ItemLaws.{IsOrdered-filter}
use Rattle.lr_causal.proofs.causal.Causal.make_gossip.Goals as goal

pub returns-clause-shape : goal.returns-clause-shape
returns-clause-shape g c =
    let it = c.args.self.now in
    let own_is : c.copy.result ≡ it.table.own = c.copy.ensures ∙ c.own.ensures.own in
    record {
      rep_parts = ap length own_is ∙ it.rep_parts;
      logged = AllLogged-filter g.S.Op.Operation.kind_of _ (λ u. is_new c.row-theirs.result.now u.spot) it.log.updates c.in_ok-updates.updates c.in_ok-updates.ensures it.logged;
      updates_received = AllReceived-told it.table.own c.copy.result c.row-theirs.result.now it.log.updates c.in_ok-updates.updates own_is c.in_ok-updates.ensures it.updates_received;
      acks_received = AllAcksReceived-told it.table.own c.copy.result c.row-theirs.result.now it.log.acks c.in_ok-acks.acks own_is c.in_ok-acks.ensures it.acks_received;
      ordered = StandInOrder-of _ _ (rw (c.in_ok-updates.ensures, c.in_ok-acks.ensures) (IsOrdered-filter (λ u. is_new c.row-theirs.result.now u.spot) (λ a. is_new c.row-theirs.result.now a.spot) it.log c.keeps.ensures));
    }
