use Rattle.std.proofs.Common.{◌≡◌, ◌∙◌, ◌+◌, ◌<◌, ℕ, [], true, ap, get_or, length, sym}
use Rattle.lr_base.specs.Stamps.{stamp_le}
use Rattle.lr_causal.proofs.Retold.{gossip_taken-none, new_count-none}
use Rattle.lr_causal.specs.State.{state_of}
use Rattle.lr_log.specs.TableLaws.{own-row, row-parts}
use Rattle.lr_causal.proofs.causal.Causal.has_heard.Goals as goal

pub returns-then-le-clause-none_new : goal.returns-then-le-clause-none_new
returns-then-le-clause-none_new g c heard =
    let it = c.args.self.now in
    let gossip = c.args.gossip.now in
    let received : stamp_le gossip.rep_ts it.table.own ≡ true =
    ap (stamp_le gossip.rep_ts) (sym c.own.ensures.own) ∙ sym c.if-le.ensures in
    new_count-none it.me c.args.from (state_of it) gossip received c.requires.gossip.updates_received
    c.requires.gossip.acks_received

pub returns-then-le-clause-same : goal.returns-then-le-clause-same
returns-then-le-clause-same g c heard =
    let it = c.args.self.now in
    let gossip = c.args.gossip.now in
    let rows = it.table.rows in
    let within : c.args.from < length rows = rw it.rows c.requires.from in
    let received : stamp_le gossip.rep_ts it.table.own ≡ true =
    ap (stamp_le gossip.rep_ts) (sym c.own.ensures.own) ∙ sym c.if-le.ensures in
    let told : stamp_le gossip.rep_ts (get_or rows c.args.from []) ≡ true =
    ap (stamp_le gossip.rep_ts) (sym c.row.ensures) ∙ sym c.le-then-le.ensures ∙ heard in
    gossip_taken-none it.me c.args.from (state_of it) gossip received c.requires.gossip.updates_received
    c.requires.gossip.acks_received (own-row it.table c.keeps.ensures ∙ ap (λ (n : ℕ). get_or rows n []) it.own_table)
    (c.requires.gossip.rep_parts ∙ sym it.rep_parts)
    (row-parts it.table c.keeps.ensures c.args.from within ∙ ap (λ (n : ℕ). n + 1) it.rows ∙ sym it.rep_parts) told
