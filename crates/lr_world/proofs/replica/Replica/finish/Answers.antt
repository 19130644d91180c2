use Rattle.std.proofs.Common.{◌∙◌, ap, not}
use Rattle.std.specs.Prelude.{filter}
use Rattle.lr_base.specs.Stamps.{stamp_le}
use Rattle.lr_base.specs.declared.messages.Call.{Call}
use Rattle.lr_causal.specs.State.{config_of, replica_of, state_of}
use Rattle.lr_world.proofs.Answering.{AllAsked-along, AllAsked-filter, AllAsked-pruned, IsPointOf-along}
use Rattle.lr_world.specs.Sound.{AllAsked}
use Rattle.lr_world.proofs.replica.Replica.finish.Goals as goal

pub close-requires : goal.close-requires
close-requires g c =
    let before = c.requires.0 in (
      before,
      IsPointOf-along c.args.point (replica_of c.self.inside.causal) c.args.self.now before c.self.view_is c.requires.1,
    )

pub invariant_of-self : goal.invariant_of-self
invariant_of-self g c =
    let it = c.self.inside.causal in
    let next = c.drop_answered.new.self in
    let after = c.prune.new.self in
    let waits = λ (call : Call _). not (stamp_le call.prev (state_of it).val_ts) in
    let held : AllAsked g.S.Op.Operation.kind_of (config_of next) (state_of next).held =
    AllAsked-along g.S.Op.Operation.kind_of (config_of it) (config_of next) (filter waits (state_of it).held)
    (state_of next).held (c.drop_answered.ensures.same.setting ∙ c.close.ensures.same.setting)
    (ap (λ s. s.held) c.drop_answered.ensures.state
    ∙ ap (λ s. filter (λ (call : Call _). not (stamp_le call.prev s.val_ts)) s.held) c.close.ensures.state)
    (AllAsked-filter g.S.Op.Operation.kind_of (config_of it) waits (state_of it).held c.self.invariant) in
    AllAsked-pruned g.S.Op.Operation.kind_of (config_of next) (config_of after) (state_of next) (state_of after)
    (config_of next).delta c.prune.ensures.same.setting c.prune.ensures.state held
