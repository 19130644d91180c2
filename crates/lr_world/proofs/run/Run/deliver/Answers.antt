use Rattle.std.proofs.Common.{◌≡◌, ◌-◌, Some, true, nat_lt, ltb-true, subst}
use Rattle.std.specs.List.{slice_get}
use Rattle.lr_base.specs.declared.names.Actor.{Actor}
use Rattle.lr_world.specs.Shapes.{is_actor}
use Rattle.lr_world.proofs.run.Run.deliver.Goals as goal

pub give-requires-clause-client : goal.give-requires-clause-client
give-requires-clause-client g c =
    let it = c.args.self.now in
    let found : slice_get it.posted.items (c.args.number - 1) ≡ Some c.message_at.result.now =
    subst (λ ps. slice_get ps (c.args.number - 1) ≡ Some c.message_at.result.now) c.as_slice.ensures.value c.message_at.ensures in
    let known : nat_lt c.in-Client.client it.config.clients ≡ true = subst (λ (to : Actor). is_actor it.config to ≡ true) c.in-Client.is (it.all_posted _ c.message_at.result.now found).sendable.to_known in
    ltb-true _ _ known

pub order-requires-clause-me : goal.order-requires-clause-me
order-requires-clause-me g c =
    let it = c.args.self.now in
    let found : slice_get it.posted.items (c.args.number - 1) ≡ Some c.message_at.result.now =
    subst (λ ps. slice_get ps (c.args.number - 1) ≡ Some c.message_at.result.now) c.as_slice.ensures.value c.message_at.ensures in
    let known : nat_lt c.in-Replica.me it.config.replicas ≡ true = subst (λ (to : Actor). is_actor it.config to ≡ true) c.in-Replica.is (it.all_posted _ c.message_at.result.now found).sendable.to_known in
    ltb-true _ _ known
