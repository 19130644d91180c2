use Rattle.std.proofs.Common.{◌∙◌, sym}
use Rattle.lr_tests.proofs.Free.{none-at, none-found}
use Rattle.lr_tests.proofs.taking.is_free.Goals as goal

pub returns : goal.returns
returns g c = λ is. record {
  updates = none-at (λ u. u.spot) c.args.spot c.args.log.now.updates
      (none-found c.update_at.result _ (sym c.is_some.ensures ∙ c.if-is_some.false) c.update_at.ensures);
  acks = none-at (λ a. a.spot) c.args.spot c.args.log.now.acks
      (none-found c.ack_at.result _ (sym c.is_some-2.ensures ∙ c.if-is_some-2.false) c.ack_at.ensures);
}
