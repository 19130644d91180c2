use Rattle.std.proofs.Common.{◌≡◌, ◌∙◌, ap, []}
use Rattle.lr_base.specs.Calls.{enter_calls, up_to_call}
use Rattle.lr_base.specs.InsertionLaws.{inserted-more}
use Rattle.lr_tests.proofs.value.CallsExecuted.enter.Goals as goal

pub returns-clause-ok : goal.returns-clause-ok
returns-clause-ok c =
    ap (λ es. enter_calls es []) c.in_ok-push.ensures.items
    ∙ inserted-more up_to_call c.args.self.now.entries.items [] (c.args.cid, c.args.entry)
