use Rattle.std.proofs.Common.{◌∙◌, ap, map, subst}
use Rattle.lr_base.specs.Calls.{AreByCall}
use Rattle.lr_calls.proofs.SortedCalls.{sorted_calls}
use Rattle.lr_calls.proofs.Tables.{AreByCall-by_call}
use Rattle.lr_calls.proofs.calls.CallTable.cids.Goals as goal

pub returns-clause-cids : goal.returns-clause-cids
returns-clause-cids c =
    sorted_calls c.self.inside.known.entries c.in_ok-cids.cids.items c.sort_unstable.new.self.items c.in_ok-cids.ensures
    c.sort_unstable.ensures.permutation c.sort_unstable.ensures.sorted
    ∙ ap (map (λ e. e.0)) c.self.view_is

pub returns-clause-in_order : goal.returns-clause-in_order
returns-clause-in_order c =
    subst AreByCall c.self.view_is (AreByCall-by_call c.self.inside.known.entries c.self.invariant)

pub returns-in_err-cids-clause-in_order : goal.returns-in_err-cids-clause-in_order
returns-in_err-cids-clause-in_order c =
    subst AreByCall c.self.view_is (AreByCall-by_call c.self.inside.known.entries c.self.invariant)
