use Rattle.std.proofs.Common.{◌∙◌, ap, sym, cond, Some}
use Rattle.lr_base.specs.Ascending.{same_cid}
use Rattle.lr_base.specs.Calls.{enter_call}
use Rattle.lr_base.specs.Rules.{known_of}
use Rattle.lr_calls.proofs.Tables.{by_call-inserted, lookup-known_of}
use Rattle.lr_calls.proofs.calls.CallTable.enter.Goals as goal

pub returns-clause-ok : goal.returns-clause-ok
returns-clause-ok c =
    by_call-inserted c.self.inside.known.entries c.insert.new.self.entries c.args.cid c.args.entry c.self.invariant
    c.insert.ensures.unique (ap (λ table. known_of table c.args.cid) c.self.view_is ∙ c.requires)
    (λ q. sym (lookup-known_of c.insert.new.self.entries q) ∙ c.in_ok-insert.ensures.updates.0 q
    ∙ ap (cond (same_cid c.args.cid q) (Some c.args.entry)) (lookup-known_of c.self.inside.known.entries q))
    ∙ ap (enter_call (c.args.cid, c.args.entry)) c.self.view_is
