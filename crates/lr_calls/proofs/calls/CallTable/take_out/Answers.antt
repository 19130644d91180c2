use Rattle.std.proofs.Common.{◌∙◌, ◌∷◌, [], ap, sym, cond, None}
use Rattle.lr_base.specs.Ascending.{same_cid}
use Rattle.lr_calls.specs.Tables.{without}
use Rattle.lr_calls.proofs.Tables.{by_call-removed, lookup-known_of}
use Rattle.lr_calls.proofs.calls.CallTable.take_out.Goals as goal

pub returns : goal.returns
returns c =
    by_call-removed c.self.inside.known.entries c.swap_remove-known.new.self.entries c.args.cid c.self.invariant
    c.swap_remove-known.ensures.unique
    (λ q. sym (lookup-known_of c.swap_remove-known.new.self.entries q) ∙ c.swap_remove-known.ensures.updates.0 q
    ∙ ap (cond (same_cid c.args.cid q) None) (lookup-known_of c.self.inside.known.entries q))
    ∙ ap (without (c.args.cid ∷ [])) c.self.view_is
