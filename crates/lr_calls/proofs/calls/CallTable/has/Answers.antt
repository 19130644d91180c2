use Rattle.std.proofs.Common.{◌∙◌, ap, sym, is_some}
use Rattle.lr_base.specs.Rules.{known_of}
use Rattle.lr_calls.proofs.Tables.{known-by_call, lookup-known_of}
use Rattle.lr_calls.proofs.calls.CallTable.has.Goals as goal

pub returns : goal.returns
returns c =
    c.contains_key.ensures
    ∙ ap is_some (lookup-known_of c.self.inside.known.entries c.args.cid
    ∙ sym (known-by_call c.self.inside.known.entries c.args.cid)
    ∙ ap (λ table. known_of table c.args.cid) c.self.view_is)
