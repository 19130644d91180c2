use Rattle.std.proofs.Common.{◌∙◌, ap, sym, Some}
use Rattle.lr_base.specs.Rules.{known_of}
use Rattle.lr_calls.proofs.Tables.{known-by_call, lookup-known_of}
use Rattle.lr_calls.proofs.calls.CallTable.find.Goals as goal

pub returns : goal.returns
returns c =
    ap Some c.copy.ensures ∙ c.in_ok-known.ensures.value ∙ lookup-known_of c.self.inside.known.entries c.args.cid
    ∙ sym (known-by_call c.self.inside.known.entries c.args.cid)
    ∙ ap (λ table. known_of table c.args.cid) c.self.view_is

pub returns-in_err-known : goal.returns-in_err-known
returns-in_err-known c =
    c.from_residual.ensures ∙ c.in_err-known.ensures.value ∙ lookup-known_of c.self.inside.known.entries c.args.cid
    ∙ sym (known-by_call c.self.inside.known.entries c.args.cid)
    ∙ ap (λ table. known_of table c.args.cid) c.self.view_is
