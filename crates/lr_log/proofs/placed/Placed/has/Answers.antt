use Rattle.std.proofs.Common.{◌∙◌, ap, sym}
use Rattle.std.specs.Prelude.{is_some}
use Rattle.lr_base.specs.Ascending.{same_cid}
use Rattle.lr_log.proofs.Passing.{any-found, some-copied}
use Rattle.lr_log.proofs.placed.Placed.has.Goals as goal

pub returns : goal.returns
returns g c =
    c.is_some.ensures ∙ sym (some-copied c.first_of.result) ∙ ap is_some c.first_of.ensures
    ∙ any-found (λ x. same_cid (g.T.AtSpot.cid_of x) c.args.cid) c.args.self.now
