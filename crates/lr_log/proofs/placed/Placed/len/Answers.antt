use Rattle.std.proofs.Common.{◌∙◌, ap, length}
use Rattle.lr_log.specs.Rows.{together}
use Rattle.lr_log.proofs.CallLemmas.{length-index}
use Rattle.lr_log.proofs.placed.Placed.len.Goals as goal

pub returns-clause-count : goal.returns-clause-count
returns-clause-count g c =
    c.len.ensures.count ∙ ap length c.self.invariant.indexed
    ∙ length-index g.T.AtSpot.spot_of g.T.AtSpot.cid_of (together c.self.inside.rows.items) ∙ ap length c.self.view_is
