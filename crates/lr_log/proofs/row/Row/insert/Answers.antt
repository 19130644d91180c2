use Rattle.lr_log.proofs.Searches.{inserted-row}
use Rattle.lr_log.proofs.row.Row.insert.Goals as goal

pub returns-clause-ok : goal.returns-clause-ok
returns-clause-ok g c =
    inserted-row g.T.AtSpot.spot_of c.args.item c.as_slice.result.now c.self.inside.items.items c.args.self.now
    c.insert.new.self.items
    c.spot.result c.count_before-at.result c.as_slice.ensures.value c.self.view_is c.spot.ensures
    c.count_before-at.ensures.most
    c.count_before-at.ensures.point c.requires.free c.in_ok-insert.ensures.items
