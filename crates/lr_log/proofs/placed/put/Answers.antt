use Rattle.lr_log.proofs.RowLemmas.{put-free, put-rows, put-together, row-in_order}
use Rattle.lr_log.proofs.placed.put.Goals as goal

pub insert-requires-clause-in_order : goal.insert-requires-clause-in_order
insert-requires-clause-in_order g c =
    row-in_order g.T.AtSpot.spot_of c.make_row.new.rows.items c.spot-place.result.place c.index_mut-row.result.now
    c.index_mut-row.result.now
    c.in_ok-make_row.ensures.rows c.in_ok-make_row.ensures.ok c.index_mut-row.ensures.value

pub insert-requires-clause-free : goal.insert-requires-clause-free
insert-requires-clause-free g c =
    put-free g.T.AtSpot.spot_of c.args.item c.args.rows.now.items c.make_row.new.rows.items c.spot-place.result.place
    c.index_mut-row.result.now c.index_mut-row.result.now c.in_ok-make_row.ensures.ok c.index_mut-row.ensures.value
    c.in_ok-make_row.ensures.same c.requires.free

pub returns-clause-ok : goal.returns-clause-ok
returns-clause-ok g c =
    put-together g.T.AtSpot.spot_of c.args.item c.args.rows.now.items c.make_row.new.rows.items
    c.spot-place.result.place
    c.index_mut-row.result.now c.insert.new.self c.index_mut-row.result.now c.in_ok-make_row.ensures.rows
    c.in_ok-make_row.ensures.ok
    c.index_mut-row.ensures.value (λ i. (c.spot-place.ensures i).place) c.in_ok-make_row.ensures.same
    c.in_ok-insert.ensures.ok

pub returns-clause-rows : goal.returns-clause-rows
returns-clause-rows g c =
    put-rows g.T.AtSpot.spot_of c.args.item c.make_row.new.rows.items c.spot-place.result.place
    c.index_mut-row.result.now c.insert.new.self
    c.index_mut-row.result.now c.in_ok-make_row.ensures.rows c.in_ok-make_row.ensures.ok c.index_mut-row.ensures.value
    (λ i. (c.spot-place.ensures i).place)
    (put-free g.T.AtSpot.spot_of c.args.item c.args.rows.now.items c.make_row.new.rows.items c.spot-place.result.place
    c.index_mut-row.result.now c.index_mut-row.result.now c.in_ok-make_row.ensures.ok c.index_mut-row.ensures.value
    c.in_ok-make_row.ensures.same c.requires.free)
    c.in_ok-insert.ensures.ok
