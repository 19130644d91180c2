use Rattle.std.proofs.Common.{ap, ◌∙◌}
use Rattle.std.specs.Option.{option_or}
use Rattle.lr_graph.specs.Graph.{least_spot}
use Rattle.lr_graph.proofs.Sets.KeptSpots.{IsLeast, keep_new-is, least_spot-is, least_spot-least}
use Rattle.lr_graph.proofs.listed.the_least_spot_is_kept.Goals as goal

pub returns-clause-least : goal.returns-clause-least
returns-clause-least g c accepted set cid spot is =
    let own = least_spot-is accepted set cid spot is in
    record {
      member = (own.0, own.1, own.2, (own.3, own.4));
      least = λ a among here call.
          let least : IsLeast (least_spot accepted set cid) a.spot = least_spot-least accepted set cid a among here call in
          rw is at least;
    }

pub returns-clause-none : goal.returns-clause-none
returns-clause-none g c accepted set cid none has =
    let least : IsLeast (least_spot accepted set cid) (has.0).spot =
    least_spot-least accepted set cid has.0 has.1 has.2 has.3 in
    rw none at least

pub returns-clause-kept : goal.returns-clause-kept
returns-clause-kept g c accepted set kept cid none =
    keep_new-is accepted set kept cid ∙ ap (λ o. option_or o (least_spot accepted set cid)) none

pub returns-clause-stays : goal.returns-clause-stays
returns-clause-stays g c accepted set kept cid spot is =
    keep_new-is accepted set kept cid ∙ ap (λ o. option_or o (least_spot accepted set cid)) is
