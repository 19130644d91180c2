use Rattle.std.proofs.Common.{rules}
use Rattle.std.proofs.lemmas.List.Sorted.{IsPartitionPoint-from_clause}
use Rattle.lr_base.specs.Ascending.{is_before}
use Rattle.lr_log.proofs.Searches.{parted-before}
use Rattle.lr_log.proofs.row.count_before.Goals as goal

pub returns-clause-point : goal.returns-clause-point
returns-clause-point g c =
    IsPartitionPoint-from_clause (λ x. is_before (g.T.AtSpot.spot_of x) c.args.spot) _ _
    c.partition_point.ensures.partitioned
    (parted-before g.T.AtSpot.spot_of c.args.spot c.args.items.now c.requires) (λ a r q k. search rules)
