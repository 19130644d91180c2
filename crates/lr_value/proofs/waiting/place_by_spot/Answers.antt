use Rattle.std.proofs.Common.{rules}
use Rattle.std.proofs.lemmas.List.Sorted.{IsPartitionPoint-from_clause}
use Rattle.lr_base.specs.Ascending.{is_before}
use Rattle.lr_value.proofs.Placed.{parted-spots, place-point}
use Rattle.lr_value.proofs.waiting.place_by_spot.Goals as goal

pub returns : goal.returns
returns g c =
    let point = IsPartitionPoint-from_clause (λ r. is_before r.now.spot c.args.spot) c.args.ready.now
    c.partition_point.result c.partition_point.ensures.partitioned
    (parted-spots (λ r. r.now.spot) c.args.spot c.args.ready.now c.requires) (λ a r q k. search rules) in
    place-point (λ r. r.now.spot) c.args.spot c.args.ready.now c.partition_point.result c.partition_point.ensures.bound
    point
