use Rattle.std.proofs.Common.{rules}
use Rattle.std.proofs.lemmas.List.Sorted.{IsPartitionPoint-from_clause}
use Rattle.lr_base.specs.Ascending.{is_before}
use Rattle.lr_value.proofs.Placed.{parted-needs, place-point}
use Rattle.lr_value.proofs.waiting.place_by_need.Goals as goal

pub returns : goal.returns
returns g c =
    let point = IsPartitionPoint-from_clause (λ b. is_before b.needs c.args.needs) c.args.blocked.now
    c.partition_point.result c.partition_point.ensures.partitioned
    (parted-needs (λ b. b.needs) c.args.needs c.args.blocked.now c.requires) (λ a r q k. search rules) in
    place-point (λ b. b.needs) c.args.needs c.args.blocked.now c.partition_point.result c.partition_point.ensures.bound
    point
