use Rattle.std.proofs.Common.{ltb, rules}
use Rattle.std.proofs.lemmas.List.Sorted.{IsPartitionPoint-from_clause, IsPartitionedBy-ltb}
use Rattle.lr_value.proofs.Gathered.{cut-filter}
use Rattle.lr_value.proofs.Numbered.{numbers-rise}
use Rattle.lr_value.proofs.gathering.first_from.Goals as goal

pub returns-clause-from : goal.returns-clause-from
returns-clause-from g c =
    let parted = IsPartitionedBy-ltb (λ u. u.spot.number) c.args.updates.now c.args.number
    (numbers-rise c.args.updates.now c.requires.1.ascends) in
    let point = IsPartitionPoint-from_clause (λ u. ltb u.spot.number c.args.number) c.args.updates.now
    c.partition_point.result c.partition_point.ensures.partitioned parted (λ a r q k. search rules) in
    (cut-filter (λ u. ltb u.spot.number c.args.number) c.args.updates.now c.partition_point.result point.0 point.1).1
