use Rattle.std.proofs.Common.{leb, rules}
use Rattle.std.proofs.lemmas.List.Sorted.{IsPartitionPoint-from_clause, IsPartitionedBy-leb}
use Rattle.lr_value.proofs.Gathered.{cut-filter}
use Rattle.lr_value.proofs.Numbered.{numbers-rise}
use Rattle.lr_value.proofs.gathering.first_past.Goals as goal

pub returns-clause-up_to : goal.returns-clause-up_to
returns-clause-up_to g c =
    let parted = IsPartitionedBy-leb (λ u. u.spot.number) c.args.updates.now c.args.number
    (numbers-rise c.args.updates.now c.requires.1.ascends) in
    let point = IsPartitionPoint-from_clause (λ u. leb u.spot.number c.args.number) c.args.updates.now
    c.partition_point.result c.partition_point.ensures.partitioned parted (λ a r q k. search rules) in
    (cut-filter (λ u. leb u.spot.number c.args.number) c.args.updates.now c.partition_point.result point.0 point.1).0

pub returns-clause-past : goal.returns-clause-past
returns-clause-past g c =
    let parted = IsPartitionedBy-leb (λ u. u.spot.number) c.args.updates.now c.args.number
    (numbers-rise c.args.updates.now c.requires.1.ascends) in
    let point = IsPartitionPoint-from_clause (λ u. leb u.spot.number c.args.number) c.args.updates.now
    c.partition_point.result c.partition_point.ensures.partitioned parted (λ a r q k. search rules) in
    (cut-filter (λ u. leb u.spot.number c.args.number) c.args.updates.now c.partition_point.result point.0 point.1).1
