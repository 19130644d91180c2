use Rattle.std.proofs.Common.{rules}
use Rattle.std.proofs.lemmas.List.Sorted.{IsPartitionPoint-from_clause}
use Rattle.lr_base.specs.Ascending.{cid_before}
use Rattle.lr_log.specs.Calls.{entry_before}
use Rattle.lr_log.proofs.Entries.{earlier-call}
use Rattle.lr_log.proofs.Searches.{ascends-parted}
use Rattle.lr_log.proofs.calls.count_of_earlier.Goals as goal

pub returns-clause-point : goal.returns-clause-point
returns-clause-point c =
    IsPartitionPoint-from_clause (λ e. cid_before e.cid c.args.cid) _ _ c.partition_point.ensures.partitioned
    (ascends-parted entry_before (λ e. cid_before e.cid c.args.cid)
    (λ x y first second. earlier-call c.args.cid x y first second)
    c.args.entries.now c.requires) (λ a r q k. search rules)
