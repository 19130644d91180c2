use Rattle.std.proofs.Common.{rules}
use Rattle.std.proofs.lemmas.List.Sorted.{IsPartitionPoint-from_clause}
use Rattle.lr_log.specs.Calls.{entry_before}
use Rattle.lr_log.proofs.Entries.{entry-trans}
use Rattle.lr_log.proofs.Searches.{ascends-parted}
use Rattle.lr_log.proofs.calls.count_before.Goals as goal

pub returns-clause-point : goal.returns-clause-point
returns-clause-point c =
    IsPartitionPoint-from_clause (λ e. entry_before e c.args.entry) _ _ c.partition_point.ensures.partitioned
    (ascends-parted entry_before (λ e. entry_before e c.args.entry)
    (λ x y first second. entry-trans x y c.args.entry first second)
    c.args.entries.now c.requires) (λ a r q k. search rules)
