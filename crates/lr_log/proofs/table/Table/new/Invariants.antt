use Rattle.std.proofs.Common.{◌≡◌, ◌+◌, replicate}
use Rattle.lr_log.proofs.table.Table.new.Given as goal

-- as many rows as turns were made
abbrev pub invariant-loop : goal.invariant-loop
invariant-loop l = l.rows.items ≡ replicate l.counter (replicate (l.config.replicas + 1) 0)
