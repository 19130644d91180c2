use Rattle.std.proofs.Common.{◌≡◌, ◌++◌, flat_map, drop, take, true}
use Rattle.std.specs.List.{list_all}
use Rattle.lr_codec.specs.Lists.{item_bytes, merged}
use Rattle.lr_codec.specs.Ranges.{is_own_update}
use Rattle.lr_codec.proofs.writing_log.put_items.Given as goal

-- what is put so far, with all that is left behind it, is what is to be put; and its operations are the service's
abbrev pub invariant-loop-update : goal.invariant-loop-update
invariant-loop-update g l = record {
  put : l.out ++ flat_map (item_bytes g.S.Service.meaning)
      (merged (drop l.update-index l.updates) (drop l.from l.acks))
      ≡ l.initial.out ++ flat_map (item_bytes g.S.Service.meaning) (merged l.updates l.acks);
  real : list_all (is_own_update g.S.Service.meaning) (take l.update-index l.updates) ≡ true;
}
