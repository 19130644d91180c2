use Rattle.std.proofs.Common.{◌≡◌, ◌++◌, flat_map, drop}
use Rattle.lr_codec.specs.Lists.{item_bytes, only_acks}
use Rattle.lr_codec.proofs.writing_log.put_acks.Given as goal

-- what is put so far, with all that is left behind it, is what is to be put
abbrev pub invariant-loop-place : goal.invariant-loop-place
invariant-loop-place g l =
    l.out ++ flat_map (item_bytes g.S.Service.meaning) (only_acks (drop l.place l.acks))
    ≡ l.initial.out ++ flat_map (item_bytes g.S.Service.meaning) (only_acks (drop l.fn.from l.acks))
