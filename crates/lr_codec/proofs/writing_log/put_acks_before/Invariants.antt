use Rattle.std.proofs.Common.{◌≡◌, ◌++◌, List, flat_map, drop}
use Rattle.lr_base.specs.declared.messages.LogAck.{LogAck}
use Rattle.lr_codec.specs.declared.items.Item.{Item}
use Rattle.lr_codec.specs.Lists.{item_bytes, placed}
use Rattle.lr_codec.proofs.writing_log.put_acks_before.Given as goal

-- what is put so far, with all that is left behind it, is what is to be put
abbrev pub invariant-loop-place : goal.invariant-loop-place
invariant-loop-place g l = (behind : List LogAck → List (Item _))
    → l.out ++ flat_map (item_bytes g.S.Service.meaning)
    (placed l.update (drop l.place l.acks) behind)
    ≡ l.initial.out ++ flat_map (item_bytes g.S.Service.meaning)
    (placed l.update (drop l.fn.from l.acks) behind)
