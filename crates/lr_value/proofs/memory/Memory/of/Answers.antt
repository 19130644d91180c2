use Rattle.std.proofs.Common.{◌≡◌, List, take, ap, ◌∙◌, map, arith}
use Rattle.std.proofs.lemmas.List.{take_all}
use Rattle.lr_value.specs.Waiting.{behind}
use Rattle.lr_value.proofs.Numbered.{spots-wait}
use Rattle.lr_value.proofs.memory.Memory.of.Goals as goal

pub invariant_of-result : goal.invariant_of-result
invariant_of-result g c =
    let whole : take c.loop-update.update-index c.args.waiting.now ≡ c.args.waiting.now =
    take_all c.loop-update.update-index c.args.waiting.now (omega arith) in
    spots-wait c.args.seen.now c.copy.result (behind c.args.waiting.now) c.loop-update.waits.items c.requires.in_order
    c.requires.received c.copy.ensures
    (c.loop-update.invariant ∙ ap (λ (l : List _). map (λ u. u.spot) (behind l)) whole)
