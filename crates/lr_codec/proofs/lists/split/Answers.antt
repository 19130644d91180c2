use Rattle.std.proofs.Common.{◌++◌, ◌∷◌, [], ◌∙◌, ap}
use Rattle.lr_codec.specs.Lists.{acks_of, updates_of}
use Rattle.lr_codec.proofs.Split.{acks-append, updates-append}
use Rattle.lr_codec.proofs.lists.split.Goals as goal

pub loop-item-preserved : goal.loop-item-preserved
loop-item-preserved g c =
    let one = c.in-Some.item ∷ [] in
    record {
      updates = c.in_ok-add_item.ensures.updates ∙ ap (λ l. l ++ updates_of one) c.loop-item.invariant.updates
          ∙ updates-append c.loop-item.yielded one;
      acks = c.in_ok-add_item.ensures.acks ∙ ap (λ l. l ++ acks_of one) c.loop-item.invariant.acks
          ∙ acks-append c.loop-item.yielded one;
    }
