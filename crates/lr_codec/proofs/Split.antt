-- Items of both kinds, one list behind another.
use Rattle.std.proofs.Common.{◌≡◌, List, [], ◌∷◌, ◌++◌, refl, ap}
use Rattle.lr_base.specs.declared.messages.LogAck.{LogAck}
use Rattle.lr_base.specs.declared.messages.LogUpdate.{LogUpdate}
use Rattle.lr_codec.specs.declared.items.Item.{Item}
use Rattle.lr_codec.specs.declared.items.Item.TheVariants.{Update, Ack}
use Rattle.lr_codec.specs.Lists.{acks_of, updates_of}

-- the updates of two lists of items
pub updates-append : {Op : Type 0} (a b : List (Item Op)) → updates_of a ++ updates_of b ≡ updates_of (a ++ b)
updates-append [] b = refl
updates-append (Update u ∷ a) b = ap (λ (l : List (LogUpdate _)). u ∷ l) (updates-append a b)
updates-append (Ack k ∷ a) b = updates-append a b

-- and the acknowledgements
pub acks-append : {Op : Type 0} (a b : List (Item Op)) → acks_of a ++ acks_of b ≡ acks_of (a ++ b)
acks-append [] b = refl
acks-append (Update u ∷ a) b = acks-append a b
acks-append (Ack k ∷ a) b = ap (λ (l : List LogAck). k ∷ l) (acks-append a b)
