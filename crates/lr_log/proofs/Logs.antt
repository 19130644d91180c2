-- A log of updates and acknowledgements stays ordered.
use Rattle.std.proofs.Common.{◌≡◌, List, [], ◌∷◌, length, map, take, refl, sym, ap, subst, ◌∙◌, arith}
use Rattle.std.specs.Borrow.{Bor}
use Rattle.lr_log.proofs.Taking.{length-mapped, take-whole}
use Rattle.lr_base.specs.declared.messages.LogAck.{LogAck}
use Rattle.lr_base.specs.declared.messages.LogUpdate.{LogUpdate}
use Rattle.lr_base.specs.Rules.{insert_ack, insert_acks, insert_update, insert_updates}
use Rattle.lr_log.specs.Items.{CanTake, IsFree, IsOrdered, Items, NoneAt, items_of}
use Rattle.lr_log.specs.Rows.{AreFree}
use Rattle.lr_log.specs.ItemLaws.{IsOrdered-ack, IsOrdered-all, IsOrdered-update, each-map}

-- a list is what it is made of
pub map-same : {X : Type 0} (xs : List X) → map (λ x. x) xs ≡ xs
map-same [] = refl
map-same (x ∷ xs) = ap (λ (l : List _). x ∷ l) (map-same xs)

module _ {O : Type 0} where
  -- with one more update
  pub ordered-update : (u : LogUpdate O) (log : Items O) (updates new : List (LogUpdate O)) (acks : List LogAck)
      → items_of updates acks ≡ log
      → IsFree log u.spot → IsOrdered (items_of updates acks) → new ≡ insert_update u updates → IsOrdered
      (items_of new acks)
  ordered-update u log updates new acks view free ordered put =
      subst (λ (l : List (LogUpdate O)). IsOrdered (items_of l acks)) (sym put)
      (IsOrdered-update u (items_of updates acks) (subst (λ (l : Items O). IsFree l u.spot) (sym view) free) ordered)

  -- with one more acknowledgement
  pub ordered-ack : (a : LogAck) (log : Items O) (updates : List (LogUpdate O)) (acks new : List LogAck)
      → items_of updates acks ≡ log
      → IsFree log a.spot → IsOrdered (items_of updates acks) → new ≡ insert_ack a acks → IsOrdered
      (items_of updates new)
  ordered-ack a log updates acks new view free ordered put =
      subst (λ (l : List LogAck). IsOrdered (items_of updates l)) (sym put)
      (IsOrdered-ack a (items_of updates acks) (subst (λ (l : Items O). IsFree l a.spot) (sym view) free) ordered)

  -- the other acknowledgements' spots are free among those of the log
  pub acks-free : (log : Items O) (updates ups : List (LogUpdate O)) (acks more : List LogAck)
      → items_of updates acks ≡ log
      → CanTake log (items_of ups more) → AreFree (λ (a : LogAck). a.spot) (map (λ a. a) more) acks
  acks-free log updates ups acks more view free =
      subst (λ (l : List LogAck). AreFree (λ (a : LogAck). a.spot) l acks) (sym (map-same more))
      (each-map (λ (a : LogAck). IsFree log a.spot) _ more
      (λ a is. subst (λ (l : Items O). NoneAt (λ (b : LogAck). b.spot) a.spot l.acks) (sym view) is.acks) free.acks)

  pub updates-free : (log : Items O) (updates ups : List (LogUpdate O)) (acks more : List LogAck)
      → items_of updates acks ≡ log
      → CanTake log (items_of ups more) → AreFree (λ (u : LogUpdate O). u.spot) ups updates
  updates-free log updates ups acks more view free =
      each-map (λ (u : LogUpdate O). IsFree log u.spot) _ ups
      (λ u is. subst (λ (l : Items O). NoneAt (λ (v : LogUpdate O). v.spot) u.spot l.updates) (sym view) is.updates)
      free.updates

  -- with all of the others
  pub ordered-all : (log : Items O) (updates new ups : List (LogUpdate O)) (acks new_acks more : List LogAck)
      → items_of updates acks ≡ log
      → CanTake log (items_of ups more) → IsOrdered (items_of updates acks) → IsOrdered (items_of ups more)
      → new ≡ insert_updates ups updates → new_acks ≡ insert_acks (map (λ a. a) more) acks → IsOrdered
      (items_of new new_acks)
  ordered-all log updates new ups acks new_acks more view free ordered own put put_acks =
      let acks_put : new_acks ≡ insert_acks more acks = put_acks ∙ ap (λ (l : List LogAck). insert_acks l acks)
      (map-same more) in
      subst (IsOrdered {Op = O}) (λ i. items_of (sym put i) (sym acks_put i))
      (IsOrdered-all (items_of updates acks) (items_of ups more) ordered own
      (subst (λ (l : Items O). CanTake l (items_of ups more)) (sym view) free))

  -- with what it had
  pub ordered-back : (updates new : List (LogUpdate O)) (acks new_acks : List LogAck)
      → IsOrdered (items_of updates acks)
      → new ≡ updates → new_acks ≡ acks → IsOrdered (items_of new new_acks)
  ordered-back updates new acks new_acks ordered same same_acks =
      subst (IsOrdered {Op = O}) (λ i. items_of (sym same i) (sym same_acks i)) ordered

  -- the updates are taken back
  pub taken-back : (log : Items O) (updates put new : List (LogUpdate O)) (references : List (Bor (LogUpdate O)))
      (acks more : List LogAck)
      → items_of updates acks ≡ log → CanTake log (items_of (map (λ u. u.now) references) more)
      → put ≡ insert_updates (map (λ u. u.now) references) updates
      → ((first : List (LogUpdate O)) → AreFree (λ (u : LogUpdate O). u.spot) (map (λ u. u.now) references) first
      → put ≡ insert_updates (take (length references) (map (λ u. u.now) references)) first → new ≡ first)
      → new ≡ updates
  taken-back log updates put new references acks more view free gained back =
      back updates (updates-free log updates (map (λ (u : Bor (LogUpdate O)). u.now) references) acks more view free)
      (gained ∙ ap (λ (l : List (LogUpdate O)). insert_updates l updates)
      (sym (take-whole (length references) (map (λ (u : Bor (LogUpdate O)). u.now) references)
      (omega (arith, length-mapped (λ (u : Bor (LogUpdate O)). u.now) references)))))
