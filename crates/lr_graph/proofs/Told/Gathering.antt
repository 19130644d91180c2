-- How the told facts change with the lists that tell them.
use Rattle.std.proofs.Common.{◌≡◌, ℕ, Bool, true, false, cond, ◌==◌, List, [], ◌∷◌, Option, Some, refl, ap, ◌∙◌, map}
use Rattle.std.specs.List.{find}
use Rattle.std.specs.Option.{option_map}
use Rattle.lr_base.specs.declared.names.Spot.{Spot}
use Rattle.lr_graph.specs.Graph.{FrontFacts}
use Rattle.lr_graph.specs.Sets.{SpotSet, put_at}
use Rattle.lr_graph.specs.Tables.{entry_at}
use Rattle.lr_graph.specs.Told.{front_of, front_or_first, sent_message_of, set_of, set_or_nothing, gathered_facts}
use Rattle.lr_graph.specs.declared.facts.entry.Entry.{Entry}
use Rattle.lr_graph.specs.declared.facts.items.FrontNow.{FrontNow}
use Rattle.lr_graph.specs.declared.facts.items.Gathered.{Gathered}
use Rattle.lr_graph.specs.declared.facts.items.SentCopy.{SentCopy}

-- what is read of a table goes with what is put into it
read-put : {T X : Type 0} (read : Option T → X) (key : ℕ) (value : T) (table : ℕ → Option T) (new : ℕ → Option T) → new ≡ put_at key (Some value) table → (λ j. read (new j)) ≡ put_at key (read (Some value)) (λ j. read (table j))
read-put read key value table new put = λ i j. at j i
  where
    split : (t : Bool) (o : Option _) → read (cond t (Some value) o) ≡ cond t (read (Some value)) (read o)
    split true o = refl
    split false o = refl

    at : (j : ℕ) → read (new j) ≡ cond (j == key) (read (Some value)) (read (table j))
    at j = ap (λ t. read (t j)) put ∙ split (j == key) (table j)

module _ {Op : Type 0} where
  -- a replica received other spots
  pub told-received : (g : Gathered Op) (i : ℕ) (spots : List Spot) (new : List (Entry (List Spot))) → entry_at new ≡ put_at i (Some spots) (entry_at g.received)
      → gathered_facts (record g { received = new }) ≡ record (gathered_facts g) { received = put_at i (set_of spots) (gathered_facts g).received }
  told-received g i spots new put = ap (λ (received : ℕ → SpotSet). record (gathered_facts g) { received = received }) (read-put set_or_nothing i spots (entry_at g.received) (entry_at new) put)

  -- a client has another front end
  pub told-front : (g : Gathered Op) (client : ℕ) (front : FrontNow Op) (new : List (Entry (FrontNow Op))) → entry_at new ≡ put_at client (Some front) (entry_at g.fronts)
      → gathered_facts (record g { fronts = new }) ≡ record (gathered_facts g) { front = put_at client (front_of front) (gathered_facts g).front }
  told-front g client front new put = ap (λ (fronts : ℕ → FrontFacts Op). record (gathered_facts g) { front = fronts }) (read-put front_or_first client front (entry_at g.fronts) (entry_at new) put)

  -- the message of a number is told by the one of this number
  pub find-told : (number : ℕ) (messages : List (SentCopy Op)) → option_map sent_message_of (find (λ x. x.number == number) messages) ≡ find (λ x. x.number == number) (map sent_message_of messages)
  find-told number [] = refl
  find-told number (x ∷ messages) = split (x.number == number) (find-told number messages)
    where
      split : (t : Bool) → option_map sent_message_of (find (λ x. x.number == number) messages) ≡ find (λ x. x.number == number) (map sent_message_of messages)
          → option_map sent_message_of (cond t (Some x) (find (λ x. x.number == number) messages)) ≡ cond t (Some (sent_message_of x)) (find (λ x. x.number == number) (map sent_message_of messages))
      split true rest = refl
      split false rest = rest
