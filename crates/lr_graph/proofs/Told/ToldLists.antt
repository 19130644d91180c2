-- What is told of lists that grow by one, and of what is found in them.
use Rattle.std.proofs.Common.{◌≡◌, ℕ, ◌+◌, ◌<◌, ◌≤◌, Bool, true, false, cond, not, ◌&&◌, ◌||◌, List, [], ◌∷◌, ◌++◌, Option, Some, None, length, map, take, take-suc, get_or, refl, sym, ap, ◌∙◌, add-one, true≢false}
use Rattle.std.proofs.lemmas.List.{take_all}
use Rattle.std.proofs.lemmas.List.Folds.{list_all-map}
use Rattle.std.specs.List.{find, list_all, list_any}
use Rattle.lr_base.specs.declared.names.Spot.{Spot}
use Rattle.lr_graph.specs.Graph.{Acceptance, below_of, is_within, ready}
use Rattle.lr_graph.specs.Sets.{SpotSet, nothing, only, same_spot, ◌∪◌}
use Rattle.lr_graph.specs.Told.{acceptance_of, is_ready_among, set_of}
use Rattle.lr_graph.specs.declared.facts.items.AcceptedUpdate.{AcceptedUpdate}

either-more : (a b c : Bool) → (a || (b || c)) ≡ ((a || b) || c)
either-more true b c = refl
either-more false b c = refl

either-last : (a : Bool) → (a || false) ≡ a
either-last true = refl
either-last false = refl

both-last : (a : Bool) → (a && true) ≡ a
both-last true = refl
both-last false = refl

both-none : (a : Bool) → (a && false) ≡ false
both-none true = refl
both-none false = refl

-- a test finds one of several, or the last
pub any-more : {X : Type 0} (p : X → Bool) (xs : List X) (x : X) → list_any p (xs ++ x ∷ []) ≡ (list_any p xs || p x)
any-more p [] x = either-last (p x)
any-more p (y ∷ xs) x = ap (λ b. p y || b) (any-more p xs x) ∙ either-more (p y) (list_any p xs) (p x)

-- and so is one more of what is told
map-more : {X Y : Type 0} (f : X → Y) (xs : List X) (x : X) → map f (xs ++ x ∷ []) ≡ map f xs ++ f x ∷ []
map-more f [] x = refl
map-more f (y ∷ xs) x = ap (λ ys. f y ∷ ys) (map-more f xs x)

-- a set that had some spots of a list put in gains the next one
pub set_of-more : (other : List Spot) (k : ℕ) (d : Spot) (first set new : List Spot) → k < length other
    → set_of set ≡ set_of first ∪ set_of (take k other) → set_of new ≡ set_of set ∪ only (get_or other k d)
    → set_of new ≡ set_of first ∪ set_of (take (k + 1) other)
set_of-more other k d first set new within before gained =
    rw (add-one k, take-suc other k d within) (gained ∙ ap (λ s. s ∪ only (get_or other k d)) before ∙ (λ i spot. at spot i))
  where
    at : (spot : Spot) → ((set_of first spot || set_of (take k other) spot) || same_spot spot (get_or other k d)) ≡ (set_of first spot || set_of (take k other ++ get_or other k d ∷ []) spot)
    at spot = sym (ap (λ b. set_of first spot || b) (any-more (same_spot spot) (take k other) (get_or other k d)) ∙ either-more (set_of first spot) (set_of (take k other) spot) (same_spot spot (get_or other k d)))

-- those of some acceptances that are received with all their causes
abbrev pub ready_of_some : {Op : Type 0} → List (Acceptance Op) → List (Acceptance Op) → SpotSet → SpotSet
ready_of_some accepted some received spot = list_any (λ a. same_spot spot a.spot && is_ready_among accepted received a) some

module _ {Op : Type 0} where
  -- a test of what is told is one of what it tells
  pub within-told : (accepted : List (AcceptedUpdate Op)) (x y : SpotSet) → list_all (λ a. not (x a.spot) || y a.spot) accepted ≡ is_within (map acceptance_of accepted) x y
  within-told accepted x y = sym (list_all-map (λ (a : Acceptance Op). not (x a.spot) || y a.spot) acceptance_of accepted)

  -- the acceptance that is found at a spot tells what is below it
  pub below_of-found : (accepted : List (AcceptedUpdate Op)) (spot : Spot) (a : AcceptedUpdate Op) → find (λ a. same_spot spot a.spot) accepted ≡ Some a → set_of a.below ≡ below_of (map acceptance_of accepted) spot
  below_of-found [] spot a found = absurd (some≢none found)
    where
      is_some : Option (AcceptedUpdate Op) → Bool
      is_some None = false
      is_some (Some b) = true

      some≢none : None ≡ Some a → ⊥
      some≢none e = true≢false (sym (ap is_some e))
  below_of-found (b ∷ accepted) spot a found = go (same_spot spot b.spot) found (below_of-found accepted spot a)
    where
      or_b : Option (AcceptedUpdate Op) → AcceptedUpdate Op
      or_b None = b
      or_b (Some c) = c

      go : (t : Bool) → cond t (Some b) (find (λ a. same_spot spot a.spot) accepted) ≡ Some a
          → (find (λ a. same_spot spot a.spot) accepted ≡ Some a → set_of a.below ≡ below_of (map acceptance_of accepted) spot)
          → set_of a.below ≡ cond t (set_of b.below) (below_of (map acceptance_of accepted) spot)
      go true here rest = ap (λ o. set_of (or_b o).below) (sym here)
      go false here rest = rest here

  -- where none is found, nothing is
  pub below_of-none : (accepted : List (AcceptedUpdate Op)) (spot : Spot) → find (λ a. same_spot spot a.spot) accepted ≡ None → nothing ≡ below_of (map acceptance_of accepted) spot
  below_of-none [] spot none = refl
  below_of-none (b ∷ accepted) spot none = go (same_spot spot b.spot) none (below_of-none accepted spot)
    where
      is_some : Option (AcceptedUpdate Op) → Bool
      is_some None = false
      is_some (Some b) = true

      go : (t : Bool) → cond t (Some b) (find (λ a. same_spot spot a.spot) accepted) ≡ None
          → (find (λ a. same_spot spot a.spot) accepted ≡ None → nothing ≡ below_of (map acceptance_of accepted) spot)
          → nothing ≡ cond t (set_of b.below) (below_of (map acceptance_of accepted) spot)
      go true here rest = absurd (true≢false (ap is_some here))
      go false here rest = rest here

  -- of one more acceptance the test says whether it is among what is ready
  ready-next : (all : List (Acceptance Op)) (accepted : List (AcceptedUpdate Op)) (k : ℕ) (a : AcceptedUpdate Op) (received : SpotSet) (spot : Spot) → k < length accepted → a ≡ get_or accepted k a
      → ready_of_some all (map acceptance_of (take (k + 1) accepted)) received spot ≡ (ready_of_some all (map acceptance_of (take k accepted)) received spot || (same_spot spot a.spot && is_ready_among all received (acceptance_of a)))
  ready-next all accepted k a received spot within is =
      rw (add-one k, take-suc accepted k a within, ← is, map-more acceptance_of (take k accepted) a)
      (any-more (λ (a : Acceptance Op). same_spot spot a.spot && is_ready_among all received a) (map acceptance_of (take k accepted)) (acceptance_of a))

  -- a ready acceptance is put in
  pub ready-taken : (all : List (Acceptance Op)) (accepted : List (AcceptedUpdate Op)) (k : ℕ) (a : AcceptedUpdate Op) (received : SpotSet) (spots new : List Spot) → k < length accepted → a ≡ get_or accepted k a
      → is_ready_among all received (acceptance_of a) ≡ true → set_of spots ≡ ready_of_some all (map acceptance_of (take k accepted)) received → set_of new ≡ set_of spots ∪ only a.spot
      → set_of new ≡ ready_of_some all (map acceptance_of (take (k + 1) accepted)) received
  ready-taken all accepted k a received spots new within is here before gained =
      gained ∙ ap (λ s. s ∪ only a.spot) before ∙ (λ i spot. at spot i)
    where
      at : (spot : Spot) → (ready_of_some all (map acceptance_of (take k accepted)) received spot || same_spot spot a.spot) ≡ ready_of_some all (map acceptance_of (take (k + 1) accepted)) received spot
      at spot = ap (λ b. ready_of_some all (map acceptance_of (take k accepted)) received spot || b) (sym (ap (λ b. same_spot spot a.spot && b) here ∙ both-last (same_spot spot a.spot))) ∙ sym (ready-next all accepted k a received spot within is)

  -- one that isn't ready is left out
  pub ready-passed : (all : List (Acceptance Op)) (accepted : List (AcceptedUpdate Op)) (k : ℕ) (a : AcceptedUpdate Op) (received : SpotSet) (spots : List Spot) → k < length accepted → a ≡ get_or accepted k a
      → is_ready_among all received (acceptance_of a) ≡ false → set_of spots ≡ ready_of_some all (map acceptance_of (take k accepted)) received
      → set_of spots ≡ ready_of_some all (map acceptance_of (take (k + 1) accepted)) received
  ready-passed all accepted k a received spots within is here before =
      before ∙ (λ i spot. at spot i)
    where
      at : (spot : Spot) → ready_of_some all (map acceptance_of (take k accepted)) received spot ≡ ready_of_some all (map acceptance_of (take (k + 1) accepted)) received spot
      at spot = sym (ready-next all accepted k a received spot within is
          ∙ ap (λ b. ready_of_some all (map acceptance_of (take k accepted)) received spot || b) (ap (λ b. same_spot spot a.spot && b) here ∙ both-none (same_spot spot a.spot))
          ∙ either-last (ready_of_some all (map acceptance_of (take k accepted)) received spot))

  -- when all were looked at, the set is what is ready
  pub all-ready : (accepted : List (AcceptedUpdate Op)) (k : ℕ) (received : SpotSet) (spots : List Spot) → length accepted ≤ k
      → set_of spots ≡ ready_of_some (map acceptance_of accepted) (map acceptance_of (take k accepted)) received → set_of spots ≡ ready (map acceptance_of accepted) received
  all-ready accepted k received spots past before =
      before ∙ ap (λ (some : List (AcceptedUpdate Op)). ready_of_some (map acceptance_of accepted) (map acceptance_of some) received) (take_all k accepted past)
