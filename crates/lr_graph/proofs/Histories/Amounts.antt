-- How many things a table's lists have together, and what holds of all that is read from acceptances.
use Rattle.std.proofs.Common.{◌≡◌, ℕ, zero, suc, ◌+◌, ◌<◌, ◌≤◌, Bool, true, false, cond, ◌&&◌, ◌⊎◌, inl, inr}
use Rattle.std.proofs.Common.{List, [], ◌∷◌, ◌++◌, length, map, Option, Some, None, is_some, refl, ap, ◌∙◌, arith}
use Rattle.std.proofs.lemmas.List.{length-append, length-map}
use Rattle.lr_base.specs.Ascending.{cid_before, is_before, same_cid}
use Rattle.lr_base.specs.InsertionLaws.{each-inserted}
use Rattle.lr_base.specs.declared.names.Cid.{Cid}
use Rattle.lr_base.specs.declared.names.Spot.{Spot}
use Rattle.lr_graph.specs.Closed.{Each}
use Rattle.lr_graph.specs.Graph.{Acceptance, Facts, Kept, calls_of, counts, item_spots, keep_new, keep_one, kept_spot, least_spot, spots_of}
use Rattle.lr_graph.specs.Sets.{SpotSet, how_many, insert_call, insert_spot, lesser, put_at}
use Rattle.lr_graph.proofs.Lists.Members.{each-append}
use Rattle.lr_graph.proofs.Lists.Tests.{equal-or-not, le-or-lt}
use Rattle.lr_graph.proofs.Replicas.Stepping.{put-other, put-same}

-- ---- tables

-- how many things the first so many lists of a table have together
abbrev pub amount : {A : Type 0} → ℕ → (ℕ → List A) → ℕ
amount zero table = 0
amount (suc n) table = length (table n) + amount n table

-- an empty table has nothing
pub amount-empty : (A : Type 0) (n : ℕ) → amount {A = A} n (λ i. []) ≡ 0
amount-empty A zero = refl
amount-empty A (suc n) = let rest = amount-empty A n in omega arith

module _ {A : Type 0} where
  -- a list behind the first ones doesn't count
  pub amount-past : (n i : ℕ) (xs : List A) (table : ℕ → List A) → n ≤ i
      → amount n (put_at i xs table) ≡ amount n table
  amount-past zero i xs table past = refl
  amount-past (suc n) i xs table past =
      let other = ap length (put-other i n xs table (λ e. omega arith)) in
      let rest = amount-past n i xs table (omega arith) in
      omega arith

  -- a list among the first ones counts in place of the one that was there
  pub amount-put : (n i : ℕ) (xs : List A) (table : ℕ → List A) → i < n
      → amount n (put_at i xs table) + length (table i) ≡ amount n table + length xs
  amount-put zero i xs table within = absurd (omega arith)
  amount-put (suc n) i xs table within = by_place (equal-or-not n i) (amount-put n i xs table)
    where
      by_place : (n ≡ i) ⊎ (n ≡ i → ⊥)
          → (i < n → amount n (put_at i xs table) + length (table i) ≡ amount n table + length xs)
          → amount (suc n) (put_at i xs table) + length (table i) ≡ amount (suc n) table + length xs
      by_place (inl e) before =
          let here = ap (λ j. length (put_at i xs table j)) e ∙ ap length (put-same i xs table) in
          let old = ap (λ j. length (table j)) e in
          let rest = amount-past n i xs table (omega arith) in
          omega arith
      by_place (inr apart) before =
          let other = ap length (put-other i n xs table apart) in
          let rest = before (omega arith) in
          omega arith

  -- more lists have no less
  pub amount-more : (n more : ℕ) (table : ℕ → List A) → n ≤ more → amount n table ≤ amount more table
  amount-more n zero table up = let none : n ≡ 0 = omega arith in rw none (omega arith)
  amount-more n (suc more) table up = by_place (equal-or-not n (suc more)) (amount-more n more table)
    where
      by_place : (n ≡ suc more) ⊎ (n ≡ suc more → ⊥) → (n ≤ more → amount n table ≤ amount more table)
          → amount n table ≤ amount (suc more) table
      by_place (inl e) rest = rw e (omega arith)
      by_place (inr apart) rest = let least = rest (omega arith) in omega arith

  -- one more thing in one list is at the most one more
  pub amount-one : (n i : ℕ) (x : A) (table : ℕ → List A)
      → amount n (put_at i (table i ++ x ∷ []) table) ≤ 1 + amount n table
  amount-one n i x table = by_place (le-or-lt n (suc i))
    where
      longer : length (table i ++ x ∷ []) ≡ length (table i) + 1
      longer = length-append (table i) (x ∷ [])

      by_place : (suc i ≤ n) ⊎ (n < suc i) → amount n (put_at i (table i ++ x ∷ []) table) ≤ 1 + amount n table
      by_place (inl within) =
          let put = amount-put n i (table i ++ x ∷ []) table (omega arith) in
          omega (arith, longer)
      by_place (inr past) =
          let put = amount-past n i (table i ++ x ∷ []) table (omega arith) in
          omega arith

-- what passes a test is no more than all
pub how_many-most : {A : Type 0} (test : A → Bool) (xs : List A) → how_many test xs ≤ length xs
how_many-most test [] = omega arith
how_many-most test (x ∷ xs) = at_head (test x) (how_many-most test xs)
  where
    at_head : (t : Bool) → how_many test xs ≤ length xs
        → cond t (suc (how_many test xs)) (how_many test xs) ≤ length (x ∷ xs)
    at_head true most = omega arith
    at_head false most = omega arith

-- ---- what is read from acceptances

-- P holds of what there is, if there is something
abbrev pub IfThere : {A : Type 0} → (A → Type 0) → Option A → Type 0
IfThere P None = Unit {0}
IfThere P (Some x) = P x

module _ (P : Spot → Type 0) where
  -- P holds of each spot that is kept
  abbrev pub HasKept : List Kept → Type 0
  HasKept kept = Each (λ k. P k.spot) kept

  pub kept_spot-is : (kept : List Kept) (cid : Cid) → HasKept kept → IfThere P (kept_spot kept cid)
  kept_spot-is [] cid h = tt
  kept_spot-is (k ∷ kept) cid h = at_head (same_cid cid k.cid) (kept_spot-is kept cid h.1)
    where
      at_head : (t : Bool) → IfThere P (kept_spot kept cid) → IfThere P (cond t (Some k.spot) (kept_spot kept cid))
      at_head true rest = h.0
      at_head false rest = rest

  keep_one-each : (cid : Cid) (o : Option Spot) (kept : List Kept) (known : Bool) → IfThere P o → HasKept kept
      → HasKept (keep_one cid o kept known)
  keep_one-each cid None kept known is h = h
  keep_one-each cid (Some spot) kept true is h = h
  keep_one-each cid (Some spot) kept false is h = each-append (λ k. P k.spot) kept _ h (is, tt)

-- what holds of numbers up to that of all items holds of each count
pub counts-each : (P : ℕ → Type 0) (l : List Spot) → ((n : ℕ) → n ≤ length l → P n)
    → (set : SpotSet) (places : ℕ) → Each P (counts l set places)
counts-each P l most set zero = tt
counts-each P l most set (suc place) =
    each-append P (counts l set place) _ (counts-each P l most set place) (most _ (how_many-most _ l), tt)

module _ {Op : Type 0} where
  -- how many items there are
  pub items-length : (w : Facts Op) → length (item_spots w) ≡ length w.accepted + length w.acks
  items-length w =
      let a = length-map w.accepted (λ a. a.spot) in
      let b = length-map w.acks (λ a. a.spot) in
      let both = length-append (map (λ a. a.spot) w.accepted) (map (λ a. a.spot) w.acks) in
      omega arith

  module _ (P : Spot → Type 0) where
    -- P holds of each acceptance's spot
    abbrev pub HasSpots : List (Acceptance Op) → Type 0
    HasSpots l = Each (λ a. P a.spot) l

    pub spots_of-each : (l : List (Acceptance Op)) (set : SpotSet) → HasSpots l → Each P (spots_of l set)
    spots_of-each [] set h = tt
    spots_of-each (a ∷ older) set h = at_head (set a.spot) (spots_of-each older set h.1)
      where
        at_head : (t : Bool) → Each P (spots_of older set)
            → Each P (cond t (insert_spot a.spot (spots_of older set)) (spots_of older set))
        at_head true rest = each-inserted (λ x y. false) is_before a.spot P (spots_of older set) h.0 rest
        at_head false rest = rest

    pub least_spot-is : (l : List (Acceptance Op)) (set : SpotSet) (cid : Cid) → HasSpots l
        → IfThere P (least_spot l set cid)
    least_spot-is [] set cid h = tt
    least_spot-is (a ∷ older) set cid h =
        at_head (set a.spot && same_cid cid a.cid) (least_spot older set cid) (least_spot-is older set cid h.1)
      where
        less : (b : Spot) → P b → (t : Bool) → P (cond t a.spot b)
        less b is true = h.0
        less b is false = is

        at_head : (t : Bool) (o : Option Spot) → IfThere P o → IfThere P (cond t (lesser a.spot o) o)
        at_head true None is = h.0
        at_head true (Some b) is = less b is (is_before a.spot b)
        at_head false o is = is

    pub keep_new-each : (all : List (Acceptance Op)) (set : SpotSet) (l : List (Acceptance Op)) (kept : List Kept)
        → HasSpots all → HasKept P kept → HasKept P (keep_new all set l kept)
    keep_new-each all set [] kept spots h = h
    keep_new-each all set (a ∷ older) kept spots h =
        keep_one-each P a.cid (least_spot all set a.cid) (keep_new all set older kept)
        (is_some (kept_spot (keep_new all set older kept) a.cid)) (least_spot-is all set a.cid spots)
        (keep_new-each all set older kept spots h)

  pub calls_of-each : (P : Cid → Type 0) (l : List (Acceptance Op)) (set : SpotSet) → Each (λ a. P a.cid) l
      → Each P (calls_of l set)
  calls_of-each P [] set h = tt
  calls_of-each P (a ∷ older) set h = at_head (set a.spot) (calls_of-each P older set h.1)
    where
      at_head : (t : Bool) → Each P (calls_of older set)
          → Each P (cond t (insert_call a.cid (calls_of older set)) (calls_of older set))
      at_head true rest = each-inserted same_cid cid_before a.cid P (calls_of older set) h.0 rest
      at_head false rest = rest
