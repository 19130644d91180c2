-- Orders of updates: which updates they have, which of two stands before the other, and the value that they give.
-- The contract of `agreeing_orders_give_one_value` cites these. In the examples `a` and `b` are additions to one
-- counter under two keys.
use Rattle.std.specs.Prelude.{◌≡◌, ◌≢◌, ◌⊎◌, true, List, [], ◌∷◌}
use Rattle.lr_base.specs.Kinds.{IsUpdate, are_ordered}
use Rattle.lr_base.specs.Meaning.{Meaning}

-- an update with a key that tells it from the others, since two updates may have one operation
-- for example: `add x 3` under `0.1`
pub record Keyed (Key Op : Type 0) : Type 0 where
  pub key : Key
  pub op : Op

-- x is in the list
-- for example: `b` of `a`, `b`
abbrev pub IsAmong : {A : Type 0} → A → List A → Type 0
IsAmong x [] = ⊥
IsAmong x (first ∷ rest) = (x ≡ first) ⊎ IsAmong x rest

-- a stands before b in the list
-- for example: `a` before `b` in `a`, `b`
abbrev pub IsBefore : {A : Type 0} → A → A → List A → Type 0
IsBefore a b [] = ⊥
IsBefore a b (first ∷ rest) = ((a ≡ first) × IsAmong b rest) ⊎ IsBefore a b rest

-- no key stands twice in the list
-- for example: not in `a`, `b`, `a`
abbrev pub HasEachOnce : {Key Op : Type 0} → List (Keyed Key Op) → Type 0
HasEachOnce [] = Unit {0}
HasEachOnce {Key} {Op} (first ∷ rest) = ((u : Keyed Key Op) → IsAmong u rest → u.key ≢ first.key) × HasEachOnce rest

-- two orders have the same updates: each has none twice, and what is among one is among the other
-- for example: `a`, `b` and `b`, `a`
pub record HasSameUpdates {Key Op : Type 0} (one other : List (Keyed Key Op)) : Type 0 where
  pub once : HasEachOnce one
  pub other_once : HasEachOnce other
  pub into : (u : Keyed Key Op) → IsAmong u one → IsAmong u other
  pub back : (u : Keyed Key Op) → IsAmong u other → IsAmong u one

-- the value after these updates, the first of the list applied first
-- for example: after `a`, `b`: `b` applied to what `a` leaves
abbrev pub apply_all : {Value Op Key : Type 0} → Meaning Value Op → Value → List (Keyed Key Op) → Value
apply_all m v [] = v
apply_all m v (first ∷ rest) = apply_all m (m.apply v first.op) rest

-- it makes no difference which of two operations comes first
-- for example: two additions
abbrev pub Commute : {Value Op : Type 0} → Meaning Value Op → Op → Op → Type 0
Commute {Value} m a b = (v : Value) → m.apply (m.apply v a) b ≡ m.apply (m.apply v b) a

-- two updates commute of which one order has the first before the second, and the other the second before the first
abbrev pub OppositesCommute : {Value Op Key : Type 0} → Meaning Value Op → List (Keyed Key Op) → List (Keyed Key Op)
    → Type 0
OppositesCommute {Value} {Op} {Key} m one other =
    (a b : Keyed Key Op) → IsBefore a b one → IsBefore b a other → Commute m a.op b.op

-- the other order agrees on each two updates whose kinds need one order
-- for example: any two orders in which no kind is forced or immediate
abbrev pub AgreeWhereOrdered : {Value Op Key : Type 0} → Meaning Value Op → List (Keyed Key Op) → List (Keyed Key Op)
    → Type 0
AgreeWhereOrdered {Value} {Op} {Key} m one other =
    (a b : Keyed Key Op) → are_ordered (m.kind a.op) (m.kind b.op) ≡ true → IsBefore a b one → IsBefore a b other

-- each operation of the order is an update
-- for example: not with `read x` among them
abbrev pub AreUpdates : {Value Op Key : Type 0} → Meaning Value Op → List (Keyed Key Op) → Type 0
AreUpdates {Value} {Op} {Key} m order = (u : Keyed Key Op) → IsAmong u order → IsUpdate (m.kind u.op)
