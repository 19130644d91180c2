-- To be believed: the graph of updates: the facts that a history gives, and what follows from them.
use Rattle.std.specs.Prelude.{ℕ, zero, suc, ◌==◌, Bool, ◌&&◌, ◌||◌, not, if◌then◌else◌}
use Rattle.std.specs.Prelude.{List, [], ◌∷◌, ◌++◌, map, Option, Some, None, is_some}
use Rattle.std.specs.List.{list_any, list_all}
use Rattle.lr_base.specs.Ascending.{is_before, same_cid}
use Rattle.lr_base.specs.Insertion.{insert_by}
use Rattle.lr_base.specs.Meaning.{Meaning}
use Rattle.lr_base.specs.declared.messages.LogAck.{LogAck}
use Rattle.lr_base.specs.declared.names.Actor.{Actor}
use Rattle.lr_base.specs.declared.names.Cid.{Cid}
use Rattle.lr_base.specs.declared.names.Spot.{Spot}
use Rattle.lr_graph.specs.Sets.{SpotSet, same_spot, nothing, how_many, lesser, insert_call, insert_spot}

-- an update that was accepted at a spot, with its causes and itself, which never change
-- for example: `0.1` at `0:1`, `add x 3`, below it `0:1`
pub record Acceptance (Op : Type 0) : Type 0 where
  pub spot : Spot
  pub cid : Cid
  pub op : Op
  pub below : SpotSet

-- a call, with the updates that its front end's label named when it was made
-- for example: `0.2`, `read x`, `0:1`
pub record LabelledCall (Op : Type 0) : Type 0 where
  pub cid : Cid
  pub op : Op
  pub label : SpotSet

-- what a message carries
pub data Carried (Op : Type 0) : Type 0 where
  -- a copy of an update's call, with the time at which it was made
  -- for example: `update 0.1 at 5`
  UpdateCopy : (call : LabelledCall Op) (time : ℕ) → Carried Op
  -- a copy of a query's call
  -- for example: `query 0.2`
  QueryCopy : (call : LabelledCall Op) → Carried Op
  -- an acknowledgement of an update that was answered, with the time at which it was made
  -- for example: `ack 0.1 at 7`
  AckCopy : (cid : Cid) (time : ℕ) → Carried Op
  -- the reply to an update, with the updates that it stands for: the acceptance and its causes
  -- for example: `done 0.1 as 0:1` stands for `0:1`
  DoneReply : (cid : Cid) (names : SpotSet) → Carried Op
  -- the reply to a query, with the updates that it stands for: all that were ready
  -- for example: the answer to `0.2` stands for `0:1`
  AnswerReply : (cid : Cid) (names : SpotSet) → Carried Op
  -- gossip, with the items that its sender had received
  -- for example: `gossip 0 1` after the addition carries `0:1`
  GossipOf : (names : SpotSet) → Carried Op
  -- nothing: what would be sent of a call that isn't open; no rule here sends it
  Blank : Carried Op

-- a message that was sent
-- for example: 1, `c0`, `r0`, a copy of `0.1`
pub record SentMessage (Op : Type 0) : Type 0 where
  pub number : ℕ
  pub from : Actor
  pub to : Actor
  pub what : Carried Op

-- a front end: what its label names, how many calls it made, its clock, its open call, and the last update that was
-- answered
-- for example: nothing, 1, 5, `0.1`, none after the first call
pub record FrontFacts (Op : Type 0) : Type 0 where
  pub label : SpotSet
  pub calls : ℕ
  pub clock : ℕ
  pub open_call : Option (LabelledCall Op)
  pub answered : Option Cid

-- an executed call, and the spot that is kept of it
-- for example: `0.1`, `0:1`
pub record Kept : Type 0 where
  pub cid : Cid
  pub spot : Spot

-- the facts of a history: acceptances, acknowledgements that were noted, and messages have the newest first, the rest
-- is by replica or by client; `told i k` is what replica k told replica i that it had received
-- for example: see `first_facts`
pub record Facts (Op : Type 0) : Type 0 where
  pub accepted : List (Acceptance Op)
  pub acks : List LogAck
  pub messages : List (SentMessage Op)
  pub received : ℕ → SpotSet
  pub told : ℕ → ℕ → SpotSet
  pub kept : ℕ → List Kept
  pub held : ℕ → List (LabelledCall Op)
  pub clock : ℕ → ℕ
  pub front : ℕ → FrontFacts Op

-- the facts before any event
abbrev pub first_facts : {Op : Type 0} → Facts Op
first_facts = record {
  accepted = [];
  acks = [];
  messages = [];
  received = λ i. nothing;
  told = λ i k. nothing;
  kept = λ i. [];
  held = λ i. [];
  clock = λ i. 0;
  front = λ f. record { label = nothing; calls = 0; clock = 0; open_call = None; answered = None };
}

-- whether each acceptance of one set is in the other
-- for example: `nothing` is within each set
abbrev pub is_within : {Op : Type 0} → List (Acceptance Op) → SpotSet → SpotSet → Bool
is_within accepted x y = list_all (λ a. not (x a.spot) || y a.spot) accepted

-- the acceptances that are received with all their causes
-- for example: `1:1` with the cause `0:1` isn't ready where only `1:1` is received
abbrev pub ready : {Op : Type 0} → List (Acceptance Op) → SpotSet → SpotSet
ready accepted received spot =
    list_any (λ a. same_spot spot a.spot && (received a.spot && is_within accepted a.below received)) accepted

-- the causes of the acceptance at this spot, and itself
-- for example: `0:1` of `0:1` after the addition
abbrev pub below_of : {Op : Type 0} → List (Acceptance Op) → Spot → SpotSet
below_of [] spot = nothing
below_of (a ∷ older) spot = if same_spot spot a.spot then a.below else below_of older spot

-- whether an acknowledgement of this call is in the set
-- for example: that of `0.1` in `only 0:2`
abbrev pub has_ack : List LogAck → SpotSet → Cid → Bool
has_ack acks set cid = list_any (λ a. set a.spot && same_cid cid a.cid) acks

-- whether an acceptance of this call is in the set
-- for example: `0.1` in `only 0:1`
abbrev pub has_call : {Op : Type 0} → List (Acceptance Op) → SpotSet → Cid → Bool
has_call accepted set cid = list_any (λ a. set a.spot && same_cid cid a.cid) accepted

-- the value after the acceptances of a set: each is applied in the order of making,
-- but for those of a call that was applied before
-- for example: x is 3 of `only 0:1`, and still 3 where `0.1` was accepted at `1:1` too
abbrev pub value : {Value Op : Type 0} → Meaning Value Op → List (Acceptance Op) → SpotSet → Value
value m [] set = m.start
value m (a ∷ older) set =
    if set a.spot && not (has_call older set a.cid) then m.apply (value m older set) a.op else value m older set

-- the spots of all items: acceptances and acknowledgements share the numbers of their places
-- for example: `0:1` of the addition, and `0:2` of its acknowledgement
abbrev pub item_spots : {Op : Type 0} → Facts Op → List Spot
item_spots w = map (λ a. a.spot) w.accepted ++ map (λ a. a.spot) w.acks

-- how many items there are at a place
-- for example: 1 at place 0
abbrev pub made : List Spot → ℕ → ℕ
made spots place = how_many (λ s. s.place == place) spots

-- how many items of a set there are
-- for example: 1 of `only 0:1`, 0 of `nothing`
abbrev pub size_of : List Spot → SpotSet → ℕ
size_of spots set = how_many set spots

-- how many items of a set there are at each of the first places
-- for example: `[1, 0]` for two places
abbrev pub counts : List Spot → SpotSet → ℕ → List ℕ
counts spots set zero = []
counts spots set (suc place) = counts spots set place ++ how_many (λ s. (s.place == place) && set s) spots ∷ []

-- the acknowledgements that pass a test, in the order of their spots
-- for example: that of `0.1` at `0:2`
abbrev pub acks_of : (LogAck → Bool) → List LogAck → List LogAck
acks_of test [] = []
acks_of test (a ∷ older) =
    if test a then insert_by (λ x y. is_before x.spot y.spot) a (acks_of test older) else acks_of test older

-- the spots of a set, ascending
-- for example: `0:1, 0:2, 1:1`
abbrev pub spots_of : {Op : Type 0} → List (Acceptance Op) → SpotSet → List Spot
spots_of [] set = []
spots_of (a ∷ older) set = if set a.spot then insert_spot a.spot (spots_of older set) else spots_of older set

-- the calls of a set, ascending, each once
-- for example: `0.1`, though it is at `0:1` and at `1:1`
abbrev pub calls_of : {Op : Type 0} → List (Acceptance Op) → SpotSet → List Cid
calls_of [] set = []
calls_of (a ∷ older) set = if set a.spot then insert_call a.cid (calls_of older set) else calls_of older set

-- the least spot that a set has of a call
-- for example: `0:1` of `0.1` at `0:1` and `1:1`
abbrev pub least_spot : {Op : Type 0} → List (Acceptance Op) → SpotSet → Cid → Option Spot
least_spot [] set cid = None
least_spot (a ∷ older) set cid =
    if set a.spot && same_cid cid a.cid
    then lesser a.spot (least_spot older set cid)
    else least_spot older set cid

-- the spot that is kept of a call
-- for example: `0:1` of `0.1`, none of `0.9`
abbrev pub kept_spot : List Kept → Cid → Option Spot
kept_spot [] cid = None
kept_spot (k ∷ kept) cid = if same_cid cid k.cid then Some k.spot else kept_spot kept cid

-- keeping a spot of a call, if there is one and none is kept
-- for example: a known call changes nothing
abbrev pub keep_one : Cid → Option Spot → List Kept → Bool → List Kept
keep_one cid None kept known = kept
keep_one cid (Some spot) kept known = if known then kept else kept ++ record { cid = cid; spot = spot } ∷ []

-- of each call of a set of which no spot is kept, the least one is kept from now on
-- for example: `0.1` gets ready, and `0:1` is kept
abbrev pub keep_new : {Op : Type 0} → List (Acceptance Op) → SpotSet → List (Acceptance Op) → List Kept → List Kept
keep_new all set [] kept = kept
keep_new all set (a ∷ older) kept =
    let before = keep_new all set older kept in
    keep_one a.cid (least_spot all set a.cid) before (is_some (kept_spot before a.cid))
