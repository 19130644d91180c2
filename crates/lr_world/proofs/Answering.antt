-- The held queries of a replica: those that are answered, and those that stay.
use Rattle.std.proofs.Common.{◌≡◌, ◌+◌, ℕ, zero, suc, Bool, true, false, List, [], ◌∷◌, ◌++◌, length, Option, Some, None, refl, sym, ap, ◌∙◌, subst, ◌<◌, take, get_or}
use Rattle.std.proofs.lemmas.List.{take_more}
use Rattle.std.specs.Prelude.{filter}
use Rattle.lr_base.specs.Meaning.{Meaning}
use Rattle.lr_base.specs.Replicas.{ReplicaState}
use Rattle.lr_base.specs.Rules.{CausalState, pruned}
use Rattle.lr_base.specs.Stamps.{stamp_le}
use Rattle.lr_base.specs.Steps.{ack_taken, answer_act, held_acts}
use Rattle.lr_base.specs.declared.acts.Act.{Act}
use Rattle.lr_base.specs.declared.lr_service.Kind.{Kind}
use Rattle.lr_base.specs.declared.messages.Call.{Call}
use Rattle.lr_base.specs.declared.messages.LogAck.{LogAck}
use Rattle.lr_base.specs.declared.names.Cid.{Cid}
use Rattle.lr_base.specs.declared.names.Config.{Config}
use Rattle.lr_causal.specs.Causal.{NoneApplied}
use Rattle.lr_causal.specs.Savepoint.{IsPointOf, Saved}
use Rattle.lr_world.proofs.Everywhere.{each-filter, each-push}
use Rattle.lr_world.proofs.Outboxing.{after_acts-parts}
use Rattle.lr_world.specs.Outboxes.{Outboxed, after_acts}
use Rattle.lr_world.specs.Sound.{AllAsked, IsAsked}

module _ {Op : Type 0} (kind_of : Op → Kind) (config : Config) where
  -- those queries that pass a test
  pub AllAsked-filter : (test : Call Op → Bool) (calls : List (Call Op)) → AllAsked kind_of config calls → AllAsked kind_of config (filter test calls)
  AllAsked-filter test calls all = each-filter calls test (IsAsked kind_of config) all

-- the same queries under other names
pub AllAsked-along : {Op : Type 0} (kind_of : Op → Kind) (config now : Config) (calls same : List (Call Op)) → now ≡ config → same ≡ calls → AllAsked kind_of config calls → AllAsked kind_of now same
AllAsked-along kind_of config now calls same setting is all = rw (setting, is) all

-- an acknowledgement leaves the held queries as they are
pub ack-holds : {Value Op : Type 0} (me : ℕ) (state next : CausalState Value Op) (cid : Cid) (time : ℕ) (logged : Option LogAck) (room number : Bool)
    → next ≡ (ack_taken me state cid time logged room number).state → next.held ≡ state.held
ack-holds me state next cid time (Some ack) room number is = ap (λ s. s.held) is
ack-holds me state next cid time None false number is = ap (λ s. s.held) is
ack-holds me state next cid time None true false is = ap (λ s. s.held) is
ack-holds me state next cid time None true true is = ap (λ s. s.held) is

-- the first of them
pub AllAsked-take : {Op : Type 0} (kind_of : Op → Kind) (config : Config) (count : ℕ) (calls : List (Call Op)) → AllAsked kind_of config calls → AllAsked kind_of config (take count calls)
AllAsked-take kind_of config zero calls all k = λ x e. absurd (cc)
AllAsked-take kind_of config (suc count) [] all k = all k
AllAsked-take {Op} kind_of config (suc count) (call ∷ calls) all zero = all 0
AllAsked-take kind_of config (suc count) (call ∷ calls) all (suc k) = AllAsked-take kind_of config count calls (λ j. all (suc j)) k

-- one query more
pub AllAsked-push : {Op : Type 0} (kind_of : Op → Kind) (config now : Config) (calls same : List (Call Op)) (call : Call Op) → now ≡ config → same ≡ calls ++ call ∷ [] → AllAsked kind_of config calls → IsAsked kind_of config call → AllAsked kind_of now same
AllAsked-push {Op} kind_of config now calls same call setting is all own = rw (setting, is) (each-push calls call (λ (k : ℕ) (c : Call Op). IsAsked kind_of config c) all own)

module _ {Value Op : Type 0} (kind_of : Op → Kind) (config now : Config) (state next : CausalState Value Op) where
  -- pruning leaves the held queries
  pub AllAsked-pruned : (delta : ℕ) → now ≡ config → next ≡ pruned delta state → AllAsked kind_of config state.held → AllAsked kind_of now next.held
  AllAsked-pruned delta setting is all =
      AllAsked-along kind_of config now state.held next.held setting (ap (λ (s : CausalState Value Op). s.held) is) all

-- a step back leaves the first of them
pub AllAsked-restored : {Value Op : Type 0} (kind_of : Op → Kind) (config now : Config) (it : ReplicaState Value Op) (next : CausalState Value Op) (p : Saved Value) (before : CausalState Value Op)
    → now ≡ config → IsPointOf p it before → next ≡ before → AllAsked kind_of config it.causal.held → AllAsked kind_of now next.held
AllAsked-restored {Value} {Op} kind_of config now it next p before setting point is all =
    AllAsked-along kind_of config now (take p.held it.causal.held) next.held setting (ap (λ (s : CausalState Value Op). s.held) (is ∙ sym point.restores)) (AllAsked-take kind_of config p.held it.causal.held all)

-- a savepoint of a state is one of the same state under another name
pub IsPointOf-along : {Value Op : Type 0} (p : Saved Value) (it same : ReplicaState Value Op) (before : CausalState Value Op) → it ≡ same → IsPointOf p same before → IsPointOf p it before
IsPointOf-along {Value} {Op} p it same before is point = subst (λ (r : ReplicaState Value Op). IsPointOf p r before) (sym is) point

module _ {Value Op : Type 0} (m : Meaning Value Op) where
  -- where no label is applied, nothing is answered
  pub held_acts-none : (state : CausalState Value Op) (calls : List (Call Op)) → NoneApplied state.val_ts calls
      → held_acts m state calls ≡ []
  held_acts-none state [] none = refl
  held_acts-none state (call ∷ calls) none =
      rw (none 0 call refl) (held_acts-none state calls (λ k. none (suc k)))

  -- the acts of one query more come behind
  pub held_acts-more : (state : CausalState Value Op) (calls : List (Call Op)) (call : Call Op) → held_acts m state (calls ++ call ∷ []) ≡ held_acts m state calls ++ held_acts m state (call ∷ [])
  held_acts-more state [] call = refl
  held_acts-more state (first ∷ calls) call = go (stamp_le first.prev state.val_ts) refl (held_acts-more state calls call)
    where
      go : (ready : Bool) → stamp_le first.prev state.val_ts ≡ ready → held_acts m state (calls ++ call ∷ []) ≡ held_acts m state calls ++ held_acts m state (call ∷ []) → held_acts m state (first ∷ (calls ++ call ∷ [])) ≡ held_acts m state (first ∷ calls) ++ held_acts m state (call ∷ [])
      go true is rest = rw is (ap (λ (acts : List (Act Op)). answer_act m state first ∷ acts) rest)
      go false is rest = rw is rest

  -- one turn more: what was done so far is done for one query more
  pub answered-more : (state : CausalState Value Op) (items held : List (Call Op)) (k : ℕ) (call : Call Op) (before middle now : Outboxed Op)
      → items ≡ held → k < length items → call ≡ get_or items k call → middle ≡ after_acts before (held_acts m state (take k held))
      → now ≡ after_acts middle (held_acts m state (call ∷ [])) → now ≡ after_acts before (held_acts m state (take (k + 1) held))
  answered-more state items held k call before middle now same within here so_far more =
      let next : take (k + 1) items ≡ take k items ++ call ∷ [] =
      take_more items k call within ∙ ap (λ (x : Call Op). take k items ++ x ∷ []) (sym here) in
      let next' : take (k + 1) held ≡ take k held ++ call ∷ [] =
      subst (λ (calls : List (Call Op)). take (k + 1) calls ≡ take k calls ++ call ∷ []) same next in
      let joined : held_acts m state (take (k + 1) held) ≡ held_acts m state (take k held) ++ held_acts m state (call ∷ []) =
      ap (held_acts m state) next' ∙ held_acts-more state (take k held) call in
      after_acts-parts before middle now (held_acts m state (take k held)) (held_acts m state (call ∷ [])) so_far more
      ∙ ap (after_acts before) (sym joined)
