-- A step that is made up to what can't fail, from what its actor has done.
use Rattle.std.proofs.Common.{◌≡◌, ◌++◌, ◌∙◌, ◌<◌, ℕ, zero, suc, Bool, true, false, List, [], ◌∷◌, length, set, take, Option, Some, None, Result, Ok, Err, arith, ap, refl, sym, subst}
use Rattle.std.specs.Prelude.{slice_get, IfOk, OnErr}
use Rattle.std.proofs.Math.Seq.{take-append_seam}
use Rattle.std.proofs.lemmas.List.{set-set}
use Rattle.std.proofs.lemmas.Option.{slice_get_within}
use Rattle.lr_base.specs.Fronts.{FrontEvent, FrontState, front_acts, front_next}
use Rattle.std.specs.Option.{ForSome}
use Rattle.lr_base.specs.declared.messages.Call.{Call}
use Rattle.lr_base.specs.declared.names.Cid.{Cid}
use Rattle.lr_base.specs.Meaning.{Meaning}
use Rattle.lr_base.specs.Replicas.{ReplicaState}
use Rattle.lr_base.specs.Rules.{CausalState}
use Rattle.lr_base.specs.declared.acts.Act.{Act}
use Rattle.lr_base.specs.declared.acts.Posted.{Posted}
use Rattle.lr_base.specs.declared.lr_service.Kind.{Kind}
use Rattle.lr_base.specs.declared.names.Actor.{Actor}
use Rattle.lr_base.specs.declared.names.Actor.TheVariants.{Client, Replica}
use Rattle.lr_base.specs.declared.names.Config.{Config}
use Rattle.lr_base.specs.declared.events.Outcome.{Outcome}
use Rattle.lr_base.specs.Steps.{clock_set, gossiped, taken}
use Rattle.lr_causal.specs.Savepoint.{IsPointOf, IsSame, Saved}
use Rattle.lr_graph.specs.Runs.{RunState, act_posts, front_does, replica_ended}
use Rattle.lr_front.specs.Undoing.{Saved as FrontSaved, open_before, restored}
use Rattle.lr_world.proofs.Everywhere.{each-none, read-within}
use Rattle.lr_world.proofs.Outboxing.{opened-lines, opened-posts}
use Rattle.lr_world.proofs.Shaped.{posted-more}
use Rattle.lr_world.specs.Outboxes.{Outboxed, after_acts, opened}
use Rattle.lr_world.specs.Parts.{HasDone, HasFrontDone, IsTask, begun, end_of, finished}
use Rattle.lr_world.specs.Pending.{CanTakeBack, HasActedAt, HasBegun, HasBegunAt, HasSent, HaveActed, HaveBegun, IsActing, IsOrderOf, IsTaskOf, IsWithin, completed, ordered, replica_finished}
use Rattle.lr_world.specs.Posts.{AllPosted, IsFront, IsFrontPoint, IsOwnCall, IsPosted}
use Rattle.lr_world.specs.Shapes.{AllFitting, IsShaped, is_actor}
use Rattle.lr_world.specs.declared.pending.Acting.{Acting}
use Rattle.lr_world.specs.declared.pending.Acting.TheVariants.{AtFront, AtReplica}
use Rattle.lr_world.specs.declared.pending.Order.{Order}
use Rattle.lr_world.specs.declared.pending.Order.TheVariants.{Take, Read, Tell}
use Rattle.lr_world.specs.declared.pending.Pending.{Pending}
use Rattle.lr_world.specs.declared.task.Task.{Task}
use Rattle.lr_world.specs.declared.task.Task.TheVariants.{Take as TakeTask, Read as ReadTask, Tell as TellTask}

-- an element that was set is there
pub get-set : {X : Type 0} (xs : List X) (i : ℕ) (y : X) → i < length xs → slice_get (set xs i y) i ≡ Some y
get-set [] i y within = absurd (omega arith)
get-set (x ∷ xs) zero y within = refl
get-set (x ∷ xs) (suc i) y within = get-set xs i y (omega (arith, within))

-- an element that is there is put in its place
pub set-there : {X : Type 0} (xs : List X) (i : ℕ) (x : X) → slice_get xs i ≡ Some x → set xs i x ≡ xs
set-there [] i x there = refl
set-there (y ∷ xs) zero x there = let same : y ≡ x = cc in ap (λ z. z ∷ xs) (sym same)
set-there (y ∷ xs) (suc i) x there = ap (λ zs. y ∷ zs) (set-there xs i x there)

-- what an actor's acts send may be delivered
pub posts-fitting : {Op : Type 0} (kind_of : Op → Kind) (config : Config) (from : Actor) (sent : ℕ) (acts : List (Act Op)) (out now : Outboxed Op)
    → out ≡ opened from sent → now ≡ after_acts out acts → is_actor config from ≡ true → AllFitting kind_of config acts → AllPosted kind_of config now.posts
posts-fitting {Op} kind_of config from sent acts out now first is known fitting =
    let posts : act_posts from acts ≡ now.posts = sym (ap (λ (o : Outboxed Op). o.posts) (is ∙ ap (λ (o : Outboxed Op). after_acts o acts) first) ∙ opened-posts from sent acts) in
    subst (AllPosted kind_of config) posts (posted-more kind_of config [] from acts known fitting (each-none (λ (k : ℕ) (p : Posted Op). IsPosted kind_of config p)))

-- the posts and the lines of a step
posts-are : {Op : Type 0} (from : Actor) (sent : ℕ) (acts : List (Act Op)) (out now : Outboxed Op) → out ≡ opened from sent → now ≡ after_acts out acts → now.posts ≡ act_posts from acts
posts-are {Op} from sent acts out now first is = ap (λ (o : Outboxed Op). o.posts) (is ∙ ap (λ (o : Outboxed Op). after_acts o acts) first) ∙ opened-posts from sent acts

-- what a savepoint of a front end of the run keeps
pub point-fits : {Op : Type 0} (config : Config) (client : ℕ) (point : FrontSaved Op) (was now : FrontState Op) → restored point now ≡ was → IsFront config client was → IsFrontPoint config client point
point-fits {Op} config client point was now undoes is = record {
  parts = ap (λ (f : FrontState Op). length f.label) undoes ∙ is.parts;
  answered = subst (λ o. ForSome o (λ (cid : Cid). cid.client ≡ client)) (sym (ap (λ (f : FrontState Op). f.answered) undoes)) is.answered;
  ended = go point.ended (ap (λ (f : FrontState Op). f.open_call) undoes);
}
  where
    go : (o : Option (Call Op)) → open_before o point.is_open now.open_call ≡ was.open_call → ForSome o (IsOwnCall config client)
    go None e = λ c no. let none : None ≡ Some c = no in absurd (cc)
    go (Some call) e = λ c some. is.open_call c (sym e ∙ some)

-- and what it gives back is a front end of the run
pub front-back : {Op : Type 0} (config : Config) (client : ℕ) (point : FrontSaved Op) (now : FrontState Op) → IsFrontPoint config client point → IsFront config client now → IsFront config client (restored point now)
front-back {Op} config client point now kept is = record {
  setting = is.setting;
  number = is.number;
  parts = kept.parts;
  open_call = go point.ended point.is_open kept.ended;
  answered = kept.answered;
}
  where
    go : (o : Option (Call Op)) (opened : Bool) → ForSome o (IsOwnCall config client) → ForSome (open_before o opened now.open_call) (IsOwnCall config client)
    go (Some call) opened own = own
    go None true own = is.open_call
    go None false own = λ c no. let none : None ≡ Some c = no in absurd (cc)

-- a front end that has made a step, or nothing for want of memory, is still one of the run
pub made-front : {Op E : Type 0} (kind_of : Op → Kind) (config : Config) (client : ℕ) (was now : FrontState Op) (event : FrontEvent Op)
    (out after : Outboxed Op) (result : Result (FrontSaved Op) E) → IsFront config client (front_next event was) → IsFront config client was
    → IfOk result (λ point. HasFrontDone kind_of event was now out after) → OnErr result (now ≡ was) → IsFront config client now
made-front kind_of config client was now event out after (Ok point) next own did err =
    subst (IsFront config client) (sym did.front_is) next
made-front kind_of config client was now event out after (Err e) next own did err = subst (IsFront config client) (sym err) own

module _ {Value Op : Type 0} where
  -- a replica ends its step
  pub finished-run : (run : RunState Value Op) (me : ℕ) (r next : ReplicaState Value Op) → slice_get run.replicas me ≡ Some r
      → next ≡ record r { causal = finished r.config.delta r.causal } → record run { replicas = set run.replicas me next } ≡ replica_finished run me (slice_get run.replicas me)
  finished-run run me r next there is =
      ap (λ (n : ReplicaState Value Op). record run { replicas = set run.replicas me n }) is ∙ ap (replica_finished run me) (sym there)

  -- a replica is what it was
  pub undone-run : (pending : Pending Value Op) (me : ℕ) (point : Saved Value) (before now : RunState Value Op) (r next : ReplicaState Value Op) (posted : List (Posted Op))
      → pending.who ≡ AtReplica me point → CanTakeBack pending before now → slice_get now.replicas me ≡ Some r → IsSame r next
      → ((was : CausalState Value Op) → IsPointOf point r was → next.causal ≡ was) → posted ≡ take pending.sent now.posted
      → record now { replicas = set now.replicas me next; posted = posted } ≡ before
  undone-run pending me point before now r next posted who back there same gives sent =
      let at : HasBegunAt me point before.replicas now.replicas = subst (λ (w : Acting Value Op). HaveBegun w before.replicas now.replicas) who back.changed.replicas in
      let within : me < length before.replicas = slice_get_within before.replicas me at.was at.at_place in
      let here : Some r ≡ Some at.is = sym there ∙ ap (λ (rs : List (ReplicaState Value Op)). slice_get rs me) at.replaced ∙ get-set before.replicas me at.is within in
      let own : r ≡ at.is = cc in
      let undoes : IsPointOf point r at.was.causal = subst (λ (x : ReplicaState Value Op). IsPointOf point x at.was.causal) (sym own) at.undoes in
      let config : next.config ≡ at.was.config = same.setting ∙ ap (λ (x : ReplicaState Value Op). x.config) own ∙ at.same.setting in
      let me' : next.me ≡ at.was.me = same.number ∙ ap (λ (x : ReplicaState Value Op). x.me) own ∙ at.same.number in
      let is : next ≡ at.was = λ k. record { config = config k; me = me' k; causal = gives at.was.causal undoes k } in
      let replicas : set now.replicas me next ≡ before.replicas =
      (λ k. set (at.replaced k) me (is k)) ∙ set-set before.replicas me at.is at.was ∙ set-there before.replicas me at.was at.at_place in
      let fronts : now.fronts ≡ before.fronts = subst (λ (w : Acting Value Op). HaveActed w before.fronts now.fronts) who back.changed.fronts in
      λ k. record { replicas = replicas k; fronts = fronts k; posted = (sent ∙ back.sent) k }

  -- what a savepoint needs of the replica
  pub begun-point : (pending : Pending Value Op) (me : ℕ) (point : Saved Value) (before now : RunState Value Op) (r : ReplicaState Value Op)
      → pending.who ≡ AtReplica me point → CanTakeBack pending before now → slice_get now.replicas me ≡ Some r → (was : CausalState Value Op) × IsPointOf point r was
  begun-point pending me point before now r who back there =
      let at : HasBegunAt me point before.replicas now.replicas = subst (λ (w : Acting Value Op). HaveBegun w before.replicas now.replicas) who back.changed.replicas in
      let within : me < length before.replicas = slice_get_within before.replicas me at.was at.at_place in
      let here : Some r ≡ Some at.is = sym there ∙ ap (λ (rs : List (ReplicaState Value Op)). slice_get rs me) at.replaced ∙ get-set before.replicas me at.is within in
      let own : at.is ≡ r = cc in
      (at.was.causal, subst (λ (x : ReplicaState Value Op). IsPointOf point x at.was.causal) own at.undoes)

  -- what was sent leaves again
  sent-back : (who : Acting Value Op) (out : Outboxed Op) (before now : RunState Value Op) (lines : List Outcome) (pending : Pending Value Op) → HasSent who out before now lines pending → take pending.sent now.posted ≡ before.posted
  sent-back who out before now lines pending sent =
      (λ k. take (sent.number k) (sent.run k).posted) ∙ take-append_seam before.posted out.posts

  -- a front end is what it was
  pub undone-front : (pending : Pending Value Op) (client : ℕ) (point : FrontSaved Op) (before now : RunState Value Op) (f next : FrontState Op) (posted : List (Posted Op))
      → pending.who ≡ AtFront client point → CanTakeBack pending before now → slice_get now.fronts client ≡ Some f → next ≡ restored point f → posted ≡ take pending.sent now.posted
      → record now { fronts = set now.fronts client next; posted = posted } ≡ before
  undone-front pending client point before now f next posted who back there gives sent =
      let at : HasActedAt client point before.fronts now.fronts = subst (λ (w : Acting Value Op). HaveActed w before.fronts now.fronts) who back.changed.fronts in
      let within : client < length before.fronts = slice_get_within before.fronts client at.was at.at_place in
      let here : Some f ≡ Some at.is = sym there ∙ ap (λ (fs : List (FrontState Op)). slice_get fs client) at.replaced ∙ get-set before.fronts client at.is within in
      let own : f ≡ at.is = cc in
      let is : next ≡ at.was = gives ∙ ap (restored point) own ∙ at.undoes in
      let fronts : set now.fronts client next ≡ before.fronts =
      (λ k. set (at.replaced k) client (is k)) ∙ set-set before.fronts client at.is at.was ∙ set-there before.fronts client at.was at.at_place in
      let replicas : now.replicas ≡ before.replicas = subst (λ (w : Acting Value Op). HaveBegun w before.replicas now.replicas) who back.changed.replicas in
      λ k. record { replicas = replicas k; fronts = fronts k; posted = (sent ∙ back.sent) k }

  -- a front end has made a step
  pub has-acted : (run : RunState Value Op) (client : ℕ) (f next : FrontState Op) (point : FrontSaved Op) → slice_get run.fronts client ≡ Some f → restored point next ≡ f → HasActedAt client point run.fronts (set run.fronts client next)
  has-acted run client f next point there undoes = record { was = f; is = next; at_place = there; replaced = refl; undoes = undoes }

  pub front-begun : (m : Meaning Value Op) (kind_of : Op → Kind) → ((op : Op) → m.kind op ≡ kind_of op) → (config : Config) (run now : RunState Value Op) (client : ℕ) (f next : FrontState Op) (event : FrontEvent Op) (point : FrontSaved Op) (out after : Outboxed Op) (lines : List Outcome) (pending : Pending Value Op)
      → slice_get run.fronts client ≡ Some f → out ≡ opened (Client client) (length run.posted) → HasFrontDone kind_of event f next out after → restored point next ≡ f
      → (client < config.clients) × IsFrontPoint config client point → HasSent (AtFront client point) after (record run { fronts = set run.fronts client next }) now lines pending
      → HasBegun config (front_does m run client event (slice_get run.fronts client)) run now lines pending
  front-begun m kind_of kinds config run now client f next event point out after lines pending there first did undoes acting sent =
      let acts : front_acts kind_of event f ≡ front_acts m.kind event f = ap (λ (k : Op → Kind). front_acts k event f) (λ i op. sym (kinds op) i) in
      let done = did.acts_are ∙ ap (after_acts out) acts in
      let posts = posts-are (Client client) (length run.posted) (front_acts m.kind event f) out after first done in
      let lines' = ap (λ (o : Outboxed Op). o.lines) (done ∙ ap (λ (o : Outboxed Op). after_acts o (front_acts m.kind event f)) first) ∙ opened-lines (Client client) (length run.posted) (front_acts m.kind event f) in
      rw there record {
        acting = subst (IsActing config) (sym sent.actor) acting;
        finishes =
            ap (λ (who : Acting Value Op). completed who now) sent.actor ∙ sent.run
            ∙ (λ k. record run { fronts = set run.fronts client (did.front_is k); posted = run.posted ++ posts k });
        printed = sent.printed ∙ lines';
        undoes = record {
          sent = sent-back (AtFront client point) after (record run { fronts = set run.fronts client next }) now lines pending sent;
          changed = record {
            fronts =
                subst (λ (who : Acting Value Op). HaveActed who run.fronts now.fronts) (sym sent.actor)
                (subst (λ (fs : List (FrontState Op)). HasActedAt client point run.fronts fs) (sym (ap (λ (r : RunState Value Op). r.fronts) sent.run)) (has-acted run client f next point there undoes));
            replicas = subst (λ (who : Acting Value Op). HaveBegun who run.replicas now.replicas) (sym sent.actor) (ap (λ (r : RunState Value Op). r.replicas) sent.run);
          };
        };
      }

  -- a replica has begun a step: what it was, and what it is
  pub has-begun : (run : RunState Value Op) (me : ℕ) (r next : ReplicaState Value Op) (point : Saved Value) → slice_get run.replicas me ≡ Some r → IsSame r next → IsPointOf point next r.causal → HasBegunAt me point run.replicas (set run.replicas me next)
  has-begun run me r next point there same undoes = record { was = r; is = next; at_place = there; replaced = refl; same = same; undoes = undoes }

  pub replica-begun : (m : Meaning Value Op) (config : Config) (run now : RunState Value Op) (me : ℕ) (r next : ReplicaState Value Op) (task : Task Op) (point : Saved Value) (out after : Outboxed Op) (lines : List Outcome) (pending : Pending Value Op)
      → slice_get run.replicas me ≡ Some r → out ≡ opened (Replica me) (length run.posted) → HasDone (begun m r task) next.causal out after → IsSame r next → IsPointOf point next r.causal
      → me < config.replicas → HasSent (AtReplica me point) after (record run { replicas = set run.replicas me next }) now lines pending
      → HasBegun config (replica_ended run me r (end_of m r task)) run now lines pending
  replica-begun m config run now me r next task point out after lines pending there first did same undoes acting sent =
      let end = begun m r task in
      let posts = posts-are (Replica me) (length run.posted) end.acts out after first did.acts_are in
      let lines' = ap (λ (o : Outboxed Op). o.lines) (did.acts_are ∙ ap (λ (o : Outboxed Op). after_acts o end.acts) first) ∙ opened-lines (Replica me) (length run.posted) end.acts in
      let within : me < length run.replicas = slice_get_within run.replicas me r there in
      let ends : record next { causal = finished next.config.delta next.causal } ≡ record r { causal = finished r.config.delta end.state } =
      λ k. record { config = same.setting k; me = same.number k; causal = finished (same.setting k).delta (did.state_is k) } in
      let mid : RunState Value Op = record run { replicas = set run.replicas me next; posted = run.posted ++ after.posts } in
      record {
        acting = subst (IsActing config) (sym sent.actor) acting;
        finishes =
            ap (λ (who : Acting Value Op). completed who now) sent.actor ∙ ap (completed (AtReplica me point)) sent.run
            ∙ ap (replica_finished mid me) (get-set run.replicas me next within)
            ∙ ap (λ (rs : List (ReplicaState Value Op)). record mid { replicas = rs }) (set-set run.replicas me next (record next { causal = finished next.config.delta next.causal }))
            ∙ (λ k. record run { replicas = set run.replicas me (ends k); posted = run.posted ++ posts k });
        printed = sent.printed ∙ lines';
        undoes = record {
          sent = sent-back (AtReplica me point) after (record run { replicas = set run.replicas me next }) now lines pending sent;
          changed = record {
            fronts = subst (λ (who : Acting Value Op). HaveActed who run.fronts now.fronts) (sym sent.actor) (ap (λ (r : RunState Value Op). r.fronts) sent.run);
            replicas =
                subst (λ (who : Acting Value Op). HaveBegun who run.replicas now.replicas) (sym sent.actor)
                (subst (λ (rs : List (ReplicaState Value Op)). HasBegunAt me point run.replicas rs) (sym (ap (λ (r : RunState Value Op). r.replicas) sent.run)) (has-begun run me r next point there same undoes));
          };
        };
      }

  -- an order that is carried out as its task
  pub ordered-task : (m : Meaning Value Op) (run : RunState Value Op) (me : ℕ) (r : ReplicaState Value Op) (order : Order) (task : Task Op) → slice_get run.replicas me ≡ Some r
      → IsWithin run.posted order → IsTaskOf run.posted order task → replica_ended run me r (end_of m r task) ≡ ordered m run me order
  ordered-task m run me r (Take at) (TakeTask from message) there within is =
      let found = read-within run.posted at within in
      let own = is found.0 found.1 in
      rw (found.1, there) (λ k. replica_ended run me r (taken m r.config r.me r.causal (sym own.0 k) (sym own.1 k)))
  ordered-task m run me r (Take at) (TellTask to) there within is = absurd is
  ordered-task m run me r (Take at) (ReadTask read) there within is = absurd is
  ordered-task m run me r (Read reading) (TakeTask from message) there within is = absurd is
  ordered-task m run me r (Read reading) (TellTask to) there within is = absurd is
  ordered-task m run me r (Read reading) (ReadTask read) there within is = rw there (λ k. replica_ended run me r (clock_set m r.config.delta (is k) r.causal))
  ordered-task m run me r (Tell to) (TakeTask from message) there within is = absurd is
  ordered-task m run me r (Tell to) (ReadTask read) there within is = absurd is
  ordered-task m run me r (Tell to) (TellTask told) there within is = rw there (λ k. replica_ended run me r (gossiped m r.config.delta (is k) r.causal))

-- the task of an order is one of the run
pub task-of : {Op : Type 0} (kind_of : Op → Kind) (config : Config) (posted : List (Posted Op)) (order : Order) (task : Task Op) → AllPosted kind_of config posted → IsOrderOf config order
    → IsWithin posted order → IsTaskOf posted order task → IsTask kind_of config task
task-of kind_of config posted (Take at) (TakeTask from message) all fits within is =
    let found = read-within posted at within in
    let own = is found.0 found.1 in
    let shaped = all at found.0 found.1 in
    (subst (λ (a : Actor). is_actor config a ≡ true) own.0 shaped.from_known, subst (λ m. IsShaped kind_of config m) own.1 shaped.sendable.shaped)
task-of kind_of config posted (Take at) (TellTask to) all fits within is = absurd is
task-of kind_of config posted (Take at) (ReadTask read) all fits within is = absurd is
task-of kind_of config posted (Read reading) (TakeTask from message) all fits within is = absurd is
task-of kind_of config posted (Read reading) (TellTask to) all fits within is = absurd is
task-of kind_of config posted (Read reading) (ReadTask read) all fits within is = tt
task-of kind_of config posted (Tell to) (TakeTask from message) all fits within is = absurd is
task-of kind_of config posted (Tell to) (ReadTask read) all fits within is = absurd is
task-of kind_of config posted (Tell to) (TellTask told) all fits within is = rw is fits
