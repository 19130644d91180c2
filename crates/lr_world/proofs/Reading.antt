-- A replica and a front end of a run that are read, and what is put in their places.
use Rattle.std.proofs.Common.{◌≡◌, ◌<◌, ◌∙◌, ℕ, Some, get_or, set}
use Rattle.std.specs.Prelude.{slice_get}
use Rattle.std.proofs.lemmas.Option.{slice_get_read}
use Rattle.lr_base.specs.Fronts.{FrontState}
use Rattle.lr_base.specs.Replicas.{AllReplicas, IsReplica, ReplicaState}
use Rattle.lr_causal.specs.Savepoint.{IsSame}
use Rattle.lr_world.proofs.Everywhere.{each-read, each-set}
use Rattle.lr_world.specs.Posts.{AllFronts, IsFront}
use Rattle.lr_world.specs.declared.run.Run.{Run}

module _ {S Op : Type 0} {g : _} {h : _} (it : Run S Op g h) where
  -- a replica at its place
  pub replica-read : (me : ℕ) (r : ReplicaState S Op) → me < it.config.replicas → r ≡ get_or it.replicas.items me r
      → IsReplica it.config me r × (slice_get it.replicas.items me ≡ Some r)
  replica-read me r known is =
      let within : me < it.replicas.len = rw it.each_replica known in (
        each-read it.replicas.items me r (IsReplica it.config) it.all_replicas it.replicas.len it.replicas.ok.0 within is,
        slice_get_read it.replicas.items it.replicas.len me r it.replicas.ok.0 within is,
      )

  -- in its place another state of it
  pub replica-put : (me : ℕ) (r next : ReplicaState S Op) → me < it.config.replicas
      → r ≡ get_or it.replicas.items me r → IsSame r next → AllReplicas it.config (set it.replicas.items me next)
  replica-put me r next known is same =
      let old = (replica-read me r known is).0 in
      each-set it.replicas.items me next (IsReplica it.config) it.all_replicas
      (record { setting = same.setting ∙ old.setting; number = same.number ∙ old.number })

  -- a front end at its client's place
  pub front-read : (client : ℕ) (front : FrontState Op) → client < it.config.clients → front ≡ get_or it.fronts.items client front
      → IsFront it.config client front × (slice_get it.fronts.items client ≡ Some front)
  front-read client front known is =
      let within : client < it.fronts.len = rw it.each_client known in (
        each-read it.fronts.items client front (IsFront it.config) it.all_fronts it.fronts.len it.fronts.ok.0 within is,
        slice_get_read it.fronts.items it.fronts.len client front it.fronts.ok.0 within is,
      )

  -- in its place another front end of this client
  pub front-put : (client : ℕ) (next : FrontState Op) → IsFront it.config client next → AllFronts it.config (set it.fronts.items client next)
  front-put client next is = each-set it.fronts.items client next (IsFront it.config) it.all_fronts is
