-- What a replica sends may be delivered, as the rules have it.
use Rattle.std.proofs.Common.{◌≡◌, ◌+◌, ◌<◌, ◌∙◌, ◌==◌, ℕ, suc, Bool, true, false, List, [], ◌∷◌, length, Option, None, Some, lt-ltb, ltb-true, get_or, refl, subst, sym, arith}
use Rattle.std.specs.Prelude.{find, nat_lt}
use Rattle.std.specs.Option.{ForSome}
use Rattle.lr_base.specs.Ascending.{same_cid}
use Rattle.lr_base.specs.Logged.{AllLogged, IsLogged}
use Rattle.lr_base.specs.Meaning.{Meaning}
use Rattle.lr_base.specs.Replicas.{ReplicaState}
use Rattle.lr_base.specs.Rules.{CausalState, fresh_of, fresh_when, is_late, known_of, stamp_of, taken_before, update_of_call}
use Rattle.lr_base.specs.StampLaws.{length-join, length-set_part}
use Rattle.lr_base.specs.Stamps.{join, stamp_le}
use Rattle.lr_base.specs.Steps.{ack_taken, answer_act, call_taken, done_act, gossip_given, has_number, has_room, held_acts, own_taken, query_held, query_taken, update_taken}
use Rattle.lr_base.specs.declared.lr_service.Kind.{Kind}
use Rattle.lr_base.specs.declared.messages.Call.{Call}
use Rattle.lr_base.specs.declared.messages.Fresh.{Fresh}
use Rattle.lr_base.specs.declared.messages.Fresh.TheVariants.{Again, Late, New, Settled}
use Rattle.lr_base.specs.declared.messages.Gossip.{Gossip}
use Rattle.lr_base.specs.declared.messages.Known.{Known}
use Rattle.lr_base.specs.declared.messages.LogAck.{LogAck}
use Rattle.lr_base.specs.declared.messages.LogUpdate.{LogUpdate}
use Rattle.lr_base.specs.declared.messages.Message.{Message}
use Rattle.lr_base.specs.declared.messages.Message.TheVariants.{Ack, Answer, Done, Gossip as GossipMessage, Query, Update}
use Rattle.lr_base.specs.declared.names.Actor.{Actor}
use Rattle.lr_base.specs.declared.names.Actor.TheVariants.{Client, Replica}
use Rattle.lr_base.specs.declared.names.Cid.{Cid}
use Rattle.lr_base.specs.declared.names.Config.{Config}
use Rattle.lr_base.specs.declared.names.Spot.{Spot}
use Rattle.lr_causal.specs.Causal.{AgainHasParts}
use Rattle.lr_base.specs.Rules.{gossip_of}
use Rattle.lr_causal.specs.Causal.{IsGossip}
use Rattle.lr_causal.specs.GossipLaws.{IsGossip-new}
use Rattle.lr_world.proofs.Shaped.{fitting-append, one-stamp}
use Rattle.lr_world.specs.Parts.{IsTask, begun, own_of, settled}
use Rattle.lr_world.specs.Shapes.{AllFitting, IsFitting, IsShaped}
use Rattle.lr_world.specs.Sound.{AllAsked, IsSound, all_told}
use Rattle.lr_world.specs.declared.task.Task.{Task}
use Rattle.lr_world.specs.declared.task.Task.TheVariants.{Take, Read, Tell}

-- the first logged update that passes a test can be applied
logged-find : {Op : Type 0} (kind_of : Op → Kind) (parts : ℕ) (test : LogUpdate Op → Bool) (updates : List (LogUpdate Op)) → AllLogged kind_of parts updates → ForSome (find test updates) (IsLogged kind_of parts)
logged-find kind_of parts test [] all = λ x e. let none : None ≡ Some x = e in cc
logged-find {Op} kind_of parts test (u ∷ updates) all = go (test u) refl (logged-find kind_of parts test updates (λ k. all (suc k)))
  where
    go : (passes : Bool) → test u ≡ passes → ForSome (find test updates) (IsLogged kind_of parts) → ForSome (find test (u ∷ updates)) (IsLogged kind_of parts)
    go true is later = rw is (all 0)
    go false is later = rw is later

module _ {Value Op : Type 0} (kind_of : Op → Kind) (r : ReplicaState Value Op) (sound : IsSound kind_of r) where
  abbrev config : Config
  config = r.config

  abbrev parts : ℕ
  parts = r.config.replicas + 1

  abbrev state : CausalState Value Op
  state = r.causal

  -- the reply to an update of one of the clients, with a stamp that has all parts
  fitting-done : (cid : Cid) (spot : Spot) (stamp : List ℕ) → cid.client < config.clients → length stamp ≡ parts → IsFitting kind_of config (done_act {Op = Op} cid spot stamp)
  fitting-done cid spot stamp client long = record {
    to_known = lt-ltb cid.client config.clients client;
    shaped = record { client = lt-ltb cid.client config.clients client; kind = refl; stamps = one-stamp kind_of config stamp long; told = λ g e. absurd (cc) };
  }

  -- the answer to a query of one of the clients
  fitting-answer : (m : Meaning Value Op) (call : Call Op) → call.cid.client < config.clients → IsFitting kind_of config (answer_act m state call)
  fitting-answer m call client = record {
    to_known = lt-ltb call.cid.client config.clients client;
    shaped = record { client = lt-ltb call.cid.client config.clients client; kind = refl; stamps = one-stamp kind_of config state.val_ts sound.val_parts; told = λ g e. absurd (cc) };
  }

  -- the stamp of a call that was taken before
  taken-parts : (cid : Cid) (known : Option Known) (logged : Option (LogUpdate Op)) → ForSome known (λ k. length k.stamp ≡ parts) → ForSome logged (IsLogged kind_of parts) → ForSome (taken_before known logged) (λ k. length k.stamp ≡ parts)
  taken-parts cid (Some known) logged own later = λ k e. let same : known ≡ k = cc in subst (λ (k : Known). length k.stamp ≡ parts) same (own known refl)
  taken-parts cid None (Some u) own later = λ k e.
      let it = later u refl in
      let prev = it.prev in
      let place = it.place in
      let long : length (stamp_of u) ≡ parts = length-set_part u.prev u.spot.place u.spot.number (omega arith) ∙ it.prev in
      let made : Known = record { spot = u.spot; stamp = stamp_of u } in
      let same : made ≡ k = cc in
      subst (λ (k : Known). length k.stamp ≡ parts) same long
  taken-parts cid None None own later = λ k e. let none : None ≡ Some k = e in cc

  when-parts : (known : Option Known) (ack : Option LogAck) → ForSome known (λ k. length k.stamp ≡ parts) → AgainHasParts parts (fresh_when known ack)
  when-parts (Some known) ack own = own known refl
  when-parts None (Some ack) own = tt
  when-parts None None own = tt

  again-parts : (delta : ℕ) (cid : Cid) (time : ℕ) → AgainHasParts parts (fresh_of delta state cid time)
  again-parts delta cid time = go (is_late time delta state.clock) refl
    where
      go : (late : Bool) → is_late time delta state.clock ≡ late → AgainHasParts parts (fresh_of delta state cid time)
      go true is = rw is tt
      go false is =
          rw is (when-parts (taken_before (known_of state.calls cid) (find (λ u. same_cid u.cid cid) state.updates)) (find (λ ack. same_cid ack.cid cid) state.acks)
          (taken-parts cid (known_of state.calls cid) (find (λ u. same_cid u.cid cid) state.updates) (sound.known cid) (logged-find kind_of parts (λ u. same_cid u.cid cid) state.updates sound.told.logged)))

  -- an update that is accepted
  fitting-call : (call : Call Op) (room number : Bool) → length call.prev ≡ parts → call.cid.client < config.clients → AllFitting kind_of config (call_taken r.me state call room number).acts
  fitting-call call false number prev client = (tt, tt)
  fitting-call call true false prev client = (tt, tt)
  fitting-call call true true prev client =
      let u = update_of_call r.me state call in
      let imm = sound.imm_parts in
      let joined : length (join call.prev state.imm_ts) ≡ parts = length-join call.prev state.imm_ts (prev ∙ sym imm) ∙ prev in
      let place = sound.own_place in
      let within : r.me < length (join call.prev state.imm_ts) = omega arith in
      (tt, (fitting-done call.cid u.spot (stamp_of u) client (length-set_part (join call.prev state.imm_ts) r.me u.spot.number within ∙ joined), tt))

  fitting-update : (call : Call Op) (fresh : Fresh) → AgainHasParts parts fresh → length call.prev ≡ parts → call.cid.client < config.clients → AllFitting kind_of config (update_taken r.me state call fresh).acts
  fitting-update call New again prev client = fitting-call call (has_room state) (has_number r.me state) prev client
  fitting-update call (Late time clock) again prev client = (tt, tt)
  fitting-update call (Again spot stamp) again prev client = (tt, (fitting-done call.cid spot stamp client again, tt))
  fitting-update call Settled again prev client = (tt, tt)

  fitting-held : (call : Call Op) (room : Bool) → AllFitting kind_of config (query_held state call room).acts
  fitting-held call true = (tt, tt)
  fitting-held call false = (tt, tt)

  fitting-query : (m : Meaning Value Op) (call : Call Op) (ready : Bool) → call.cid.client < config.clients → AllFitting kind_of config (query_taken m state call ready).acts
  fitting-query m call true client = (fitting-answer m call client, tt)
  fitting-query m call false client = fitting-held call (nat_lt (length state.held) 1024)

  fitting-ack : (cid : Cid) (time : ℕ) (logged : Option LogAck) (room number : Bool) → AllFitting {Op = Op} kind_of config (ack_taken r.me state cid time logged room number).acts
  fitting-ack cid time (Some ack) room number = (tt, tt)
  fitting-ack cid time None false number = (tt, tt)
  fitting-ack cid time None true false = (tt, tt)
  fitting-ack cid time None true true = (tt, tt)

  fitting-gossip : (from : ℕ) (gossip : Gossip Op) (own : Bool) → AllFitting kind_of config (gossip_given r.me from state gossip own).acts
  fitting-gossip from gossip true = tt
  fitting-gossip from gossip false = (tt, tt)

  -- what a message makes a replica send itself
  fitting-taken : (m : Meaning Value Op) (from : Actor) (message : Message Op) → IsShaped kind_of config message → AllFitting kind_of config (own_taken m config r.me state from message).acts
  fitting-taken m (Client client) (Update call time) shaped = fitting-update call (fresh_of config.delta state call.cid time) (again-parts config.delta call.cid time) (shaped.stamps 0 call.prev refl) (ltb-true _ _ shaped.client)
  fitting-taken m (Client client) (Query call) shaped = fitting-query m call (stamp_le call.prev state.val_ts) (ltb-true _ _ shaped.client)
  fitting-taken m (Client client) (Ack cid time) shaped = fitting-ack cid time (find (λ ack. same_cid ack.cid cid) state.acks) (has_room state) (has_number r.me state)
  fitting-taken m (Client client) (Done cid spot stamp) shaped = tt
  fitting-taken m (Client client) (Answer cid text stamp) shaped = tt
  fitting-taken m (Client client) (GossipMessage gossip) shaped = tt
  fitting-taken m (Replica from) (Update call time) shaped = tt
  fitting-taken m (Replica from) (Query call) shaped = tt
  fitting-taken m (Replica from) (Ack cid time) shaped = tt
  fitting-taken m (Replica from) (Done cid spot stamp) shaped = tt
  fitting-taken m (Replica from) (Answer cid text stamp) shaped = tt
  fitting-taken m (Replica from) (GossipMessage gossip) shaped = fitting-gossip from gossip (from == r.me)

  -- what a task makes it send itself
  pub fitting-own : (m : Meaning Value Op) (task : Task Op) → IsTask kind_of config task → AllFitting kind_of config (own_of m r task).acts
  fitting-own m (Take from message) fits = fitting-taken m from message.now fits.1
  fitting-own m (Read reading) fits = (tt, tt)
  fitting-own m (Tell to) fits = (
    record {
      to_known = lt-ltb to config.replicas fits;
      shaped = record { client = refl; kind = refl; stamps = one-stamp kind_of config state.rep_ts sound.told.rep_parts; told = λ g e. let same : gossip_of to state ≡ g = cc in subst (IsGossip kind_of parts) same (IsGossip-new kind_of parts (get_or state.table to []) (all_told state) sound.told) };
    },
    tt,
  )

  -- the answers to held queries
  pub fitting-answers : (m : Meaning Value Op) (calls : List (Call Op)) → AllAsked kind_of config calls → AllFitting kind_of config (held_acts m state calls)
  fitting-answers m [] asked = tt
  fitting-answers m (call ∷ calls) asked = go (stamp_le call.prev state.val_ts) refl (fitting-answers m calls (λ k. asked (suc k)))
    where
      go : (ready : Bool) → stamp_le call.prev state.val_ts ≡ ready → AllFitting kind_of config (held_acts m state calls) → AllFitting kind_of config (held_acts m state (call ∷ calls))
      go true is later = rw is (fitting-answer m call (asked 0 call refl).client, later)
      go false is later = rw is later

-- what a task makes a replica send, up to the end of its step
pub fitting-begun : {Value Op : Type 0} (kind_of : Op → Kind) (m : Meaning Value Op) (r now : ReplicaState Value Op) (task : Task Op) → IsSound kind_of r → IsSound kind_of now → now.config ≡ r.config → now.causal ≡ (begun m r task).state
    → IsTask kind_of r.config task → AllFitting kind_of r.config (begun m r task).acts
fitting-begun {Value} {Op} kind_of m r now task sound later config is fits =
    let answers : AllFitting kind_of now.config (held_acts m now.causal now.causal.held) = fitting-answers kind_of now later m now.causal.held later.asked in
    let same : AllFitting kind_of r.config (held_acts m (begun m r task).state (begun m r task).state.held) =
    subst (λ (s : CausalState Value Op). AllFitting kind_of r.config (held_acts m s s.held)) is (subst (λ (c : Config). AllFitting kind_of c (held_acts m now.causal now.causal.held)) config answers) in
    fitting-append kind_of r.config (own_of m r task).acts (settled m (own_of m r task).state).acts (fitting-own kind_of r sound m task fits) same
