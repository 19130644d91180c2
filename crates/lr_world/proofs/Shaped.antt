-- What is sent may be delivered.
use Rattle.std.proofs.Common.{◌≡◌, ◌∙◌, ◌+◌, ◌<◌, ◌==◌, ℕ, zero, suc, Bool, true, false, cond, arith, List, [], ◌∷◌, ◌++◌, length, not, Option, None, Some, Result, Ok, Err, OnErr, OnOk, lt-ltb, ltb-true, rules, refl, subst, sym, ap, append-nil, append_assoc}
use Rattle.lr_base.specs.Fronts.{FrontState, ack_acts, after_call, after_message, call_acts, call_of, clock_read, front_acts, front_next, is_open, message_acts, message_of, reply_acts, reply_taken, resend_acts}
use Rattle.lr_base.specs.Ascending.{same_cid}
use Rattle.lr_base.specs.Limits.{last_number}
use Rattle.lr_base.specs.NameLaws.{same_cid-is}
use Rattle.lr_base.specs.StampLaws.{length-join}
use Rattle.lr_base.specs.Stamps.{join}
use Rattle.std.specs.Option.{ForSome}
use Rattle.lr_base.specs.Kinds.{is_query}
use Rattle.lr_base.specs.declared.acts.Act.{Act}
use Rattle.lr_base.specs.declared.acts.Act.TheVariants.{Say, Send}
use Rattle.lr_base.specs.declared.acts.Posted.{Posted}
use Rattle.lr_base.specs.declared.lr_service.Kind.{Kind}
use Rattle.lr_base.specs.declared.lr_service.Kind.TheVariants.{Query, Causal, Forced, Immediate}
use Rattle.lr_base.specs.declared.messages.Call.{Call}
use Rattle.lr_base.specs.declared.messages.Gossip.{Gossip}
use Rattle.lr_base.specs.declared.messages.Message.{Message}
use Rattle.lr_base.specs.declared.messages.Message.TheVariants.{Update as UpdateMessage, Query as QueryMessage, Ack, Done, Answer, Gossip as GossipMessage}
use Rattle.lr_base.specs.declared.names.Actor.{Actor}
use Rattle.lr_base.specs.declared.names.Actor.TheVariants.{Replica}
use Rattle.lr_base.specs.declared.names.Cid.{Cid}
use Rattle.lr_base.specs.declared.names.Config.{Config}
use Rattle.lr_causal.specs.Causal.{AllStamps, IsGossip, IsUpdateCall}
use Rattle.lr_graph.specs.Runs.{act_posts}
use Rattle.lr_world.proofs.Everywhere.{each-append, each-push}
use Rattle.lr_world.specs.Parts.{IsFrontTask, NamesReplica, event_of}
use Rattle.lr_world.specs.Posts.{AllPosted, IsFront, IsOwnCall, IsPosted}
use Rattle.lr_world.specs.Sound.{IsAsked}
use Rattle.lr_world.specs.Shapes.{AllFitting, IsShaped, is_actor, stamps_in}
use Rattle.lr_world.specs.declared.front_task.FrontTask.{FrontTask}
use Rattle.lr_world.specs.declared.front_task.FrontTask.TheVariants.{Call as CallTask, Resend as ResendTask, Acknowledge as AckTask, Take as TakeTask}

module _ {Op : Type 0} (kind_of : Op → Kind) (config : Config) where
  -- one stamp with all parts, and none
  pub one-stamp : (stamp : List ℕ) → length stamp ≡ config.replicas + 1 → AllStamps (config.replicas + 1) (stamp ∷ [])
  one-stamp stamp parts zero = λ s e. let same : stamp ≡ s = cc in subst (λ (x : List ℕ). length x ≡ config.replicas + 1) same parts
  one-stamp stamp parts (suc k) = λ s e. let none : None ≡ Some s = e in absurd (cc)

  no-stamps : AllStamps (config.replicas + 1) []
  no-stamps k = λ s e. let none : None ≡ Some s = e in absurd (cc)

  -- gossip of this run can be taken
  pub IsGossip-shaped : (message : Message Op) (gossip : Gossip Op) → message ≡ GossipMessage gossip → IsShaped kind_of config message → IsGossip kind_of (config.replicas + 1) gossip
  IsGossip-shaped message gossip is shaped =
      shaped.told gossip is

  -- an update message of this run can be taken
  pub update-shaped : (message : Message Op) (call : Call Op) (time : ℕ) → message ≡ UpdateMessage call time → IsShaped kind_of config message → IsUpdateCall kind_of (config.replicas + 1) call
  update-shaped message call time is shaped =
      let s = subst (IsShaped kind_of config) is shaped in
      record { label = s.stamps 0 call.prev refl; update = search (rules, s.kind) }

  -- and so can a query message
  pub query-shaped : (message : Message Op) (call : Call Op) → message ≡ QueryMessage call → IsShaped kind_of config message → IsAsked kind_of config call
  query-shaped message call is shaped =
      let s = subst (IsShaped kind_of config) is shaped in
      record { parts = s.stamps 0 call.prev refl; client = ltb-true call.cid.client config.clients s.client; query = search (rules, s.kind) }

  module _ (client : ℕ) (here : client < config.clients) where
    -- the message of a client's call has its shape
    shaped-call : (time : ℕ) (call : Call Op) (kind : Kind) → kind_of call.op ≡ kind → length call.prev ≡ config.replicas + 1 → call.cid.client ≡ client → IsShaped kind_of config (message_of kind time call)
    shaped-call time call Query is parts own = record { client = lt-ltb call.cid.client config.clients (omega arith); kind = ap is_query is; stamps = one-stamp call.prev parts; told = λ g e. absurd (cc) }
    shaped-call time call Causal is parts own = record { client = lt-ltb call.cid.client config.clients (omega arith); kind = ap (λ (k : Kind). not (is_query k)) is; stamps = one-stamp call.prev parts; told = λ g e. absurd (cc) }
    shaped-call time call Forced is parts own = record { client = lt-ltb call.cid.client config.clients (omega arith); kind = ap (λ (k : Kind). not (is_query k)) is; stamps = one-stamp call.prev parts; told = λ g e. absurd (cc) }
    shaped-call time call Immediate is parts own = record { client = lt-ltb call.cid.client config.clients (omega arith); kind = ap (λ (k : Kind). not (is_query k)) is; stamps = one-stamp call.prev parts; told = λ g e. absurd (cc) }

    fitting-copy : (replica time : ℕ) → replica < config.replicas → (call : Call Op) → length call.prev ≡ config.replicas + 1 → call.cid.client ≡ client
        → AllFitting kind_of config (Send (Replica replica) (message_of (kind_of call.op) time call) ∷ [])
    fitting-copy replica time there call parts own =
        (record { to_known = lt-ltb replica config.replicas there; shaped = shaped-call time call (kind_of call.op) refl parts own }, tt)

    -- what a front end that is called does may be sent
    fitting-call : (front : FrontState Op) (replica : ℕ) (op : Op) (open_call : Option (Call Op)) (worn : Bool) → length front.label ≡ config.replicas + 1 → front.client ≡ client → replica < config.replicas
        → AllFitting kind_of config (call_acts (kind_of op) (Replica replica) op front open_call worn)
    fitting-call front replica op (Some call) worn parts own there = (tt, tt)
    fitting-call front replica op None true parts own there = (tt, tt)
    fitting-call front replica op None false parts own there = fitting-copy replica front.clock there (call_of front op) parts own

    fitting-resend : (front : FrontState Op) (replica : ℕ) (open_call : Option (Call Op)) → ForSome open_call (IsOwnCall config client) → replica < config.replicas
        → AllFitting kind_of config (resend_acts kind_of (Replica replica) front open_call)
    fitting-resend front replica None own there = (tt, tt)
    fitting-resend front replica (Some call) own there = let it = own call refl in fitting-copy replica front.clock there call it.parts it.own

    fitting-ack : (front : FrontState Op) (replica : ℕ) (answered : Option Cid) → ForSome answered (λ cid. cid.client ≡ client) → replica < config.replicas
        → AllFitting {Op = Op} kind_of config (ack_acts (Replica replica) front answered)
    fitting-ack front replica None own there = (tt, tt)
    fitting-ack front replica (Some cid) own there =
        let it = own cid refl in
        (record { to_known = lt-ltb replica config.replicas there; shaped = record { client = lt-ltb cid.client config.clients (omega arith); kind = refl; stamps = no-stamps; told = λ g e. absurd (cc) } }, tt)

    -- and what it does with a message
    fitting-reply : (cid : Cid) (opened : Bool) → AllFitting {Op = Op} kind_of config (reply_acts cid opened)
    fitting-reply cid true = (tt, tt)
    fitting-reply cid false = (tt, tt)

    pub fitting-message : (message : Message Op) (front : FrontState Op) → AllFitting kind_of config (message_acts message front)
    fitting-message (UpdateMessage call time) front = tt
    fitting-message (QueryMessage call) front = tt
    fitting-message (Ack cid time) front = tt
    fitting-message (Done cid spot stamp) front = fitting-reply cid (is_open front.open_call cid)
    fitting-message (Answer cid text stamp) front = fitting-reply cid (is_open front.open_call cid)
    fitting-message (GossipMessage gossip) front = tt

    -- whatever comes to a front end
    pub fitting-front : (front : FrontState Op) (task : FrontTask Op) → IsFront config client front → NamesReplica config task → AllFitting kind_of config (front_acts kind_of (event_of task) front)
    fitting-front front (CallTask replica reading op) is there = fitting-call (clock_read reading front) replica op.now front.open_call (front.calls == last_number) is.parts is.number there
    fitting-front front (ResendTask replica reading) is there = fitting-resend (clock_read reading front) replica front.open_call is.open_call there
    fitting-front front (AckTask replica reading) is there = fitting-ack (clock_read reading front) replica front.answered is.answered there
    fitting-front front (TakeTask message) is there = fitting-message message.now front

    -- it stays a front end of the run
    after-call : (op : Op) (front : FrontState Op) (open_call : Option (Call Op)) (worn : Bool) → IsFront config client front → IsFront config client (after_call op front open_call worn)
    after-call op front (Some call) worn is = is
    after-call op front None true is = is
    after-call op front None false is = record {
      setting = is.setting;
      number = is.number;
      parts = is.parts;
      open_call = λ c e. let same : call_of front op ≡ c = cc in subst (IsOwnCall config client) same (record { own = is.number; parts = is.parts });
      answered = is.answered;
    }

    after-reply : (cid : Cid) (stamp : List ℕ) (answered : Option Cid) (front : FrontState Op) → length stamp ≡ config.replicas + 1
        → ((call : Call Op) → front.open_call ≡ Some call → call.cid ≡ cid → ForSome answered (λ c. c.client ≡ client)) → IsFront config client front → IsFront config client (reply_taken cid stamp answered front)
    after-reply cid stamp answered front parts mine is = go front.open_call refl
      where
        by_test : (call : Call Op) → front.open_call ≡ Some call → (t : Bool) → same_cid call.cid cid ≡ t → IsFront config client (cond t (record front { label = join front.label stamp; open_call = None; answered = answered }) front)
        by_test call e false test = is
        by_test call e true test = record {
          setting = is.setting;
          number = is.number;
          parts = length-join front.label stamp (is.parts ∙ sym parts) ∙ is.parts;
          open_call = λ c no. let none : None ≡ Some c = no in absurd (cc);
          answered = mine call e (same_cid-is call.cid cid test);
        }

        go : (o : Option (Call Op)) → front.open_call ≡ o → IsFront config client (cond (is_open o cid) (record front { label = join front.label stamp; open_call = None; answered = answered }) front)
        go None e = is
        go (Some call) e = by_test call e (same_cid call.cid cid) refl

    pub after-take : (message : Message Op) (front : FrontState Op) → AllStamps (front.replicas + 1) (stamps_in message) → IsFront config client front → IsFront config client (after_message message front)
    after-take (UpdateMessage call time) front stamps is = is
    after-take (QueryMessage call) front stamps is = is
    after-take (Ack cid time) front stamps is = is
    after-take (Done cid spot stamp) front stamps is =
        let setting = is.setting in
        after-reply cid stamp (Some cid) front (stamps 0 stamp refl ∙ ap (λ n. n + 1) setting)
        (λ call e same c some. let it : cid ≡ c = cc in ap (λ (k : Cid). k.client) (sym it) ∙ ap (λ (k : Cid). k.client) (sym same) ∙ (is.open_call call e).own) is
    after-take (Answer cid text stamp) front stamps is =
        let setting = is.setting in
        after-reply cid stamp front.answered front (stamps 0 stamp refl ∙ ap (λ n. n + 1) setting) (λ call e same. is.answered) is
    after-take (GossipMessage gossip) front stamps is = is

    read-front : (reading : ℕ) (front : FrontState Op) → IsFront config client front → IsFront config client (clock_read reading front)
    read-front reading front is = record { setting = is.setting; number = is.number; parts = is.parts; open_call = is.open_call; answered = is.answered }

    pub front-stays : (front : FrontState Op) (task : FrontTask Op) → IsFrontTask front.replicas task → IsFront config client front → IsFront config client (front_next (event_of task) front)
    front-stays front (CallTask replica reading op) fits is = after-call op.now (clock_read reading front) front.open_call (front.calls == last_number) (read-front reading front is)
    front-stays front (ResendTask replica reading) fits is = read-front reading front is
    front-stays front (AckTask replica reading) fits is = read-front reading front is
    front-stays front (TakeTask message) fits is = after-take message.now front fits is

  -- acts that may be done, one behind another
  pub fitting-append : (acts more : List (Act Op)) → AllFitting kind_of config acts → AllFitting kind_of config more → AllFitting kind_of config (acts ++ more)
  fitting-append [] more fitting later = later
  fitting-append (act ∷ acts) more fitting later = (fitting.0, fitting-append acts more fitting.1 later)

  -- with what an actor sends, each message may be delivered
  pub posted-more : (posted : List (Posted Op)) (from : Actor) (acts : List (Act Op)) → is_actor config from ≡ true → AllFitting kind_of config acts → AllPosted kind_of config posted → AllPosted kind_of config (posted ++ act_posts from acts)
  posted-more posted from [] known fitting all = subst (λ (ps : List (Posted Op)). AllPosted kind_of config ps) (sym (append-nil posted)) all
  posted-more posted from (Say line ∷ acts) known fitting all = posted-more posted from acts known fitting.1 all
  posted-more posted from (Send to message ∷ acts) known fitting all =
      let own : Posted Op = record { from = from; to = to; message = message } in
      let first : AllPosted kind_of config (posted ++ own ∷ []) = each-push posted own (λ (k : ℕ) p. IsPosted kind_of config p) all (record { from_known = known; sendable = fitting.0 }) in
      subst (λ (ps : List (Posted Op)). AllPosted kind_of config ps) (append_assoc posted (own ∷ []) (act_posts from acts)) (posted-more (posted ++ own ∷ []) from acts known fitting.1 first)

  -- messages that are sent, or for want of memory aren't
  pub posted-either : {E : Type 0} (result : Result (Unit {0}) E) (posted more now : List (Posted Op)) → OnOk result (now ≡ posted ++ more) → OnErr result (now ≡ posted)
      → AllPosted kind_of config posted → AllPosted kind_of config more → AllPosted kind_of config now
  posted-either (Ok x) posted more now sent same all own =
      subst (AllPosted kind_of config) (sym sent) (each-append posted more (IsPosted kind_of config) all own)
  posted-either (Err e) posted more now sent same all own = subst (AllPosted kind_of config) (sym same) all
