-- Each event is the same in the graph and by the rules.
use Rattle.std.proofs.Common.{◌≡◌, ◌==◌, ◌≢◌, ℕ, ◌<◌, ◌≤◌, ◌^◌, max, false, find, List, [], ◌∷◌, Option, Some, None, refl, sym, ap, ◌∙◌, subst, subst₂, true, true≢false, eq-eqb, nat_lt, Bool, ◌++◌, ltb-true}
use Rattle.std.proofs.lemmas.List.{append-nil}
use Rattle.std.specs.List.{slice_get}
use Rattle.lr_base.specs.Events.{IsEventOf}
use Rattle.lr_base.specs.Fronts.{FrontState, AckTo, CallTo, ResendTo, TakeMessage, after_message, message_acts}
use Rattle.lr_base.specs.Orders.{IsAmong}
use Rattle.lr_base.specs.declared.messages.LogAck.{LogAck}
use Rattle.lr_base.specs.Meaning.{Encoding, Lawful, Meaning}
use Rattle.lr_base.specs.Replicas.{ReplicaState}
use Rattle.lr_base.specs.Rules.{gossip_of, ticked}
use Rattle.lr_base.specs.Steps.{clock_set, gossiped, own_taken, taken, Ending, ended, idle}
use Rattle.lr_base.specs.declared.acts.Act.TheVariants.{Send}
use Rattle.lr_base.specs.declared.acts.Act.TheVariants.{Say}
use Rattle.lr_base.specs.declared.acts.NodeEvent.TheVariants.{Take as TakeFrom, Tick as ReadClock, Gossip as TellGossip}
use Rattle.lr_base.specs.declared.acts.Posted.{Posted}
use Rattle.lr_base.specs.declared.events.Event.{Event}
use Rattle.lr_base.specs.declared.events.Event.TheVariants.{Call as CallEvent, Resend, Ack as AckEvent, Deliver, Tick, Gossip as GossipEvent, Show}
use Rattle.lr_base.specs.declared.events.Outcome.{Outcome}
use Rattle.lr_base.specs.declared.events.Outcome.TheVariants.{ClockAt, Send as SendLine, State}
use Rattle.lr_base.specs.declared.events.Sent.TheVariants.{Gossip as GossipSent}
use Rattle.lr_base.specs.declared.lr_service.Kind.{Kind}
use Rattle.lr_base.specs.declared.messages.Message.{Message}
use Rattle.lr_base.specs.declared.messages.Message.TheVariants.{Gossip as GossipMessage}
use Rattle.lr_base.specs.declared.names.Actor.{Actor}
use Rattle.lr_base.specs.declared.names.Actor.TheVariants.{Client, Replica}
use Rattle.lr_base.specs.declared.names.Config.{Config}
use Rattle.lr_graph.specs.After.{after, lines_read, Handling, step_ended}
use Rattle.lr_graph.specs.Graph.{Carried, Facts, SentMessage, LabelledCall, UpdateCopy, QueryCopy, AckCopy, GossipOf, DoneReply, AnswerReply, Blank}
use Rattle.lr_graph.specs.Legal.{delivery_lines, message_lines, next_number, outcomes_of, copy_lines, is_event_in, answers_at}
use Rattle.lr_graph.specs.Runs.{RunState, Stepped, acted, delivered, front_does, given, message_at, replica_does, replica_ended, shown, stepped, unchanged, with_front}
use Rattle.lr_graph.specs.Pruned.{is_acked, is_left, logged, told_by}
use Rattle.lr_graph.specs.Sets.{nothing}
use Rattle.lr_graph.specs.Spread.{IsGossipSpread}
use Rattle.lr_graph.specs.Timed.{IsNotLater, IsOver, IsTimed, WasSent}
use Rattle.lr_graph.proofs.Lists.Members.{each-at, each-map, find-some}
use Rattle.lr_graph.proofs.Pruning.Known.{has-heard}
use Rattle.lr_graph.proofs.Replicas.GossipSteps.{own-sent}
use Rattle.lr_graph.proofs.Replicas.OwnParts.{IsInTime, item-own, item-places, own-part}
use Rattle.lr_graph.proofs.Related.Relation.{at_actor, HasNoted, IsReplicaAt, IsSame, IsThere, IsWay, SameCarried, SameMessage, SameOption, calls_in}
use Rattle.lr_graph.proofs.StateLines.Shown.{same-line}
use Rattle.lr_graph.proofs.Replicas.Stepping.{IsStep, step-ends, IsOwnPart}
use Rattle.lr_graph.proofs.Lists.Tests.{and-left, and-right, not-false}
use Rattle.lr_graph.proofs.Events.Calls.{calls-same}
use Rattle.lr_graph.proofs.Events.Resends.{acknowledge-same, resend-same}
use Rattle.lr_graph.proofs.Events.Replies.{front-given}
use Rattle.lr_graph.proofs.Handled.{alone, came_in, receiving}
use Rattle.lr_graph.proofs.Histories.Updates.{CameFine, Holds, IsPlain, found-fine}
use Rattle.lr_base.specs.Kinds.{has_rules}
use Rattle.lr_graph.proofs.Replicas.Own.{own-idle, own-ticked}

-- the step is the same on both sides
pub record IsSameStep {Value Op : Type 0} (m : Meaning Value Op) (config : Config) (w : Facts Op) (event : Event Op) (s : Stepped Value Op) : Type 0 where
  pub lines : s.outcomes ≡ outcomes_of m config w event
  pub same : IsSame m config (after m config w (record { event = event; outcomes = outcomes_of m config w event })) s.run

module _ {Value Op : Type 0} (m : Meaning Value Op) {e : Encoding Value} (kind_of : Op → Kind) (lawful : Lawful m e kind_of) (config : Config) where
  -- ---- a message is delivered

  module _ (w : Facts Op) (v : RunState Value Op) (same : IsSame m config w v) (timed : IsTimed w) where
    -- what comes is in time, and told by its sender if it is gossip
    abbrev Suits : Actor → Carried Op → Type 0
    Suits from what = IsInTime w.acks what × IsGossipSpread config w from what

    -- so is each message that was sent
    suits : (x : SentMessage Op) → IsAmong x w.messages → Suits x.from x.what
    suits x member = (in_time x.what (x, member, refl), each-at _ x w.messages same.shared.spread.sent member)
      where
        in_time : (what : Carried Op) → WasSent w.messages what → IsInTime w.acks what
        in_time (UpdateCopy call time) sent = each-map _ _ w.acks (λ a over same. not_later a over same) timed.noted
          where
            not_later : (a : LogAck) → IsOver w a.cid a.time → a.cid ≡ call.cid → time ≤ a.time
            not_later a over same = subst (IsNotLater a.cid a.time) sent.2 (each-at _ sent.0 w.messages over.copies sent.1) (sym same)
        in_time (QueryCopy call) sent = tt
        in_time (AckCopy cid time) sent = tt
        in_time (DoneReply cid names) sent = tt
        in_time (AnswerReply cid names) sent = tt
        in_time (GossipOf names) sent = tt
        in_time Blank sent = tt

    -- what a delivery is to give
    abbrev Delivers : ℕ → Option (SentMessage Op) → Stepped Value Op → Type 0
    Delivers n x s = IsStep m config w (came_in x) (receiving x) (delivery_lines m config w n x) s.outcomes s.run

    -- a replica of the run makes a step that ends so
    abbrev Makes : Handling Op → ℕ → List Outcome → Stepped Value Op → Type 0
    Makes x i own s = IsStep m config w x (Some i) own s.outcomes s.run

    -- the state of a replica, with its place
    abbrev AtReplica : ℕ → ReplicaState Value Op → Type 0
    AtReplica i replica = (slice_get v.replicas i ≡ Some replica) × (replica.config ≡ config) × (replica.me ≡ i) × IsReplicaAt m config w.accepted (w.received i) (logged config w i) (is_left config w i) (w.kept i) (w.held i) replica.causal × HasNoted config.replicas w.acks (is_acked config w i) (w.clock i) (told_by w i) replica.causal

    at_replica : (i : ℕ) → i < config.replicas → (replica : ReplicaState Value Op) × AtReplica i replica
    at_replica i within =
        let tied = same.replicas i within in
        (tied.1.replica, (tied.1.there, tied.1.setting, tied.1.number, subst (λ state. IsReplicaAt m config w.accepted (w.received i) (logged config w i) (is_left config w i) (w.kept i) (w.held i) state) (sym tied.1.state_is) tied.2, subst (λ state. HasNoted config.replicas w.acks (is_acked config w i) (w.clock i) (told_by w i) state) (sym tied.1.state_is) tied.3))

    -- a replica's step, by its own part
    by_part : (x : Handling Op) (own : List Outcome) (i : ℕ) → i < config.replicas → (r : (replica : ReplicaState Value Op) × AtReplica i replica) (end : Ending Value Op)
        → IsOwnPart m config same.issued w v i x own end → Makes x i own (replica_ended v i r.0 (ended m config.delta end.state end.acts))
    by_part x own i within r end part = step-ends m kind_of lawful config same.issued w v i within r.0 r.1.0 r.1.1 r.1.2 x own end part

    to_replica : (n number : ℕ) (from : Actor) (what : Carried Op) (i : ℕ) → i < config.replicas → IsWay from (Replica i) what → IsPlain m what → Suits from what → (message : Message Op) → SameCarried m config w.accepted w.acks (w.received i) same.issued (calls_in w) what message
        → Delivers n (Some (record { number = number; from = from; to = Replica i; what = what })) (given m v (Replica i) from message)
    to_replica n number from what i within way plain suit message carries = by_rules (at_replica i within)
      where
        by_rules : (replica : ReplicaState Value Op) × AtReplica i replica → Delivers n (Some (record { number = number; from = from; to = Replica i; what = what })) (replica_does m v i (TakeFrom from message) (slice_get v.replicas i))
        by_rules r =
            let replica = r.0 in
            let x : Option (SentMessage Op) = Some (record { number = number; from = from; to = Replica i; what = what }) in
            let part = own-part m config same.issued w v same.shared i within replica.causal r.1.3 r.1.4 (λ j apart inside. same.replicas j inside) number from what message way plain suit.0 suit.1 carries in
            let step = by_part (came_in x) (message_lines m config w (Replica i) what) i within r (own_taken m config i replica.causal from message) part in
            subst (λ (o : Option (ReplicaState Value Op)). Delivers n x (replica_does m v i (TakeFrom from message) o)) (sym r.1.0)
            (subst (λ (c : Config). Delivers n x (replica_ended v i replica (taken m c replica.me replica.causal from message))) (sym r.1.1)
            (subst (λ (k : ℕ). Delivers n x (replica_ended v i replica (taken m config k replica.causal from message))) (sym r.1.2) step))

    to_client : (n number : ℕ) (from : Actor) (what : Carried Op) (client : ℕ) → client < config.clients → IsWay from (Client client) what → (message : Message Op) → SameCarried m config w.accepted w.acks nothing same.issued (calls_in w) what message
        → Delivers n (Some (record { number = number; from = from; to = Client client; what = what })) (given m v (Client client) from message)
    to_client n number from what client within way message carries =
        let front = same.shared.fronts_are client within in
        let gives = front-given m config w v same client within front.0 front.1 front.2 from what message way carries in
        subst (λ (o : Option (FrontState Op)). Delivers n (Some (record { number = number; from = from; to = Client client; what = what })) (front_does m v client (TakeMessage message) o)) (sym front.1) (record {
          lines = gives.0 ∙ sym (append-nil (message_lines m config w (Client client) what));
          same = subst (λ (lines : List Outcome). IsSame m config (lines_read m config (came_in (Some (record { number = number; from = from; to = Client client; what = what }))) w lines) (acted (with_front v client (after_message message front.0)) (Client client) (message_acts message front.0)).run) (sym (append-nil (message_lines m config w (Client client) what))) (gives.1 number from);
        })

    to_actor : (n number : ℕ) (from : Actor) (what : Carried Op) (to : Actor) → IsThere config to → IsWay from to what → IsPlain m what → Suits from what → (message : Message Op) → SameCarried m config w.accepted w.acks (at_actor w.received to) same.issued (calls_in w) what message
        → Delivers n (Some (record { number = number; from = from; to = to; what = what })) (given m v to from message)
    to_actor n number from what (Client client) there way plain suit message carries = to_client n number from what client there way message carries
    to_actor n number from what (Replica i) there way plain suit message carries = to_replica n number from what i there way plain suit message carries

    delivers : (n : ℕ) (x : Option (SentMessage Op)) (p : Option (Posted Op)) → find (λ x. x.number == n) w.messages ≡ x → CameFine (λ op. has_rules (m.kind op) ≡ true) x → SameOption (SameMessage m config w.accepted w.acks w.received same.issued (calls_in w)) x p → Delivers n x (delivered m v n p)
    delivers n None None found plain h = record { lines = refl; same = same }
    delivers n None (Some p) found plain h = absurd h
    delivers n (Some x) None found plain h = absurd h
    delivers n (Some x) (Some p) found plain h =
        subst₂ (λ (to from : Actor). Delivers n (Some x) (given m v to from p.message)) h.to h.from (to_actor n x.number x.from x.what x.to h.there h.way plain (suits x (find-some (λ x. x.number == n) w.messages x found).0) p.message h.what)

    -- ---- what has no rule in a run

    -- a run whose facts are those after these lines of a delivery
    abbrev Follows : Option (SentMessage Op) → List Outcome → Type 0
    Follows x own =
        (u : RunState Value Op) × IsSame m config (step_ended m config (receiving x) (lines_read m config (came_in x) w (own ++ answers_at m (lines_read m config (came_in x) w own) (receiving x)))) u

    -- a copy of an update without rules is passed over
    passes : (n number : ℕ) (from : Actor) (c : LabelledCall Op) (t i : ℕ) → i < config.replicas → (rules : Bool) → has_rules (m.kind c.op) ≡ rules
        → IsWay from (Replica i) (UpdateCopy c t) → Suits from (UpdateCopy c t) → (message : Message Op) → SameCarried m config w.accepted w.acks (w.received i) same.issued (calls_in w) (UpdateCopy c t) message
        → Follows (Some (record { number = number; from = from; to = Replica i; what = UpdateCopy c t })) (copy_lines config w i c t (has_rules (m.kind c.op)))
    passes n number from c t i within true rules way suit message carries =
        let s = to_replica n number from (UpdateCopy c t) i within way rules suit message carries in
        ((given m v (Replica i) from message).run, s.same)
    passes n number from c t i within false rules way suit message carries =
        let x : Option (SentMessage Op) = Some (record { number = number; from = from; to = Replica i; what = UpdateCopy c t }) in
        let r = at_replica i within in
        let part = own-idle m config same.issued w v same.shared i r.0.causal r.1.3 r.1.4 (λ j apart inside. same.replicas j inside) (came_in x) in
        subst (λ b. Follows x (copy_lines config w i c t b)) (sym rules)
        (_, (by_part (came_in x) [] i within r (idle r.0.causal) part).same)

    to_any : (n number : ℕ) (from : Actor) (to : Actor) (what : Carried Op) → IsThere config to → IsWay from to what → Suits from what → (message : Message Op) → SameCarried m config w.accepted w.acks (at_actor w.received to) same.issued (calls_in w) what message
        → Follows (Some (record { number = number; from = from; to = to; what = what })) (message_lines m config w to what)
    to_any n number from (Client client) what there way suit message carries =
        ((given m v (Client client) from message).run, (to_client n number from what client there way message carries).same)
    to_any n number from (Replica i) (UpdateCopy c t) there way suit message carries = passes n number from c t i there (has_rules (m.kind c.op)) refl way suit message carries
    to_any n number from (Replica i) (QueryCopy c) there way suit message carries =
        ((given m v (Replica i) from message).run, (to_replica n number from (QueryCopy c) i there way tt suit message carries).same)
    to_any n number from (Replica i) (AckCopy cid time) there way suit message carries =
        ((given m v (Replica i) from message).run, (to_replica n number from (AckCopy cid time) i there way tt suit message carries).same)
    to_any n number from (Replica i) (GossipOf names) there way suit message carries =
        ((given m v (Replica i) from message).run, (to_replica n number from (GossipOf names) i there way tt suit message carries).same)
    to_any n number from (Replica i) (DoneReply cid names) there way suit message carries =
        ((given m v (Replica i) from message).run, (to_replica n number from (DoneReply cid names) i there way tt suit message carries).same)
    to_any n number from (Replica i) (AnswerReply cid names) there way suit message carries =
        ((given m v (Replica i) from message).run, (to_replica n number from (AnswerReply cid names) i there way tt suit message carries).same)
    to_any n number from (Replica i) Blank there way suit message carries =
        ((given m v (Replica i) from message).run, (to_replica n number from Blank i there way tt suit message carries).same)

    follows : (n : ℕ) (x : Option (SentMessage Op)) (p : Option (Posted Op)) → find (λ x. x.number == n) w.messages ≡ x → SameOption (SameMessage m config w.accepted w.acks w.received same.issued (calls_in w)) x p → Follows x (delivery_lines m config w n x)
    follows n None None found h = (v, same)
    follows n None (Some p) found h = absurd h
    follows n (Some x) None found h = absurd h
    follows n (Some x) (Some p) found h = to_any n x.number x.from x.to x.what h.there h.way (suits x (find-some (λ x. x.number == n) w.messages x found).0) p.message h.what

    -- ---- a replica sends gossip

    gossips : (i to : ℕ) → i < config.replicas → to < config.replicas → i ≢ to
        → Makes (alone (Some (Replica i))) i (SendLine (next_number w) (Replica i) (Replica to) GossipSent ∷ []) (replica_does m v i (TellGossip to) (slice_get v.replicas i))
    gossips i to within other apart = by_rules (at_replica i within)
      where
        by_rules : (replica : ReplicaState Value Op) × AtReplica i replica → Makes (alone (Some (Replica i))) i (SendLine (next_number w) (Replica i) (Replica to) GossipSent ∷ []) (replica_does m v i (TellGossip to) (slice_get v.replicas i))
        by_rules r =
            let replica = r.0 in
            let part = own-sent m config same.issued w v same.shared i within replica.causal r.1.3 r.1.4 (λ j apart inside. same.replicas j inside) to other apart (has-heard config w same.shared.sound (item-places m config same.issued w v same.shared) (item-own m config same.issued w v same.shared) same.shared.spread i within to other) in
            let step = step-ends m kind_of lawful config same.issued w v i within replica r.1.0 r.1.1 r.1.2 (alone (Some (Replica i))) (SendLine (next_number w) (Replica i) (Replica to) GossipSent ∷ []) (record { state = replica.causal; acts = Send (Replica to) (GossipMessage (gossip_of to replica.causal)) ∷ [] }) part in
            subst (λ (o : Option (ReplicaState Value Op)). Makes (alone (Some (Replica i))) i (SendLine (next_number w) (Replica i) (Replica to) GossipSent ∷ []) (replica_does m v i (TellGossip to) o)) (sym r.1.0)
            (subst (λ (c : Config). Makes (alone (Some (Replica i))) i (SendLine (next_number w) (Replica i) (Replica to) GossipSent ∷ []) (replica_ended v i replica (gossiped m c.delta to replica.causal))) (sym r.1.1) step)

    -- ---- a replica reads its clock

    ticks : (i reading : ℕ) → i < config.replicas
        → Makes (alone (Some (Replica i))) i (ClockAt (max (w.clock i) reading) ∷ []) (replica_does m v i (ReadClock reading) (slice_get v.replicas i))
    ticks i reading within = by_rules (at_replica i within)
      where
        by_rules : (replica : ReplicaState Value Op) × AtReplica i replica → Makes (alone (Some (Replica i))) i (ClockAt (max (w.clock i) reading) ∷ []) (replica_does m v i (ReadClock reading) (slice_get v.replicas i))
        by_rules r =
            let replica = r.0 in
            let part = own-ticked m config same.issued w v same.shared i replica.causal r.1.3 r.1.4 (λ j apart inside. same.replicas j inside) reading in
            let step = step-ends m kind_of lawful config same.issued w v i within replica r.1.0 r.1.1 r.1.2 (alone (Some (Replica i))) (ClockAt (max (w.clock i) reading) ∷ []) (record { state = ticked reading replica.causal; acts = Say (ClockAt (max replica.causal.clock reading)) ∷ [] }) part in
            subst (λ (o : Option (ReplicaState Value Op)). Makes (alone (Some (Replica i))) i (ClockAt (max (w.clock i) reading) ∷ []) (replica_does m v i (ReadClock reading) o)) (sym r.1.0)
            (subst (λ (c : Config). Makes (alone (Some (Replica i))) i (ClockAt (max (w.clock i) reading) ∷ []) (replica_ended v i replica (clock_set m c.delta reading replica.causal))) (sym r.1.1) step)

  -- ---- any event

  module _ (w : Facts Op) (v : RunState Value Op) (same : IsSame m config w v) (timed : IsTimed w) where
    call-step : (client replica reading : ℕ) (op : Op) → client < config.clients → replica < config.replicas
        → IsSameStep m config w (CallEvent client replica reading op) (stepped m v (CallEvent client replica reading op))
    call-step client replica reading op here there =
        let front = same.shared.fronts_are client here in
        let out = calls-same m config w v same client replica reading op here there front.0 front.1 front.2 (w.front client).open_call front.0.open_call refl front.2.open_call
        ((w.front client).calls == 2 ^ 62) (front.0.calls == 2 ^ 62) (ap (λ n. n == 2 ^ 62) front.2.calls) in
        subst (λ (o : Option (FrontState Op)). IsSameStep m config w (CallEvent client replica reading op) (front_does m v client (CallTo replica reading op) o)) (sym front.1)
        (record { lines = out.0; same = out.1 })

    resend-step : (client replica reading : ℕ) → client < config.clients → replica < config.replicas
        → IsSameStep m config w (Resend client replica reading) (stepped m v (Resend client replica reading))
    resend-step client replica reading here there =
        let front = same.shared.fronts_are client here in
        let out = resend-same m config w v same client replica reading here there front.0 front.1 front.2 in
        subst (λ (o : Option (FrontState Op)). IsSameStep m config w (Resend client replica reading) (front_does m v client (ResendTo replica reading) o)) (sym front.1)
        (record { lines = out.0; same = out.1 })

    acknowledge-step : (client replica reading : ℕ) → client < config.clients → replica < config.replicas
        → IsSameStep m config w (AckEvent client replica reading) (stepped m v (AckEvent client replica reading))
    acknowledge-step client replica reading here there =
        let front = same.shared.fronts_are client here in
        let out = acknowledge-same m config w v same client replica reading here there front.0 front.1 front.2 in
        subst (λ (o : Option (FrontState Op)). IsSameStep m config w (AckEvent client replica reading) (front_does m v client (AckTo replica reading) o)) (sym front.1)
        (record { lines = out.0; same = out.1 })

    tick-step : (i reading : ℕ) → i < config.replicas → IsSameStep m config w (Tick i reading) (stepped m v (Tick i reading))
    tick-step i reading here = let out = ticks w v same timed i reading here in record { lines = out.lines; same = out.same }

    gossip-step : (i to : ℕ) → i < config.replicas → to < config.replicas → i ≢ to → IsSameStep m config w (GossipEvent i to) (stepped m v (GossipEvent i to))
    gossip-step i to here there apart = let out = gossips w v same timed i to here there apart in record { lines = out.lines; same = out.same }

    show-step : (i : ℕ) → i < config.replicas → IsSameStep m config w (Show i) (stepped m v (Show i))
    show-step i here =
        let tied = same.replicas i here in
        let ok = subst (λ state. IsReplicaAt m config w.accepted (w.received i) (logged config w i) (is_left config w i) (w.kept i) (w.held i) state) (sym tied.1.state_is) tied.2 in
        let noted = subst (λ state. HasNoted config.replicas w.acks (is_acked config w i) (w.clock i) (told_by w i) state) (sym tied.1.state_is) tied.3 in
        let line = same-line m config w i same.shared.sound same.shared.apart same.shared.numbered (same.shared.exist i) tied.1.replica tied.1.number ok noted in
        subst (λ (o : Option (ReplicaState Value Op)). IsSameStep m config w (Show i) (unchanged v (shown o))) (sym tied.1.there)
        (record { lines = λ k. State (sym line k) ∷ []; same = same })

    -- an event of a run is the same on both sides, where all updates that were sent have rules
    pub same-step : Holds m.kind (λ op. has_rules (m.kind op) ≡ true) w → (event : Event Op) → IsEventOf m config event → IsSameStep m config w event (stepped m v event)
    same-step plain (CallEvent client replica reading op) fits = call-step client replica reading op fits.0.0 fits.0.1
    same-step plain (Resend client replica reading) fits = resend-step client replica reading fits.0.0 fits.0.1
    same-step plain (AckEvent client replica reading) fits = acknowledge-step client replica reading fits.0.0 fits.0.1
    same-step plain (Tick i reading) fits = tick-step i reading fits.0
    same-step plain (Deliver n) fits =
        let came = found-fine (λ op. has_rules (m.kind op) ≡ true) n w.messages plain.messages in
        let out = delivers w v same timed n (find (λ x. x.number == n) w.messages) (message_at v.posted n) refl came (same.shared.messages n) in
        record { lines = out.lines; same = out.same }
    same-step plain (GossipEvent i to) fits = gossip-step i to fits.0.0 fits.0.1 fits.0.2
    same-step plain (Show i) fits = show-step i fits.0

    -- after an event of a legal history some run has the facts
    pub legal-step : (event : Event Op) → is_event_in m config event ≡ true
        → (u : RunState Value Op) × IsSame m config (after m config w (record { event = event; outcomes = outcomes_of m config w event })) u
    legal-step (CallEvent client replica reading op) own =
        let others = and-right (nat_lt client config.clients) _ own in (
          _,
          (call-step client replica reading op (ltb-true client config.clients (and-left (nat_lt client config.clients) _ own))
              (ltb-true replica config.replicas (and-left (nat_lt replica config.replicas) _ others))).same,
        )
    legal-step (Resend client replica reading) own = (
      _,
      (resend-step client replica reading (ltb-true client config.clients (and-left (nat_lt client config.clients) _ own))
          (ltb-true replica config.replicas (and-right (nat_lt client config.clients) _ own))).same,
    )
    legal-step (AckEvent client replica reading) own = (
      _,
      (acknowledge-step client replica reading (ltb-true client config.clients (and-left (nat_lt client config.clients) _ own))
          (ltb-true replica config.replicas (and-right (nat_lt client config.clients) _ own))).same,
    )
    legal-step (Tick i reading) own = (_, (tick-step i reading (ltb-true i config.replicas own)).same)
    legal-step (Deliver n) own = follows w v same timed n (find (λ x. x.number == n) w.messages) (message_at v.posted n) refl (same.shared.messages n)
    legal-step (GossipEvent i to) own =
        let others = and-right (nat_lt i config.replicas) _ own in
        let apart = not-false (i == to) (and-right (nat_lt to config.replicas) _ others) in (
          _,
          (gossip-step i to (ltb-true i config.replicas (and-left (nat_lt i config.replicas) _ own))
              (ltb-true to config.replicas (and-left (nat_lt to config.replicas) _ others))
              (λ e. true≢false (sym (eq-eqb i to e) ∙ apart))).same,
        )
    legal-step (Show i) own = (_, (show-step i (ltb-true i config.replicas own)).same)
