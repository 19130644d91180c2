-- What an event itself prints fits, and it adds one acceptance at the most, and one message or held query.
use Rattle.std.proofs.Common.{◌≡◌, ◌^◌, ◌+◌, ℕ, suc, ◌<◌, ◌≤◌, max, nat_lt, ltb-true, Bool, true, false, cond}
use Rattle.std.proofs.Common.{◌==◌, List, [], ◌∷◌, filter, length, map, Option, Some, None}
use Rattle.std.proofs.Common.{arith}
use Rattle.std.proofs.lemmas.List.Elements.{All-from_recursion}
use Rattle.std.specs.List.{find}
use Rattle.std.specs.Option.{option_map}
use Rattle.lr_base.specs.Ascending.{same_cid}
use Rattle.lr_base.specs.Config.{IsValid}
use Rattle.lr_base.specs.Kinds.{has_rules, is_query}
use Rattle.lr_base.specs.Limits.{most_clients-is, most_replicas-is}
use Rattle.lr_base.specs.Meaning.{Meaning}
use Rattle.lr_base.specs.declared.events.Event.{Event}
use Rattle.lr_base.specs.declared.events.Event.TheVariants.{Call, Resend, Ack as AckEvent, Deliver, Tick}
use Rattle.lr_base.specs.declared.events.Event.TheVariants.{Gossip as GossipEvent, Show}
use Rattle.lr_base.specs.declared.events.Outcome.{Outcome}
use Rattle.lr_base.specs.declared.events.Outcome.TheVariants.{Got, Stale}
use Rattle.lr_base.specs.declared.events.Sent.TheVariants.{Query, Update}
use Rattle.lr_base.specs.declared.messages.LogAck.{LogAck}
use Rattle.lr_base.specs.declared.names.Actor.{Actor}
use Rattle.lr_base.specs.declared.names.Actor.TheVariants.{Client, Replica}
use Rattle.lr_base.specs.declared.names.Cid.{Cid}
use Rattle.lr_base.specs.declared.names.Config.{Config}
use Rattle.lr_base.specs.declared.names.Spot.{Spot}
use Rattle.lr_graph.specs.After.{call_read, clock_read, delivery_of, event_read}
use Rattle.lr_graph.specs.After.{next_call, receiver, replica_in, stepping, with_front}
use Rattle.lr_graph.specs.Closed.{Each}
use Rattle.lr_graph.specs.Fitting.{ActorFits, CidFits, EventNumberFits, HasNoFeed, NumberFits, OutcomeFits, SentFits}
use Rattle.lr_graph.specs.Fitting.{SpotFits, StateFits}
use Rattle.lr_graph.specs.Graph.{Carried, Facts, FrontFacts, LabelledCall, SentMessage}
use Rattle.lr_graph.specs.Graph.{UpdateCopy, QueryCopy, AckCopy, DoneReply, AnswerReply, GossipOf}
use Rattle.lr_graph.specs.Graph.{calls_of, item_spots, kept_spot, made, ready}
use Rattle.lr_graph.specs.Legal.{accept_lines, ack_lines, acknowledge_lines, answer_line, call_lines, copy_line}
use Rattle.lr_graph.specs.Legal.{copy_lines, delivery_lines, done_line, is_event_in, message_lines}
use Rattle.lr_graph.specs.Legal.{next_number, noted_at, resend_lines, own_lines, query_lines, replica_line, reply_line}
use Rattle.lr_graph.specs.Legal.{kept_at, taken_at, update_lines}
use Rattle.lr_graph.specs.Pruned.{acked, is_acked, is_known, logged}
use Rattle.lr_graph.proofs.Histories.Amounts.{IfThere, calls_of-each, items-length}
use Rattle.lr_graph.proofs.Histories.Amounts.{counts-each, how_many-most, kept_spot-is, least_spot-is}
use Rattle.lr_graph.proofs.Histories.Amounts.{spots_of-each}
use Rattle.lr_graph.proofs.Histories.Fitting.{CallFits, CarriedFits, FactsFit, FrontFits, IsUpTo, MessageFits}
use Rattle.lr_graph.proofs.Histories.Fitting.{accepts_of, found-fits, front-fits, load, posts_of, total}
use Rattle.lr_graph.proofs.Histories.Updates.{AnswersFine}
use Rattle.lr_graph.proofs.Lists.Members.{each-map, filter-each}
use Rattle.lr_graph.proofs.Logs.Acks.{each-acks}
use Rattle.lr_graph.proofs.Lists.Tests.{and-left, and-right}
use Rattle.lr_graph.proofs.Promised.Changes.{put-each}

-- ---- the lines of an event itself

-- lines that fit, and tell of one acceptance at the most, and of one message or held query
pub record OwnFits (lines : List Outcome) : Type 0 where
  pub fits : Each OutcomeFits lines
  pub accepts : total accepts_of lines ≤ 1
  pub posts : total posts_of lines ≤ 1

-- a replica's or a client's number fits
valid-replica : (config : Config) → IsValid config → (i : ℕ) → i < config.replicas → NumberFits i
valid-replica config valid i here = let most = valid.most_replicas in omega (arith, most_replicas-is)

valid-client : (config : Config) → IsValid config → (client : ℕ) → client < config.clients → NumberFits client
valid-client config valid client here = let most = valid.most_clients in omega (arith, most_clients-is)

module _ {Value Op : Type 0} (m : Meaning Value Op) (config : Config) (steps : ℕ) (few : NumberFits (suc steps))
    (w : Facts Op) (h : FactsFit w) (up : IsUpTo steps w) (fine : AnswersFine m HasNoFeed w) where
  next-fits : NumberFits (next_number w)
  next-fits = let most = up.load 0 in omega arith

  -- what isn't more than the items fits
  items-fit : (n : ℕ) → n ≤ length (item_spots w) → NumberFits n
  items-fit n most = let all = up.accepted in let count = items-length w in omega arith

  -- a copy of a call that goes out fits
  copy-fits : (client replica clock : ℕ) (call : LabelledCall Op) → NumberFits client → NumberFits replica
      → NumberFits clock → CallFits call → OutcomeFits (copy_line m w client replica clock call)
  copy-fits client replica clock call c r t named = (next-fits, c, r, sent (is_query (m.kind call.op)))
    where
      sent : (query : Bool) → SentFits (cond query (Query call.cid) (Update call.cid clock))
      sent true = named
      sent false = (named, t)

  resend-own : (client replica clock : ℕ) → NumberFits client → NumberFits replica → NumberFits clock
      → (o : Option (LabelledCall Op)) → IfThere CallFits o → OwnFits (resend_lines m w client replica clock o)
  resend-own client replica clock c r t None is =
      record { fits = (tt, tt); accepts = omega arith; posts = omega arith }
  resend-own client replica clock c r t (Some call) is =
      record { fits = (copy-fits client replica clock call c r t is, tt); accepts = omega arith; posts = omega arith }

  acknowledge-own : (client replica clock : ℕ) → NumberFits client → NumberFits replica → NumberFits clock
      → (o : Option Cid) → IfThere CidFits o → OwnFits (acknowledge_lines w client replica clock o)
  acknowledge-own client replica clock c r t None is =
      record { fits = (tt, tt); accepts = omega arith; posts = omega arith }
  acknowledge-own client replica clock c r t (Some cid) is =
      record { fits = ((next-fits, c, r, (is, t)), tt); accepts = omega arith; posts = omega arith }

  call-own : (client replica clock : ℕ) (op : Op) → NumberFits client → NumberFits replica → NumberFits clock
      → (o : Option (LabelledCall Op)) (worn : Bool) → IfThere CallFits o
      → OwnFits (call_lines m w client replica clock op o worn)
  call-own client replica clock op c r t (Some call) worn is =
      record { fits = (is, tt); accepts = omega arith; posts = omega arith }
  call-own client replica clock op c r t None true is =
      record { fits = (tt, tt); accepts = omega arith; posts = omega arith }
  call-own client replica clock op c r t None false is =
      let most = up.calls client in
      let call = next_call client (w.front client) op in
      record {
        fits = (copy-fits client replica clock call c r t (c, omega arith), tt);
        accepts = omega arith;
        posts = omega arith;
      }

  done-fits : (i : ℕ) (cid : Cid) (spot : Spot) → NumberFits i → CidFits cid → SpotFits spot
      → OutcomeFits (done_line w i cid spot)
  done-fits i cid spot here c s = (next-fits, here, c.0, (c, s))

  -- the next number of a place fits
  next-item : (i : ℕ) → NumberFits (suc (made (item_spots w) i))
  next-item i =
      let most = how_many-most (λ (s : Spot). s.place == i) (item_spots w) in
      let all = up.accepted in
      let count = items-length w in
      omega arith

  -- where a replica logs acknowledgements fits
  acked-fits : (i : ℕ) → Each (λ a. SpotFits a.spot) (acked config w i)
  acked-fits i = each-acks (λ a. SpotFits a.spot) (is_acked config w i) w.acks
      (each-map _ (λ a. is_acked config w i a ≡ true → SpotFits a.spot) w.acks (λ a fits is. fits) h.acks)

  -- and so does where it logs one of a call
  noted-fits : (i : ℕ) (cid : Cid) → IfThere SpotFits (noted_at config w i cid)
  noted-fits i cid = found (acked config w i) (acked-fits i)
    where
      found : (acks : List LogAck) → Each (λ a. SpotFits a.spot) acks
          → IfThere SpotFits (option_map (λ a. a.spot) (find (λ a. same_cid a.cid cid) acks))
      found [] each = tt
      found (a ∷ acks) each = at_head (same_cid a.cid cid) (found acks each.1)
        where
          at_head : (t : Bool) → IfThere SpotFits (option_map (λ a. a.spot) (find (λ a. same_cid a.cid cid) acks))
              → IfThere SpotFits (option_map (λ a. a.spot) (cond t (Some a) (find (λ a. same_cid a.cid cid) acks)))
          at_head true rest = each.0
          at_head false rest = rest

  ack-own : (i : ℕ) (cid : Cid) → NumberFits i → CidFits cid → (noted : Option Spot) (room left : Bool)
      → IfThere SpotFits noted → OwnFits (ack_lines w i cid noted room left)
  ack-own i cid here c (Some spot) room left is = record { fits = (is, tt); accepts = omega arith; posts = omega arith }
  ack-own i cid here c None false left is = record { fits = (tt, tt); accepts = omega arith; posts = omega arith }
  ack-own i cid here c None true false is = record { fits = (tt, tt); accepts = omega arith; posts = omega arith }
  ack-own i cid here c None true true is =
      record { fits = (((here, next-item i), c), tt); accepts = omega arith; posts = omega arith }

  accept-own : (i : ℕ) (cid : Cid) → NumberFits i → CidFits cid → (room left : Bool)
      → OwnFits (accept_lines w i cid room left)
  accept-own i cid here c false left = record { fits = (tt, tt); accepts = omega arith; posts = omega arith }
  accept-own i cid here c true false = record { fits = (tt, tt); accepts = omega arith; posts = omega arith }
  accept-own i cid here c true true =
      record {
        fits = (((here, next-item i), c), (done-fits i cid _ here c (here, next-item i), tt));
        accepts = omega arith;
        posts = omega arith;
      }

  update-own : (i : ℕ) (cid : Cid) (time : ℕ) → NumberFits i → CidFits cid → NumberFits time → (late : Bool)
      (taken noted : Option Spot) → IfThere SpotFits taken → OwnFits (update_lines config w i cid time late taken noted)
  update-own i cid time here c t true taken noted is =
      record { fits = ((t, h.clocks i), tt); accepts = omega arith; posts = omega arith }
  update-own i cid time here c t false (Some spot) noted is =
      record { fits = (is, (done-fits i cid spot here c is, tt)); accepts = omega arith; posts = omega arith }
  update-own i cid time here c t false None (Some spot) is =
      record { fits = (tt, tt); accepts = omega arith; posts = omega arith }
  update-own i cid time here c t false None None is = accept-own i cid here c _ _

  taken-fits : (i : ℕ) (cid : Cid) (o : Option Spot) → IfThere SpotFits o → IfThere SpotFits (taken_at config w i cid o)
  taken-fits i cid (Some spot) is = is
  taken-fits i cid None is = least_spot-is SpotFits w.accepted (logged config w i) cid h.spots

  copy-own : (i : ℕ) (call : LabelledCall Op) (time : ℕ) → NumberFits i → CallFits call → NumberFits time
      → (rules : Bool) → OwnFits (copy_lines config w i call time rules)
  copy-own i call time here c t false = record { fits = tt; accepts = omega arith; posts = omega arith }
  copy-own i call time here c t true =
      update-own i call.cid time here c t _ _ _
      (taken-fits i call.cid (kept_at config w i call.cid) (by_known (is_known config w i call.cid)))
    where
      by_known : (t : Bool) → IfThere SpotFits (cond t (kept_spot (w.kept i) call.cid) None)
      by_known true = kept_spot-is SpotFits (w.kept i) call.cid (h.kept i)
      by_known false = tt

  answer-fits : (number i : ℕ) (call : LabelledCall Op) → NumberFits number → NumberFits i → CallFits call
      → OutcomeFits (answer_line m w number i call)
  answer-fits number i call n here c = (n, here, c.0, (c, fine i call.op))

  query-own : (i : ℕ) (call : LabelledCall Op) → NumberFits i → CallFits call → (covered room : Bool)
      → OwnFits (query_lines m w i call covered room)
  query-own i call here c true room =
      record { fits = (answer-fits _ i call next-fits here c, tt); accepts = omega arith; posts = omega arith }
  query-own i call here c false true = record { fits = (c, tt); accepts = omega arith; posts = omega arith }
  query-own i call here c false false = record { fits = (tt, tt); accepts = omega arith; posts = omega arith }

  reply-own : (o : Option (LabelledCall Op)) (cid : Cid) → CidFits cid → OwnFits (reply_line o cid ∷ [])
  reply-own None cid c = record { fits = (c, tt); accepts = omega arith; posts = omega arith }
  reply-own (Some call) cid c = by_test (same_cid call.cid cid)
    where
      by_test : (t : Bool) → OwnFits (cond t (Got cid) (Stale cid) ∷ [])
      by_test true = record { fits = (c, tt); accepts = omega arith; posts = omega arith }
      by_test false = record { fits = (c, tt); accepts = omega arith; posts = omega arith }

  message-own : (to : Actor) (what : Carried Op) → ActorFits to → CarriedFits what
      → OwnFits (message_lines m config w to what)
  message-own (Replica i) (UpdateCopy call time) here c = copy-own i call time here c.0 c.1 (has_rules (m.kind call.op))
  message-own (Replica i) (QueryCopy call) here c = query-own i call here c _ _
  message-own (Replica i) (AckCopy cid time) here c = ack-own i cid here c.0 _ _ _ (noted-fits i cid)
  message-own (Replica i) (GossipOf names) here c =
      record { fits = (items-fit _ (how_many-most _ (item_spots w)), tt); accepts = omega arith; posts = omega arith }
  message-own (Client client) (DoneReply cid names) here c = reply-own (w.front client).open_call cid c
  message-own (Client client) (AnswerReply cid names) here c = reply-own (w.front client).open_call cid c
  message-own _ _ here c = record { fits = tt; accepts = omega arith; posts = omega arith }

  delivery-own : (number : ℕ) → NumberFits number → (o : Option (SentMessage Op)) → IfThere MessageFits o
      → OwnFits (delivery_lines m config w number o)
  delivery-own number n None came = record { fits = (n, tt); accepts = omega arith; posts = omega arith }
  delivery-own number n (Some x) came = message-own x.to x.what came.0 came.1

  state-fits : (i : ℕ) → NumberFits i → StateFits (replica_line config w i)
  state-fits i here = record {
    replica = here;
    view = omega arith;
    clock = h.clocks i;
    received = All-from_recursion NumberFits _
        (counts-each NumberFits (item_spots w) items-fit (w.received i) (suc config.replicas));
    log = All-from_recursion SpotFits _ (spots_of-each SpotFits w.accepted (logged config w i) h.spots);
    acks = All-from_recursion SpotFits _ (ack_spots (acked config w i) (acked-fits i));
    calls = All-from_recursion CidFits _ (known (calls_of w.accepted (ready w.accepted (w.received i)))
        (calls_of-each CidFits w.accepted (ready w.accepted (w.received i)) h.calls));
    held = All-from_recursion CidFits _ (cids (w.held i) (h.held i));
    marks = All-from_recursion _ [] tt;
  }
    where
      known : (cs : List Cid) → Each CidFits cs → Each CidFits (filter (is_known config w i) cs)
      known cs all = each-map _ CidFits (filter (is_known config w i) cs) (λ c k. k.0)
          (filter-each CidFits (is_known config w i) cs all)

      ack_spots : (acks : List LogAck) → Each (λ a. SpotFits a.spot) acks → Each SpotFits (map (λ a. a.spot) acks)
      ack_spots [] each = tt
      ack_spots (a ∷ acks) each = (each.0, ack_spots acks each.1)

      cids : (calls : List (LabelledCall Op)) → Each CallFits calls → Each CidFits (map (λ call. call.cid) calls)
      cids [] each = tt
      cids (call ∷ calls) each = (each.0, cids calls each.1)

  -- ---- what an event begins with

  -- the message that an event delivers fits
  pub came-fits : (event : Event Op) → IfThere MessageFits (delivery_of w event)
  came-fits (Deliver message) = found-fits message w.messages h.messages
  came-fits _ = tt

  module _ (valid : IsValid config) where
    -- and so does the replica that an event is a step of
    pub stepping-fits : (event : Event Op) → is_event_in m config event ≡ true → IfThere NumberFits (stepping w event)
    stepping-fits (Tick replica reading) is = valid-replica config valid replica (ltb-true _ _ is)
    stepping-fits (Deliver message) is = receiving (delivery_of w (Deliver message)) (came-fits (Deliver message))
      where
        acting : (to : Actor) → ActorFits to → IfThere NumberFits (replica_in (Some to))
        acting (Replica i) fits = fits
        acting (Client client) fits = tt

        receiving : (o : Option (SentMessage Op)) → IfThere MessageFits o → IfThere NumberFits (replica_in (receiver o))
        receiving None came = tt
        receiving (Some x) came = acting x.to came.0
    stepping-fits (GossipEvent from to) is = valid-replica config valid from (ltb-true _ _ (and-left _ _ is))
    stepping-fits _ is = tt

    -- the client and the replica that an event names, and the client's clock after its reading, fit
    named-fit : (client replica reading : ℕ) → nat_lt client config.clients ≡ true
        → nat_lt replica config.replicas ≡ true → NumberFits reading
        → NumberFits client × NumberFits replica × NumberFits (max (w.front client).clock reading)
    named-fit client replica reading c r reads =
        let before = (h.fronts client).0 in (
          valid-client config valid client (ltb-true _ _ c),
          valid-replica config valid replica (ltb-true _ _ r),
          omega arith,
        )

    pub own-fits : (event : Event Op) → is_event_in m config event ≡ true → EventNumberFits event
        → OwnFits (own_lines m config w event)
    own-fits (Call client replica reading op) is reads =
        let r = and-left (nat_lt replica config.replicas) _ (and-right (nat_lt client config.clients) _ is) in
        let named = named-fit client replica reading (and-left _ _ is) r reads in
        call-own client replica (max (w.front client).clock reading) op named.0 named.1 named.2 _ _ (h.fronts client).1
    own-fits (Resend client replica reading) is reads =
        let r = and-right (nat_lt client config.clients) _ is in
        let named = named-fit client replica reading (and-left _ _ is) r reads in
        resend-own client replica (max (w.front client).clock reading) named.0 named.1 named.2 _ (h.fronts client).1
    own-fits (AckEvent client replica reading) is reads =
        let r = and-right (nat_lt client config.clients) _ is in
        let named = named-fit client replica reading (and-left _ _ is) r reads in
        acknowledge-own client replica (max (w.front client).clock reading) named.0 named.1 named.2 _
        (h.fronts client).2
    own-fits (Tick replica reading) is reads =
        let before = h.clocks replica in
        let clock : NumberFits (max (w.clock replica) reading) = omega arith in
        record { fits = (clock, tt); accepts = omega arith; posts = omega arith }
    own-fits (Deliver message) is n =
        delivery-own message n (delivery_of w (Deliver message)) (came-fits (Deliver message))
    own-fits (GossipEvent from to) is n =
        let one : NumberFits from = valid-replica config valid from (ltb-true _ _ (and-left _ _ is)) in
        let other : NumberFits to = valid-replica config valid to (ltb-true to config.replicas
        (and-left (nat_lt to config.replicas) _ (and-right (nat_lt from config.replicas) _ is))) in
        record { fits = ((next-fits, one, other, tt), tt); accepts = omega arith; posts = omega arith }
    own-fits (Show replica) is n =
        record {
          fits = (state-fits replica (valid-replica config valid replica (ltb-true _ _ is)), tt);
          accepts = omega arith;
          posts = omega arith;
        }

    -- facts that fit, with no more than before but one more call of a client
    pub record Begins (next : Facts Op) : Type 0 where
      pub fit : FactsFit next
      pub accepted : length next.accepted + length next.acks ≤ steps
      pub loaded : (n : ℕ) → load n next ≤ steps
      pub calls : (client : ℕ) → (next.front client).calls ≤ suc steps

    begin-same : Begins w
    begin-same = record {
      fit = h;
      accepted = up.accepted;
      loaded = up.load;
      calls = λ client. (let most = up.calls client in omega arith);
    }

    -- another front end that fits, and has made one call more at the most
    begin-front : (client : ℕ) (f : FrontFacts Op) → FrontFits f → f.calls ≤ suc steps → Begins (with_front w client f)
    begin-front client f fits counted = record {
      fit = front-fits w client f fits h;
      accepted = up.accepted;
      loaded = up.load;
      calls = put-each (λ j g. g.calls ≤ suc steps) client f w.front counted
          (λ j. (let most = up.calls j in omega arith));
    }

    -- a front end has read its clock
    begin-read : (client reading : ℕ) → NumberFits reading
        → Begins (with_front w client (clock_read reading (w.front client)))
    begin-read client reading reads =
        let own = h.fronts client in
        let before = own.0 in
        let most = up.calls client in
        begin-front client (clock_read reading (w.front client)) (omega arith, own.1, own.2) (omega arith)

    pub begins : (event : Event Op) → is_event_in m config event ≡ true → EventNumberFits event
        → Begins (event_read w event)
    begins (Call client replica reading op) is reads =
        begin-front client (new front.open_call worn) (opened front.open_call worn) (counted front.open_call worn)
      where
        front : FrontFacts Op
        front = w.front client

        worn : Bool
        worn = front.calls == 2 ^ 62

        new : Option (LabelledCall Op) → Bool → FrontFacts Op
        new o worn = call_read client reading op front o worn

        clock : NumberFits (max front.clock reading)
        clock = let one = (h.fronts client).0 in omega arith

        opened : (o : Option (LabelledCall Op)) (worn : Bool) → FrontFits (new o worn)
        opened (Some call) worn = (clock, (h.fronts client).1, (h.fronts client).2)
        opened None true = (clock, (h.fronts client).1, (h.fronts client).2)
        opened None false =
            let c = valid-client config valid client (ltb-true _ _ (and-left _ _ is)) in
            (clock, (c, (let most = up.calls client in omega arith)), (h.fronts client).2)

        counted : (o : Option (LabelledCall Op)) (worn : Bool) → (new o worn).calls ≤ suc steps
        counted (Some call) worn = let most = up.calls client in omega arith
        counted None true = let most = up.calls client in omega arith
        counted None false = let most = up.calls client in omega arith
    begins (Resend client replica reading) is reads = begin-read client reading reads
    begins (AckEvent client replica reading) is reads = begin-read client reading reads
    begins _ is n = begin-same
