-- Whatever changes, calls that are over stay over, and times stay in order.
use Rattle.std.proofs.Common.{◌≡◌, ◌≤◌, ℕ, suc, false, ◌⊎◌, inl, inr, Option, Some, None}
use Rattle.std.proofs.Common.{refl, sym, ap, ◌∙◌, subst, true≢false, arith}
use Rattle.lr_base.specs.Ascending.{same_cid}
use Rattle.lr_base.specs.declared.names.Cid.{Cid}
use Rattle.lr_graph.specs.After.{call_read, clock_read, next_call, replied, takes_reply, with_front}
use Rattle.lr_graph.specs.Closed.{Each}
use Rattle.lr_graph.specs.Graph.{AckCopy, Carried, Facts, FrontFacts, LabelledCall, UpdateCopy, first_facts}
use Rattle.lr_graph.specs.Sets.{SpotSet, put_at}
use Rattle.lr_graph.specs.Timed.{IsAnsweredOf, IsNotLater, IsOpenOf, IsOver, IsTimed, IsTimely, is_open}
use Rattle.lr_graph.proofs.Lists.Members.{each-at, each-map}
use Rattle.lr_graph.proofs.Lists.Tests.{equal-or-not, never, same_cid-is, same_cid-self}
use Rattle.lr_graph.proofs.Promised.Changes.{put-each}
use Rattle.lr_graph.proofs.Replicas.Stepping.{put-other, put-same}
use Rattle.lr_graph.proofs.Timed.Changes.{Change, Changes, MaySend, ack_noted, call_opened, clock_raised, message_sent}
use Rattle.lr_graph.proofs.Timed.Changes.{no_change, one_more, query_answered, replica_changed, update_answered}

some-is : {A : Type 0} (a b : A) → Some a ≡ Some b → a ≡ b
some-is a b e = cc

none-some : {A : Type 0} (a : A) → None ≡ Some a → ⊥
none-some a e = cc

module _ {Op : Type 0} where
  -- ---- what goes on to hold

  -- what was over is over still, and no front end's clock is set back
  pub record GoesOn (w next : Facts Op) : Type 0 where
    pub over : (cid : Cid) (last : ℕ) → IsOver w cid last → IsOver next cid last
    pub clocks : (client : ℕ) → (w.front client).clock ≤ (next.front client).clock

  -- another front end, which counts no less and has no call open that was over
  front-goes_on : (w : Facts Op) (client : ℕ) (f : FrontFacts Op) → (w.front client).clock ≤ f.clock
      → (w.front client).calls ≤ f.calls
      → ((cid : Cid) → cid.seq ≤ (w.front cid.client).calls → is_open (w.front client).open_call cid ≡ false
      → is_open f.open_call cid ≡ false)
      → GoesOn w (with_front w client f)
  front-goes_on w client f clock calls closed = record {
    over = λ cid last h. record {
      made = (let more = put-each (λ j g. (w.front j).calls ≤ g.calls) client f w.front calls (λ j. omega arith) in
          let before = h.made in let after = more cid.client in omega arith);
      closed = put-each (λ j g. is_open g.open_call cid ≡ false) client f w.front (closed cid h.made (h.closed client))
          h.closed;
      copies = h.copies;
    };
    clocks = put-each (λ j g. (w.front j).clock ≤ g.clock) client f w.front clock (λ j. omega arith);
  }

  -- the next call is none that was made
  next-other : (w : Facts Op) (client : ℕ) (op : Op) (cid : Cid) → cid.seq ≤ (w.front cid.client).calls
      → same_cid (next_call client (w.front client) op).cid cid ≡ false
  next-other w client op cid made = never _ (λ e.
      let is : (next_call client (w.front client) op).cid ≡ cid = same_cid-is _ cid e in
      let seq : suc (w.front client).calls ≡ cid.seq = ap (λ (c : Cid). c.seq) is in
      let own : (w.front client).calls ≡ (w.front cid.client).calls = ap (λ (c : Cid). (w.front c.client).calls) is in
      past made seq own)
    where
      past : {s a b : ℕ} → s ≤ b → suc a ≡ s → a ≡ b → ⊥
      past made seq own = omega arith

  -- a copy that is sent now is of no call that is over
  new-not_later : (w : Facts Op) (what : Carried Op) → MaySend w what → (cid : Cid) (last : ℕ) → IsOver w cid last
      → IsNotLater cid last what
  new-not_later w (UpdateCopy call time) may cid last h = λ same.
      let closed : is_open (w.front call.cid.client).open_call call.cid ≡ false =
      ap (is_open (w.front call.cid.client).open_call) same ∙ h.closed call.cid.client in
      absurd (true≢false (sym (ap (λ o. is_open o call.cid) may.0 ∙ same_cid-self call.cid) ∙ closed))
  new-not_later w _ may cid last h = tt

  -- the same front ends and messages
  same-goes_on : (w next : Facts Op) → next.front ≡ w.front → next.messages ≡ w.messages → GoesOn w next
  same-goes_on w next front messages = record {
    over = λ cid last h. record {
      made = subst (λ f. cid.seq ≤ (f cid.client).calls) (sym front) h.made;
      closed = subst (λ f. (j : ℕ) → is_open (f j).open_call cid ≡ false) (sym front) h.closed;
      copies = subst (λ l. Each (λ x. IsNotLater cid last x.what) l) (sym messages) h.copies;
    };
    clocks = subst (λ f. (j : ℕ) → (w.front j).clock ≤ (f j).clock) (sym front) (λ j. omega arith);
  }

  pub change-goes_on : (w next : Facts Op) → Change w next → GoesOn w next
  change-goes_on w next (clock_raised client reading) =
      front-goes_on w client _ (omega arith) (omega arith) (λ cid made closed. closed)
  change-goes_on w next (call_opened client reading op) =
      front-goes_on w client _ (omega arith) (omega arith) (λ cid made closed. next-other w client op cid made)
  change-goes_on w next (message_sent x may) = record {
    over = λ cid last h. record {
      made = h.made;
      closed = h.closed;
      copies = (new-not_later w x.what may cid last h, h.copies);
    };
    clocks = λ client. omega arith;
  }
  change-goes_on w next (ack_noted i spot cid time came) = same-goes_on w next refl refl
  change-goes_on w next (update_answered client names call cid is same) =
      front-goes_on w client _ (omega arith) (omega arith) (λ c made closed. refl)
  change-goes_on w next (query_answered client names) =
      front-goes_on w client _ (omega arith) (omega arith) (λ c made closed. refl)
  change-goes_on w next (replica_changed accepted received told kept held clock) = same-goes_on w next refl refl

  pub changes-go_on : (w next : Facts Op) → Changes w next → GoesOn w next
  changes-go_on w next no_change = record { over = λ cid last h. h; clocks = λ client. omega arith }
  changes-go_on w next (one_more v u before change) =
      let one = changes-go_on w v before in
      let other = change-goes_on v u change in
      record {
        over = λ cid last h. other.over cid last (one.over cid last h);
        clocks = λ client. (let a = one.clocks client in let b = other.clocks client in omega arith);
      }

  -- ---- times stay in order

  timely-goes_on : (w next : Facts Op) → GoesOn w next → (what : Carried Op) → IsTimely w what → IsTimely next what
  timely-goes_on w next on (UpdateCopy call time) h = let clock = on.clocks call.cid.client in omega arith
  timely-goes_on w next on (AckCopy cid time) h = on.over cid time h
  timely-goes_on w next on _ h = tt

  -- what isn't later than one time isn't later than a later one
  not_later-more : (cid : Cid) (last more : ℕ) → last ≤ more → (what : Carried Op) → IsNotLater cid last what
      → IsNotLater cid more what
  not_later-more cid last more up (UpdateCopy call time) h = λ same. let at_most = h same in omega arith
  not_later-more cid last more up _ h = tt

  -- a copy of a client's call isn't later than its clock
  clock-last : (w : Facts Op) (cid : Cid) (what : Carried Op) → IsTimely w what
      → IsNotLater cid (w.front cid.client).clock what
  clock-last w cid (UpdateCopy call time) h = λ same. subst (λ (c : Cid). time ≤ (w.front c.client).clock) same h
  clock-last w cid _ h = tt

  module _ (w : Facts Op) (h : IsTimed w) where
    -- what may be sent has a time that fits
    new-timely : (what : Carried Op) → MaySend w what → IsTimely w what
    new-timely (UpdateCopy call time) may = let is = may.1 in omega arith
    new-timely (AckCopy cid time) may =
        subst (λ t. IsOver w cid t) (sym may.1) (h.answered cid.client cid may.0).over
    new-timely _ may = tt

    module _ (next : Facts Op) (on : GoesOn w next) where
      sent-goes_on : Each (λ x. IsTimely next x.what) w.messages
      sent-goes_on = each-map _ _ w.messages (λ x. timely-goes_on w next on x.what) h.sent

      noted-goes_on : Each (λ a. IsOver next a.cid a.time) w.acks
      noted-goes_on = each-map _ _ w.acks (λ a. on.over a.cid a.time) h.noted

      -- an answered update, at a clock that isn't set back
      answered-goes_on : (client : ℕ) (f : FrontFacts Op) → (w.front client).clock ≤ f.clock → (cid : Cid)
          → (w.front client).answered ≡ Some cid → IsAnsweredOf next client f cid
      answered-goes_on client f rises cid is =
          let before = h.answered client cid is in
          let over = on.over cid (w.front client).clock before.over in
          record {
            own = before.own;
            over = record {
              made = over.made;
              closed = over.closed;
              copies = each-map _ _ next.messages (λ x. not_later-more cid _ f.clock rises x.what) over.copies;
            };
          }

    -- another front end
    front-timed : (client : ℕ) (f : FrontFacts Op) → GoesOn w (with_front w client f)
        → ((call : LabelledCall Op) → f.open_call ≡ Some call → IsOpenOf client f call)
        → ((cid : Cid) → f.answered ≡ Some cid → IsAnsweredOf (with_front w client f) client f cid)
        → IsTimed (with_front w client f)
    front-timed client f on opened answered = record {
      opened = put-each (λ j g. (call : LabelledCall Op) → g.open_call ≡ Some call → IsOpenOf j g call)
          client f w.front opened h.opened;
      answered = put-each (λ j g. (cid : Cid) → g.answered ≡ Some cid → IsAnsweredOf (with_front w client f) j g cid)
          client f w.front answered (λ j. answered-goes_on (with_front w client f) on j (w.front j) (omega arith));
      sent = sent-goes_on (with_front w client f) on;
      noted = noted-goes_on (with_front w client f) on;
    }

    -- the same front ends and messages, and no new acknowledgement but one that was sent
    same-timed : (next : Facts Op) → GoesOn w next → next.front ≡ w.front → next.messages ≡ w.messages
        → Each (λ a. IsOver next a.cid a.time) next.acks → IsTimed next
    same-timed next on front messages noted = record {
      opened = subst (λ (f : ℕ → FrontFacts Op). (j : ℕ) (call : LabelledCall Op) → (f j).open_call ≡ Some call
          → IsOpenOf j (f j) call) (sym front) h.opened;
      answered = subst (λ (f : ℕ → FrontFacts Op). (j : ℕ) (cid : Cid) → (f j).answered ≡ Some cid
          → IsAnsweredOf next j (f j) cid) (sym front) (λ j. answered-goes_on next on j (w.front j) (omega arith));
      sent = subst (λ l. Each (λ x. IsTimely next x.what) l) (sym messages) (sent-goes_on next on);
      noted = noted;
    }

    -- a client's own update is over once it is answered, with no copy later than its clock
    answered-over : (client : ℕ) (names : SpotSet) (call : LabelledCall Op) (cid : Cid)
        → (w.front client).open_call ≡ Some call → call.cid ≡ cid
        → IsAnsweredOf (takes_reply w client names (Some cid)) client (replied names (Some cid) (w.front client)) cid
    answered-over client names call cid is same = record {
      own = own;
      over = record {
        made = subst (λ (f : FrontFacts Op). cid.seq ≤ f.calls) (sym there)
            (subst (λ (c : Cid). c.seq ≤ (w.front client).calls) same before.made);
        closed = closed;
        copies = each-map _ _ w.messages
            (λ x t. subst (λ j. IsNotLater cid (w.front j).clock x.what) own (clock-last w cid x.what t)) h.sent;
      };
    }
      where
        before : IsOpenOf client (w.front client) call
        before = h.opened client call is

        own : cid.client ≡ client
        own = ap (λ (c : Cid). c.client) (sym same) ∙ before.own

        now : FrontFacts Op
        now = replied names (Some cid) (w.front client)

        there : put_at client now w.front cid.client ≡ now
        there = ap (put_at client now w.front) own ∙ put-same client now w.front

        -- what another front end has open is another client's
        elsewhere : (j : ℕ) → (j ≡ client → ⊥) → (o : Option (LabelledCall Op)) → (w.front j).open_call ≡ o
            → is_open o cid ≡ false
        elsewhere j apart None e = refl
        elsewhere j apart (Some other) e = never (same_cid other.cid cid) (λ t.
            apart (sym (h.opened j other e).own ∙ ap (λ (c : Cid). c.client) (same_cid-is other.cid cid t) ∙ own))

        closed : (j : ℕ) → is_open (put_at client now w.front j).open_call cid ≡ false
        closed j = by_place (equal-or-not j client)
          where
            by_place : (j ≡ client) ⊎ (j ≡ client → ⊥) → is_open (put_at client now w.front j).open_call cid ≡ false
            by_place (inl e) = ap (λ (f : FrontFacts Op). is_open f.open_call cid)
                (ap (put_at client now w.front) e ∙ put-same client now w.front)
            by_place (inr apart) =
                ap (λ (f : FrontFacts Op). is_open f.open_call cid) (put-other client j now w.front apart)
                ∙ elsewhere j apart (w.front j).open_call refl

    pub change-timed : (next : Facts Op) → Change w next → IsTimed next
    change-timed next (clock_raised client reading) =
        let on = change-goes_on w next (clock_raised client reading) in
        let front = clock_read reading (w.front client) in
        front-timed client front on
        (λ call e. (let c = h.opened client call e in record { own = c.own; made = c.made }))
        (answered-goes_on next on client front (omega arith))
    change-timed next (call_opened client reading op) =
        let on = change-goes_on w next (call_opened client reading op) in
        let front = call_read client reading op (w.front client) None false in
        front-timed client front on
        (λ call e. subst (IsOpenOf client front) (some-is (next_call client (w.front client) op) call e)
        (record { own = refl; made = omega arith }))
        (answered-goes_on next on client front (omega arith))
    change-timed next (message_sent x may) =
        let on = change-goes_on w next (message_sent x may) in
        record {
          opened = h.opened;
          answered = λ j. answered-goes_on next on j (w.front j) (omega arith);
          sent = (timely-goes_on w next on x.what (new-timely x.what may), sent-goes_on next on);
          noted = noted-goes_on next on;
        }
    change-timed next (ack_noted i spot cid time came) =
        let on = change-goes_on w next (ack_noted i spot cid time came) in
        let over : IsOver w cid time = subst (IsTimely w) came.2 (each-at _ came.0 w.messages h.sent came.1) in
        same-timed next on refl refl (on.over cid time over, noted-goes_on next on)
    change-timed next (update_answered client names call cid is same) =
        let on = change-goes_on w next (update_answered client names call cid is same) in
        let front = replied names (Some cid) (w.front client) in
        front-timed client front on (λ other e. absurd (none-some other e))
        (λ other e. subst (IsAnsweredOf next client front) (some-is cid other e)
        (answered-over client names call cid is same))
    change-timed next (query_answered client names) =
        let on = change-goes_on w next (query_answered client names) in
        let front = replied names (w.front client).answered (w.front client) in
        front-timed client front on (λ other e. absurd (none-some other e))
        (answered-goes_on next on client front (omega arith))
    change-timed next (replica_changed accepted received told kept held clock) =
        let on = change-goes_on w next (replica_changed accepted received told kept held clock) in
        same-timed next on refl refl (noted-goes_on next on)

  pub changes-timed : (w next : Facts Op) → IsTimed w → Changes w next → IsTimed next
  changes-timed w next h no_change = h
  changes-timed w next h (one_more v u before change) = change-timed v (changes-timed w v h before) u change

-- before any event times are in order
pub first-timed : {Op : Type 0} → IsTimed {Op = Op} first_facts
first-timed {Op} = record {
  opened = λ client call is. absurd (none-some call is);
  answered = λ client cid is. absurd (none-some cid is);
  sent = tt;
  noted = tt;
}
  where
    none-some : {A : Type 0} (a : A) → None ≡ Some a → ⊥
    none-some a e = cc
