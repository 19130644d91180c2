-- What a front end has after many events, and that its commands can be undone.
use Rattle.std.specs.Prelude.{◌≡◌, ◌+◌, ◌++◌, ◌==◌, ℕ, Bool, true, false, max, List, [], ◌∷◌, Option, Some, None}
use Rattle.std.specs.Prelude.{fold, replicate}
use Rattle.std.proofs.Common.{refl, ap, ◌∙◌}
use Rattle.lr_base.specs.Fronts.{FrontEvent, FrontState, after_call, call_of, clock_read, front_next, is_open}
use Rattle.lr_base.specs.Fronts.{new_front, reply_taken}
use Rattle.lr_base.specs.Fronts.FrontEvent.{CallTo, ResendTo, AckTo, TakeMessage}
use Rattle.lr_base.specs.Limits.{last_number}
use Rattle.lr_base.specs.Stamps.{Stamp, join}
use Rattle.lr_base.specs.declared.messages.Call.{Call}
use Rattle.lr_base.specs.declared.messages.Message.{Message}
use Rattle.lr_base.specs.declared.messages.Message.TheVariants.{Update, Query, Ack, Done, Answer, Gossip}
use Rattle.lr_base.specs.declared.names.Cid.{Cid}
use Rattle.lr_base.specs.declared.names.Config.{Config}
use Rattle.lr_front.specs.Replies.{front_after, readings, stamp_got, stamp_if_open, stamp_in_message, stamps_got}
use Rattle.lr_front.specs.Undoing.{restored, saved}

module _ {Op : Type 0} where
  -- a call leaves the label as it is
  call-label : (op : Op) (front : FrontState Op) (call : Option (Call Op)) (worn : Bool)
      → (after_call op front call worn).label ≡ front.label
  call-label op front (Some call) worn = refl
  call-label op front None true = refl
  call-label op front None false = refl

  -- beyond its reading, a call leaves the clock as it is
  call-clock : (op : Op) (front : FrontState Op) (call : Option (Call Op)) (worn : Bool)
      → (after_call op front call worn).clock ≡ front.clock
  call-clock op front (Some call) worn = refl
  call-clock op front None true = refl
  call-clock op front None false = refl

  -- a reply's stamp is joined where it is taken
  reply-label : (cid : Cid) (stamp : Stamp) (answered : Option Cid) (front : FrontState Op) (rest : List Stamp)
      → fold join (reply_taken cid stamp answered front).label rest
      ≡ fold join front.label (stamp_if_open front cid stamp ++ rest)
  reply-label cid stamp answered front rest = go (is_open front.open_call cid) refl
    where
      go : (t : Bool) → is_open front.open_call cid ≡ t
          → fold join (reply_taken cid stamp answered front).label rest
          ≡ fold join front.label (stamp_if_open front cid stamp ++ rest)
      go true open_now = rw open_now refl
      go false open_now = rw open_now refl

  -- of a front end a message changes no more than the label, the open call and the last answered update
  reply-else : {X : Type 0} (field : FrontState Op → X) (cid : Cid) (stamp : Stamp) (answered : Option Cid)
      (front : FrontState Op)
      → ((label : Stamp) (call : Option (Call Op)) (last : Option Cid)
      → field (record front { label = label; open_call = call; answered = last }) ≡ field front)
      → field (reply_taken cid stamp answered front) ≡ field front
  reply-else field cid stamp answered front same = go (is_open front.open_call cid) refl
    where
      go : (t : Bool) → is_open front.open_call cid ≡ t → field (reply_taken cid stamp answered front) ≡ field front
      go true open_now = rw open_now (same (join front.label stamp) None answered)
      go false open_now = rw open_now refl

  -- and so for every message
  message-else : {X : Type 0} (field : FrontState Op → X) (message : Message Op) (front : FrontState Op)
      → ((label : Stamp) (call : Option (Call Op)) (last : Option Cid)
      → field (record front { label = label; open_call = call; answered = last }) ≡ field front)
      → field (front_next (TakeMessage message) front) ≡ field front
  message-else field (Done cid spot stamp) front same = reply-else field cid stamp (Some cid) front same
  message-else field (Answer cid text stamp) front same = reply-else field cid stamp front.answered front same
  message-else field (Update call time) front same = refl
  message-else field (Query call) front same = refl
  message-else field (Ack cid time) front same = refl
  message-else field (Gossip gossip) front same = refl

  -- one event joins the stamp that it brings
  event-label : (event : FrontEvent Op) (front : FrontState Op) (rest : List Stamp)
      → fold join (front_next event front).label rest ≡ fold join front.label (stamp_got front event ++ rest)
  event-label (CallTo replica reading op) front rest =
      ap (λ (label : Stamp). fold join label rest)
      (call-label op (clock_read reading front) front.open_call (front.calls == last_number))
  event-label (ResendTo replica reading) front rest = refl
  event-label (AckTo replica reading) front rest = refl
  event-label (TakeMessage message) front rest = go message
    where
      go : (message : Message Op) → fold join (front_next (TakeMessage message) front).label rest
          ≡ fold join front.label (stamp_in_message front message ++ rest)
      go (Done cid spot stamp) = reply-label cid stamp (Some cid) front rest
      go (Answer cid text stamp) = reply-label cid stamp front.answered front rest
      go (Update call time) = refl
      go (Query call) = refl
      go (Ack cid time) = refl
      go (Gossip gossip) = refl

  -- from whatever front end, the label joins the stamps that are got
  label-from : (front : FrontState Op) (events : List (FrontEvent Op))
      → (fold (λ f event. front_next event f) front events).label ≡ fold join front.label (stamps_got front events)
  label-from front [] = refl
  label-from front (event ∷ later) =
      label-from (front_next event front) later ∙ event-label event front (stamps_got (front_next event front) later)

  -- and the clock rises to the greatest reading
  clock-from : (front : FrontState Op) (events : List (FrontEvent Op))
      → (fold (λ f event. front_next event f) front events).clock ≡ fold max front.clock (readings events)
  clock-from front [] = refl
  clock-from front (CallTo replica reading op ∷ later) =
      clock-from (front_next (CallTo replica reading op) front) later ∙ ap (λ n. fold max n (readings later))
      (call-clock op (clock_read reading front) front.open_call (front.calls == last_number))
  clock-from front (ResendTo replica reading ∷ later) = clock-from (clock_read reading front) later
  clock-from front (AckTo replica reading ∷ later) = clock-from (clock_read reading front) later
  clock-from front (TakeMessage message ∷ later) =
      clock-from (front_next (TakeMessage message) front) later
      ∙ ap (λ n. fold max n (readings later)) (message-else (λ f. f.clock) message front (λ label call last. refl))

  -- the label of a front end is the join of the stamps of the replies that it took
  pub label-joins : (config : Config) (client : ℕ) (events : List (FrontEvent Op))
      → (front_after config client events).label
      ≡ fold join (replicate (config.replicas + 1) 0) (stamps_got (new_front config client) events)
  label-joins config client events = label-from (new_front config client) events

  -- its clock is the greatest reading
  pub clock-greatest : (config : Config) (client : ℕ) (events : List (FrontEvent Op))
      → (front_after config client events).clock ≡ fold max 0 (readings events)
  clock-greatest config client events = clock-from (new_front config client) events

  -- a call is undone, whether it was refused or not
  pub undo-call : (front : FrontState Op) (replica reading : ℕ) (op : Op)
      → restored (saved front) (front_next (CallTo replica reading op) front) ≡ front
  undo-call front replica reading op = go front.open_call refl (front.calls == last_number) refl
    where
      go : (call : Option (Call Op)) → front.open_call ≡ call → (worn : Bool) → (front.calls == last_number) ≡ worn
          → restored (saved front) (front_next (CallTo replica reading op) front) ≡ front
      go (Some call) open_now worn is = rw open_now refl
      go None closed true is = rw (closed, is) refl
      go None closed false is = rw (closed, is) refl

  -- the clock is set back where the open call stays
  pub undo-reading : (front : FrontState Op) (reading : ℕ) → restored (saved front) (clock_read reading front) ≡ front
  undo-reading front reading = go front.open_call refl
    where
      go : (call : Option (Call Op)) → front.open_call ≡ call
          → restored (saved front) (clock_read reading front) ≡ front
      go (Some call) open_now = rw open_now refl
      go None closed = rw closed refl

  -- what is no clock, label, count, open call or last answered update stays as it is
  event-else : {X : Type 0} (field : FrontState Op → X)
      → ((front : FrontState Op) (clock : ℕ) (label : Stamp) (calls : ℕ) (call : Option (Call Op)) (last : Option Cid)
      → field (record front { clock = clock; label = label; calls = calls; open_call = call; answered = last })
      ≡ field front)
      → (event : FrontEvent Op) (front : FrontState Op) → field (front_next event front) ≡ field front
  event-else field same (CallTo replica reading op) front = go front.open_call (front.calls == last_number)
    where
      clock : ℕ
      clock = max front.clock reading

      go : (call : Option (Call Op)) (worn : Bool)
          → field (after_call op (clock_read reading front) call worn) ≡ field front
      go (Some call) worn = same front clock front.label front.calls front.open_call front.answered
      go None true = same front clock front.label front.calls front.open_call front.answered
      go None false = same front clock front.label (front.calls + 1)
          (Some (call_of (clock_read reading front) op)) front.answered
  event-else field same (ResendTo replica reading) front =
      same front (max front.clock reading) front.label front.calls front.open_call front.answered
  event-else field same (AckTo replica reading) front =
      same front (max front.clock reading) front.label front.calls front.open_call front.answered
  event-else field same (TakeMessage message) front =
      message-else field message front (λ label call last. same front front.clock label front.calls call last)

  -- there are as many replicas as before
  pub replicas-stay : (event : FrontEvent Op) (front : FrontState Op)
      → (front_next event front).replicas ≡ front.replicas
  replicas-stay = event-else (λ f. f.replicas) (λ front clock label calls call last. refl)

  -- and it is the same client's front end
  pub client-stays : (event : FrontEvent Op) (front : FrontState Op) → (front_next event front).client ≡ front.client
  client-stays = event-else (λ f. f.client) (λ front clock label calls call last. refl)
