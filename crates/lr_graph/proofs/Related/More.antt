-- What goes on to hold where one acceptance more was made.
use Rattle.std.proofs.Common.{◌≡◌, ℕ, Bool, true, false, cond, not, ◌&&◌, ◌||◌, inr, List, [], ◌∷◌, Option, Some, None, refl, sym, ap, ◌∙◌, subst, true≢false}
use Rattle.std.specs.List.{list_any}
use Rattle.lr_base.specs.Ascending.{same_cid}
use Rattle.lr_base.specs.Meaning.{Meaning}
use Rattle.lr_base.specs.Rules.{CausalState}
use Rattle.lr_base.specs.declared.acts.Posted.{Posted}
use Rattle.lr_base.specs.declared.messages.Call.{Call}
use Rattle.lr_base.specs.declared.messages.Gossip.{Gossip}
use Rattle.lr_base.specs.declared.messages.Known.{Known}
use Rattle.lr_base.specs.declared.messages.LogAck.{LogAck}
use Rattle.lr_base.specs.declared.messages.LogUpdate.{LogUpdate}
use Rattle.lr_base.specs.declared.messages.Message.{Message}
use Rattle.lr_base.specs.declared.names.Actor.{Actor}
use Rattle.lr_base.specs.declared.names.Cid.{Cid}
use Rattle.lr_base.specs.declared.names.Config.{Config}
use Rattle.lr_base.specs.declared.names.Spot.{Spot}
use Rattle.lr_graph.specs.Closed.{Each, IsAccepted, IsDoneAt, IsSetOf, IsSound}
use Rattle.lr_graph.specs.Graph.{Acceptance, Carried, Kept, LabelledCall, SentMessage, has_call, is_within, ready, value}
use Rattle.lr_graph.specs.Sets.{SpotSet, same_spot}
use Rattle.lr_graph.proofs.Lists.Members.{each-at, each-from, each-map}
use Rattle.lr_graph.proofs.Sets.ReadySets.{below-accepted, ready-holds}
use Rattle.lr_graph.proofs.Related.Relation.{at_actor, IsIssued, IsReplicaAt, SameCall, SameCarried, SameGossip, SameHeld, SameList}
use Rattle.lr_graph.proofs.Related.Relation.{SameMessage, SameOption, same_ack, same_answer, same_done, same_gossip}
use Rattle.lr_graph.proofs.Related.Relation.{same_query, same_update}
use Rattle.lr_graph.proofs.Lists.Tests.{never}
use Rattle.lr_graph.proofs.Related.Ties.{HasApplied, IsLogOf, IsTableOf, StandsFor}

-- two lists of one map
pub same-list : {A B : Type 0} (R Q : A → B → Type 0) → ((a : A) (b : B) → R a b → Q a b) → (xs : List A) (ys : List B) → SameList R xs ys → SameList Q xs ys
same-list R Q f [] [] h = tt
same-list R Q f [] (y ∷ ys) h = h
same-list R Q f (x ∷ xs) [] h = h
same-list R Q f (x ∷ xs) (y ∷ ys) h = (f x y h.0, same-list R Q f xs ys h.1)

-- a message is the same one on both sides still, where calls, sets, acceptances, what was issued and gossip are
module _ {Value Op : Type 0} (m : Meaning Value Op) (config : Config) {l more : List (Acceptance Op)}
    {acks new : List LogAck} {received next : ℕ → SpotSet} {issued given : Cid → Option (LabelledCall Op)}
    {calls after : ℕ → ℕ} (call_more : (c : LabelledCall Op) (d : Call Op) → SameCall l c d → SameCall more c d)
    (set_more : (x : SpotSet) → IsSetOf l x → IsSetOf more x)
    (done_more : (cid : Cid) (spot : Spot) (x : SpotSet) → IsDoneAt l cid spot x → IsDoneAt more cid spot x)
    (issued_more : (c : LabelledCall Op) → IsIssued config.clients issued calls c → IsIssued config.clients given after c)
    (gossip_more : (to : Actor) (x : SpotSet) (g : Gossip Op) → SameGossip config.replicas l acks (at_actor received to) x g
    → SameGossip config.replicas more new (at_actor next to) x g) where
  carried-more : (to : Actor) (x : Carried Op) (p : Message Op) → SameCarried m config l acks (at_actor received to) issued calls x p
      → SameCarried m config more new (at_actor next to) given after x p
  carried-more to x p (same_update c d t time call times by update) =
      same_update c d t time (call_more c d call) times (issued_more c by) update
  carried-more to x p (same_query c d call by) = same_query c d (call_more c d call) (issued_more c by)
  carried-more to x p (same_ack cid other t time cids times client) = same_ack cid other t time cids times client
  carried-more to x p (same_done cid other names spot stamp cids named set done) =
      same_done cid other names spot stamp cids named (set_more names set) (done_more cid spot names done)
  carried-more to x p (same_answer cid other names text stamp cids named set) =
      same_answer cid other names text stamp cids named (set_more names set)
  carried-more to x p (same_gossip names g h) = same_gossip names g (gossip_more to names g h)

  pub message-more : (o : Option (SentMessage Op)) (p : Option (Posted Op))
      → SameOption (SameMessage m config l acks received issued calls) o p
      → SameOption (SameMessage m config more new next given after) o p
  message-more None None h = tt
  message-more (Some x) (Some p) h =
      record { from = h.from; to = h.to; way = h.way; there = h.there; what = carried-more x.to x.what p.message h.what }
  message-more _ _ h = absurd h

-- tests that agree on each element find alike
any-alike : {A : Type 0} (p q : A → Bool) (xs : List A) → Each (λ x. p x ≡ q x) xs → list_any p xs ≡ list_any q xs
any-alike p q [] h = refl
any-alike p q (x ∷ xs) h = λ i. h.0 i || any-alike p q xs h.1 i

module _ {Op : Type 0} (l : List (Acceptance Op)) (a : Acceptance Op) (fresh : IsAccepted l a.spot → ⊥) where
  -- what the set x has was made, so the new one isn't in it
  pub not-in : (x : SpotSet) → ((s : Spot) → x s ≡ true → IsAccepted l s) → x a.spot ≡ false
  not-in x exist = never _ (λ e. fresh (exist a.spot e))

  pub set-more : IsSound l → (x : SpotSet) → IsSetOf l x → IsSetOf (a ∷ l) x
  set-more sound x set = record {
    exist = λ s e. (let b = set.exist s e in (b.0, inr b.1, b.2));
    closed = (
      (λ e. absurd (fresh (set.exist a.spot e))),
      each-from _ l (λ b member e. ((λ below. absurd (fresh (below-accepted l sound b member a.spot below))), each-at _ b l set.closed member e)),
    );
  }

  -- a set that doesn't have the new one is within what it was within
  pub within-more : (x r : SpotSet) → x a.spot ≡ false → is_within (a ∷ l) x r ≡ is_within l x r
  within-more x r out = ap (λ t. (not t || r a.spot) && is_within l x r) out

  -- what was ready where the new one isn't received
  pub ready-more : IsSound l → (r : SpotSet) → r a.spot ≡ false → (s : Spot) → ready (a ∷ l) r s ≡ ready l r s
  ready-more sound r out s =
      ap (λ t. t || list_any (λ b. same_spot s b.spot && (r b.spot && is_within (a ∷ l) b.below r)) l) (head (same_spot s a.spot))
      ∙ any-alike _ _ l (each-from _ l (λ b member. ap (λ t. same_spot s b.spot && (r b.spot && t)) (within-more b.below r (not-in b.below (below-accepted l sound b member)))))
    where
      head : (t : Bool) → (t && (r a.spot && is_within (a ∷ l) a.below r)) ≡ false
      head true = ap (λ t. t && is_within (a ∷ l) a.below r) out
      head false = refl

  -- the new one wasn't ready before
  pub not-ready : (r : SpotSet) → ready l r a.spot ≡ false
  not-ready r = never _ (λ e. let h = ready-holds l r a.spot e in fresh (h.0, h.1, sym h.2))

  -- a set that doesn't have the new one has the calls that it had
  pub has_call-more : (x : SpotSet) (cid : Cid) → x a.spot ≡ false → has_call (a ∷ l) x cid ≡ has_call l x cid
  has_call-more x cid out = ap (λ t. (t && same_cid cid a.cid) || has_call l x cid) out

  -- and the value that it had
  pub value-more : {Value : Type 0} (m : Meaning Value Op) (x : SpotSet) → x a.spot ≡ false → value m (a ∷ l) x ≡ value m l x
  value-more m x out = ap (λ t. cond (t && not (has_call l x a.cid)) (m.apply (value m l x) a.op) (value m l x)) out

  pub stands-more : (u : LogUpdate Op) (b : Acceptance Op) → StandsFor l u b → StandsFor (a ∷ l) u b
  stands-more u b s = record { among = inr s.among; spot = s.spot; cid = s.cid; op = s.op; prev = s.prev; rises = s.rises }

  pub log-more : (g : SpotSet) (us : List (LogUpdate Op)) → g a.spot ≡ false → IsLogOf l g us → IsLogOf (a ∷ l) g us
  log-more g us out log = record {
    each = each-map _ _ us (λ u h. (h.0, stands-more u h.0 h.1, h.2)) log.each;
    all = ((λ e. absurd (true≢false (sym e ∙ out))), log.all);
    ascending = log.ascending;
  }

  pub table-more : (x : SpotSet) (left : Cid → Bool) (kept : List Kept) (calls : List (Cid × Known)) → x a.spot ≡ false → IsTableOf l x left kept calls → IsTableOf (a ∷ l) x left kept calls
  table-more x left kept calls out table = record {
    spots = table.spots;
    known = λ cid. table.known cid ∙ ap (λ b. b && not (left cid)) (sym (has_call-more x cid out));
    were = λ cid gone. has_call-more x cid out ∙ table.were cid gone;
    stamps = λ cid k e. (let b = table.stamps cid k e in (b.0, inr b.1, b.2, b.3, b.4));
  }

  pub applied-more : {Value : Type 0} (m : Meaning Value Op) (x : SpotSet) (left : Cid → Bool) (kept : List Kept) (state : CausalState Value Op) → x a.spot ≡ false → HasApplied m l x left kept state → HasApplied m (a ∷ l) x left kept state
  applied-more m x left kept state out h = record {
    names = h.names;
    value_is = h.value_is ∙ sym (value-more m x out);
    table = table-more x left kept state.calls out h.table;
  }

  pub call-more : IsSound l → (c : LabelledCall Op) (d : Call Op) → SameCall l c d → SameCall (a ∷ l) c d
  call-more sound c d h = record { cid = h.cid; op = h.op; names = h.names; set = set-more sound c.label h.set }

  pub held-more : IsSound l → (clients : ℕ) (cs : List (LabelledCall Op)) (ds : List (Call Op)) → SameList (SameHeld clients l) cs ds → SameList (SameHeld clients (a ∷ l)) cs ds
  held-more sound clients cs ds h = same-list _ _ (λ c d k. record { call = call-more sound c d k.call; client = k.client }) cs ds h

  -- a replica that didn't receive the new one, which is of no call that left there
  pub replica-more : {Value : Type 0} (m : Meaning Value Op) (config : Config) → IsSound l → (r g : SpotSet) (left : Cid → Bool) (kept : List Kept) (held : List (LabelledCall Op)) (state : CausalState Value Op)
      → r a.spot ≡ false → left a.cid ≡ false → IsReplicaAt m config l r g left kept held state → IsReplicaAt m config (a ∷ l) r g left kept held state
  replica-more m config sound r g left kept held state out stays h =
      let none : g a.spot ≡ false = never _ (λ e. true≢false (sym (h.within a.spot e) ∙ out)) in
      let not_ready : ready l r a.spot ≡ false = not-ready r in
      let same : ready l r ≡ ready (a ∷ l) r = λ i s. sym (ready-more sound r out s) i in
      record {
        counted = h.counted;
        log = log-more g state.updates none h.log;
        covered = (
          (λ e. absurd (true≢false (sym e ∙ out))),
          each-map _ _ l (λ b f here unready. f here (sym (ready-more sound r out b.spot) ∙ unready)) h.covered,
        );
        within = h.within;
        over = (
          (λ gone. absurd (true≢false (sym gone ∙ stays))),
          each-map _ _ l (λ b f gone. ready-more sound r out b.spot ∙ f gone) h.over,
        );
        kept_are = λ cid has. h.kept_are cid (sym (has_call-more (ready l r) cid not_ready) ∙ ap (λ (x : SpotSet). has_call (a ∷ l) x cid) same ∙ has);
        applied = subst (λ (x : SpotSet). HasApplied m (a ∷ l) x left kept state) same (applied-more m (ready l r) left kept state not_ready h.applied);
        still = h.still;
        held_are = held-more sound config.clients held state.held h.held_are;
      }
