-- How facts change, one thing at a time, and what goes on to hold of all that has a call's name and a set.
use Rattle.std.proofs.Common.{◌≡◌, ℕ, suc, ◌≤◌, cond, ◌==◌, find, inl, inr, List, [], ◌∷◌, ◌++◌}
use Rattle.std.proofs.Common.{length}
use Rattle.std.proofs.Common.{Option, Some, None, refl, sym, ap, ◌∙◌, arith, eq-eqb, eqb-true}
use Rattle.std.proofs.lemmas.List.{append_assoc}
use Rattle.lr_base.specs.Orders.{IsAmong}
use Rattle.lr_base.specs.declared.events.Sent.{Sent}
use Rattle.lr_base.specs.declared.names.Actor.{Actor}
use Rattle.lr_base.specs.declared.names.Actor.TheVariants.{Replica}
use Rattle.lr_base.specs.declared.names.Cid.{Cid}
use Rattle.lr_base.specs.declared.names.Spot.{Spot}
use Rattle.lr_graph.specs.After.{accepts, carried, causes_of, clock_set, copy_of, notes, take_read}
use Rattle.lr_graph.specs.Closed.{Each}
use Rattle.lr_graph.specs.Graph.{Acceptance, Carried, Facts, FrontFacts, Kept, LabelledCall, SentMessage}
use Rattle.lr_graph.specs.Graph.{UpdateCopy, QueryCopy, AckCopy, DoneReply, AnswerReply, GossipOf, Blank}
use Rattle.lr_graph.specs.Legal.{next_number}
use Rattle.lr_graph.specs.Promises.{◌⊆◌}
use Rattle.lr_graph.specs.Sets.{SpotSet, put_at, only, ◌∪◌}
use Rattle.lr_graph.specs.Timed.{WasSent}
use Rattle.lr_graph.proofs.Lists.Members.{each-map}
use Rattle.lr_graph.proofs.Lists.Tests.{never, or-left}
use Rattle.lr_graph.proofs.Related.Relation.{calls_in}
use Rattle.lr_graph.proofs.Sets.PutAt.{put-other, put-same}
pub use Rattle.lr_graph.proofs.Sets.PutAt.{put-each}

-- a list is another with newer elements before it
abbrev pub Extends : {A : Type 0} → List A → List A → Type 0
Extends {A} ys xs = (new : List A) × (ys ≡ new ++ xs)

-- these facts come later than those
pub record IsLater {Op : Type 0} (w later : Facts Op) : Type 0 where
  pub accepted : Extends later.accepted w.accepted
  pub messages : Extends later.messages w.messages
  pub received : (i : ℕ) → w.received i ⊆ later.received i
  pub label : (client : ℕ) → (w.front client).label ⊆ (later.front client).label
  pub calls : (client : ℕ) → calls_in w client ≤ calls_in later client

pub extends-more : {A : Type 0} (xs ys zs : List A) → Extends ys xs → Extends zs ys → Extends zs xs
extends-more xs ys zs one two =
    (two.0 ++ one.0, two.1 ∙ ap (λ l. two.0 ++ l) one.1 ∙ sym (append_assoc two.0 one.0 xs))

module _ {Op : Type 0} where
  later-by : {w u : Facts Op} → Extends u.accepted w.accepted → Extends u.messages w.messages
      → ((i : ℕ) → w.received i ⊆ u.received i) → ((f : ℕ) → (w.front f).label ⊆ (u.front f).label)
      → ((f : ℕ) → calls_in w f ≤ calls_in u f) → IsLater w u
  later-by accepted messages received label calls =
      record { accepted = accepted; messages = messages; received = received; label = label; calls = calls }

  pub later-self : (w : Facts Op) → IsLater w w
  later-self w = later-by ([], refl) ([], refl) (λ i s e. e) (λ f s e. e) (λ f. omega arith)

  pub later-more : (w v u : Facts Op) → IsLater w v → IsLater v u → IsLater w u
  later-more w v u one two = record {
    accepted = extends-more w.accepted v.accepted u.accepted one.accepted two.accepted;
    messages = extends-more w.messages v.messages u.messages one.messages two.messages;
    received = λ i s e. two.received i s (one.received i s e);
    label = λ client s e. two.label client s (one.label client s e);
    calls = λ client. (let p = one.calls client in let q = two.calls client in omega arith);
  }

  -- messages have the numbers from 1 on
  abbrev pub IsNumbered : List (SentMessage Op) → Type 0
  IsNumbered [] = Unit {0}
  IsNumbered (x ∷ older) = (x.number ≡ suc (length older)) × IsNumbered older

  numbered-most : (x : SentMessage Op) (messages : List (SentMessage Op)) → IsNumbered messages → IsAmong x messages
      → x.number ≤ length messages
  numbered-most x [] numbered among = absurd among
  numbered-most x (y ∷ older) numbered (inl e) =
      let same = ap (λ (z : SentMessage Op). z.number) e in
      let n = numbered.0 in
      omega arith
  numbered-most x (y ∷ older) numbered (inr among) =
      let most = numbered-most x older numbered.1 among in
      omega arith

  -- a message is found by its number
  pub found-among : (x : SentMessage Op) (messages : List (SentMessage Op)) → IsNumbered messages → IsAmong x messages
      → find (λ y. y.number == x.number) messages ≡ Some x
  found-among x [] numbered among = absurd among
  found-among x (y ∷ older) numbered (inl e) =
      ap (λ t. cond t (Some y) (find (λ z. z.number == x.number) older))
      (eq-eqb y.number x.number (ap (λ (z : SentMessage Op). z.number) (sym e)))
      ∙ ap Some (sym e)
  found-among x (y ∷ older) numbered (inr among) =
      let most = numbered-most x older numbered.1 among in
      let n = numbered.0 in
      let apart = never (y.number == x.number) (λ e. let same = eqb-true y.number x.number e in absurd (omega arith)) in
      ap (λ t. cond t (Some y) (find (λ z. z.number == x.number) older)) apart ∙ found-among x older numbered.1 among

  -- P holds of what a message carries: of its call's label, or of what an answer was read after;
  -- and what is done is what is below an acceptance of the call
  abbrev pub IsFine : (Cid → SpotSet → Type 0) → List (Acceptance Op) → Carried Op → Type 0
  IsFine P l (UpdateCopy call time) = P call.cid call.label
  IsFine P l (QueryCopy call) = P call.cid call.label
  IsFine P l (AckCopy cid time) = Unit {0}
  IsFine P l (DoneReply cid names) = (a : Acceptance Op) × IsAmong a l × (a.cid ≡ cid) × (a.below ≡ names)
  IsFine P l (AnswerReply cid names) = P cid names
  IsFine P l (GossipOf names) = Unit {0}
  IsFine P l Blank = Unit {0}

  -- P holds of a front end's open call, and O of its name
  abbrev pub IsOpenFine : (Cid → SpotSet → Type 0) → (ℕ → Cid → Type 0) → ℕ → Option (LabelledCall Op) → Type 0
  IsOpenFine P O client None = Unit {0}
  IsOpenFine P O client (Some call) = P call.cid call.label × O client call.cid

  -- P holds of all that has a call's name and a set; what is held was sent
  pub record Holds (P : Cid → SpotSet → Type 0) (O : ℕ → Cid → Type 0) (w : Facts Op) : Type 0 where
    pub accepted : Each (λ a. P a.cid a.below) w.accepted
    pub messages : Each (λ x. IsFine P w.accepted x.what) w.messages
    pub held : (i : ℕ) → Each (λ call. P call.cid call.label × WasSent w.messages (QueryCopy call)) (w.held i)
    pub opened : (client : ℕ) → IsOpenFine P O client (w.front client).open_call
    pub numbered : IsNumbered w.messages

  holds-by : {P : Cid → SpotSet → Type 0} {O : ℕ → Cid → Type 0} {w : Facts Op} → Each (λ a. P a.cid a.below) w.accepted
      → Each (λ x. IsFine P w.accepted x.what) w.messages
      → ((i : ℕ) → Each (λ call. P call.cid call.label × WasSent w.messages (QueryCopy call)) (w.held i))
      → ((f : ℕ) → IsOpenFine P O f (w.front f).open_call) → IsNumbered w.messages → Holds P O w
  holds-by accepted messages held opened numbered =
      record { accepted = accepted; messages = messages; held = held; opened = opened; numbered = numbered }

  -- what P gives, where nothing that was accepted is lost
  module _ (P Q : Cid → SpotSet → Type 0) (up : (cid : Cid) (x : SpotSet) → P cid x → Q cid x) where
    pub fine-more : (l more : List (Acceptance Op)) → ((a : Acceptance Op) → IsAmong a l → IsAmong a more)
        → (what : Carried Op) → IsFine P l what → IsFine Q more what
    fine-more l more into (UpdateCopy call time) h = up call.cid call.label h
    fine-more l more into (QueryCopy call) h = up call.cid call.label h
    fine-more l more into (AckCopy cid time) h = tt
    fine-more l more into (DoneReply cid names) h = (h.0, into h.0 h.1, h.2, h.3)
    fine-more l more into (AnswerReply cid names) h = up cid names h
    fine-more l more into (GossipOf names) h = tt
    fine-more l more into Blank h = tt

    pub opened-more : (O : ℕ → Cid → Type 0) (client : ℕ) (o : Option (LabelledCall Op)) → IsOpenFine P O client o
        → IsOpenFine Q O client o
    opened-more O client None h = tt
    opened-more O client (Some call) h = (up call.cid call.label h.0, h.1)

    pub holds-more : (O R : ℕ → Cid → Type 0) (w : Facts Op)
        → ((client : ℕ) → IsOpenFine P O client (w.front client).open_call
        → IsOpenFine Q R client (w.front client).open_call)
        → Holds P O w → Holds Q R w
    holds-more O R w open_up h = record {
      accepted = each-map _ _ w.accepted (λ a f. up a.cid a.below f) h.accepted;
      messages = each-map _ _ w.messages (λ x f. fine-more w.accepted w.accepted (λ a in_a. in_a) x.what f) h.messages;
      held = λ i. each-map _ _ (w.held i) (λ c f. (up c.cid c.label f.0, f.1)) (h.held i);
      opened = λ client. open_up client (h.opened client);
      numbered = h.numbered;
    }

  -- what is sent of an open call is fine
  module _ (P : Cid → SpotSet → Type 0) (O : ℕ → Cid → Type 0) (l : List (Acceptance Op)) (client : ℕ) where
    pub update-fine : (time : ℕ) (o : Option (LabelledCall Op)) → IsOpenFine P O client o
        → IsFine P l (copy_of o (λ call. UpdateCopy call time))
    update-fine time None h = tt
    update-fine time (Some call) h = h.0

    pub query-fine : (o : Option (LabelledCall Op)) → IsOpenFine P O client o → IsFine P l (copy_of o QueryCopy)
    query-fine None h = tt
    query-fine (Some call) h = h.0

-- what is to hold, for counts of calls, of a call's name and its set, and of the name of an open call;
-- it holds of greater counts, and of greater sets
pub record Rule : Type 1 where
  pub of : (ℕ → ℕ) → Cid → SpotSet → Type 0
  pub of_open : ℕ → Cid → Type 0
  pub counts : (n more : ℕ → ℕ) → ((client : ℕ) → n client ≤ more client) → (cid : Cid) (x : SpotSet)
      → of n cid x → of more cid x
  pub grows : (n : ℕ → ℕ) (cid : Cid) (x y : SpotSet) → of n cid x → of n cid (x ∪ y)

module _ {Op : Type 0} (R : Rule) where
  -- the rule holds of these facts
  abbrev pub Keeps : Facts Op → Type 0
  Keeps w = Holds (R.of (calls_in w)) R.of_open w

  -- the rule holds of what is held, and this was sent
  abbrev pub IsHeldFine : Facts Op → LabelledCall Op → Type 0
  IsHeldFine w call = R.of (calls_in w) call.cid call.label × WasSent w.messages (QueryCopy call)

  -- facts that come next: what replicas have changes at this one alone
  pub record IsNext (at : Option ℕ) (w next : Facts Op) : Type 0 where
    pub later : IsLater w next
    pub keeps : Keeps next
    pub others : (j : ℕ) → (at ≡ Some j → ⊥) → (next.received j ≡ w.received j) × (next.held j ≡ w.held j)

  -- a message is sent
  abbrev pub posts : Facts Op → Actor → Actor → Sent → Facts Op
  posts w from to what = record w {
    messages = record { number = next_number w; from = from; to = to; what = carried w from what } ∷ w.messages;
  }

  module _ (at : Option ℕ) (w : Facts Op) (h : Keeps w) where
    pub next-same : IsNext at w w
    next-same = record { later = later-self w; keeps = h; others = λ j apart. (refl, refl) }

    pub next-sent : (from to : Actor) (what : Sent) → IsFine (R.of (calls_in w)) w.accepted (carried w from what)
        → IsNext at w (posts w from to what)
    next-sent from to what fine = record {
      later = later-by ([], refl) (_ ∷ [], refl) (λ i s e. e) (λ j s e. e) (λ j. omega arith);
      keeps = holds-by h.accepted (fine, h.messages)
          (λ i. each-map _ _ (w.held i) (λ c f. (f.0, (f.1.0, inr f.1.1, f.1.2))) (h.held i)) h.opened
          (refl, h.numbered);
      others = λ j apart. (refl, refl);
    }

    -- a replica's clock changes
    pub next-clock : (i reading : ℕ) → IsNext at w (clock_set w i reading)
    next-clock i reading = record {
      later = later-by ([], refl) ([], refl) (λ j s e. e) (λ j s e. e) (λ j. omega arith);
      keeps = holds-by h.accepted h.messages h.held h.opened h.numbered;
      others = λ j apart. (refl, refl);
    }

    -- a front end changes
    pub next-front : (client : ℕ) (new : FrontFacts Op) → (w.front client).label ⊆ new.label
        → calls_in w client ≤ new.calls
        → (((n : ℕ → ℕ) → ((j : ℕ) → calls_in w j ≤ n j) → n client ≡ new.calls
        → IsOpenFine (R.of n) R.of_open client new.open_call))
        → IsNext at w (record w { front = put_at client new w.front })
    next-front client new label calls opened =
        let next : Facts Op = record w { front = put_at client new w.front } in
        let more : ((j : ℕ) → calls_in w j ≤ calls_in next j) =
        put-each (λ j f. calls_in w j ≤ f.calls) client new w.front calls (λ j. omega arith) in
        let up = R.counts (calls_in w) (calls_in next) more in
        let kept = holds-more (R.of (calls_in w)) (R.of (calls_in next)) up R.of_open R.of_open w
        (λ j. opened-more (R.of (calls_in w)) (R.of (calls_in next)) up R.of_open j (w.front j).open_call) h in
        let labels = put-each (λ j f. (w.front j).label ⊆ f.label) client new w.front label (λ j s e. e) in
        let own = opened (calls_in next) more (ap (λ (f : FrontFacts Op). f.calls) (put-same client new w.front)) in
        let all = put-each (λ j f. IsOpenFine (R.of (calls_in next)) R.of_open j f.open_call) client new w.front own
        kept.opened in
        record {
          later = later-by ([], refl) ([], refl) (λ i s e. e) labels more;
          keeps = holds-by kept.accepted kept.messages kept.held all kept.numbered;
          others = λ j apart. (refl, refl);
        }

  module _ (i : ℕ) (w : Facts Op) (h : Keeps w) where
    -- more is received
    more-received : (set : SpotSet) (j : ℕ) → w.received j ⊆ put_at i (w.received i ∪ set) w.received j
    more-received set =
        put-each (λ j r. w.received j ⊆ r) i (w.received i ∪ set) w.received (λ s e. or-left _ _ e) (λ j s e. e)

    elsewhere : {X : Type 0} (x : X) (table : ℕ → X) (j : ℕ) → (Some i ≡ Some j → ⊥) → put_at i x table j ≡ table j
    elsewhere x table j apart = put-other i j x table (λ e. apart (ap Some (sym e)))

    pub next-accepted : (spot : Spot) (call : LabelledCall Op) → R.of (calls_in w) call.cid call.label
        → IsNext (Some i) w (accepts w i spot call)
    next-accepted spot call fine =
        let a : Acceptance Op =
        record { spot = spot; cid = call.cid; op = call.op; below = causes_of call ∪ only spot } in
        let more = fine-more (R.of (calls_in w)) _ (λ c y p. p) w.accepted (a ∷ w.accepted) (λ b m. inr m) in
        record {
          later = later-by (a ∷ [], refl) ([], refl) (more-received (only spot)) (λ j s e. e) (λ j. omega arith);
          keeps = holds-by (R.grows (calls_in w) call.cid call.label (only spot) fine, h.accepted)
              (each-map _ _ w.messages (λ x f. more x.what f) h.messages) h.held h.opened h.numbered;
          others = λ j apart. (elsewhere (w.received i ∪ only spot) w.received j apart, refl);
        }

    pub next-taken : (from : Actor) (names : SpotSet) → IsNext (Some i) w (take_read w from (Replica i) (GossipOf names))
    next-taken from names = record {
      later = later-by ([], refl) ([], refl) (more-received names) (λ j s e. e) (λ j. omega arith);
      keeps = holds-by h.accepted h.messages h.held h.opened h.numbered;
      others = λ j apart. (elsewhere (w.received i ∪ names) w.received j apart, refl);
    }

    pub next-noted : (spot : Spot) (cid : Cid) (time : ℕ) → IsNext (Some i) w (notes w i spot cid time)
    next-noted spot cid time = record {
      later = later-by ([], refl) ([], refl) (more-received (only spot)) (λ j s e. e) (λ j. omega arith);
      keeps = holds-by h.accepted h.messages h.held h.opened h.numbered;
      others = λ j apart. (elsewhere (w.received i ∪ only spot) w.received j apart, refl);
    }

    -- what a replica holds and keeps changes
    pub next-holding : (calls : List (LabelledCall Op)) (kept : ℕ → List Kept)
        → Each (IsHeldFine w) calls
        → IsNext (Some i) w (record w { held = put_at i calls w.held; kept = kept })
    next-holding calls kept fine = record {
      later = later-by ([], refl) ([], refl) (λ j s e. e) (λ j s e. e) (λ j. omega arith);
      keeps = holds-by h.accepted h.messages (put-each (λ j cs. Each (IsHeldFine w) cs) i calls w.held fine h.held)
          h.opened h.numbered;
      others = λ j apart. (refl, elsewhere calls w.held j apart);
    }

  pub next-more : (at : Option ℕ) (w v u : Facts Op) → IsNext at w v → (Keeps v → IsNext at v u) → IsNext at w u
  next-more at w v u one then = let two = then one.keeps in record {
    later = later-more w v u one.later two.later;
    keeps = two.keeps;
    others = λ j apart. (
      (two.others j apart).0 ∙ (one.others j apart).0,
      (two.others j apart).1 ∙ (one.others j apart).1,
    );
  }
