-- A front end that changes: a call that is made or refused, and a reply that comes.
use Rattle.std.proofs.Common.{◌≡◌, ◌≢◌, ℕ, ◌<◌, ◌≤◌, Bool, true, false, cond, ◌==◌, ◌⊎◌, inl, inr, find, List, [], ◌++◌, set, Option, Some, None, refl, sym, ◌∙◌, subst, arith, eqb-true}
use Rattle.std.proofs.lemmas.List.{append-nil}
use Rattle.std.specs.List.{slice_get}
use Rattle.std.proofs.lemmas.Option.{slice_get_within}
use Rattle.lr_base.specs.Fronts.{FrontState}
use Rattle.lr_base.specs.Meaning.{Meaning}
use Rattle.lr_base.specs.declared.acts.Posted.{Posted}
use Rattle.lr_base.specs.declared.messages.LogAck.{LogAck}
use Rattle.lr_base.specs.declared.names.Cid.{Cid}
use Rattle.lr_base.specs.declared.names.Config.{Config}
use Rattle.lr_graph.specs.Graph.{Acceptance, Facts, FrontFacts, LabelledCall}
use Rattle.lr_graph.specs.Runs.{RunState, message_at}
use Rattle.lr_graph.specs.Sets.{put_at}
use Rattle.lr_graph.proofs.Lists.Members.{each-map}
use Rattle.lr_graph.proofs.Lists.Places.{slice-set_other, slice-set_same}
use Rattle.lr_graph.proofs.Related.More.{message-more}
use Rattle.lr_graph.proofs.Related.Relation.{HasFront, IsAcceptance, IsIssued, IsOpen, IsSame, IsShared, SameFront, calls_in}
use Rattle.lr_graph.proofs.Replicas.Stepping.{put-other, put-same}
use Rattle.lr_graph.proofs.Lists.Tests.{equal-or-not}
use Rattle.lr_graph.proofs.Pruning.Spreading.{spread-beside}

-- other names of calls, which agree on what was issued
module _ {Value Op : Type 0} (m : Meaning Value Op) (config : Config) (l : List (Acceptance Op)) (acks : List LogAck) (issued more : Cid → Option (LabelledCall Op)) (calls after : ℕ → ℕ)
    (agree : (c : Cid) → c.seq ≤ calls c.client → more c ≡ issued c) (grows : (client : ℕ) → calls client ≤ after client) where
  issued-more : (c : LabelledCall Op) → IsIssued config.clients issued calls c → IsIssued config.clients more after c
  issued-more c h = record { is = agree c.cid h.number ∙ h.is; number = (let g = grows c.cid.client in let n = h.number in omega arith); client = h.client }

  pub open-more : (o : Option (LabelledCall Op)) → IsOpen config.clients issued calls o → IsOpen config.clients more after o
  open-more None h = tt
  open-more (Some c) h = issued-more c h

  acceptance-more : (a : Acceptance Op) → IsAcceptance m config issued calls a → IsAcceptance m config more after a
  acceptance-more a h = record {
    call = h.call;
    is = agree a.cid h.number ∙ h.is;
    op = h.op;
    label = h.label;
    number = (let g = grows a.cid.client in let n = h.number in omega arith);
    client = h.client;
    place = h.place;
    update = h.update;
    plain = h.plain;
  }

module _ {Value Op : Type 0} (m : Meaning Value Op) (config : Config) (w : Facts Op) (v : RunState Value Op) (same : IsSame m config w v) (client : ℕ) (here : client < config.clients)
    (before : FrontState Op) (there : slice_get v.fronts client ≡ Some before) where
  -- this front end is changed on both sides: what is shared goes on to hold
  pub front-shared : (more : Cid → Option (LabelledCall Op)) (a : FrontFacts Op) (f : FrontState Op) → SameFront w.accepted client a f → (w.front client).calls ≤ a.calls
      → ((c : Cid) → c.seq ≤ calls_in w c.client → more c ≡ same.issued c) → IsOpen config.clients more (λ j. (put_at client a w.front j).calls) a.open_call
      → IsShared m config more (record w { front = put_at client a w.front }) (set v.fronts client f) v.posted
  front-shared more a f is le agree opened = record {
    sound = same.shared.sound;
    each = each-map _ _ w.accepted (acceptance-more m config w.accepted w.acks same.issued more (calls_in w) after agree grows) same.shared.each;
    apart = same.shared.apart;
    numbered = same.shared.numbered;
    own = same.shared.own;
    exist = same.shared.exist;
    spread = spread-beside config w (put_at client a w.front) w.kept w.held w.clock same.shared.spread;
    fronts_are = fronts;
    opened = opened_all;
    count = same.shared.count;
    messages = λ n. message-more m config (λ c d call. call) (λ x set. set) (λ c s x done. done) (issued-more m config w.accepted w.acks same.issued more (calls_in w) after agree grows) (λ to x g gossip. gossip) (find (λ y. y.number == n) w.messages) (message_at v.posted n) (same.shared.messages n);
  }
    where
      after : ℕ → ℕ
      after j = (put_at client a w.front j).calls

      grows : (j : ℕ) → calls_in w j ≤ after j
      grows j = by_place (j == client) refl
        where
          by_place : (t : Bool) → (j == client) ≡ t → calls_in w j ≤ (cond t a (w.front j)).calls
          by_place true e = subst (λ (k : ℕ). calls_in w k ≤ a.calls) (sym (eqb-true j client e)) le
          by_place false e = omega arith

      fronts : (j : ℕ) → j < config.clients → HasFront w.accepted (set v.fronts client f) j (put_at client a w.front j)
      fronts j within = by_place (equal-or-not j client)
        where
          by_place : (j ≡ client) ⊎ (j ≢ client) → HasFront w.accepted (set v.fronts client f) j (put_at client a w.front j)
          by_place (inl e) = subst (λ (k : ℕ). HasFront w.accepted (set v.fronts client f) k (put_at client a w.front k)) (sym e)
              (f, slice-set_same v.fronts client f (slice_get_within v.fronts client before there), subst (λ (b : FrontFacts Op). SameFront w.accepted client b f) (sym (put-same client a w.front)) is)
          by_place (inr apart) =
              let old = same.shared.fronts_are j within in
              (old.0, slice-set_other v.fronts client j f apart ∙ old.1, subst (λ (b : FrontFacts Op). SameFront w.accepted j b old.0) (sym (put-other client j a w.front apart)) old.2)

      opened_all : (j : ℕ) → IsOpen config.clients more after (put_at client a w.front j).open_call
      opened_all j = by_place (j == client)
        where
          by_place : (t : Bool) → IsOpen config.clients more after (cond t a (w.front j)).open_call
          by_place true = opened
          by_place false = open-more m config w.accepted w.acks same.issued more (calls_in w) after agree grows (w.front j).open_call (same.shared.opened j)

  -- and all else too
  pub front-changed : (more : Cid → Option (LabelledCall Op)) (a : FrontFacts Op) (f : FrontState Op) → SameFront w.accepted client a f → (w.front client).calls ≤ a.calls
      → ((c : Cid) → c.seq ≤ calls_in w c.client → more c ≡ same.issued c) → IsOpen config.clients more (λ j. (put_at client a w.front j).calls) a.open_call
      → IsSame m config (record w { front = put_at client a w.front }) (record v { fronts = set v.fronts client f })
  front-changed more a f is le agree opened = record { issued = more; shared = front-shared more a f is le agree opened; replicas = same.replicas }

-- an actor that only says lines sends nothing
pub says-only : {Value Op : Type 0} (m : Meaning Value Op) (config : Config) (w : Facts Op) (run : RunState Value Op) → IsSame m config w run → IsSame m config w (record run { posted = run.posted ++ [] })
says-only m config w run same = subst (λ (posted : List (Posted _)). IsSame m config w (record run { posted = posted })) (sym (append-nil run.posted)) same
