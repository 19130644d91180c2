-- A whole step of a replica: its own part, and then the end of the step.
use Rattle.std.proofs.Common.{◌≡◌, ◌≢◌, ℕ, ◌+◌, ◌<◌, true, false, ◌⊎◌, inl, inr, not, filter, List, [], ◌∷◌, ◌++◌, length, set, Option, Some, is_some, refl, sym, ap, ◌∙◌, subst, arith}
use Rattle.std.proofs.lemmas.List.{append_assoc, length-append}
use Rattle.std.proofs.lemmas.Option.{slice_get_within}
use Rattle.std.specs.List.{slice_get}
use Rattle.lr_base.specs.Kinds.{are_ordered, has_rules, is_forced, is_immediate}
use Rattle.lr_base.specs.Meaning.{Encoding, Lawful, Meaning}
use Rattle.lr_base.specs.Replicas.{ReplicaState}
use Rattle.lr_base.specs.Rules.{CausalState, applied}
use Rattle.lr_base.specs.Steps.{Ending, ended, held_acts}
use Rattle.lr_base.specs.Stamps.{stamp_le}
use Rattle.lr_base.specs.declared.acts.Posted.{Posted}
use Rattle.lr_base.specs.declared.messages.Call.{Call}
use Rattle.lr_base.specs.declared.events.Outcome.{Outcome}
use Rattle.lr_base.specs.declared.lr_service.Kind.{Kind}
use Rattle.lr_base.specs.declared.names.Actor.TheVariants.{Replica}
use Rattle.lr_base.specs.declared.names.Cid.{Cid}
use Rattle.lr_base.specs.declared.names.Config.{Config}
use Rattle.lr_graph.specs.After.{end_read, line_read, lines_read, step_ended, Handling}
use Rattle.lr_graph.specs.Closed.{Each}
use Rattle.lr_graph.specs.Graph.{Acceptance, Facts, Kept, LabelledCall, is_within, item_spots, keep_new, kept_spot, ready}
use Rattle.lr_graph.specs.Legal.{answers_at, next_number}
use Rattle.lr_graph.specs.Runs.{RunState, act_lines, act_posts}
use Rattle.lr_graph.specs.Pruned.{is_left, is_ready, logged}
use Rattle.lr_graph.proofs.Logs.Items.{accepted-item, apart-noted, noted-item}
use Rattle.lr_graph.proofs.Pruning.Known.{whole-at}
use Rattle.lr_graph.proofs.Pruning.Spreading.{spread-beside}
use Rattle.lr_graph.proofs.Sets.KeptSpots.{keep_new-is, kept-ready}
use Rattle.lr_graph.proofs.Replicas.Ending.{HasSent, IsMid, IsWhole, answers-sent, ended-at, ended-noted, mid-test, same-answers}
use Rattle.lr_graph.proofs.Lists.Members.{each-at, each-from, each-map}
use Rattle.lr_graph.proofs.Lists.Places.{slice-set_other, slice-set_same}
use Rattle.lr_graph.proofs.Replicas.Posting.{act_lines-append, act_posts-append}
use Rattle.lr_graph.proofs.Related.Relation.{IsAcceptance, IsReplicaAt, IsSame, IsShared, IsTied, SameCall, calls_in}
use Rattle.lr_graph.proofs.Applying.Settling.{settled}
pub use Rattle.lr_graph.proofs.Sets.PutAt.{put-other, put-same}
use Rattle.lr_graph.proofs.Lists.Tests.{and-left, and-right, equal-or-not, not-false}
use Rattle.lr_graph.proofs.Related.Ties.{HasApplied, HasOneCall, IsFree}

-- lines are read one list after the other
pub lines_read-append : {Value Op : Type 0} (m : Meaning Value Op) (config : Config) (x : Handling Op) (w : Facts Op) (xs ys : List Outcome) → lines_read m config x w (xs ++ ys) ≡ lines_read m config x (lines_read m config x w xs) ys
lines_read-append m config x w [] ys = refl
lines_read-append m config x w (line ∷ xs) ys = lines_read-append m config x (line_read m config x w line) xs ys

-- ---- what the acceptances of a run keep

some-is : {X : Type 0} (a b : X) → Some a ≡ Some b → a ≡ b
some-is a b e = cc

-- acceptances of one call are of what was issued
pub one-call : {Value Op : Type 0} (m : Meaning Value Op) (config : Config) (issued : Cid → Option (LabelledCall Op)) (calls : ℕ → ℕ) (l : List (Acceptance Op)) → Each (IsAcceptance m config issued calls) l → HasOneCall l
one-call {Value} {Op} m config issued calls l each a b in_a in_b same =
    let first = each-at _ a l each in_a in
    let second = each-at _ b l each in_b in
    let one : first.call ≡ second.call = some-is first.call second.call (sym first.is ∙ ap issued same ∙ second.is) in
    (first.op ∙ ap (λ (c : LabelledCall Op). c.op) one ∙ sym second.op, λ s. first.label s ∙ ap (λ (c : LabelledCall Op). c.label s) one ∙ sym (second.label s))

-- none of them needs an order
pub all-free : {Value Op : Type 0} (m : Meaning Value Op) (config : Config) (issued : Cid → Option (LabelledCall Op)) (calls : ℕ → ℕ) (l : List (Acceptance Op)) → Each (IsAcceptance m config issued calls) l → IsFree m l
all-free m config issued calls l each = record {
  updates = each-map _ _ l (λ a h. h.update) each;
  unordered = each-map _ _ l (λ a h. each-map _ _ l (λ b k. plain (m.kind a.op) (m.kind b.op) h.plain k.plain) each) each;
}
  where
    not_immediate : (a : Kind) → has_rules a ≡ true → is_immediate a ≡ false
    not_immediate a h = not-false (is_immediate a) (and-right (not (is_forced a)) _ h)

    not_forced : (a : Kind) → has_rules a ≡ true → is_forced a ≡ false
    not_forced a h = not-false (is_forced a) (and-left (not (is_forced a)) _ h)

    plain : (a b : Kind) → has_rules a ≡ true → has_rules b ≡ true → are_ordered a b ≡ false
    plain a b h k = rw (not_immediate a h, not_immediate b k, not_forced a h) refl

-- ---- a step of replica i

-- the own part is done on both sides: the facts are these, and the state and the acts those
pub record IsOwnPart {Value Op : Type 0} (m : Meaning Value Op) (config : Config) (issued : Cid → Option (LabelledCall Op)) (w : Facts Op) (v : RunState Value Op) (i : ℕ) (x : Handling Op) (own : List Outcome) (end : Ending Value Op) : Type 0 where
  pub lines : own ≡ act_lines (length v.posted) (Replica i) end.acts
  pub shared : IsShared m config issued (lines_read m config x w own) v.fronts (v.posted ++ act_posts (Replica i) end.acts)
  pub mid : IsMid m config (lines_read m config x w own) i end.state
  pub others : (j : ℕ) → j ≢ i → j < config.replicas → IsTied m config (lines_read m config x w own) v.replicas j

-- the whole step is the same on both sides
pub record IsStep {Value Op : Type 0} (m : Meaning Value Op) (config : Config) (w : Facts Op) (x : Handling Op) (i : Option ℕ) (own : List Outcome) (outcomes : List Outcome) (run : RunState Value Op) : Type 0 where
  pub lines : outcomes ≡ own ++ answers_at m (lines_read m config x w own) i
  pub same : IsSame m config (step_ended m config i (lines_read m config x w (own ++ answers_at m (lines_read m config x w own) i))) run

module _ {Value Op : Type 0} (m : Meaning Value Op) {e : Encoding Value} (kind_of : Op → Kind) (lawful : Lawful m e kind_of) (config : Config) (issued : Cid → Option (LabelledCall Op)) (w : Facts Op) (v : RunState Value Op) (i : ℕ) (here : i < config.replicas)
    (replica : ReplicaState Value Op) (there : slice_get v.replicas i ≡ Some replica) (setting : replica.config ≡ config) (number : replica.me ≡ i)
    (x : Handling Op) (own : List Outcome) (end : Ending Value Op) (part : IsOwnPart m config issued w v i x own end) where
  abbrev w1 : Facts Op
  w1 = lines_read m config x w own

  abbrev now : CausalState Value Op
  now = applied m end.state

  abbrev last : Ending Value Op
  last = ended m config.delta end.state end.acts

  abbrev posted1 : List (Posted Op)
  posted1 = v.posted ++ act_posts (Replica i) end.acts

  all_applied : HasApplied m w1.accepted (ready w1.accepted (w1.received i)) part.mid.left (keep_new w1.accepted (ready w1.accepted (w1.received i)) w1.accepted (w1.kept i)) now
  all_applied = settled m kind_of lawful w1.accepted (w1.received i) part.mid.logs part.mid.done part.mid.left (w1.kept i) end.state part.shared.sound
      (one-call m config issued (calls_in w1) w1.accepted part.shared.each) (all-free m config issued (calls_in w1) w1.accepted part.shared.each) part.mid.pending

  next_is : next_number w1 ≡ length posted1 + 1
  next_is = let c = part.shared.count in omega arith

  numbered : Each (λ a. 0 < a.spot.number) w1.acks
  numbered = each-from _ w1.acks (λ a member. each-at _ a.spot (item_spots w1) part.shared.numbered (noted-item w1 a member))

  -- what is known everywhere is ready at the end, and all of a call that left
  whole : IsWhole config w1 i
  whole = whole-at config w1 part.shared.sound (each-map _ _ w1.accepted (λ a h. h.place) part.shared.each) (λ a member. part.shared.own a.spot (accepted-item w1 a member)) part.shared.spread i here

  kept_all : (cid : Cid) → is_ready w1 i cid ≡ true → is_some (kept_spot (keep_new w1.accepted (ready w1.accepted (w1.received i)) w1.accepted (w1.kept i)) cid) ≡ true
  kept_all cid has = ap is_some (keep_new-is w1.accepted (ready w1.accepted (w1.received i)) (w1.kept i) cid) ∙ kept-ready w1.accepted (ready w1.accepted (w1.received i)) (w1.kept i) cid has

  test : (c : LabelledCall Op) (d : Call Op) → SameCall w1.accepted c d → stamp_le d.prev now.val_ts ≡ is_within w1.accepted c.label (w1.received i)
  test = mid-test m config w1 i part.shared.sound numbered (apart-noted w1 part.shared.apart) end.state part.mid whole _ kept_all all_applied

  answer_lines : answers_at m w1 (Some i) ≡ act_lines (length posted1) (Replica i) (held_acts m now now.held)
  answer_lines = same-answers m config w1 i part.shared.sound now test all_applied.names all_applied.value_is
      (length posted1) (next_number w1) next_is (w1.held i) now.held part.mid.held_are

  sent : HasSent m config w1 i part.shared.sound now test all_applied.names all_applied.value_is issued v.fronts x
      (lines_read m config x w1 (answers_at m w1 (Some i))) (posted1 ++ act_posts (Replica i) (held_acts m now now.held))
  sent = answers-sent m config w1 i part.shared.sound now test all_applied.names all_applied.value_is issued v.fronts x
      (next_number w1) (w1.held i) now.held part.mid.held_are w1.messages posted1 next_is part.shared

  -- the facts at the end
  abbrev w2 : Facts Op
  w2 = end_read (record w1 { messages = sent.messages }) i

  shared_end : IsShared m config issued w2 v.fronts (v.posted ++ act_posts (Replica i) last.acts)
  shared_end =
      let posts : posted1 ++ act_posts (Replica i) (held_acts m now now.held) ≡ v.posted ++ act_posts (Replica i) last.acts =
      append_assoc v.posted (act_posts (Replica i) end.acts) (act_posts (Replica i) (held_acts m now now.held))
      ∙ ap (λ (ps : List (Posted Op)). v.posted ++ ps) (sym (act_posts-append (Replica i) end.acts (held_acts m now now.held))) in
      let s = subst (λ (ps : List (Posted Op)). IsShared m config issued (record w1 { messages = sent.messages }) v.fronts ps) posts sent.shared in
      record { sound = s.sound; each = s.each; apart = s.apart; numbered = s.numbered; own = s.own; exist = s.exist; spread = spread-beside config (record w1 { messages = sent.messages }) w1.front w2.kept w2.held w1.clock s.spread; fronts_are = s.fronts_are; opened = s.opened; count = s.count; messages = s.messages }

  abbrev kept2 : List Kept
  kept2 = keep_new w1.accepted (ready w1.accepted (w1.received i)) w1.accepted (w1.kept i)

  abbrev held2 : List (LabelledCall Op)
  held2 = filter (λ c. not (is_within w1.accepted c.label (w1.received i))) (w1.held i)

  abbrev replicas2 : List (ReplicaState Value Op)
  replicas2 = set v.replicas i (record replica { causal = last.state })

  tied_end : (j : ℕ) → j < config.replicas → IsTied m config w2 replicas2 j
  tied_end j within = by_place (equal-or-not j i)
    where
      by_place : (j ≡ i) ⊎ (j ≢ i) → IsTied m config w2 replicas2 j
      by_place (inl e) = subst (λ (k : ℕ). IsTied m config w2 replicas2 k) (sym e) (
        last.state,
        record {
          replica = record replica { causal = last.state };
          there = slice-set_same v.replicas i (record replica { causal = last.state }) (slice_get_within v.replicas i replica there);
          setting = setting;
          number = number;
          state_is = refl;
        },
        subst (λ kept. IsReplicaAt m config w1.accepted (w1.received i) (logged config w1 i) (is_left config w1 i) kept (w2.held i) last.state) (sym (put-same i kept2 w1.kept))
            (subst (λ held. IsReplicaAt m config w1.accepted (w1.received i) (logged config w1 i) (is_left config w1 i) kept2 held last.state) (sym (put-same i held2 w1.held))
            (ended-at m config w1 i part.shared.sound numbered (apart-noted w1 part.shared.apart) end.state part.mid whole kept2 kept_all all_applied)),
        ended-noted m config w1 i part.shared.sound numbered (apart-noted w1 part.shared.apart) end.state part.mid whole kept2 kept_all all_applied,
      )
      by_place (inr apart) =
          let old = part.others j apart within in (
            old.0,
            record {
              replica = old.1.replica;
              there = slice-set_other v.replicas i j (record replica { causal = last.state }) apart ∙ old.1.there;
              setting = old.1.setting;
              number = old.1.number;
              state_is = old.1.state_is;
            },
            subst (λ kept. IsReplicaAt m config w1.accepted (w1.received j) (logged config w1 j) (is_left config w1 j) kept (w2.held j) old.0) (sym (put-other i j kept2 w1.kept apart))
                (subst (λ held. IsReplicaAt m config w1.accepted (w1.received j) (logged config w1 j) (is_left config w1 j) (w1.kept j) held old.0) (sym (put-other i j held2 w1.held apart)) old.2),
            old.3,
          )

  pub step-ends : IsStep m config w x (Some i) own (act_lines (length v.posted) (Replica i) last.acts) (record { replicas = replicas2; fronts = v.fronts; posted = v.posted ++ act_posts (Replica i) last.acts })
  step-ends = record {
    lines = act_lines-append (length v.posted) (Replica i) end.acts (held_acts m now now.held)
        ∙ (λ k. sym part.lines k ++ act_lines (sym (length-append v.posted (act_posts (Replica i) end.acts)) k) (Replica i) (held_acts m now now.held))
        ∙ ap (λ (lines : List Outcome). own ++ lines) (sym answer_lines);
    same = subst (λ (facts : Facts Op). IsSame m config (end_read facts i) (record { replicas = replicas2; fronts = v.fronts; posted = v.posted ++ act_posts (Replica i) last.acts }))
        (sym (lines_read-append m config x w own (answers_at m w1 (Some i)) ∙ sent.facts))
        (record { issued = issued; shared = shared_end; replicas = tied_end });
  }
