-- Points of legal histories, and what holds between an earlier and a later one.
use Rattle.std.proofs.Common.{◌≡◌, ◌≤◌, List, [], ◌∷◌, ◌++◌, refl, sym, ap, ◌∙◌, true≢false, arith}
use Rattle.lr_base.specs.Meaning.{Encoding, Lawful, Meaning}
use Rattle.lr_base.specs.declared.events.Step.{Step}
use Rattle.lr_base.specs.declared.lr_service.Kind.{Kind}
use Rattle.lr_base.specs.declared.names.Config.{Config}
use Rattle.lr_graph.specs.After.{after, stepping}
use Rattle.lr_graph.specs.Central.{facts_after}
use Rattle.lr_graph.specs.Closed.{IsAccepted, IsSetOf, IsSound}
use Rattle.lr_graph.specs.Graph.{Acceptance, Facts, first_facts}
use Rattle.lr_graph.specs.Legal.{IsLegal, LegalFrom, IsLegalStep}
use Rattle.lr_graph.specs.Promises.{facts_of}
use Rattle.lr_graph.specs.Runs.{RunState, first_run}
use Rattle.lr_graph.specs.Sets.{SpotSet, same_spot}
use Rattle.lr_graph.specs.Timed.{IsTimed}
use Rattle.lr_graph.proofs.Histories.Law.{first-same, step-same}
use Rattle.lr_graph.proofs.Timed.Keeping.{changes-timed, first-timed}
use Rattle.lr_graph.proofs.Timed.Steps.{step-changes}
use Rattle.lr_graph.proofs.Lists.Members.{each-at, each-map}
use Rattle.lr_graph.proofs.Lists.Tests.{same_spot-self}
use Rattle.lr_graph.proofs.Promised.Changes.{IsLater, IsNext, Keeps, Rule, later-more, later-self}
use Rattle.lr_graph.proofs.Promised.Walk.{step-next}
use Rattle.lr_graph.proofs.Related.More.{set-more}
use Rattle.lr_graph.proofs.Related.Relation.{IsSame}

-- a set of acceptances stays one where more are made
sound-older : {Op : Type 0} (a : Acceptance Op) (l : List (Acceptance Op)) → IsSound (a ∷ l) → IsSound l
sound-older a l sound = record {
  apart = sound.apart.1;
  closed = each-map _ _ l (λ b closed. each-map _ _ l (λ c f here. (f here).1) closed.1) sound.closed.1;
  older = sound.older.2;
  numbered = sound.numbered.1;
}

pub set-later : {Op : Type 0} (l new : List (Acceptance Op)) (x : SpotSet) → IsSound (new ++ l) → IsSetOf l x
    → IsSetOf (new ++ l) x
set-later l [] x sound set = set
set-later {Op} l (a ∷ new) x sound set =
    let older = sound-older a (new ++ l) sound in
    set-more (new ++ l) a free older x (set-later l new x older set)
  where
    free : IsAccepted (new ++ l) a.spot → ⊥
    free b =
        let self = ap (same_spot b.0.spot) (sym b.2) ∙ same_spot-self b.0.spot in
        true≢false (sym self ∙ each-at _ b.0 (new ++ l) sound.apart.0 b.1)

-- ---- histories in parts

pub facts-parts : {Value Op : Type 0} (m : Meaning Value Op) (config : Config) (steps more : List (Step Op))
    (w : Facts Op)
    → facts_after m config w (steps ++ more) ≡ facts_after m config (facts_after m config w steps) more
facts-parts m config [] more w = refl
facts-parts m config (step ∷ steps) more w = facts-parts m config steps more (after m config w step)

pub legal-parts : {Value Op : Type 0} (m : Meaning Value Op) (config : Config) (steps more : List (Step Op))
    (w : Facts Op) → LegalFrom m config w (steps ++ more)
    → LegalFrom m config w steps × LegalFrom m config (facts_after m config w steps) more
legal-parts m config [] more w legal = (tt, legal)
legal-parts m config (step ∷ steps) more w legal =
    let rest = legal-parts m config steps more (after m config w step) legal.1 in
    ((legal.0, rest.0), rest.1)

-- ---- points

-- no call has a greater number than its front end made, and an open call is its own front end's
abbrev pub fresh : Rule
fresh = record {
  of = λ n cid x. cid.seq ≤ n cid.client;
  of_open = λ client cid. cid.client ≡ client;
  counts = λ n more up cid x f. (let u = up cid.client in omega arith);
  grows = λ n cid x y f. f;
}

-- facts that belong to a run, in which all calls were made
pub record IsPoint {Value Op : Type 0} (m : Meaning Value Op) (config : Config) (w : Facts Op)
    (v : RunState Value Op) : Type 0 where
  pub same : IsSame m config w v
  pub timed : IsTimed w
  pub keeps : Keeps fresh w

module _ {Value Op : Type 0} (m : Meaning Value Op) {e : Encoding Value} (kind_of : Op → Kind) (lawful : Lawful m e kind_of)
    (config : Config) where
  abbrev Point : Facts Op → RunState Value Op → Type 0
  Point w v = IsPoint m config w v

  pub first-point : Point first_facts (first_run m config)
  first-point = record {
    same = first-same m config;
    timed = first-timed;
    keeps = record { accepted = tt; messages = tt; held = λ i. tt; opened = λ client. tt; numbered = tt };
  }

  pub step-point : (w : Facts Op) (v : RunState Value Op) → Point w v → (step : Step Op) → IsLegalStep m config w step
      → (u : RunState Value Op) × Point (after m config w step) u
      × IsNext fresh (stepping w step.event) w (after m config w step)
  step-point w v p step legal =
      let same = step-same m kind_of lawful config w v p.same p.timed step legal in
      let next = step-next m config fresh w v p.keeps p.same (λ n cid x r f e. f)
      (λ n client cid own seq e. (let i = ap n own in omega arith, own)) step legal.outcomes (λ n cid x r f e. f) in
      let timed = changes-timed w (after m config w step) p.timed (step-changes m config w p.timed step legal.outcomes) in
      (same.0, record { same = same.1; timed = timed; keeps = next.keeps }, next)

  -- a later point of a legal history
  pub later-point : (steps : List (Step Op)) (w : Facts Op) (v : RunState Value Op) → Point w v
      → LegalFrom m config w steps
      → (u : RunState Value Op) × Point (facts_after m config w steps) u × IsLater w (facts_after m config w steps)
  later-point [] w v p legal = (v, p, later-self w)
  later-point (step ∷ steps) w v p legal =
      let next = after m config w step in
      let one = step-point w v p step legal.0 in
      let rest = later-point steps next one.0 one.1 legal.1 in
      (rest.0, rest.1, later-more w next (facts_after m config next steps) one.2.later rest.2)

  pub any-point : (steps : List (Step Op)) → IsLegal m config steps
      → (u : RunState Value Op) × Point (facts_of m config steps) u
  any-point steps legal =
      let p = later-point steps first_facts (first_run m config) first-point legal in
      (p.0, p.1)
