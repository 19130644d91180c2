-- Messages that are sent, and the lines that say so.
use Rattle.std.proofs.Common.{◌≡◌, ◌≢◌, ℕ, zero, suc, ◌+◌, ◌<◌, ◌≤◌, Bool, false, cond, ◌==◌, ◌⊎◌, inl, inr, List, [], ◌∷◌, ◌++◌, length, find, Option, Some, refl, sym, ap, ◌∙◌, subst, arith, eqb-true, eq-eqb}
use Rattle.std.specs.List.{slice_get}
use Rattle.std.proofs.lemmas.List.{length-append}
use Rattle.std.proofs.lemmas.Option.{slice_get_past}
use Rattle.lr_base.specs.Fronts.{FrontState}
use Rattle.lr_base.specs.Meaning.{Meaning}
use Rattle.lr_base.specs.declared.acts.Act.{Act}
use Rattle.lr_base.specs.declared.acts.Act.TheVariants.{Say, Send}
use Rattle.lr_base.specs.declared.acts.Posted.{Posted}
use Rattle.lr_base.specs.declared.events.Outcome.{Outcome}
use Rattle.lr_base.specs.declared.events.Outcome.TheVariants.{Send as SendLine}
use Rattle.lr_base.specs.declared.messages.Message.{Message}
use Rattle.lr_base.specs.declared.names.Actor.{Actor}
use Rattle.lr_base.specs.declared.names.Cid.{Cid}
use Rattle.lr_base.specs.declared.names.Config.{Config}
use Rattle.lr_graph.specs.Graph.{Facts, LabelledCall, SentMessage}
use Rattle.lr_graph.specs.Runs.{act_lines, act_posts, message_at, sent_of_message}
use Rattle.lr_graph.specs.Spread.{IsGossipSpread}
use Rattle.lr_graph.proofs.Pruning.Spreading.{spread-sent}
use Rattle.lr_graph.proofs.Lists.Places.{slice-before, slice-behind}
use Rattle.lr_graph.proofs.Related.Relation.{IsShared, SameMessage, SameOption, calls_in}
use Rattle.lr_graph.proofs.Lists.Tests.{equal-or-not, le-or-lt, never}

-- two lists of acts are done one after the other
pub act_lines-append : {Op : Type 0} (n : ℕ) (from : Actor) (xs ys : List (Act Op)) → act_lines n from (xs ++ ys) ≡ act_lines n from xs ++ act_lines (n + length (act_posts from xs)) from ys
act_lines-append n from [] ys = λ i. act_lines (same i) from ys
  where
    same : n ≡ n + 0
    same = omega arith
act_lines-append n from (Say line ∷ xs) ys = ap (λ (lines : List Outcome). line ∷ lines) (act_lines-append n from xs ys)
act_lines-append n from (Send to message ∷ xs) ys =
    let next : (n + 1) + length (act_posts from xs) ≡ n + suc (length (act_posts from xs)) = omega arith in
    ap (λ (lines : List Outcome). SendLine (n + 1) from to (sent_of_message message) ∷ lines) (act_lines-append (n + 1) from xs ys ∙ ap (λ k. act_lines (n + 1) from xs ++ act_lines k from ys) next)

-- a message on its way
abbrev pub posting : {Op : Type 0} → Actor → Actor → Message Op → Posted Op
posting from to message = record { from = from; to = to; message = message }

pub act_posts-append : {Op : Type 0} (from : Actor) (xs ys : List (Act Op)) → act_posts from (xs ++ ys) ≡ act_posts from xs ++ act_posts from ys
act_posts-append from [] ys = refl
act_posts-append from (Say line ∷ xs) ys = act_posts-append from xs ys
act_posts-append {Op} from (Send to message ∷ xs) ys = ap (λ (ps : List (Posted Op)). posting from to message ∷ ps) (act_posts-append from xs ys)

module _ {Value Op : Type 0} (m : Meaning Value Op) (config : Config) (issued : Cid → Option (LabelledCall Op)) (w : Facts Op) (fronts : List (FrontState Op)) (posted : List (Posted Op)) (shared : IsShared m config issued w fronts posted) where
  abbrev Same : Option (SentMessage Op) → Option (Posted Op) → Type 0
  Same = SameOption (SameMessage m config w.accepted w.acks w.received issued (calls_in w))

  -- a message is sent on both sides
  pub message-sent : (x : SentMessage Op) (p : Posted Op) → x.number ≡ length posted + 1 → SameMessage m config w.accepted w.acks w.received issued (calls_in w) x p → IsGossipSpread config w x.from x.what
      → IsShared m config issued (record w { messages = x ∷ w.messages }) fronts (posted ++ p ∷ [])
  message-sent x p number same told = record {
    sound = shared.sound;
    each = shared.each;
    apart = shared.apart;
    numbered = shared.numbered;
    own = shared.own;
    exist = shared.exist;
    spread = spread-sent config w x told shared.spread;
    fronts_are = shared.fronts_are;
    opened = shared.opened;
    count = let c = shared.count in omega (arith, length-append posted (p ∷ []));
    messages = at_number;
  }
    where
      -- a number that isn't the new one
      other : (n : ℕ) → x.number ≢ n → message_at (posted ++ p ∷ []) n ≡ message_at posted n → Same (find (λ y. y.number == n) (x ∷ w.messages)) (message_at (posted ++ p ∷ []) n)
      other n apart there =
          let test : (x.number == n) ≡ false = never _ (λ e. apart (eqb-true x.number n e)) in
          subst (λ (t : Bool). Same (cond t (Some x) (find (λ y. y.number == n) w.messages)) (message_at (posted ++ p ∷ []) n)) (sym test)
          (subst (λ (o : Option (Posted Op)). Same (find (λ y. y.number == n) w.messages) o) (sym there) (shared.messages n))

      own : (n : ℕ) → x.number ≡ n → message_at (posted ++ p ∷ []) n ≡ Some p → Same (find (λ y. y.number == n) (x ∷ w.messages)) (message_at (posted ++ p ∷ []) n)
      own n is there =
          subst (λ (t : Bool). Same (cond t (Some x) (find (λ y. y.number == n) w.messages)) (message_at (posted ++ p ∷ []) n)) (sym (eq-eqb x.number n is))
          (subst (λ (o : Option (Posted Op)). Same (Some x) o) (sym there) same)

      at_number : (n : ℕ) → Same (find (λ y. y.number == n) (x ∷ w.messages)) (message_at (posted ++ p ∷ []) n)
      at_number zero = other 0 (λ e. absurd (omega arith)) refl
      at_number (suc k) = by_place (le-or-lt k (length posted))
        where
          by_place : (length posted ≤ k) ⊎ (k < length posted) → Same (find (λ y. y.number == suc k) (x ∷ w.messages)) (message_at (posted ++ p ∷ []) (suc k))
          by_place (inr within) = other (suc k) (λ e. absurd (omega arith)) (slice-before posted p k within)
          by_place (inl past) = by_same (equal-or-not k (length posted))
            where
              by_same : (k ≡ length posted) ⊎ (k ≢ length posted) → Same (find (λ y. y.number == suc k) (x ∷ w.messages)) (message_at (posted ++ p ∷ []) (suc k))
              by_same (inl e) = own (suc k) (omega arith) (ap (slice_get (posted ++ p ∷ [])) e ∙ slice-behind posted p)
              by_same (inr ne) = other (suc k) (λ e. absurd (omega arith)) (slice_get_past (posted ++ p ∷ []) k (omega (arith, length-append posted (p ∷ []))) ∙ sym (slice_get_past posted k past))
