-- What the table of executed calls has of a call that is known.
use Rattle.std.proofs.Common.{◌≡◌, ℕ, Bool, true, false, cond, List, Option, Some, None, is_some, refl, sym, ap, ◌∙◌, true≢false}
use Rattle.std.specs.Option.{option_map}
use Rattle.lr_base.specs.Rules.{known_of}
use Rattle.lr_base.specs.declared.messages.Known.{Known}
use Rattle.lr_base.specs.declared.names.Cid.{Cid}
use Rattle.lr_base.specs.declared.names.Config.{Config}
use Rattle.lr_graph.specs.Graph.{Facts, Kept, kept_spot, ready}
use Rattle.lr_graph.specs.Pruned.{is_known, is_left}
use Rattle.lr_graph.proofs.Pruning.Spent.{known-left, known-stays}
use Rattle.lr_graph.proofs.Related.Ties.{IsTableOf}

-- its spot is the one that is kept
pub kept-known : {Op : Type 0} (config : Config) (w : Facts Op) (i : ℕ) (kept : List Kept) (calls : List (Cid × Known)) → IsTableOf w.accepted (ready w.accepted (w.received i)) (is_left config w i) kept calls
    → (cid : Cid) → option_map (λ k. k.spot) (known_of calls cid) ≡ cond (is_known config w i cid) (kept_spot kept cid) None
kept-known config w i kept calls table cid = by_known (is_known config w i cid) refl (known_of calls cid) refl
  where
    by_known : (t : Bool) → is_known config w i cid ≡ t → (o : Option Known) → known_of calls cid ≡ o → option_map (λ k. k.spot) o ≡ cond t (kept_spot kept cid) None
    by_known true e o f = ap (option_map (λ k. k.spot)) (sym f) ∙ table.spots cid (known-stays config w i cid e)
    by_known false e None f = refl
    by_known false e (Some k) f = absurd (true≢false (ap is_some (sym f) ∙ table.known cid ∙ known-left config w i cid ∙ e))
