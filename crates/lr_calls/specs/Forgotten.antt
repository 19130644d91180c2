-- Calls that are forgotten list by list, since a log keeps its acknowledgements in one list a place.
use Rattle.std.specs.Prelude.{◌≡◌, ◌++◌, List, [], ◌∷◌, Bool, true, false, not}
use Rattle.std.proofs.Common.{refl, sym, ap, ◌∙◌, ◌&&◌, ◌||◌}
use Rattle.std.proofs.lemmas.List.Folds.{list_any-append}
use Rattle.lr_base.specs.Ascending.{same_cid}
use Rattle.lr_base.specs.InsertionLaws.{filter-both}
use Rattle.lr_base.specs.Rules.{logs_ack, logs_update, undone_calls}
use Rattle.lr_base.specs.declared.messages.Known.{Known}
use Rattle.lr_base.specs.declared.messages.LogAck.{LogAck}
use Rattle.lr_base.specs.declared.messages.LogUpdate.{LogUpdate}
use Rattle.lr_base.specs.declared.names.Cid.{Cid}

-- where no acknowledgement is logged, each call stays
-- for example: `0.1` and `0.2` of the table `0.1`, `0.2`
pub undone_calls-none : {Op : Type 0} (updates : List (LogUpdate Op)) (calls : List (Cid × Known))
    → undone_calls updates [] calls ≡ calls
undone_calls-none updates [] = refl
undone_calls-none updates (e ∷ calls) =
    ap (λ (l : List (Cid × Known)). e ∷ l) (undone_calls-none updates calls)

-- a call is undone by two lists of acknowledgements where it is undone by each
undone-both : (first rest logged : Bool)
    → not ((first || rest) && not logged) ≡ (not (first && not logged) && not (rest && not logged))
undone-both true true true = refl
undone-both true true false = refl
undone-both true false true = refl
undone-both true false false = refl
undone-both false rest logged = refl

-- the calls that two lists of acknowledgements leave are those that the second leaves of what the first leaves
-- for example: `0.1` leaves by an acknowledgement at place 0, then `0.2` by one at place 1
pub undone_calls-append : {Op : Type 0} (updates : List (LogUpdate Op)) (first rest : List LogAck)
    (calls : List (Cid × Known))
    → undone_calls updates (first ++ rest) calls ≡ undone_calls updates rest (undone_calls updates first calls)
undone_calls-append updates first rest calls =
    sym (filter-both (λ e. not (logs_ack rest e.0 && not (logs_update updates e.0)))
    (λ e. not (logs_ack first e.0 && not (logs_update updates e.0)))
    (λ e. not (logs_ack (first ++ rest) e.0 && not (logs_update updates e.0)))
    (λ e. ap (λ b. not (b && not (logs_update updates e.0))) (list_any-append (λ ack. same_cid ack.cid e.0) first rest)
    ∙ undone-both (logs_ack first e.0) (logs_ack rest e.0) (logs_update updates e.0)) calls)
