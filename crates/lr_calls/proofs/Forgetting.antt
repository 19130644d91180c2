-- Calls that leave a table by one acknowledgement after another.
use Rattle.std.proofs.Common.{◌≡◌, ◌∙◌, List, [], ◌∷◌, refl, sym, ap, ℕ, Bool, true, false, not, ◌&&◌, ◌||◌}
use Rattle.std.proofs.Common.{drop, length, ◌≤◌, ◌<◌, ◌+◌, get_or, add-one}
use Rattle.std.proofs.Math.Seq.{drop-cons}
use Rattle.std.proofs.lemmas.List.{drop_all}
use Rattle.std.proofs.lemmas.List.Elements.{filter_agree}
use Rattle.lr_base.specs.Ascending.{same_cid}
use Rattle.lr_base.specs.NameLaws.{same_cid-is, same_cid-sym}
use Rattle.lr_base.specs.Rules.{logs_ack, logs_update, undone_calls}
use Rattle.lr_base.specs.declared.messages.Known.{Known}
use Rattle.lr_base.specs.declared.messages.LogAck.{LogAck}
use Rattle.lr_base.specs.declared.messages.LogUpdate.{LogUpdate}
use Rattle.lr_base.specs.declared.names.Cid.{Cid}
use Rattle.lr_calls.specs.Forgotten.{undone_calls-append, undone_calls-none}
use Rattle.lr_calls.specs.Tables.{is_named, without}

module _ {Op : Type 0} (updates : List (LogUpdate Op)) where
  -- by an acknowledgement of a call with a logged update no call leaves
  undone-logged : (ack : LogAck) (calls : List (Cid × Known)) → logs_update updates ack.cid ≡ true
      → calls ≡ undone_calls updates (ack ∷ []) calls
  undone-logged ack calls logged =
      sym (undone_calls-none updates calls)
      ∙ filter_agree (λ e. not (logs_ack [] e.0 && not (logs_update updates e.0)))
      (λ e. not (logs_ack (ack ∷ []) e.0 && not (logs_update updates e.0)))
      (λ e. stays e.0 (same_cid ack.cid e.0) refl) calls
    where
      stays : (cid : Cid) (s : Bool) → same_cid ack.cid cid ≡ s
          → true ≡ not ((same_cid ack.cid cid || false) && not (logs_update updates cid))
      stays cid true same =
          let here : logs_update updates cid ≡ true =
          sym (ap (logs_update updates) (same_cid-is ack.cid cid same)) ∙ logged in
          rw (same, here) refl
      stays cid false same = rw same refl

  -- by one of a call with none that call leaves
  undone-unlogged : (ack : LogAck) (calls : List (Cid × Known)) → logs_update updates ack.cid ≡ false
      → without (ack.cid ∷ []) calls ≡ undone_calls updates (ack ∷ []) calls
  undone-unlogged ack calls unlogged =
      filter_agree (λ e. not (is_named (ack.cid ∷ []) e.0))
      (λ e. not (logs_ack (ack ∷ []) e.0 && not (logs_update updates e.0)))
      (λ e. leaves e.0 (same_cid ack.cid e.0) refl) calls
    where
      leaves : (cid : Cid) (s : Bool) → same_cid ack.cid cid ≡ s
          → not (same_cid cid ack.cid || false)
          ≡ not ((same_cid ack.cid cid || false) && not (logs_update updates cid))
      leaves cid true same =
          let none : logs_update updates cid ≡ false =
          sym (ap (logs_update updates) (same_cid-is ack.cid cid same)) ∙ unlogged in
          rw (same_cid-sym cid ack.cid, same, none) refl
      leaves cid false same = rw (same_cid-sym cid ack.cid, same) refl

  -- behind one acknowledgement the others are left, where its call's update is logged, and where none is
  behind-one : (acks : List LogAck) (i : ℕ) (d : LogAck) (old new : List (Cid × Known)) → i < length acks
      → new ≡ undone_calls updates (get_or acks i d ∷ []) old
      → undone_calls updates (drop (i + 1) acks) new ≡ undone_calls updates (drop i acks) old
  behind-one acks i d old new within one =
      ap (undone_calls updates (drop (i + 1) acks)) one
      ∙ sym (undone_calls-append updates (get_or acks i d ∷ []) (drop (i + 1) acks) old)
      ∙ ap (λ (l : List LogAck). undone_calls updates l old)
      (ap (λ n. get_or acks i d ∷ drop n acks) (add-one i) ∙ sym (drop-cons acks i d within))

  pub behind-logged : (acks : List LogAck) (i : ℕ) (d : LogAck) (old new : List (Cid × Known)) → i < length acks
      → logs_update updates (get_or acks i d).cid ≡ true → new ≡ old
      → undone_calls updates (drop (i + 1) acks) new ≡ undone_calls updates (drop i acks) old
  behind-logged acks i d old new within logged same =
      behind-one acks i d old new within (same ∙ undone-logged (get_or acks i d) old logged)

  pub behind-unlogged : (acks : List LogAck) (i : ℕ) (d : LogAck) (old new : List (Cid × Known)) → i < length acks
      → logs_update updates (get_or acks i d).cid ≡ false → new ≡ without ((get_or acks i d).cid ∷ []) old
      → undone_calls updates (drop (i + 1) acks) new ≡ undone_calls updates (drop i acks) old
  behind-unlogged acks i d old new within unlogged out =
      behind-one acks i d old new within (out ∙ undone-unlogged (get_or acks i d) old unlogged)

  -- and behind the last none is
  pub behind-last : (acks : List LogAck) (i : ℕ) (calls : List (Cid × Known)) → length acks ≤ i
      → calls ≡ undone_calls updates (drop i acks) calls
  behind-last acks i calls past =
      sym (undone_calls-none updates calls)
      ∙ ap (λ (l : List LogAck). undone_calls updates l calls) (sym (drop_all i acks past))
