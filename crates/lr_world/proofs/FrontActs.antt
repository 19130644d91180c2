-- What a front end has done, from what it answered and what went into the outbox.
use Rattle.std.proofs.Common.{◌≡◌, ◌∙◌, ◌+◌, ◌⊎◌, inl, inr, refl, ℕ, List, [], ◌∷◌, Result, Ok, Err, ap, subst, sym}
use Rattle.std.specs.Prelude.{OnOk}
use Rattle.lr_base.specs.Fronts.{FrontEvent, FrontState, front_acts, front_next}
use Rattle.lr_base.specs.declared.acts.Act.{Act}
use Rattle.lr_base.specs.declared.lr_service.Kind.{Kind}
use Rattle.lr_base.specs.Fronts.FrontEvent.{AckTo}
use Rattle.lr_base.specs.declared.acts.Act.TheVariants.{Say}
use Rattle.lr_base.specs.declared.events.Outcome.TheVariants.{Refuse}
use Rattle.lr_base.specs.declared.events.Refusal.TheVariants.{Nothing as IsNothing}
use Rattle.lr_front.specs.Done.{HasAcknowledged, HasCalled, HasDone, HasResent}
use Rattle.lr_front.specs.Undoing.{Saved, restored}
use Rattle.lr_front.specs.declared.front.AckFault.{AckFault}
use Rattle.lr_front.specs.declared.front.AckFault.TheVariants.{Nothing}
use Rattle.lr_front.specs.declared.front.CallFault.{CallFault}
use Rattle.lr_front.specs.declared.front.ResendFault.{ResendFault}
use Rattle.lr_base.specs.declared.messages.Message.{Message}
use Rattle.lr_base.specs.declared.messages.Message.TheVariants.{Done, Answer}
use Rattle.lr_base.specs.declared.names.Cid.{Cid}
use Rattle.lr_base.specs.declared.names.Spot.{Spot}
use Rattle.lr_causal.specs.Causal.{AllStamps}
use Rattle.lr_front.specs.Replies.{IsReplyTo}
use Rattle.lr_world.specs.Shapes.{stamps_in}
use Rattle.lr_world.specs.Outboxes.{Outboxed, after_acts}
use Rattle.lr_world.specs.Parts.{HasFrontDone}

module _ {Op : Type 0} (kind_of : Op → Kind) (event : FrontEvent Op) (was now : FrontState Op) where
  -- one act was done
  pub front-done : {E : Type 0} (result : Result (Unit {0}) E) (act : Act Op) (out after : Outboxed Op) → now ≡ front_next event was → front_acts kind_of event was ≡ act ∷ []
      → OnOk result (after ≡ after_acts out (act ∷ [])) → OnOk result (HasFrontDone kind_of event was now out after)
  front-done (Ok x) act out after state acts does = record { front_is = state; acts_are = does ∙ ap (after_acts out) (sym acts) }
  front-done (Err e) act out after state acts does = tt

  -- a savepoint that gives back what was before the event
  pub front-undone : (point : Saved Op) → now ≡ front_next event was → restored point (front_next event was) ≡ was → restored point now ≡ was
  front-undone point state back = ap (restored point) state ∙ back

-- what a refused call has done, told by its cause
pub called : {Op : Type 0} (kind_of : Op → Kind) (reading : ℕ) (op : Op) (was now : FrontState Op) {fault cause : CallFault}
    → fault ≡ cause → HasCalled kind_of reading op was now (Err fault) → HasCalled kind_of reading op was now (Err cause)
called kind_of reading op was now same = subst (λ why. HasCalled kind_of reading op was now (Err why)) same

-- what a refused repeat has done, told by its cause
pub resent : {Op : Type 0} (kind_of : Op → Kind) (reading : ℕ) (was now : FrontState Op) {fault cause : ResendFault}
    → fault ≡ cause → HasResent kind_of reading was now (Err fault) → HasResent kind_of reading was now (Err cause)
resent kind_of reading was now same = subst (λ why. HasResent kind_of reading was now (Err why)) same

-- an acknowledgement is refused for one cause alone
pub acknowledged-nothing : {Op : Type 0} (kind_of : Op → Kind) (reading : ℕ) (was now : FrontState Op) (fault : AckFault)
    → HasAcknowledged kind_of reading was now (Err fault)
    → HasDone kind_of (λ to. AckTo to reading) (λ to. Say (Refuse IsNothing)) was now
acknowledged-nothing kind_of reading was now Nothing done = done

-- a message with a stamp that has its shape can be taken as a reply
pub is-reply : {Op : Type 0} (front : FrontState Op) (message : Message Op) → AllStamps (front.replicas + 1) (stamps_in message)
    → ((cid : Cid) × (spot : Spot) × (stamp : List ℕ) × (message ≡ Done cid spot stamp))
    ⊎ ((cid : Cid) × (text : List ℕ) × (stamp : List ℕ) × (message ≡ Answer cid text stamp))
    → IsReplyTo front message
is-reply front message all (inl (cid, spot, stamp, same)) =
    subst (IsReplyTo front) (sym same) (subst (λ x. AllStamps (front.replicas + 1) (stamps_in x)) same all 0 stamp refl)
is-reply front message all (inr (cid, text, stamp, same)) =
    subst (IsReplyTo front) (sym same) (subst (λ x. AllStamps (front.replicas + 1) (stamps_in x)) same all 0 stamp refl)
