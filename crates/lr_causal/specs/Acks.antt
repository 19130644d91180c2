-- What a replica answers of an acknowledgement.
use Rattle.std.specs.Prelude.{◌≡◌, List, [], ◌∷◌}
use Rattle.lr_base.specs.Rules.{CausalState}
use Rattle.lr_base.specs.Steps.{Ending}
use Rattle.lr_base.specs.declared.acts.Act.{Act}
use Rattle.lr_base.specs.declared.acts.Act.TheVariants.{Say}
use Rattle.lr_base.specs.declared.events.Outcome.TheVariants.{Note, Refuse}
use Rattle.lr_base.specs.declared.events.Refusal.TheVariants.{FullLog as NoRoom, Noted as WasNoted, Worn as UsedUp}
use Rattle.lr_base.specs.declared.names.Cid.{Cid}
use Rattle.lr_causal.specs.declared.causal.noting.AckEnd.{AckEnd}
use Rattle.lr_causal.specs.declared.causal.noting.AckEnd.TheVariants.{Noted, Again, FullLog, Worn}

-- what is said of an acknowledgement of this call that ended so
-- for example: `note 0:2 0.1`; `refuse noted 0:2`
abbrev pub said_of : {Op : Type 0} → Cid → AckEnd → List (Act Op)
said_of cid (Noted spot) = Say (Note spot cid) ∷ []
said_of cid (Again spot) = Say (Refuse (WasNoted spot)) ∷ []
said_of cid FullLog = Say (Refuse NoRoom) ∷ []
said_of cid Worn = Say (Refuse UsedUp) ∷ []

-- an acknowledgement was taken as the rules say: this is the state after it, and this is said
-- for example: `0:2` is logged, and `note 0:2 0.1`
pub record HasAcked {Value Op : Type 0} (end : Ending Value Op) (cid : Cid) (state : CausalState Value Op)
    (answer : AckEnd) : Type 0 where
  pub state_is : state ≡ end.state
  pub said : said_of cid answer ≡ end.acts
