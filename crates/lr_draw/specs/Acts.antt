-- Whom the text of an event names.
use Rattle.std.specs.Prelude.{◌≡◌, ◌≢◌, ◌⊎◌, ◌^◌, ℕ, List, codes}
use Rattle.std.specs.Fmt.{decimal}
use Rattle.lr_base.specs.declared.names.Actor.{Actor}
use Rattle.lr_base.specs.declared.names.Actor.TheVariants.{Client, Replica}
use Rattle.lr_draw.specs.declared.acts.Act.{Act}
use Rattle.lr_draw.specs.declared.acts.Act.TheVariants.{Deliver as Delivery, At, Restart as Restarts}
use Rattle.lr_draw.specs.declared.acts.Act.TheVariants.{Gossip as Gossips, Elsewhere}
use Rattle.lr_draw.specs.declared.acts.Word.{Word}
use Rattle.lr_draw.specs.declared.acts.Word.TheVariants.{Deliver, Call, Resend, Ack, Gossip, Restart}
use Rattle.lr_draw.specs.declared.acts.Word.TheVariants.{Tick, View, Drive, FailSave, HalfSave, Show}
use Rattle.lr_draw.specs.Fields.{first_field, behind_field, IsNumberBelow, IsNoneBelow}

-- how an event's word is written
-- for example: `deliver`
abbrev pub word_text : Word → List ℕ
word_text Deliver = codes "deliver"
word_text Call = codes "call"
word_text Resend = codes "resend"
word_text Ack = codes "ack"
word_text Gossip = codes "gossip"
word_text Restart = codes "restart"
word_text Tick = codes "tick"
word_text View = codes "view"
word_text Drive = codes "drive"
word_text FailSave = codes "failsave"
word_text HalfSave = codes "halfsave"
word_text Show = codes "show"

-- no word of an event that happens at a replica is written so
-- for example: `call`
pub record IsNoReplicaWord (field : List ℕ) : Type 0 where
  pub tick : field ≢ word_text Tick
  pub view : field ≢ word_text View
  pub drive : field ≢ word_text Drive
  pub fail_save : field ≢ word_text FailSave
  pub half_save : field ≢ word_text HalfSave
  pub show : field ≢ word_text Show

-- the first field is this client's number
abbrev pub IsClient : List ℕ → Actor → Type 0
IsClient fields (Client number) = IsNumberBelow 64 number (first_field fields)
IsClient fields (Replica number) = ⊥

-- the first field is this replica's number
abbrev pub IsReplica : List ℕ → Actor → Type 0
IsReplica fields (Client number) = ⊥
IsReplica fields (Replica number) = IsNumberBelow 15 number (first_field fields)

-- calls and what belongs to them happen at a client, and other events at a replica
abbrev pub IsPlace : Word → List ℕ → Actor → Type 0
IsPlace Deliver fields actor = ⊥
IsPlace Call fields actor = IsClient fields actor
IsPlace Resend fields actor = IsClient fields actor
IsPlace Ack fields actor = IsClient fields actor
IsPlace Gossip fields actor = ⊥
IsPlace Restart fields actor = ⊥
IsPlace _ fields actor = IsReplica fields actor

-- what an event with this word, and these fields behind it, says
-- for example: `deliver 3`
abbrev pub IsActBy : Word → List ℕ → Act → Type 0
IsActBy word fields (Delivery message) = (word ≡ Deliver) × (fields ≡ decimal message)
IsActBy word fields (At actor) = IsPlace word fields actor
IsActBy word fields (Restarts replica) = (word ≡ Restart) × IsNumberBelow 15 replica (first_field fields)
IsActBy word fields (Gossips from to) =
    (word ≡ Gossip) × IsNumberBelow 15 from (first_field fields) × IsNumberBelow 15 to (first_field (behind_field
    fields))
IsActBy word fields Elsewhere = ⊥

-- what stands behind the word is no number in its range
-- for example: `x` behind `deliver`
abbrev pub IsNoActBy : Word → List ℕ → Type 0
IsNoActBy Deliver fields = IsNoneBelow (2 ^ 64) fields
IsNoActBy Call fields = IsNoneBelow 64 (first_field fields)
IsNoActBy Resend fields = IsNoneBelow 64 (first_field fields)
IsNoActBy Ack fields = IsNoneBelow 64 (first_field fields)
IsNoActBy Gossip fields = IsNoneBelow 15 (first_field fields) ⊎ IsNoneBelow 15 (first_field (behind_field fields))
IsNoActBy _ fields = IsNoneBelow 15 (first_field fields)

-- the text begins with an event's word, and this is what it says
-- for example: `deliver 3`
pub record IsKnownAct (text : List ℕ) (act : Act) : Type 0 where
  pub word : Word
  pub first : first_field text ≡ word_text word
  pub says : IsActBy word (behind_field text) act

-- what a text says; one that begins with another word than those known names nobody
-- for example: `look 0 0 read x` names nobody
abbrev pub IsAct : List ℕ → Act → Type 0
IsAct text act = IsKnownAct text act ⊎ ((act ≡ Elsewhere) × ((word : Word) → first_field text ≢ word_text word))

-- the text begins with an event's word, and says nothing with it
pub record IsNoAct (text : List ℕ) : Type 0 where
  pub word : Word
  pub first : first_field text ≡ word_text word
  pub silent : IsNoActBy word (behind_field text)
