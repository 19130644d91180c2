-- The kinds of messages that a picture tells apart.
use Rattle.std.specs.Prelude.{◌≡◌, ◌≢◌, ℕ, List, codes}
use Rattle.lr_draw.specs.declared.kinds.Kind.{Kind}
use Rattle.lr_draw.specs.declared.kinds.Kind.TheVariants.{Update, Query, Ack, Done, Answer, Gossip, Ask, Give}
use Rattle.lr_draw.specs.declared.kinds.Kind.TheVariants.{Prepare, Prepared, Freeze, Frozen, Other}

-- a kind's name
-- for example: `gossip`
abbrev pub kind_name : Kind → List ℕ
kind_name Update = codes "update"
kind_name Query = codes "query"
kind_name Ack = codes "ack"
kind_name Done = codes "done"
kind_name Answer = codes "answer"
kind_name Gossip = codes "gossip"
kind_name Ask = codes "ask"
kind_name Give = codes "give"
kind_name Prepare = codes "prepare"
kind_name Prepared = codes "prepared"
kind_name Freeze = codes "freeze"
kind_name Frozen = codes "frozen"
kind_name Other = codes "other"

-- the word is the kind's name, unless the kind is an unknown one
abbrev pub IsNamed : List ℕ → Kind → Type 0
IsNamed word kind = kind ≢ Other → word ≡ kind_name kind

-- no kind of those that only replicas send for themselves has this name
-- for example: `update`
pub record IsNoReplicasKind (word : List ℕ) : Type 0 where
  pub ask : word ≢ kind_name Ask
  pub give : word ≢ kind_name Give
  pub prepare : word ≢ kind_name Prepare
  pub prepared : word ≢ kind_name Prepared
  pub freeze : word ≢ kind_name Freeze
  pub frozen : word ≢ kind_name Frozen
