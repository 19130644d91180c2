-- To be believed: the fields of a line: what stands between single spaces.
use Rattle.std.specs.Prelude.{◌≡◌, ◌≢◌, ℕ, ◌+◌, ◌<◌, ◌^◌, ◌==◌, Option, None, Some, List, [], ◌∷◌, ◌++◌, codes, cond}
use Rattle.std.specs.Borrow.{Bor}
use Rattle.std.specs.Fmt.{decimal}
use Rattle.lr_script.specs.declared.fields.EventWord.{EventWord}
use Rattle.lr_script.specs.declared.fields.EventWord.TheVariants.{Call, Resend, Ack, Deliver, Tick, Gossip, Show}

-- how many spaces there are among the bytes
-- for example: 2 in `0 0 5`
abbrev pub spaces : List ℕ → ℕ
spaces [] = 0
spaces (byte ∷ bytes) = cond (byte == 32) (1 + spaces bytes) (spaces bytes)

-- a line is its first field, which holds no space, and behind a space the rest
-- for example: `show`, `0`
abbrev pub IsField : List ℕ → List ℕ → Option (Bor (List ℕ)) → Type 0
IsField line field None = (line ≡ field) × (spaces field ≡ 0)
IsField line field (Some rest) = (line ≡ field ++ 32 ∷ rest.now) × (spaces field ≡ 0)

-- an event's word
-- for example: `call`
abbrev pub word_text : EventWord → List ℕ
word_text Call = codes "call"
word_text Resend = codes "resend"
word_text Ack = codes "ack"
word_text Deliver = codes "deliver"
word_text Tick = codes "tick"
word_text Gossip = codes "gossip"
word_text Show = codes "show"

-- four fields, of which the last may hold spaces
-- for example: `0`, `0`, `5`, `add x 3`
abbrev pub four_fields : List ℕ → List ℕ → List ℕ → List ℕ → List ℕ
four_fields client replica reading op = client ++ 32 ∷ (replica ++ 32 ∷ (reading ++ 32 ∷ op))

-- what stands behind a call's word is these fields
pub record IsCallFields (fields client replica reading op : List ℕ) : Type 0 where
  pub text : fields ≡ four_fields client replica reading op
  pub client_field : spaces client ≡ 0
  pub replica_field : spaces replica ≡ 0
  pub reading_field : spaces reading ≡ 0

-- three fields, each behind a space but the first
-- for example: `0`, `0`, `5`
abbrev pub three_fields : List ℕ → List ℕ → List ℕ → List ℕ
three_fields client replica reading = client ++ 32 ∷ (replica ++ 32 ∷ reading)

-- what stands behind a word is these three fields
-- for example: `0`, `0`, `5` behind `resend`
pub record IsTriple (fields client replica reading : List ℕ) : Type 0 where
  pub text : fields ≡ three_fields client replica reading
  pub client_field : spaces client ≡ 0
  pub replica_field : spaces replica ≡ 0
  pub reading_field : spaces reading ≡ 0

-- what stands behind a word is these two fields
-- for example: `0`, `1` behind `gossip`
pub record IsPair (fields first second : List ℕ) : Type 0 where
  pub text : fields ≡ first ++ 32 ∷ second
  pub first_field : spaces first ≡ 0
  pub second_field : spaces second ≡ 0

-- three fields, of which the last may hold spaces: the counts of replicas and clients, and the delta
-- for example: `1`, `1`, `10`
pub record IsConfigFields (fields replicas clients delta : List ℕ) : Type 0 where
  pub text : fields ≡ replicas ++ 32 ∷ (clients ++ 32 ∷ delta)
  pub replicas_field : spaces replicas ≡ 0
  pub clients_field : spaces clients ≡ 0

-- no number below 2^64 is written so
-- for example: `05`
abbrev pub IsNoNumber : List ℕ → Type 0
IsNoNumber text = (number : ℕ) → number < 2 ^ 64 → text ≢ decimal number
