-- What is seen of a keeper, and what a save and a load do.
use Rattle.std.specs.Prelude.{◌≡◌, ℕ, List, Option, Some, Result, Ok, Err, IfOk, OnOk, OnErr}
use Rattle.lr_outside.specs.Faults.{one_more}
use Rattle.lr_outside.specs.declared.keeper.KeepFault.{KeepFault}
use Rattle.lr_outside.specs.declared.keeper.KeepFault.TheVariants.{Failed, NoMemory}

-- what is seen of a keeper: the bytes kept, if some are, and how many of its calls failed
-- for example: `abc` kept, and no call failed
pub record KeeperSeen : Type 0 where
  pub kept : Option (List ℕ)
  pub faults : ℕ

-- what is seen of a keeper before and after
-- for example: nothing kept before, and `abc` after
pub record KeeperChange : Type 0 where
  pub before : KeeperSeen
  pub after : KeeperSeen

-- the change from one keeper to the other, of which this is seen
-- for example: from one that keeps nothing to one that keeps `abc`
abbrev pub keeper_change : {K : Type 0} → (K → KeeperSeen) → K → K → KeeperChange
keeper_change seen was now = record { before = seen was; after = seen now }

-- the count of faults after a save or a load that ended so: one more just where it failed
-- for example: 4 after 4, where there was no memory
abbrev pub faults_told : {T : Type 0} → ℕ → Result T KeepFault → ℕ
faults_told count (Ok value) = count
faults_told count (Err Failed) = one_more count
faults_told count (Err NoMemory) = count

-- a save: just these bytes are kept, or what was before where it gave up; one fault is counted just where it failed
-- for example: `de` kept in the place of `abc`
pub record IsSaveCall {T : Type 0} (keeper : KeeperChange) (result : Result T KeepFault) (bytes : List ℕ) : Type 0 where
  pub ok : OnOk result (keeper.after.kept ≡ Some bytes)
  pub err : OnErr result (keeper.after.kept ≡ keeper.before.kept)
  pub counted : keeper.after.faults ≡ faults_told keeper.before.faults result

-- a load: it answered what is kept, which stays as it was; one fault is counted just where it failed
-- for example: `abc` answered, and still kept
pub record IsLoadCall (keeper : KeeperChange) (result : Result (Option (List ℕ)) KeepFault) : Type 0 where
  pub ok : IfOk result (λ answer. answer ≡ keeper.before.kept)
  pub unchanged : keeper.after.kept ≡ keeper.before.kept
  pub counted : keeper.after.faults ≡ faults_told keeper.before.faults result
