-- To be believed: counts of faults: how they rise.
use Rattle.std.specs.Prelude.{ℕ, ◌+◌, ◌-◌, ◌^◌, ◌≤◌, min, Result, Ok, Err}

-- the count after one more, which stays at the greatest number of 64 bits
-- for example: 5 after 4
abbrev pub one_more : ℕ → ℕ
one_more count = count + min 1 (2 ^ 64 - 1 - count)

-- the count rose, or stands at the greatest number of 64 bits
-- for example: from 4 to 6
abbrev pub Rose : ℕ → ℕ → Type 0
Rose before now = one_more before ≤ now

-- the count after a call that may fail: one more just where it did
abbrev pub faults_after : {T E : Type 0} → ℕ → Result T E → ℕ
faults_after count (Ok value) = count
faults_after count (Err cause) = one_more count
