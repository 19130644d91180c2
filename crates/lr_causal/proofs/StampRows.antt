-- Lists of stamps that have one count of parts.
use Rattle.std.proofs.Common.{◌≡◌, ℕ, zero, suc, List, length, replicate, Some, None}
use Rattle.lr_causal.specs.Causal.{AllStamps}
use Rattle.lr_causal.proofs.Each.{Each-front}

-- one stamp again and again
pub AllStamps-replicate : (parts count : ℕ) (s : List ℕ) → length s ≡ parts → AllStamps parts (replicate count s)
AllStamps-replicate parts zero s own = λ k x e. let none : None ≡ Some x = e in cc
AllStamps-replicate parts (suc count) s own = Each-front (λ (stamp : List ℕ). length stamp ≡ parts) s (replicate count s) own (AllStamps-replicate parts count s own)

-- the same stamps under another name
pub AllStamps-along : (parts : ℕ) (stamps same : List (List ℕ)) → same ≡ stamps → AllStamps parts stamps → AllStamps parts same
AllStamps-along parts stamps same is all = rw is all

-- the same stamps by another name of their count of parts
pub AllStamps-count : (parts same : ℕ) (stamps : List (List ℕ)) → parts ≡ same → AllStamps parts stamps → AllStamps same stamps
AllStamps-count parts same stamps is all = rw (← is) all
