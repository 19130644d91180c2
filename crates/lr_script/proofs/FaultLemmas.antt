-- Why a line is no event's, from why what stands behind its word isn't what the word asks for.
use Rattle.std.proofs.Common.{◌≡◌, ℕ, suc, ◌≤◌, true, false, eqb, List, [], ◌∷◌, length, Result, Ok, Err, refl, subst, arith}
use Rattle.std.specs.Prelude.{IfErr}
use Rattle.std.proofs.lemmas.Bool.Decides.{nat_tests}
use Rattle.lr_script.specs.declared.refusals.Cause.{Cause}
use Rattle.lr_script.specs.declared.event_lines.EventFault.{EventFault}
use Rattle.lr_script.specs.declared.event_lines.EventFault.TheVariants.{Bad, NoMemory}
use Rattle.lr_script.specs.Faults.{IsBecause}

-- a fault's cause may be said in other words
pub fault_said : {T : Type 0} (Holds Says : Cause → Type 0) → ((cause : Cause) → Holds cause → Says cause) → (result : Result T EventFault) → IfErr result (IsBecause Holds) → IfErr result (IsBecause Says)
fault_said Holds Says says (Ok value) h = h
fault_said Holds Says says (Err (Bad cause)) h = says cause h
fault_said Holds Says says (Err NoMemory) h = h

-- a list of no elements is empty
pub is_empty : (bytes : List ℕ) → eqb (length bytes) 0 ≡ true → bytes ≡ []
is_empty [] h = refl
is_empty (x ∷ bytes) h = let none : suc (length bytes) ≡ 0 = grind (arith, nat_tests) in absurd (omega arith)

-- any other has some
pub is_filled : (bytes : List ℕ) → eqb (length bytes) 0 ≡ false → 1 ≤ length bytes
is_filled bytes h = grind (arith, nat_tests)

-- a fault's cause holds
pub cause_of_fault : (Holds : Cause → Type 0) (fault : EventFault) (cause : Cause) → fault ≡ Bad cause → IsBecause Holds fault → Holds cause
cause_of_fault Holds (Bad other) cause e h = let same : other ≡ cause = cc in subst Holds same h
cause_of_fault Holds NoMemory cause e h = cc
