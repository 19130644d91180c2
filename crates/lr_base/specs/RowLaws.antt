-- Rows that are read one behind the other.
use Rattle.std.proofs.Common.{◌≡◌, ◌-◌, ℕ, suc, List, [], ◌∷◌, ◌++◌, length, refl, sym, ◌∙◌, ap, arith, length-append}
use Rattle.std.proofs.Common.{append_assoc}
use Rattle.std.specs.Prelude.{Option, Some, Err, slice_get}
use Rattle.lr_base.specs.Bytes.{Bytes, Reading, Found, Wrong, and_then, times, Reads}
use Rattle.lr_base.specs.Lasts.{last_of, IsFault}
use Rattle.lr_base.specs.declared.bytes.BadWhat.{BadWhat}
use Rattle.lr_base.specs.declared.bytes.FieldFault.{FieldFault}
use Rattle.lr_base.specs.declared.bytes.FieldFault.TheVariants as fault

-- the element behind a front
get-behind : {A : Type 0} (front : List A) (x : A) → slice_get (front ++ x ∷ []) (length front) ≡ Some x
get-behind [] x = refl
get-behind (y ∷ front) x = get-behind front x

-- the last of a list with one more
pub last_of-more : {A : Type 0} (front : List A) (x : A) → last_of (front ++ x ∷ []) ≡ Some x
last_of-more front x =
    let at : length (front ++ x ∷ []) - 1 ≡ length front = omega (arith, length-append front (x ∷ [])) in
    ap (slice_get (front ++ x ∷ [])) at ∙ get-behind front x

-- the last of a list isn't its first, where there are two
pub last_of-tail : {A : Type 0} (x y : A) (xs : List A) → last_of (x ∷ y ∷ xs) ≡ last_of (y ∷ xs)
last_of-tail x y xs =
    let at : length (x ∷ y ∷ xs) - 1 ≡ suc (length (y ∷ xs) - 1) = omega arith in
    ap (slice_get (x ∷ y ∷ xs)) at

-- what reading comes to, with rows that were read before
abbrev pub joined : {A : Type 0} → List A → Reading (List A) → Reading (List A)
joined front reading = and_then reading (λ more end. Found (front ++ more) end)

-- one row more
pub joined-more : {A : Type 0} (one : Option A → Bytes → Reading A) (front : List A) (left m : ℕ) (bytes : Bytes)
    (x : A) (rest : Bytes) → left ≡ suc m → one (last_of front) bytes ≡ Found x rest
    → joined (front ++ x ∷ []) (times one m (last_of (front ++ x ∷ [])) rest)
    ≡ joined front (times one left (last_of front) bytes)
joined-more {A} one front left m bytes x rest is found =
    ap (λ last. joined (front ++ x ∷ []) (times one m last rest)) (last_of-more front x)
    ∙ sym (regroup (times one m (Some x) rest)) ∙ sym (ap (λ r. joined front (and_then r next)) found)
    ∙ sym (ap (λ n. joined front (times one n (last_of front) bytes)) is)
  where
    next : A → Bytes → Reading (List A)
    next first rest = and_then (times one m (Some first) rest) (λ more end. Found (first ∷ more) end)

    regroup : (r : Reading (List A))
        → joined front (and_then r (λ more end. Found (x ∷ more) end)) ≡ joined (front ++ x ∷ []) r
    regroup (Found more end) = ap (λ (l : List A). Found l end) (sym (append_assoc front (x ∷ []) more))
    regroup (Wrong left what) = refl

-- a row that can't be read ends the reading
pub joined-wrong : {A : Type 0} (one : Option A → Bytes → Reading A) (front : List A) (left m : ℕ) (bytes : Bytes)
    (at : ℕ) (what : BadWhat) → left ≡ suc m → one (last_of front) bytes ≡ Wrong at what
    → joined front (times one left (last_of front) bytes) ≡ Wrong at what
joined-wrong {A} one front left m bytes at what is wrong =
    ap (λ n. joined front (times one n (last_of front) bytes)) is
    ∙ ap (λ r. joined front (and_then r (λ first rest. and_then (times one m (Some first) rest)
    (λ more end. Found (first ∷ more) end)))) wrong

-- what a row that wasn't read comes to is what all come to
pub joined-fault : {A : Type 0} (one : Option A → Bytes → Reading A) (front : List A) (left m : ℕ) (bytes : Bytes)
    (total : Reading (List A)) (f : FieldFault) → joined front (times one left (last_of front) bytes) ≡ total
    → left ≡ suc m → Reads (one (last_of front) bytes) (Err f) → IsFault total f
joined-fault one front left m bytes total (fault.Bad at what) so_far is wrong =
    sym so_far ∙ joined-wrong one front left m bytes at what is wrong
joined-fault one front left m bytes total fault.NoMemory so_far is wrong = tt

-- no rows are left
pub joined-all : {A : Type 0} (one : Option A → Bytes → Reading A) (front : List A) (left : ℕ) (last : Option A)
    (bytes : Bytes) → left ≡ 0 → joined front (times one left last bytes) ≡ Found front bytes
joined-all {A} one front left last bytes none =
    ap (λ n. joined front (times one n last bytes)) none ∙ ap (λ (l : List A). Found l bytes) (whole front)
  where
    whole : (l : List A) → l ++ [] ≡ l
    whole [] = refl
    whole (x ∷ l) = ap (λ (r : List A). x ∷ r) (whole l)

-- no row was read before
pub joined-none : {A : Type 0} (reading : Reading (List A)) → joined [] reading ≡ reading
joined-none (Found value rest) = refl
joined-none (Wrong left what) = refl
