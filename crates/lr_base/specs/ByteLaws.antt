-- Exact fields: what is written is read again, and what is read is written so. Exact parts make exact wholes.
use Rattle.std.proofs.Common.{◌≡◌, ◌<◌, ◌≤◌, ◌+◌, ◌*◌, ◌/◌, ◌^◌, ◌==◌, ℕ, zero, suc, Bool, true, false, cond}
use Rattle.std.proofs.Common.{nat_lt, List, [], ◌∷◌, ◌++◌, length, take, drop, get_or, refl, sym, ◌∙◌, ap, arith}
use Rattle.std.proofs.Common.{length-append, append_assoc}
use Rattle.std.specs.Prelude.{Option, Some, flat_map, if◌then◌else◌}
use Rattle.std.specs.Int.{byte_at}
use Rattle.std.proofs.Math.Nat.{mod-lt}
use Rattle.std.proofs.Math.Seq.{drop-append_seam}
use Rattle.std.proofs.lemmas.Bool.{and_parts, and_from, eqb-true, eqb-false, ne_eqb, ltb-true, ltb-false, lt-ltb}
use Rattle.std.proofs.lemmas.Bool.{le-ltb}
use Rattle.std.proofs.lemmas.List.{take-append-drop, length-take-le}
use Rattle.std.proofs.lemmas.List.Folds.{list_all-append}
use Rattle.std.proofs.lemmas.Nat.{div-mul-add}
use Rattle.std.specs.Str.{bytes_eq}
use Rattle.std.proofs.lemmas.Slice.Eq.{bytes_eq-Decides}
use Rattle.byteorder.specs.Endian.{big_from, big_number, big_bytes}
use Rattle.byteorder.specs.Numbers.{big_from-append, big_from-cons, big_from-lt, big_from-take, big_number-reads_back}
use Rattle.byteorder.specs.Numbers.{length-bytes_high_first}
use Rattle.lr_base.specs.Bytes.{Bytes, Reading, Found, Wrong, and_then, number_field, great_count_field, count_field}
use Rattle.lr_base.specs.Bytes.{count_bytes, times, each_may, are_bytes, IsExact}
use Rattle.lr_base.specs.declared.bytes.BadWhat.{BadWhat}
use Rattle.lr_base.specs.declared.bytes.BadWhat.TheVariants.{Range}

-- bytes are the same where the test of it is passed, and only there
pub same-bytes : (a b : Bytes) → bytes_eq a b ≡ true → a ≡ b
same-bytes a b = (bytes_eq-Decides a b).0

pub bytes-same : (a : Bytes) → bytes_eq a a ≡ true
bytes-same a = (bytes_eq-Decides a a).1 refl

-- the parts of bytes are bytes
pub are_bytes-parts : (a b : Bytes) → are_bytes (a ++ b) ≡ true → (are_bytes a ≡ true) × (are_bytes b ≡ true)
are_bytes-parts a b are = and_parts (are_bytes a) (are_bytes b) (sym (list_all-append _ a b) ∙ are)

-- and so is what stands behind a front
pub are_bytes-behind : (bytes front rest : Bytes) → are_bytes bytes ≡ true → bytes ≡ front ++ rest
    → are_bytes rest ≡ true
are_bytes-behind bytes front rest are is = (are_bytes-parts front rest (ap are_bytes (sym is) ∙ are)).1

-- what was found behind a value was found behind one that was found
pub and_then-found : {A B : Type 0} (first : Reading A) (next : A → Bytes → Reading B) (value : B) (rest : Bytes)
    → and_then first next ≡ Found value rest → (a : A) × (mid : Bytes) × (first ≡ Found a mid)
    × (next a mid ≡ Found value rest)
and_then-found (Found a mid) next value rest is = (a, mid, refl, is)
and_then-found (Wrong left what) next value rest is = cc

-- what a test let through passed it
pub passed-found : {A : Type 0} (pass : Bool) (field : Reading A) (left : ℕ) (what : BadWhat) (value : A)
    (rest : Bytes) → cond pass field (Wrong left what) ≡ Found value rest → (pass ≡ true) × (field ≡ Found value rest)
passed-found true field left what value rest is = (refl, is)
passed-found false field left what value rest is = cc

-- what a test didn't refuse failed it
pub failed-found : {A : Type 0} (fail : Bool) (field : Reading A) (left : ℕ) (what : BadWhat) (value : A)
    (rest : Bytes) → cond fail (Wrong left what) field ≡ Found value rest → (fail ≡ false) × (field ≡ Found value rest)
failed-found true field left what value rest is = cc
failed-found false field left what value rest is = (refl, is)

-- each element of bytes is below 256
byte-lt : (bytes : Bytes) → are_bytes bytes ≡ true → (k : ℕ) → get_or bytes k 0 < 256
byte-lt [] are k = omega arith
byte-lt (x ∷ bytes) are zero = ltb-true x 256 (and_parts (nat_lt x 256) (are_bytes bytes) are).0
byte-lt (x ∷ bytes) are (suc k) = byte-lt bytes (and_parts (nat_lt x 256) (are_bytes bytes) are).1 k

-- a byte of a number is below 256
byte_at-lt : (k x : ℕ) → byte_at k x < 256
byte_at-lt zero x = mod-lt x (omega arith)
byte_at-lt (suc k) x = mod-lt (x / 256 ^ suc k) (omega arith)

-- the bytes of a number are bytes
are_bytes-big : (width x : ℕ) → are_bytes (big_bytes width x) ≡ true
are_bytes-big zero x = refl
are_bytes-big (suc width) x = rw (lt-ltb (byte_at width x) 256 (byte_at-lt width x)) (are_bytes-big width x)

-- bytes with one number are the same
one-number : (width : ℕ) (a b : Bytes) → length a ≡ width → length b ≡ width → are_bytes a ≡ true
    → are_bytes b ≡ true → big_from 0 width a ≡ big_from 0 width b → a ≡ b
one-number zero [] [] first second left right same = refl
one-number zero (x ∷ a) b first second left right same = absurd (omega arith)
one-number zero [] (y ∷ b) first second left right same = absurd (omega arith)
one-number (suc width) [] b first second left right same = absurd (omega arith)
one-number (suc width) (x ∷ a) [] first second left right same = absurd (omega arith)
one-number (suc width) (x ∷ a) (y ∷ b) first second left right same =
    let front = and_parts (nat_lt x 256) (are_bytes a) left in
    let back = and_parts (nat_lt y 256) (are_bytes b) right in
    let sums : x * 256 ^ width + big_from 0 width a ≡ y * 256 ^ width + big_from 0 width b =
    sym (ap (λ n. x * 256 ^ width + n) (big_from-cons 0 width x a)) ∙ same
    ∙ ap (λ n. y * 256 ^ width + n) (big_from-cons 0 width y b) in
    let heads : x ≡ y =
    sym (div-mul-add x (256 ^ width) (big_from 0 width a) (big_from-lt 0 width a (byte-lt a front.1)))
    ∙ ap (λ n. n / 256 ^ width) sums
    ∙ div-mul-add y (256 ^ width) (big_from 0 width b) (big_from-lt 0 width b (byte-lt b back.1)) in
    let high : x * 256 ^ width ≡ y * 256 ^ width = ap (λ n. n * 256 ^ width) heads in
    let tails : a ≡ b = one-number width a b (omega arith) (omega arith) front.1 back.1 (omega (arith, sums, high)) in
    cc

-- bytes are those of the number that they begin with, and those behind it
big_number-back : (width : ℕ) (bytes : Bytes) → are_bytes bytes ≡ true → width ≤ length bytes
    → bytes ≡ big_bytes width (big_number width bytes) ++ drop width bytes
big_number-back width bytes are long =
    let number = big_number width bytes in
    let whole = take-append-drop width bytes in
    let front : are_bytes (take width bytes) ≡ true =
    (are_bytes-parts (take width bytes) (drop width bytes) (ap are_bytes whole ∙ are)).0 in
    let below : number < 256 ^ width = big_from-lt 0 width bytes (byte-lt bytes are) in
    let size : width ≤ length (big_bytes width number) = omega (arith, length-bytes_high_first width number) in
    let own : big_from 0 width (big_bytes width number) ≡ number =
    sym (big_from-append width (big_bytes width number) [] size) ∙ big_number-reads_back width number [] below in
    let same : big_bytes width number ≡ take width bytes =
    one-number width _ _ (length-bytes_high_first width number) (length-take-le width bytes long)
    (are_bytes-big width number) front
    (own ∙ sym (big_from-take 0 width width bytes (omega arith))) in
    sym (ap (λ b. b ++ drop width bytes) same ∙ whole)

-- what stands behind a number
drop-big : (width x : ℕ) (rest : Bytes) → drop width (big_bytes width x ++ rest) ≡ rest
drop-big width x rest = ap (λ n. drop n (big_bytes width x ++ rest)) (sym (length-bytes_high_first width x))
    ∙ drop-append_seam (big_bytes width x) rest

-- numbers are exact
pub number-exact : (width : ℕ) → IsExact (λ n. nat_lt n (256 ^ width)) (big_bytes width) (number_field width)
number-exact width = record {
  forth = λ n rest is fits.
      let long : nat_lt (length (big_bytes width n ++ rest)) width ≡ false =
      le-ltb _ _ (omega (arith, length-append (big_bytes width n) rest, length-bytes_high_first width n)) in
      let read : big_number width (big_bytes width n ++ rest) ≡ n =
      big_number-reads_back width n rest (ltb-true n (256 ^ width) is) in
      rw (long, read, drop-big width n rest) refl;
  back = λ bytes n rest are is.
      let found = failed-found (nat_lt (length bytes) width) _ _ _ n rest is in
      let number : big_number width bytes ≡ n = cc in
      let behind : drop width bytes ≡ rest = cc in
      let below : big_number width bytes < 256 ^ width = big_from-lt 0 width bytes (byte-lt bytes are) in (
        rw (← number, ← behind) (big_number-back width bytes are (ltb-false _ _ found.0)),
        rw (← number) (lt-ltb _ _ below),
      );
}

-- what a count of 4 bytes leads to
abbrev count_next : ℕ → Bytes → Reading ℕ
count_next count rest = if count == 4294967295 then great_count_field rest else Found count rest

-- what a count of 8 bytes leads to
abbrev great_next : Bytes → ℕ → Bytes → Reading ℕ
great_next bytes count rest = if nat_lt count 4294967295 then Wrong (length bytes) Range else Found count rest

-- a count of 4 bytes is read
small-forth : (count : ℕ) (rest : Bytes) → count < 4294967295
    → count_field (big_bytes 4 count ++ rest) ≡ Found count rest
small-forth count rest small =
    let read : number_field 4 (big_bytes 4 count ++ rest) ≡ Found count rest =
    (number-exact 4).forth count rest (lt-ltb count (256 ^ 4) (omega arith))
    (omega (arith, length-bytes_high_first 4 count)) in
    let other : (count == 4294967295) ≡ false = ne_eqb count 4294967295 (λ is. absurd (omega arith)) in
    let next : count_next count rest ≡ Found count rest =
    ap (λ b. if b then great_count_field rest else Found count rest) other in
    ap (λ r. and_then r count_next) read ∙ next

-- a count of 8 bytes is read
great-forth : (count : ℕ) (rest : Bytes) → 4294967295 ≤ count → count < 2 ^ 64
    → count_field ((big_bytes 4 4294967295 ++ big_bytes 8 count) ++ rest) ≡ Found count rest
great-forth count rest great below =
    let behind = big_bytes 8 count ++ rest in
    let mark : number_field 4 (big_bytes 4 4294967295 ++ behind) ≡ Found 4294967295 behind =
    (number-exact 4).forth 4294967295 behind refl (omega (arith, length-bytes_high_first 4 4294967295)) in
    let read : number_field 8 behind ≡ Found count rest =
    (number-exact 8).forth count rest (lt-ltb count (256 ^ 8) below)
    (omega (arith, length-bytes_high_first 8 count)) in
    let next : great_next behind count rest ≡ Found count rest =
    ap (λ b. if b then Wrong (length behind) Range else Found count rest) (le-ltb count 4294967295 great) in
    ap count_field (append_assoc (big_bytes 4 4294967295) (big_bytes 8 count) rest)
    ∙ ap (λ r. and_then r count_next) mark ∙ ap (λ r. and_then r (great_next behind)) read ∙ next

-- the bytes of a count that 4 bytes have room for
count_bytes-small : (count : ℕ) → count < 4294967295 → count_bytes count ≡ big_bytes 4 count
count_bytes-small count small = ap (λ b. if b then big_bytes 4 count
    else big_bytes 4 4294967295 ++ big_bytes 8 count) (lt-ltb count 4294967295 small)

-- and of one that they have none for
count_bytes-great : (count : ℕ) → 4294967295 ≤ count → count_bytes count ≡ big_bytes 4 4294967295 ++ big_bytes 8 count
count_bytes-great count great = ap (λ b. if b then big_bytes 4 count
    else big_bytes 4 4294967295 ++ big_bytes 8 count) (le-ltb count 4294967295 great)

-- what is read behind a mark is written so
great-back : (bytes behind rest : Bytes) (mark count : ℕ) → are_bytes bytes ≡ true
    → bytes ≡ big_bytes 4 mark ++ behind → mark ≡ 4294967295 → great_count_field behind ≡ Found count rest
    → (bytes ≡ count_bytes count ++ rest) × (nat_lt count (2 ^ 64) ≡ true)
great-back bytes behind rest mark count are split is found =
    let parts = and_then-found (number_field 8 behind) (great_next behind) count rest found in
    let passed = failed-found (nat_lt parts.0 4294967295) (Found parts.0 parts.1)
    (length behind) Range count rest parts.3 in
    let number : parts.0 ≡ count = cc in
    let end : parts.1 ≡ rest = cc in
    let exact = (number-exact 8).back behind parts.0 parts.1
    (are_bytes-behind bytes (big_bytes 4 mark) behind are split) parts.2 in
    let great : 4294967295 ≤ count = rw (← number) (ltb-false parts.0 4294967295 passed.0) in
    let rests : behind ≡ big_bytes 8 count ++ rest = exact.0 ∙ ap (λ n. big_bytes 8 n ++ parts.1) number
    ∙ ap (λ b. big_bytes 8 count ++ b) end in (
      split ∙ ap (λ n. big_bytes 4 n ++ behind) is ∙ ap (λ b. big_bytes 4 4294967295 ++ b) rests
          ∙ sym (append_assoc (big_bytes 4 4294967295) (big_bytes 8 count) rest)
          ∙ ap (λ b. b ++ rest) (sym (count_bytes-great count great)),
      ap (λ n. nat_lt n (2 ^ 64)) (sym number) ∙ exact.1,
    )

-- what is read of 4 bytes alone is written so
small-back : (bytes behind rest : Bytes) (number count : ℕ) → bytes ≡ big_bytes 4 number ++ behind
    → nat_lt number (256 ^ 4) ≡ true → (number == 4294967295) ≡ false → Found number behind ≡ Found count rest
    → (bytes ≡ count_bytes count ++ rest) × (nat_lt count (2 ^ 64) ≡ true)
small-back bytes behind rest number count split fits other found =
    let same : number ≡ count = cc in
    let end : behind ≡ rest = cc in
    let below : number < 4294967296 = ltb-true number (256 ^ 4) fits in
    let apart : number ≡ 4294967295 → ⊥ = eqb-false number 4294967295 other in
    let small : count < 4294967295 = omega (arith, apart) in (
      split ∙ ap (λ n. big_bytes 4 n ++ behind) same ∙ ap (λ b. big_bytes 4 count ++ b) end
          ∙ ap (λ b. b ++ rest) (sym (count_bytes-small count small)),
      lt-ltb count (2 ^ 64) (omega arith),
    )

-- counts are exact
pub count-exact : IsExact (λ n. nat_lt n (2 ^ 64)) count_bytes count_field
count-exact = record { forth = λ count rest is fits. forth count rest is (nat_lt count 4294967295) refl; back = back }
  where
    forth : (count : ℕ) (rest : Bytes) → nat_lt count (2 ^ 64) ≡ true → (small : Bool)
        → nat_lt count 4294967295 ≡ small → count_field (count_bytes count ++ rest) ≡ Found count rest
    forth count rest is true e =
        let small = ltb-true count 4294967295 e in
        ap (λ b. count_field (b ++ rest)) (count_bytes-small count small) ∙ small-forth count rest small
    forth count rest is false e =
        let great = ltb-false count 4294967295 e in
        ap (λ b. count_field (b ++ rest)) (count_bytes-great count great)
        ∙ great-forth count rest great (ltb-true count (2 ^ 64) is)

    cases : (bytes behind rest : Bytes) (number count : ℕ) → are_bytes bytes ≡ true
        → bytes ≡ big_bytes 4 number ++ behind → nat_lt number (256 ^ 4) ≡ true → (mark : Bool)
        → (number == 4294967295) ≡ mark
        → cond mark (great_count_field behind) (Found number behind) ≡ Found count rest
        → (bytes ≡ count_bytes count ++ rest) × (nat_lt count (2 ^ 64) ≡ true)
    cases bytes behind rest number count are split fits true e found =
        great-back bytes behind rest number count are split (eqb-true number 4294967295 e) found
    cases bytes behind rest number count are split fits false e found =
        small-back bytes behind rest number count split fits e found

    back : (bytes : Bytes) (count : ℕ) (rest : Bytes) → are_bytes bytes ≡ true → count_field bytes ≡ Found count rest
        → (bytes ≡ count_bytes count ++ rest) × (nat_lt count (2 ^ 64) ≡ true)
    back bytes count rest are found =
        let parts = and_then-found (number_field 4 bytes) count_next count rest found in
        let exact = (number-exact 4).back bytes parts.0 parts.1 are parts.2 in
        cases bytes parts.1 rest parts.0 count are exact.0 exact.1 (parts.0 == 4294967295) refl parts.3

module _ {A : Type 0} (may : Option A → A → Bool) (written : A → Bytes) (one : Option A → Bytes
    → Reading A) (exact : (last : Option A) → IsExact (may last) written (one last)) where
  -- elements in a row are read, where each may come behind the one before it
  pub times-forth : (last : Option A) (xs : List A) (rest : Bytes) → each_may may last xs ≡ true
      → length (flat_map written xs) < 2 ^ 64 → times one (length xs) last (flat_map written xs ++ rest) ≡ Found xs rest
  times-forth last [] rest may_be fits = refl
  times-forth last (x ∷ xs) rest may_be fits =
      let parts = and_parts (may last x) (each_may may (Some x) xs) may_be in
      let behind = flat_map written xs ++ rest in
      let long = length-append (written x) (flat_map written xs) in
      let next : A → Bytes → Reading (List A) =
      λ first rest. and_then (times one (length xs) (Some first) rest) (λ more end. Found (first ∷ more) end) in
      ap (times one (length (x ∷ xs)) last) (append_assoc (written x) (flat_map written xs) rest)
      ∙ ap (λ r. and_then r next) ((exact last).forth x behind parts.0 (omega arith))
      ∙ ap (λ r. and_then r (λ more end. Found (x ∷ more) end)) (times-forth (Some x) xs rest parts.1 (omega arith))

  -- so many elements that were read are written so, and each may come behind the one before it
  pub times-back : (count : ℕ) (last : Option A) (bytes : Bytes) (xs : List A) (rest : Bytes)
      → are_bytes bytes ≡ true → times one count last bytes ≡ Found xs rest
      → (length xs ≡ count) × (bytes ≡ flat_map written xs ++ rest) × (each_may may last xs ≡ true)
  times-back zero last bytes [] rest are found = (refl, cc, refl)
  times-back zero last bytes (x ∷ xs) rest are found = cc
  times-back (suc count) last bytes xs rest are found =
      let first = and_then-found (one last bytes)
      (λ first rest. and_then (times one count (Some first) rest) (λ more end. Found (first ∷ more) end)) xs rest
      found in
      let more = and_then-found (times one count (Some first.0) first.1) (λ more end. Found (first.0 ∷ more) end) xs
      rest first.3 in
      let head = (exact last).back bytes first.0 first.1 are first.2 in
      let tail = times-back count (Some first.0) first.1 more.0 more.1
      (are_bytes-behind bytes (written first.0) first.1 are head.0) more.2 in
      let all : first.0 ∷ more.0 ≡ xs = cc in
      let end : more.1 ≡ rest = cc in
      let bytes_of : bytes ≡ flat_map written (first.0 ∷ more.0) ++ more.1 =
      head.0 ∙ ap (λ b. written first.0 ++ b) tail.1
      ∙ sym (append_assoc (written first.0) (flat_map written more.0) more.1) in (
        ap length (sym all) ∙ omega (arith, tail.0),
        bytes_of ∙ ap (λ (l : List A). flat_map written l ++ more.1) all ∙ ap (λ b. flat_map written xs ++ b) end,
        ap (each_may may last) (sym all) ∙ and_from _ _ head.1 tail.2,
      )

-- there are at most as many elements as bytes, where each has a byte
pub length-flat_map-le : {A : Type 0} (written : A → Bytes) → ((x : A) → 1 ≤ length (written x)) → (xs : List A)
    → length xs ≤ length (flat_map written xs)
length-flat_map-le written some [] = omega arith
length-flat_map-le written some (x ∷ xs) =
    omega (arith, some x, length-flat_map-le written some xs, length-append (written x) (flat_map written xs))
