-- Formats that are put together of exact ones are exact.
-- Of exact formats those that are put together are exact: `leading-exact`, `both-exact`, `renamed-exact` (where of
-- written values the name leads back), `only_where-exact`, `known_test-exact`, `either-exact`, `optional-exact`,
-- `keyed-exact`, `repeated-exact` and `listed-exact` (facts with their proofs). `spelled-in` and `one_spelling-in` are
-- of an exact format the two laws of spellings.
use Rattle.std.proofs.Common.{◌≡◌, ◌<◌, ◌^◌, ◌==◌, ℕ, Bool, true, false, cond, ◌&&◌, not, [], ◌∷◌, ◌++◌}
use Rattle.std.proofs.Common.{length, refl, sym, ◌∙◌, ap, arith, length-append}
use Rattle.std.specs.Prelude.{Option, Some, None, ◌⊎◌, flat_map}
use mathlib.Core.Logic.{inl, inr}
use Rattle.std.proofs.lemmas.List.{append_assoc, append-nil}
use Rattle.std.proofs.lemmas.Bool.{and_parts, and_from, eqb-true, eq-eqb}
use Rattle.byteorder.specs.Endian.{big_bytes}
use Rattle.lr_base.specs.ByteLaws.{and_then-found, are_bytes-behind, passed-found, number-exact, count-exact}
use Rattle.lr_base.specs.ByteLaws.{times-forth, times-back}
use Rattle.lr_base.specs.Bytes.{Bytes, Reading, Found, Wrong, and_then, Good, Bad, whole, are_bytes, IsExact, each_may}
use Rattle.lr_base.specs.Bytes.{number_field, times}
use Rattle.lr_base.specs.declared.bytes.BadWhat.{BadWhat}
use Rattle.lr_base.specs.declared.bytes.BadWhat.TheVariants.{Range, Order}
use Rattle.lr_base.specs.Formats.{Format, IsExactFormat, number_of, number_format, count_format, leading, both, renamed}
use Rattle.lr_base.specs.Formats.{only_where, known_test, either, optional, keyed, repeated, listed, decoded_in}

-- a reading finds one value
pub found-same : {A : Type 0} (a value : A) (rest end : Bytes) → Found a rest ≡ Found value end
    → (a ≡ value) × (rest ≡ end)
found-same a value rest end is = (cc, cc)

-- numbers are exact
pub number_of-exact : (width : ℕ) → IsExactFormat (number_of width)
number_of-exact width = number-exact width

pub number_format-exact : IsExactFormat number_format
number_format-exact = number-exact 8

pub count_format-exact : IsExactFormat count_format
count_format-exact = count-exact

-- an exact format, and behind it one that is exact whatever the first value is
pub leading-exact : {A B : Type 0} (f : Format A) (g : A → Format B) → IsExactFormat f
    → ((a : A) → IsExactFormat (g a)) → IsExactFormat (leading f g)
leading-exact f g ef eg = record { forth = forth-both; back = back-both }
  where
    forth-both : (value : _ × _) (rest : Bytes) → (leading f g).is_value value ≡ true
        → length ((leading f g).written value) < 2 ^ 64
        → (leading f g).field ((leading f g).written value ++ rest) ≡ Found value rest
    forth-both value rest is fits =
        let parts = and_parts (f.is_value value.0) ((g value.0).is_value value.1) is in
        let long = length-append (f.written value.0) ((g value.0).written value.1) in
        let first = ef.forth value.0 ((g value.0).written value.1 ++ rest) parts.0 (omega (arith, long)) in
        let second = (eg value.0).forth value.1 rest parts.1 (omega (arith, long)) in
        rw (append_assoc (f.written value.0) ((g value.0).written value.1) rest, first, second) refl

    back-both : (bytes : Bytes) (value : _ × _) (rest : Bytes) → are_bytes bytes ≡ true
        → (leading f g).field bytes ≡ Found value rest → (bytes ≡ (leading f g).written value ++ rest)
        × ((leading f g).is_value value ≡ true)
    back-both bytes value rest all is =
        let one = and_then-found (f.field bytes) _ value rest is in
        let two = and_then-found ((g one.0).field one.1) _ value rest one.3 in
        let ends = found-same (one.0, two.0) value two.1 rest two.3 in
        let first = ef.back bytes one.0 one.1 all one.2 in
        let behind : are_bytes one.1 ≡ true = are_bytes-behind bytes (f.written one.0) one.1 all first.0 in
        let second = (eg one.0).back one.1 two.0 two.1 behind two.2 in
        let bytes_are : bytes ≡ (f.written one.0 ++ (g one.0).written two.0) ++ two.1 = first.0
        ∙ ap (λ b. f.written one.0 ++ b) second.0
        ∙ sym (append_assoc (f.written one.0) ((g one.0).written two.0) two.1) in (
          bytes_are ∙ ap (λ end. (f.written one.0 ++ (g one.0).written two.0) ++ end) ends.1
              ∙ ap (λ v. (leading f g).written v ++ rest) ends.0,
          ap (leading f g).is_value (sym ends.0) ∙ and_from _ _ first.1 second.1,
        )

-- two exact formats, one behind the other, are exact
pub both-exact : {A B : Type 0} (f : Format A) (g : Format B) → IsExactFormat f → IsExactFormat g
    → IsExactFormat (both f g)
both-exact f g ef eg = leading-exact f (λ first. g) ef (λ first. eg)

-- an exact format stays exact under another name, where of written values the name leads back
pub renamed-exact : {A B : Type 0} (to : A → B) (from : B → A) (f : Format A)
    → ((b : B) → f.is_value (from b) ≡ true → to (from b) ≡ b) → ((a : A) → f.is_value a ≡ true → from (to a) ≡ a)
    → IsExactFormat f → IsExactFormat (renamed to from f)
renamed-exact to from f there here ef = record { forth = forth-renamed; back = back-renamed }
  where
    forth-renamed : (value : _) (rest : Bytes) → f.is_value (from value) ≡ true
        → length (f.written (from value)) < 2 ^ 64
        → (renamed to from f).field (f.written (from value) ++ rest) ≡ Found value rest
    forth-renamed value rest is fits =
        rw (ef.forth (from value) rest is fits) (ap (λ v. Found v rest) (there value is))

    back-renamed : (bytes : Bytes) (value : _) (rest : Bytes) → are_bytes bytes ≡ true
        → (renamed to from f).field bytes ≡ Found value rest → (bytes ≡ f.written (from value) ++ rest)
        × (f.is_value (from value) ≡ true)
    back-renamed bytes value rest all is =
        let one = and_then-found (f.field bytes) _ value rest is in
        let ends = found-same (to one.0) value one.1 rest one.3 in
        let first = ef.back bytes one.0 one.1 all one.2 in
        let old : one.0 ≡ from value = sym (here one.0 first.1) ∙ ap from ends.0 in (
          first.0 ∙ ap (λ v. f.written v ++ one.1) old ∙ ap (λ end. f.written (from value) ++ end) ends.1,
          ap f.is_value (sym old) ∙ first.1,
        )

-- the values of an exact format that pass a test are exact
pub only_where-exact : {A : Type 0} (test : A → Bool) (what : BadWhat) (f : Format A) → IsExactFormat f
    → IsExactFormat (only_where test what f)
only_where-exact test what f ef = record {
  forth = λ value rest is fits.
      let parts = and_parts (f.is_value value) (test value) is in
      rw (ef.forth value rest parts.0 fits, parts.1) refl;
  back = λ bytes value rest all is.
      let one = and_then-found (f.field bytes) _ value rest is in
      let passed = passed-found (test one.0) (Found one.0 one.1) (length bytes) what value rest one.3 in
      let ends = found-same one.0 value one.1 rest passed.1 in
      let first = ef.back bytes one.0 one.1 all one.2 in (
        first.0 ∙ ap (λ v. f.written v ++ one.1) ends.0 ∙ ap (λ end. f.written value ++ end) ends.1,
        ap (only_where test what f).is_value (sym ends.0) ∙ and_from _ _ first.1 passed.0,
      );
}

-- an element is exact where its key and the rest are
pub keyed-exact : {K V : Type 0} (may : K → Bool) (key : Format K) (rest : K → Format V) → IsExactFormat key
    → ((k : K) → IsExactFormat (rest k)) → IsExactFormat (keyed may key rest)
keyed-exact may key rest ek er = leading-exact (only_where may Order key) rest (only_where-exact may Order key ek) er

-- a test that is known is exact
pub known_test-exact : (known : Bool) → IsExactFormat (known_test known)
known_test-exact true = record {
  forth = λ value rest is fits. ap (λ b. Found b rest) (sym is);
  back = λ bytes value rest all is. let ends = found-same true value bytes rest is in (ends.1, sym ends.0);
}
known_test-exact false = record {
  forth = λ value rest is fits. ap (λ b. Found b rest) (sym (off value is));
  back = λ bytes value rest all is.
      let ends = found-same false value bytes rest is in (ends.1, ap not (sym ends.0));
}
  where
    off : (b : Bool) → not b ≡ true → b ≡ false
    off true is = cc
    off false is = refl

-- a value of one of two kinds is exact where each kind is
pub either-exact : {A B : Type 0} (first : Bool) (f : Format A) (g : Format B) → IsExactFormat f → IsExactFormat g
    → IsExactFormat (either first f g)
either-exact {A} {B} true f g ef eg = record { forth = forth; back = back }
  where
    forth : (value : A ⊎ B) (rest : Bytes) → (either true f g).is_value value ≡ true
        → length ((either true f g).written value) < 2 ^ 64
        → (either true f g).field ((either true f g).written value ++ rest) ≡ Found value rest
    forth (inl value) rest is fits = rw (ef.forth value rest is fits) refl
    forth (inr value) rest is fits = cc

    back : (bytes : Bytes) (value : A ⊎ B) (rest : Bytes) → are_bytes bytes ≡ true
        → (either true f g).field bytes ≡ Found value rest
        → (bytes ≡ (either true f g).written value ++ rest) × ((either true f g).is_value value ≡ true)
    back bytes value rest all is =
        let one = and_then-found (f.field bytes) _ value rest is in
        let ends = found-same (inl one.0) value one.1 rest one.3 in
        let first = ef.back bytes one.0 one.1 all one.2 in (
          first.0 ∙ ap (λ end. f.written one.0 ++ end) ends.1 ∙ ap (λ v. (either true f g).written v ++ rest) ends.0,
          ap (either true f g).is_value (sym ends.0) ∙ first.1,
        )
either-exact {A} {B} false f g ef eg = record { forth = forth; back = back }
  where
    forth : (value : A ⊎ B) (rest : Bytes) → (either false f g).is_value value ≡ true
        → length ((either false f g).written value) < 2 ^ 64
        → (either false f g).field ((either false f g).written value ++ rest) ≡ Found value rest
    forth (inl value) rest is fits = cc
    forth (inr value) rest is fits = rw (eg.forth value rest is fits) refl

    back : (bytes : Bytes) (value : A ⊎ B) (rest : Bytes) → are_bytes bytes ≡ true
        → (either false f g).field bytes ≡ Found value rest
        → (bytes ≡ (either false f g).written value ++ rest) × ((either false f g).is_value value ≡ true)
    back bytes value rest all is =
        let one = and_then-found (g.field bytes) _ value rest is in
        let ends = found-same (inr one.0) value one.1 rest one.3 in
        let first = eg.back bytes one.0 one.1 all one.2 in (
          first.0 ∙ ap (λ end. g.written one.0 ++ end) ends.1 ∙ ap (λ v. (either false f g).written v ++ rest) ends.0,
          ap (either false f g).is_value (sym ends.0) ∙ first.1,
        )

-- a part that may be left out is exact where the part is
pub optional-exact : {A : Type 0} (may : Bool) (f : Format A) → IsExactFormat f → IsExactFormat (optional may f)
optional-exact {A} may f ef = record { forth = forth; back = back }
  where
    next : Bytes → ℕ → Bytes → Reading (Option A)
    next bytes tag rest = cond (tag == 0) (Found None rest) (cond ((tag == 1) && may)
        (and_then (f.field rest) (λ value end. Found (Some value) end)) (Wrong (length bytes) Range))

    forth : (value : Option A) (rest : Bytes) → (optional may f).is_value value ≡ true
        → length ((optional may f).written value) < 2 ^ 64
        → (optional may f).field ((optional may f).written value ++ rest) ≡ Found value rest
    forth None rest is fits = rw ((number-exact 1).forth 0 rest refl (omega arith)) refl
    forth (Some value) rest is fits =
        let parts = and_parts may (f.is_value value) is in
        let behind = f.written value ++ rest in
        let long = length-append (big_bytes 1 1) (f.written value) in
        ap (λ r. and_then r (next (big_bytes 1 1 ++ behind))) ((number-exact 1).forth 1 behind refl (omega arith))
        ∙ ap (λ b. cond b (and_then (f.field behind) (λ v end. Found (Some v) end))
        (Wrong (length (big_bytes 1 1 ++ behind)) Range)) parts.0
        ∙ ap (λ r. and_then r (λ v end. Found (Some v) end)) (ef.forth value rest parts.1 (omega (arith, long)))

    none : (tag : ℕ) (bytes mid rest : Bytes) (value : Option A) → tag ≡ 0 → bytes ≡ big_bytes 1 tag ++ mid
        → Found None mid ≡ Found value rest
        → (bytes ≡ (optional may f).written value ++ rest) × ((optional may f).is_value value ≡ true)
    none tag bytes mid rest value zero split is =
        let ends = found-same None value mid rest is in (
          split ∙ ap (λ n. big_bytes 1 n ++ mid) zero ∙ ap (λ end. big_bytes 1 0 ++ end) ends.1
              ∙ ap (λ v. (optional may f).written v ++ rest) ends.0,
          ap (optional may f).is_value (sym ends.0),
        )

    some : (tag : ℕ) (bytes mid rest : Bytes) (value : Option A) → are_bytes bytes ≡ true
        → ((tag == 1) && may) ≡ true → bytes ≡ big_bytes 1 tag ++ mid
        → and_then (f.field mid) (λ v end. Found (Some v) end) ≡ Found value rest
        → (bytes ≡ (optional may f).written value ++ rest) × ((optional may f).is_value value ≡ true)
    some tag bytes mid rest value all may_be split is =
        let parts = and_parts (tag == 1) may may_be in
        let one = and_then-found (f.field mid) _ value rest is in
        let ends = found-same (Some one.0) value one.1 rest one.3 in
        let first = ef.back mid one.0 one.1 (are_bytes-behind bytes (big_bytes 1 tag) mid all split) one.2 in (
          split ∙ ap (λ n. big_bytes 1 n ++ mid) (eqb-true tag 1 parts.0) ∙ ap (λ b. big_bytes 1 1 ++ b) first.0
              ∙ ap (λ end. (optional may f).written (Some one.0) ++ end) ends.1
              ∙ ap (λ v. (optional may f).written v ++ rest) ends.0,
          ap (optional may f).is_value (sym ends.0) ∙ and_from _ _ parts.1 first.1,
        )

    cases : (bytes mid rest : Bytes) (tag : ℕ) (value : Option A) → are_bytes bytes ≡ true → (zero : Bool)
        → (tag == 0) ≡ zero → (one : Bool) → ((tag == 1) && may) ≡ one → bytes ≡ big_bytes 1 tag ++ mid
        → cond zero (Found None mid) (cond one (and_then (f.field mid) (λ v end. Found (Some v) end))
        (Wrong (length bytes) Range)) ≡ Found value rest
        → (bytes ≡ (optional may f).written value ++ rest) × ((optional may f).is_value value ≡ true)
    cases bytes mid rest tag value all true is_zero one is_one split found =
        none tag bytes mid rest value (eqb-true tag 0 is_zero) split found
    cases bytes mid rest tag value all false is_zero true is_one split found =
        some tag bytes mid rest value all is_one split found
    cases bytes mid rest tag value all false is_zero false is_one split found = cc

    back : (bytes : Bytes) (value : Option A) (rest : Bytes) → are_bytes bytes ≡ true
        → (optional may f).field bytes ≡ Found value rest
        → (bytes ≡ (optional may f).written value ++ rest) × ((optional may f).is_value value ≡ true)
    back bytes value rest all is =
        let one = and_then-found (number_field 1 bytes) (next bytes) value rest is in
        let first = (number-exact 1).back bytes one.0 one.1 all one.2 in
        cases bytes one.1 rest one.0 value all (one.0 == 0) refl ((one.0 == 1) && may) refl first.0 one.3

-- so many exact elements are exact
pub repeated-exact : {A : Type 0} (one : Option A → Format A)
    → ((last : Option A) → IsExact (one last).is_value (one None).written (one last).field) → (count : ℕ)
    → IsExactFormat (repeated one count)
repeated-exact one exact count = record {
  forth = λ xs rest is fits.
      let parts = and_parts (length xs == count) (each_may (λ last. (one last).is_value) None xs) is in
      ap (λ n. times (λ last. (one last).field) n None (flat_map (one None).written xs ++ rest))
      (sym (eqb-true (length xs) count parts.0))
      ∙ times-forth (λ last. (one last).is_value) (one None).written (λ last. (one last).field) exact None xs rest
      parts.1 fits;
  back = λ bytes xs rest all is.
      let parts = times-back (λ last. (one last).is_value) (one None).written (λ last. (one last).field) exact count
      None bytes xs rest all is in
      (parts.1, and_from _ _ (eq-eqb (length xs) count parts.0) parts.2);
}

-- a count and so many exact elements are exact
pub listed-exact : {A : Type 0} (count : Format ℕ) (one : Option A → Format A) → IsExactFormat count
    → ((last : Option A) → IsExact (one last).is_value (one None).written (one last).field)
    → IsExactFormat (listed count one)
listed-exact count one ec exact =
    renamed-exact (λ parts. parts.1) (λ xs. (length xs, xs)) (leading count (repeated one)) (λ xs is. refl)
    (λ parts is.
    let tests = and_parts (count.is_value parts.0) ((repeated one parts.0).is_value parts.1) is in
    let same = and_parts (length parts.1 == parts.0) (each_may (λ last. (one last).is_value) None parts.1) tests.1 in
    ap (λ n. (n, parts.1)) (eqb-true (length parts.1) parts.0 same.0))
    (leading-exact count (repeated one) ec (repeated-exact one exact))

-- a value's spelling is read back
pub spelled-in : {A : Type 0} (f : Format A) → IsExactFormat f → (value : A) → f.is_value value ≡ true
    → length (f.written value) < 2 ^ 64 → decoded_in f (f.written value) ≡ Good value
spelled-in f ef value is fits =
    let reads : f.field (f.written value) ≡ Found value [] = ap f.field (sym (append-nil (f.written value)))
    ∙ ef.forth value [] is fits in
    ap (whole (f.written value)) reads

-- bytes that are no value's have none
good-same : {A : Type 0} (a value : A) → Good a ≡ Good value → a ≡ value
good-same a value is = cc

bad-good : {A : Type 0} (at : ℕ) (what : BadWhat) (value : A) → Bad at what ≡ Good value → ⊥
bad-good at what value is = cc

-- bytes that are read whole are their value's spelling
pub one_spelling-in : {A : Type 0} (f : Format A) → IsExactFormat f → (bytes : Bytes) (value : A)
    → are_bytes bytes ≡ true → decoded_in f bytes ≡ Good value → (f.written value ≡ bytes) × (f.is_value value ≡ true)
one_spelling-in f ef bytes value all is = go (f.field bytes) refl
  where
    go : (reading : Reading _) → f.field bytes ≡ reading → (f.written value ≡ bytes) × (f.is_value value ≡ true)
    go (Found a []) found =
        let same : a ≡ value = good-same a value (sym (ap (whole bytes) found) ∙ is) in
        let back = ef.back bytes a [] all found in
        (sym (back.0 ∙ append-nil (f.written a) ∙ ap f.written same), ap f.is_value (sym same) ∙ back.1)
    go (Found a (next ∷ rest)) found = absurd (bad-good _ _ value (sym (ap (whole bytes) found) ∙ is))
    go (Wrong left what) found = absurd (bad-good _ _ value (sym (ap (whole bytes) found) ∙ is))
