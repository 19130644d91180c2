-- The small parts of stable bytes are exact.
use Rattle.std.proofs.Common.{◌≡◌, ◌<◌, ◌^◌, ℕ, Bool, true, false, cond, ◌++◌, length, take}
use Rattle.std.proofs.Common.{drop, refl, sym, ◌∙◌, ap, arith, length-append, append_assoc, nat_lt}
use Rattle.std.specs.Prelude.{Option, Some, None}
use Rattle.std.proofs.Math.Seq.{take-append_seam, drop-append_seam}
use Rattle.std.proofs.lemmas.Bool.{and_parts, and_from, ltb-false, le-ltb, lt-ltb}
use Rattle.std.proofs.lemmas.List.{take-append-drop, length-take-le}
use Rattle.byteorder.specs.Endian.{big_bytes}
use Rattle.byteorder.specs.Numbers.{length-bytes_high_first}
use Rattle.lr_base.specs.ByteLaws.{and_then-found, are_bytes-behind, are_bytes-parts, failed-found, passed-found}
use Rattle.lr_base.specs.ByteLaws.{number-exact, count-exact}
use Rattle.lr_base.specs.Bytes.{Bytes, Reading, Found, Wrong, and_then, Decoded, Good, Bad, are_bytes}
use Rattle.lr_base.specs.Bytes.{count_bytes, count_field}
use Rattle.lr_base.specs.FormatLaws.{both-exact, found-same, number_of-exact, number_format-exact, only_where-exact}
use Rattle.lr_base.specs.FormatLaws.{renamed-exact, repeated-exact}
use Rattle.lr_base.specs.Formats.{IsExactFormat, number_of, number_format, both}
use Rattle.lr_base.specs.Meaning.{Encoding, Meaning, Lawful}
use Rattle.lr_base.specs.declared.bytes.BadWhat.TheVariants.{Short, Range, Value}
use Rattle.lr_base.specs.declared.lr_service.Kind.{Kind}
use Rattle.lr_codec.specs.Parts.{byte_where, number_where, part_format, item_number_format, stamp_format, cid_format}
use Rattle.lr_codec.specs.Parts.{sized, op_found, op_format, value_found, value_format}

pub byte-exact : (test : ℕ → Bool) → IsExactFormat (byte_where test)
byte-exact test = only_where-exact test Range (number_of 1) (number_of-exact 1)

pub number_where-exact : (test : ℕ → Bool) → IsExactFormat (number_where test)
number_where-exact test = only_where-exact test Range number_format number_format-exact

pub part-exact : IsExactFormat part_format
part-exact = number_where-exact _

pub item_number-exact : IsExactFormat item_number_format
item_number-exact = number_where-exact _

pub stamp-exact : (parts : ℕ) → IsExactFormat (stamp_format parts)
stamp-exact parts = repeated-exact (λ last. part_format) (λ last. part-exact) parts

pub cid-exact : IsExactFormat cid_format
cid-exact = renamed-exact (λ parts. record { client = parts.0; seq = parts.1 }) (λ cid. (cid.client, cid.seq))
    (both (number_of 4) part_format) (λ cid is. refl) (λ parts is. refl)
    (both-exact (number_of 4) part_format (number_of-exact 4) part-exact)

module _ {A : Type 0} (next : Bytes → Bytes → Bytes → Reading A) where
  -- so many bytes, and what they are
  sized-forth : (text rest : Bytes) → sized next (length text) (text ++ rest) ≡ next (text ++ rest) text rest
  sized-forth text rest =
      let long : nat_lt (length (text ++ rest)) (length text) ≡ false =
      le-ltb _ _ (omega (arith, length-append text rest)) in
      ap (λ b. cond b (Wrong (length (text ++ rest)) Short)
      (next (text ++ rest) (take (length text) (text ++ rest)) (drop (length text) (text ++ rest)))) long
      ∙ ap (λ t. next (text ++ rest) t (drop (length text) (text ++ rest))) (take-append_seam text rest)
      ∙ ap (next (text ++ rest) text) (drop-append_seam text rest)

  -- what was found of so many bytes
  sized-back : (size : ℕ) (bytes : Bytes) (value : A) (rest : Bytes) → sized next size bytes ≡ Found value rest
      → (length (take size bytes) ≡ size) × (next bytes (take size bytes) (drop size bytes) ≡ Found value rest)
  sized-back size bytes value rest is =
      let found = failed-found (nat_lt (length bytes) size) _ (length bytes) Short value rest is in
      (length-take-le size bytes (ltb-false _ _ found.0), found.1)

-- what was found of a text is its operation
op_found-back : {V Op : Type 0} (m : Meaning V Op) (may : Kind → Bool) (bytes end : Bytes) (found : Option Op)
    (op : Op) (rest : Bytes) → op_found m may bytes end found ≡ Found op rest
    → (found ≡ Some op) × (end ≡ rest) × (may (m.kind op) ≡ true)
op_found-back m may bytes end None op rest is = cc
op_found-back m may bytes end (Some one) op rest is =
    let passed = passed-found (may (m.kind one)) (Found one end) (length bytes) Value op rest is in
    let ends = found-same one op end rest passed.1 in
    (ap Some ends.0, ends.1, ap (λ o. may (m.kind o)) (sym ends.0) ∙ passed.0)

-- what was found of a value's bytes is that value
value_found-back : {V : Type 0} (bytes end : Bytes) (found : Decoded V) (value : V) (rest : Bytes)
    → value_found bytes end found ≡ Found value rest → (found ≡ Good value) × (end ≡ rest)
value_found-back bytes end (Good one) value rest is = let ends = found-same one value end rest is in
    (ap Good ends.0, ends.1)
value_found-back bytes end (Bad at what) value rest is = cc

module _ {V Op : Type 0} (m : Meaning V Op) {e : Encoding V} where
  -- operations of the kinds that pass are exact
  pub op-exact : (kind_of : Op → Kind) (may : Kind → Bool) → Lawful m e kind_of → IsExactFormat (op_format m may)
  op-exact kind_of may lawful = record {
    forth = λ op rest is fits.
        let parts = and_parts (m.is_op op) (may (m.kind op)) is in
        let text = m.text op in
        let size = big_bytes 2 (length text) in
        let next = λ (bytes text rest : Bytes). op_found m may bytes rest (m.op_of text) in
        let short = lawful.short_text op parts.0 in
        ap (op_format m may).field (append_assoc size text rest)
        ∙ ap (λ r. and_then r (sized next)) ((number-exact 2).forth (length text) (text ++ rest)
        (lt-ltb (length text) (256 ^ 2) (omega (arith, short)))
        (omega (arith, length-bytes_high_first 2 (length text))))
        ∙ sized-forth next text rest
        ∙ ap (op_found m may (text ++ rest) rest) (lawful.forth op parts.0)
        ∙ ap (λ b. cond b (Found op rest) (Wrong (length (text ++ rest)) Value)) parts.1;
    back = λ bytes op rest all is.
        let next = λ (bytes text rest : Bytes). op_found m may bytes rest (m.op_of text) in
        let one = and_then-found ((number_of 2).field bytes) (sized next) op rest is in
        let two = sized-back next one.0 one.1 op rest one.3 in
        let three = op_found-back m may one.1 (drop one.0 one.1) (m.op_of (take one.0 one.1)) op rest two.1 in
        let first = (number-exact 2).back bytes one.0 one.1 all one.2 in
        let known = lawful.back (take one.0 one.1) op three.0 in
        let text : take one.0 one.1 ≡ m.text op = sym known.0 in
        let size : one.0 ≡ length (m.text op) = sym two.0 ∙ ap length text in
        let split : one.1 ≡ m.text op ++ rest = sym (take-append-drop one.0 one.1)
        ∙ ap (λ t. t ++ drop one.0 one.1) text ∙ ap (λ e. m.text op ++ e) three.1 in (
          first.0 ∙ ap (λ n. big_bytes 2 n ++ one.1) size ∙ ap (λ b. big_bytes 2 (length (m.text op)) ++ b) split
              ∙ sym (append_assoc (big_bytes 2 (length (m.text op))) (m.text op) rest),
          and_from _ _ known.1 three.2,
        );
  }

  -- the service's values are exact
  pub value-exact : (kind_of : Op → Kind) → Lawful m e kind_of → IsExactFormat (value_format e)
  value-exact kind_of lawful = record {
    forth = λ value rest is fits.
        let text = e.spelling value in
        let size = count_bytes (length text) in
        let next = λ (bytes text rest : Bytes). value_found bytes rest (e.decoded text) in
        let long = length-append size text in
        let short : length text < 2 ^ 64 = omega (arith, long) in
        ap (value_format e).field (append_assoc size text rest)
        ∙ ap (λ r. and_then r (sized next)) (count-exact.forth (length text) (text ++ rest)
        (lt-ltb (length text) (2 ^ 64) short) (omega (arith, long)))
        ∙ sized-forth next text rest
        ∙ ap (value_found (text ++ rest) rest) (lawful.spelled value is short);
    back = λ bytes value rest all is.
        let next = λ (bytes text rest : Bytes). value_found bytes rest (e.decoded text) in
        let one = and_then-found (count_field bytes) (sized next) value rest is in
        let two = sized-back next one.0 one.1 value rest one.3 in
        let three = value_found-back one.1 (drop one.0 one.1) (e.decoded (take one.0 one.1)) value rest two.1 in
        let first = count-exact.back bytes one.0 one.1 all one.2 in
        let cut = take-append-drop one.0 one.1 in
        let behind = are_bytes-behind bytes (count_bytes one.0) one.1 all first.0 in
        let front = are_bytes-parts (take one.0 one.1) (drop one.0 one.1) (ap are_bytes cut ∙ behind) in
        let known = lawful.one_spelling (take one.0 one.1) value front.0 three.0 in
        let text : take one.0 one.1 ≡ e.spelling value = sym known.0 in
        let size : one.0 ≡ length (e.spelling value) = sym two.0 ∙ ap length text in
        let split : one.1 ≡ e.spelling value ++ rest = sym cut ∙ ap (λ t. t ++ drop one.0 one.1) text
        ∙ ap (λ r. e.spelling value ++ r) three.1 in (
          first.0 ∙ ap (λ n. count_bytes n ++ one.1) size
              ∙ ap (λ b. count_bytes (length (e.spelling value)) ++ b) split
              ∙ sym (append_assoc (count_bytes (length (e.spelling value))) (e.spelling value) rest),
          known.1,
        );
  }
