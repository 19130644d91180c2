-- What follows of a service's law for the texts of its operations.
use Rattle.std.proofs.Common.{◌≡◌, ◌≢◌, true, refl, sym, ◌∙◌, ap}
use Rattle.std.specs.Prelude.{Option, Some, None}
use Rattle.lr_base.specs.Bytes.{Bytes}
use Rattle.lr_base.specs.Meaning.{Encoding, Lawful, Meaning}
use Rattle.lr_base.specs.declared.lr_service.Kind.{Kind}

module _ {Value Op : Type 0} (m : Meaning Value Op) {e : Encoding Value} {kind_of : Op → Kind}
    (lawful : Lawful m e kind_of) where
  -- operations with one text are one
  pub one-text : (a b : Op) → m.is_op a ≡ true → m.is_op b ≡ true → m.text a ≡ m.text b → a ≡ b
  one-text a b first second same =
      let some : Some a ≡ Some b = sym (lawful.forth a first) ∙ ap m.op_of same ∙ lawful.forth b second in cc

  -- a text that no operation is found for is no operation's
  pub no-text : (text : Bytes) → m.op_of text ≡ None → (op : Op) → m.is_op op ≡ true → m.text op ≢ text
  no-text text none op is same =
      let some : None ≡ Some op = sym none ∙ ap m.op_of (sym same) ∙ lawful.forth op is in cc

  -- an operation of the service is found of its text
  pub found-op : (text : Bytes) (op : Op) → m.text op ≡ text → m.is_op op ≡ true → m.op_of text ≡ Some op
  found-op text op written is = ap m.op_of (sym written) ∙ lawful.forth op is

  -- no operation is found of a text that is none's
  pub none-found : (text : Bytes) → ((op : Op) → m.is_op op ≡ true → m.text op ≢ text) → m.op_of text ≡ None
  none-found text none = go (m.op_of text) refl
    where
      go : (found : Option Op) → m.op_of text ≡ found → found ≡ None
      go None is = refl
      go (Some op) is = let known = lawful.back text op is in absurd (none op known.1 known.0)
