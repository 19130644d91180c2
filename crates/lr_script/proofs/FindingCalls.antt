-- A call is found in the fields behind its word, or why there is none.
use Rattle.std.proofs.Common.{◌≡◌, ◌⊎◌, inl, inr, ℕ, Bool, true, false, List, ◌∷◌, ◌++◌, refl, sym, ◌∙◌, ap, arith}
use Rattle.std.specs.Prelude.{Option, Some, None, codes}
use Rattle.std.specs.Fmt.{decimal}
use Rattle.std.proofs.lemmas.Bool.{and_from, and_parts}
use Rattle.lr_base.specs.Kinds.{has_rules}
use Rattle.lr_base.specs.Meaning.{Encoding, Lawful, Meaning}
use Rattle.lr_base.specs.OpLaws.{found-op, no-text}
use Rattle.lr_base.specs.declared.events.Event.TheVariants.{Call}
use Rattle.lr_base.specs.declared.lr_service.Kind.{Kind}
use Rattle.lr_base.specs.declared.names.Config.{Config}
use Rattle.lr_script.specs.Fields.{IsCallFields, four_fields, spaces}
use Rattle.lr_script.specs.Faults.{AreNoSending, IsBadCall}
use Rattle.lr_script.specs.Script.{IsNoCalled, is_called}
use Rattle.lr_script.specs.declared.fields.EventWord.TheVariants.{Call as WCall}
use Rattle.lr_script.specs.declared.refusals.Cause.{Cause}
use Rattle.lr_script.specs.declared.refusals.Cause.TheVariants.{Fields, Number, Range, Op as NoOp}
use Rattle.lr_script.proofs.Finding.{IsCut, cut_or_whole}
use Rattle.lr_script.proofs.FindingEvents.{IsBad, IsBehind, IsSending, sending_or_none}
use Rattle.lr_script.proofs.Splits.{spaces_behind}

module _ {Value Op : Type 0} (m : Meaning Value Op) {e : Encoding Value} {kind_of : Op → Kind}
    (lawful : Lawful m e kind_of) where
  -- the operation that is written so and may be called
  abbrev IsCalled : List ℕ → Type 0
  IsCalled text = (op : Op) × (is_called m op ≡ true) × (m.text op ≡ text)

  called_or_none : (text : List ℕ) → IsCalled text ⊎ IsNoCalled m text
  called_or_none text = go (m.op_of text) refl
    where
      rules : (op : Op) → m.op_of text ≡ Some op → (has : Bool) → has_rules (m.kind op) ≡ has
          → IsCalled text ⊎ IsNoCalled m text
      rules op some true has =
          let known = lawful.back text op some in
          inl (op, and_from (m.is_op op) (has_rules (m.kind op)) known.1 has, known.0)
      rules op some false has = inr (λ other called same.
          let parts = and_parts (m.is_op other) (has_rules (m.kind other)) called in
          let found : Some op ≡ Some other = sym some ∙ found-op m lawful text other same parts.0 in
          let one : op ≡ other = cc in
          let no : false ≡ true = sym has ∙ ap (λ o. has_rules (m.kind o)) one ∙ parts.1 in
          cc)

      go : (found : Option Op) → m.op_of text ≡ found → IsCalled text ⊎ IsNoCalled m text
      go None none = inr (λ other called.
          no-text m lawful text none other (and_parts (m.is_op other) (has_rules (m.kind other)) called).0)
      go (Some op) some = rules op some (has_rules (m.kind op)) refl

  module _ (config : Config) (fields client replica reading op : List ℕ)
      (split : IsCallFields fields client replica reading op) where
    no_caller : (cause : Cause) → AreNoSending config client replica reading cause → IsBadCall m config fields cause
    no_caller Number bad = record {
      client = client;
      replica = replica;
      reading = reading;
      op = op;
      split = split;
      bad = bad;
    }
    no_caller Range bad = record {
      client = client;
      replica = replica;
      reading = reading;
      op = op;
      split = split;
      bad = bad;
    }
    no_caller _ bad = absurd bad

    -- three fields that have to be a client, a replica and a reading, and what is behind them
    four_or_bad : IsSending config client replica reading
        ⊎ ((cause : Cause) × AreNoSending config client replica reading cause)
        → IsCalled op ⊎ IsNoCalled m op → IsBehind m config WCall fields ⊎ IsBad m config WCall fields
    four_or_bad (inr bad) op = inr (bad.0, no_caller bad.0 bad.1)
    four_or_bad (inl has) found = go found
      where
        text : fields ≡ four_fields (decimal has.0.0) (decimal has.1.0) (decimal has.2.0) op
        text = split.text ∙ ap (λ t. four_fields t replica reading op) has.0.1
            ∙ ap (λ t. four_fields (decimal has.0.0) t reading op) has.1.1
            ∙ ap (λ t. four_fields (decimal has.0.0) (decimal has.1.0) t op) has.2.1

        go : IsCalled op ⊎ IsNoCalled m op → IsBehind m config WCall fields ⊎ IsBad m config WCall fields
        go (inl called) =
            let parts = and_parts (m.is_op called.0) (has_rules (m.kind called.0)) called.1 in
            inl (
              Call has.0.0 has.1.0 has.2.0 called.0,
              ((has.3, has.4, parts.1), (has.0.2, has.1.2, has.2.2, parts.0)),
              ap (λ t. codes "call " ++ t) (text
                  ∙ ap (four_fields (decimal has.0.0) (decimal has.1.0) (decimal has.2.0)) (sym called.2)),
            )
        go (inr none) = inr (
          NoOp,
          record {
            client = has.0.0;
            replica = has.1.0;
            reading = has.2.0;
            op = op;
            text = text;
            known_client = has.3;
            known_replica = has.4;
            reading_number = has.2.2;
            bad = none;
          },
        )

  pub call_or_bad : (config : Config) (fields : List ℕ) → IsBehind m config WCall fields ⊎ IsBad m config WCall fields
  call_or_bad config fields = go (cut_or_whole fields)
    where
      third : (cut : IsCut fields) (next : IsCut cut.1) → IsCut next.1 ⊎ (spaces next.1 ≡ 0)
          → IsBehind m config WCall fields ⊎ IsBad m config WCall fields
      third cut next (inl last) = four_or_bad config fields cut.0 next.0 last.0 last.1 (record {
        text = cut.2 ∙ ap (λ t. cut.0 ++ 32 ∷ t) next.2 ∙ ap (λ t. cut.0 ++ 32 ∷ (next.0 ++ 32 ∷ t)) last.2;
        client_field = cut.3;
        replica_field = next.3;
        reading_field = last.3;
      }) (sending_or_none config cut.0 next.0 last.0) (called_or_none last.1)
      third cut next (inr whole) = inr (
        Fields,
        (
            let one = spaces_behind fields cut.0 cut.1 cut.2 cut.3 in
            let two = spaces_behind cut.1 next.0 next.1 next.2 next.3 in
            omega arith),
      )

      second : (cut : IsCut fields) → IsCut cut.1 ⊎ (spaces cut.1 ≡ 0)
          → IsBehind m config WCall fields ⊎ IsBad m config WCall fields
      second cut (inl next) = third cut next (cut_or_whole next.1)
      second cut (inr whole) = inr (Fields, (let one = spaces_behind fields cut.0 cut.1 cut.2 cut.3 in omega arith))

      go : IsCut fields ⊎ (spaces fields ≡ 0) → IsBehind m config WCall fields ⊎ IsBad m config WCall fields
      go (inl cut) = second cut (cut_or_whole cut.1)
      go (inr whole) = inr (Fields, omega arith)
