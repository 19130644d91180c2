-- A line is refused for one cause, and no event's line is refused.
use Rattle.std.proofs.Common.{◌≡◌, ◌≢◌, ℕ, ◌<◌, ◌≤◌, ◌^◌, List, ◌∷◌, ◌++◌, ◌⊎◌, refl, sym, ◌∙◌, ap, subst, arith, inl, inr}
use Rattle.std.specs.Fmt.{decimal}
use Rattle.std.proofs.lemmas.Fmt.{decimal_injective}
use Rattle.lr_base.specs.Kinds.{has_rules}
use Rattle.lr_base.specs.Meaning.{Meaning}
use Rattle.lr_base.specs.declared.events.Event.{Event}
use Rattle.lr_base.specs.declared.events.Event.TheVariants.{Call, Resend, Ack, Deliver, Tick, Gossip, Show}
use Rattle.lr_base.specs.declared.names.Config.{Config}
use Rattle.lr_script.specs.declared.refusals.Cause.{Cause}
use Rattle.lr_script.specs.declared.refusals.Cause.TheVariants.{Fields, Number, Range, Op as NoOp}
use Rattle.lr_script.specs.declared.fields.EventWord.{EventWord}
use Rattle.lr_script.specs.declared.fields.EventWord.TheVariants.{Call as WCall, Resend as WResend, Ack as WAck, Deliver as WDeliver, Tick as WTick, Gossip as WGossip, Show as WShow}
use Rattle.lr_script.specs.Fields.{four_fields, spaces, three_fields, word_text}
use Rattle.lr_script.specs.Script.{Fits, IsSetUp}
use Rattle.lr_script.specs.Texts.{event_text}
use Rattle.lr_script.specs.Faults.{HasNoCaller, HasNoOp, HasNoPair, HasNoReplica, HasNoSender, AreNoTwoReplicas, IsBadCall, IsBadDeliver, IsBadGossip, IsBadSending, IsBadShow, IsBadTick, IsBadFields, IsBadEvent, no_word, word_alone, bad_rest, IsBadLine, IsNoLine, no_line, no_event}
use Rattle.lr_script.proofs.Splits.{spaces_behind}
use Rattle.lr_script.proofs.Cuts.{number_spaceless, word_spaceless}
use Rattle.lr_script.proofs.LineCuts.{no_line_one, no_line_refuted, printable_cut}
use Rattle.lr_script.proofs.Checks.{FailsFirst, IsOfEvent, miscounted, no_number, out_of_range, no_op, first_one, of_event}
use Rattle.lr_script.proofs.EventTexts.{event_word, event_rest, event_parts, word_cut, AreNumbers, numbers_cut, numbers_one, call_one, call_spaces, AreThree, three_cut, three_one, triple_one, triple_spaces, AreTwo, two_cut, two_one, pair_one, pair_spaces}
use Rattle.lr_script.proofs.ShownTexts.{ArePrintable, both, event_printable}

-- one number stands there
abbrev IsOneNumber : List ℕ → Type 0
IsOneNumber fields = (number : ℕ) × (fields ≡ decimal number) × (number < 2 ^ 64)

one_field : (fields : List ℕ) → IsOneNumber fields → spaces fields ≡ 0
one_field fields one = ap spaces one.1 ∙ number_spaceless one.0 one.2

-- a call's numbers stand there
abbrev HasNumbers : List ℕ → Type 0
HasNumbers fields = (client replica reading : ℕ) × (op : List ℕ) × AreNumbers fields client replica reading op

numbers_counted : (fields : List ℕ) → HasNumbers fields → 3 ≤ spaces fields
numbers_counted fields has = call_spaces fields _ _ _ _ (numbers_cut fields has.3 has.0 has.1 has.2 has.4)

-- and none of them is no number
numbers_known : (config : Config) (fields : List ℕ) → HasNoCaller config fields Number → HasNumbers fields → ⊥
numbers_known config fields h has =
    let are = has.4 in
    let one = call_one fields h.client h.replica h.reading h.op _ _ _ _ h.split (numbers_cut fields has.3 has.0 has.1 has.2 are) in
    elim h.bad [ inl bad ↦ bad has.0 are.client_number one.0 | inr more ↦ elim more [ inl bad ↦ bad has.1 are.replica_number one.1 | inr bad ↦ bad has.2 are.reading_number one.2 ] ]

-- three numbers stand there
abbrev HasThree : List ℕ → Type 0
HasThree fields = (client replica reading : ℕ) × AreThree fields client replica reading

three_counted : (fields : List ℕ) → HasThree fields → spaces fields ≡ 2
three_counted fields has = triple_spaces fields _ _ _ (three_cut fields has.0 has.1 has.2 has.3)

three_known : (config : Config) (fields : List ℕ) → HasNoSender config fields Number → HasThree fields → ⊥
three_known config fields h has =
    let are = has.3 in
    let one = triple_one fields h.client h.replica h.reading _ _ _ h.split (three_cut fields has.0 has.1 has.2 are) in
    elim h.bad [ inl bad ↦ bad has.0 are.client_number one.0 | inr more ↦ elim more [ inl bad ↦ bad has.1 are.replica_number one.1 | inr bad ↦ bad has.2 are.reading_number one.2 ] ]

-- two numbers stand there
abbrev HasTwo : List ℕ → Type 0
HasTwo fields = (first second : ℕ) × AreTwo fields first second

two_counted : (fields : List ℕ) → HasTwo fields → spaces fields ≡ 1
two_counted fields has = pair_spaces fields _ _ (two_cut fields has.0 has.1 has.2)

two_known : (fields : List ℕ) → HasNoPair fields → HasTwo fields → ⊥
two_known fields h has =
    let are = has.2 in
    let one = pair_one fields h.first h.second _ _ h.split (two_cut fields has.0 has.1 are) in
    elim h.bad [ inl bad ↦ bad has.0 are.first_number one.0 | inr bad ↦ bad has.1 are.second_number one.1 ]

module _ (config : Config) where
  -- and there are such a client and such a replica
  abbrev IsInRange : List ℕ → Type 0
  IsInRange fields = (has : HasNumbers fields) × (has.0 < config.clients) × (has.1 < config.replicas)

  -- and there are such a client and such a replica
  abbrev IsSending : List ℕ → Type 0
  IsSending fields = (has : HasThree fields) × (has.0 < config.clients) × (has.1 < config.replicas)

  -- and the first is a replica
  abbrev IsTicking : List ℕ → Type 0
  IsTicking fields = (has : HasTwo fields) × (has.0 < config.replicas)

  -- and they are two replicas
  abbrev AreReplicas : List ℕ → Type 0
  AreReplicas fields = (has : HasTwo fields) × (has.0 < config.replicas) × (has.1 < config.replicas) × (has.0 ≢ has.1)

  -- and there is such a replica
  abbrev IsReplica : List ℕ → Type 0
  IsReplica fields = (one : IsOneNumber fields) × (one.0 < config.replicas)

  out_numbers : (fields : List ℕ) → HasNoCaller config fields Range → HasNumbers fields
  out_numbers fields h =
      let out = h.bad in
      let text = h.split.text ∙ ap (λ t. four_fields t h.replica h.reading h.op) out.client_is ∙ ap (λ t. four_fields (decimal out.client_number) t h.reading h.op) out.replica_is ∙ ap (λ t. four_fields (decimal out.client_number) (decimal out.replica_number) t h.op) out.reading_is in
      (out.client_number, out.replica_number, out.reading_number, h.op, record { text = text; client_number = out.client_fits; replica_number = out.replica_fits; reading_number = out.reading_fits })

  in_range : (fields : List ℕ) → HasNoCaller config fields Range → IsInRange fields → ⊥
  unfolding out_numbers
  in_range fields h known =
      let has = known.0 in
      let first = known.1 in
      let second = known.2 in
      let out = out_numbers fields h in
      let one = numbers_one fields _ _ _ _ _ _ _ _ out.4 has.4 in
      let client : h.bad.client_number ≡ has.0 = one.0 in
      let replica : h.bad.replica_number ≡ has.1 = one.1 in
      elim h.bad.bad [ inl bad ↦ omega arith | inr bad ↦ omega arith ]

  out_three : (fields : List ℕ) → HasNoSender config fields Range → HasThree fields
  out_three fields h =
      let out = h.bad in
      let text = h.split.text ∙ ap (λ t. three_fields t h.replica h.reading) out.client_is ∙ ap (λ t. three_fields (decimal out.client_number) t h.reading) out.replica_is ∙ ap (three_fields (decimal out.client_number) (decimal out.replica_number)) out.reading_is in
      (out.client_number, out.replica_number, out.reading_number, record { text = text; client_number = out.client_fits; replica_number = out.replica_fits; reading_number = out.reading_fits })

  three_in_range : (fields : List ℕ) → HasNoSender config fields Range → IsSending fields → ⊥
  unfolding out_three
  three_in_range fields h known =
      let has = known.0 in
      let first = known.1 in
      let second = known.2 in
      let out = out_three fields h in
      let one = three_one fields _ _ _ _ _ _ out.3 has.3 in
      let client : h.bad.client_number ≡ has.0 = one.0 in
      let replica : h.bad.replica_number ≡ has.1 = one.1 in
      elim h.bad.bad [ inl bad ↦ omega arith | inr bad ↦ omega arith ]

  out_tick : (fields : List ℕ) → HasNoReplica config fields → HasTwo fields
  out_tick fields h = (h.replica, h.reading, record { text = h.text; first_number = h.replica_number; second_number = h.reading_number })

  tick_in_range : (fields : List ℕ) → HasNoReplica config fields → IsTicking fields → ⊥
  unfolding out_tick
  tick_in_range fields h known =
      let below = known.1 in
      let bad = h.bad in
      let one = two_one fields _ _ _ _ (out_tick fields h).2 known.0.2 in
      let replica : h.replica ≡ known.0.0 = one.0 in
      omega arith

  out_two : (fields : List ℕ) → AreNoTwoReplicas config fields → HasTwo fields
  out_two fields h = (h.first, h.second, record { text = h.text; first_number = h.first_number; second_number = h.second_number })

  two_in_range : (fields : List ℕ) → AreNoTwoReplicas config fields → AreReplicas fields → ⊥
  unfolding out_two
  two_in_range fields h known =
      let has = known.0 in
      let below = known.1 in
      let under = known.2 in
      let out = out_two fields h in
      let one = two_one fields _ _ _ _ out.2 has.2 in
      let first : h.first ≡ has.0 = one.0 in
      let second : h.second ≡ has.1 = one.1 in
      elim h.bad [ inl bad ↦ absurd (omega arith) | inr more ↦ elim more [ inl bad ↦ absurd (omega arith) | inr bad ↦ known.3 (sym first ∙ bad ∙ second) ] ]

  one_in_range : (fields : List ℕ) (number : ℕ) → fields ≡ decimal number → number < 2 ^ 64 → config.replicas ≤ number → IsReplica fields → ⊥
  one_in_range fields number e fits out known =
      let same = decimal_injective number known.0.0 fits known.0.2 (sym e ∙ known.0.1) in
      let below = known.1 in
      omega arith

  deliver_first : (fields : List ℕ) (cause : Cause) → IsBadDeliver fields cause → FailsFirst (spaces fields ≡ 0) (IsOneNumber fields) (IsOneNumber fields) cause
  deliver_first fields Fields h = miscounted (λ none. omega (arith, h))
  deliver_first fields Number h = no_number h.0 (λ one. h.1 one.0 one.2 one.1)
  deliver_first fields _ h = absurd h

  sending_first : (fields : List ℕ) (cause : Cause) → IsBadSending config fields cause → FailsFirst (spaces fields ≡ 2) (HasThree fields) (IsSending fields) cause
  sending_first fields Fields h = miscounted h
  sending_first fields Number h = no_number (triple_spaces fields h.client h.replica h.reading h.split) (three_known config fields h)
  sending_first fields Range h = out_of_range (out_three fields h) (three_in_range fields h)
  sending_first fields _ h = absurd h

  tick_first : (fields : List ℕ) (cause : Cause) → IsBadTick config fields cause → FailsFirst (spaces fields ≡ 1) (HasTwo fields) (IsTicking fields) cause
  tick_first fields Fields h = miscounted h
  tick_first fields Number h = no_number (pair_spaces fields h.first h.second h.split) (two_known fields h)
  tick_first fields Range h = out_of_range (out_tick fields h) (tick_in_range fields h)
  tick_first fields _ h = absurd h

  gossip_first : (fields : List ℕ) (cause : Cause) → IsBadGossip config fields cause → FailsFirst (spaces fields ≡ 1) (HasTwo fields) (AreReplicas fields) cause
  gossip_first fields Fields h = miscounted h
  gossip_first fields Number h = no_number (pair_spaces fields h.first h.second h.split) (two_known fields h)
  gossip_first fields Range h = out_of_range (out_two fields h) (two_in_range fields h)
  gossip_first fields _ h = absurd h

  show_first : (fields : List ℕ) (cause : Cause) → IsBadShow config fields cause → FailsFirst (spaces fields ≡ 0) (IsOneNumber fields) (IsReplica fields) cause
  show_first fields Fields h = miscounted (λ none. omega (arith, h))
  show_first fields Number h = no_number h.0 (λ one. h.1 one.0 one.2 one.1)
  show_first fields Range h = out_of_range (h.0, h.1, h.2) (one_in_range fields h.0 h.1 h.2 h.3)
  show_first fields _ h = absurd h

module _ {Value Op : Type 0} (m : Meaning Value Op) (config : Config) (set : IsSetUp config) where
  op_numbers : (fields : List ℕ) → HasNoOp m config fields → IsInRange config fields
  op_numbers fields h = ((h.client, h.replica, h.reading, h.op, record { text = h.text; client_number = omega arith; replica_number = omega arith; reading_number = h.reading_number }), h.known_client, h.known_replica)

  call_first : (fields : List ℕ) (cause : Cause) → IsBadCall m config fields cause → FailsFirst (3 ≤ spaces fields) (HasNumbers fields) (IsInRange config fields) cause
  call_first fields Fields h = miscounted (λ many. omega (arith, h))
  call_first fields Number h = no_number (call_spaces fields h.client h.replica h.reading h.op h.split) (numbers_known config fields h)
  call_first fields Range h = out_of_range (out_numbers config fields h) (in_range config fields h)
  call_first fields NoOp h = no_op (op_numbers fields h)
  call_first fields _ h = absurd h

  call_cause : (fields : List ℕ) (a b : Cause) → FailsFirst (3 ≤ spaces fields) (HasNumbers fields) (IsInRange config fields) a → FailsFirst (3 ≤ spaces fields) (HasNumbers fields) (IsInRange config fields) b → a ≡ b
  call_cause fields = first_one (numbers_counted fields) (λ known. known.0)

  sending_cause : (fields : List ℕ) (a b : Cause) → IsBadSending config fields a → IsBadSending config fields b → a ≡ b
  sending_cause fields a b h k = first_one (three_counted fields) (λ known. known.0) a b (sending_first config fields a h) (sending_first config fields b k)

  -- what stands behind a word is refused for one cause
  fields_cause : (word : EventWord) (fields : List ℕ) (a b : Cause) → IsBadFields m config word fields a → IsBadFields m config word fields b → a ≡ b
  fields_cause WCall fields a b h k = call_cause fields a b (call_first fields a h) (call_first fields b k)
  fields_cause WResend fields a b h k = sending_cause fields a b h k
  fields_cause WAck fields a b h k = sending_cause fields a b h k
  fields_cause WDeliver fields a b h k = first_one (one_field fields) (λ one. one) a b (deliver_first config fields a h) (deliver_first config fields b k)
  fields_cause WTick fields a b h k = first_one (two_counted fields) (λ known. known.0) a b (tick_first config fields a h) (tick_first config fields b k)
  fields_cause WGossip fields a b h k = first_one (two_counted fields) (λ known. known.0) a b (gossip_first config fields a h) (gossip_first config fields b k)
  fields_cause WShow fields a b h k = first_one (one_field fields) (λ known. known.0) a b (show_first config fields a h) (show_first config fields b k)

  -- and the cause is of those that are of events
  fields_of_event : (word : EventWord) (fields : List ℕ) (cause : Cause) → IsBadFields m config word fields cause → IsOfEvent cause
  fields_of_event WCall fields cause h = of_event cause (call_first fields cause h)
  fields_of_event WResend fields cause h = of_event cause (sending_first config fields cause h)
  fields_of_event WAck fields cause h = of_event cause (sending_first config fields cause h)
  fields_of_event WDeliver fields cause h = of_event cause (deliver_first config fields cause h)
  fields_of_event WTick fields cause h = of_event cause (tick_first config fields cause h)
  fields_of_event WGossip fields cause h = of_event cause (gossip_first config fields cause h)
  fields_of_event WShow fields cause h = of_event cause (show_first config fields cause h)

  event_of_event : (line : List ℕ) (cause : Cause) → IsBadEvent m config line cause → IsOfEvent cause
  event_of_event line cause (no_word alone before) = tt
  event_of_event line cause (word_alone word e) = tt
  event_of_event line cause (bad_rest word rest why e bad) = fields_of_event word rest why bad

  -- bytes begin with no line, or with one that is refused for such a cause
  pub line_of_event : (bytes : List ℕ) (cause : Cause) → IsBadLine m config bytes cause → IsNoLine bytes cause ⊎ IsOfEvent cause
  line_of_event bytes cause (no_line why bad) = inl bad
  line_of_event bytes cause (no_event line later why e printable bad) = inr (event_of_event line why bad)

  -- a word alone has no space, and a word with something behind it has one
  alone_or_before : (line : List ℕ) (word other : EventWord) (rest : List ℕ) → line ≡ word_text word → line ≡ word_text other ++ 32 ∷ rest → ⊥
  alone_or_before line word other rest alone before =
      let none : spaces line ≡ 0 = ap spaces alone ∙ word_spaceless word in
      let some = spaces_behind line (word_text other) rest before (word_spaceless other) in
      omega arith

  -- a printable line is refused for one cause
  event_cause : (line : List ℕ) (a b : Cause) → IsBadEvent m config line a → IsBadEvent m config line b → a ≡ b
  event_cause line a b (no_word alone before) (no_word _ _) = refl
  event_cause line a b (no_word alone before) (word_alone word e) = absurd (alone word e)
  event_cause line a b (no_word alone before) (bad_rest word rest why e bad) = absurd (before word rest e)
  event_cause line a b (word_alone word e) (no_word alone before) = absurd (alone word e)
  event_cause line a b (word_alone word e) (word_alone other _) = refl
  event_cause line a b (word_alone word e) (bad_rest other rest why is bad) = absurd (alone_or_before line word other rest e is)
  event_cause line a b (bad_rest word rest why e bad) (no_word alone before) = absurd (before word rest e)
  event_cause line a b (bad_rest word rest why e bad) (word_alone other is) = absurd (alone_or_before line other word rest is e)
  event_cause line a b (bad_rest word rest why e bad) (bad_rest other more cause is worse) =
      let cut = word_cut word other rest more (sym e ∙ is) in
      let at_word = λ (w : EventWord). IsBadFields m config w more cause in
      let at_rest = λ (fields : List ℕ). IsBadFields m config word fields cause in
      fields_cause word rest why cause bad (subst at_rest (sym cut.1) (subst at_word (sym cut.0) worse))

  -- bytes that don't begin with an event's line are refused for one cause
  pub line_cause : (bytes : List ℕ) (a b : Cause) → IsBadLine m config bytes a → IsBadLine m config bytes b → a ≡ b
  line_cause bytes a b (no_line why bad) (no_line cause worse) = no_line_one bytes why cause bad worse
  line_cause bytes a b (no_line why bad) (no_event line later cause e printable worse) = absurd (no_line_refuted bytes line later why e printable bad)
  line_cause bytes a b (no_event line later why e printable bad) (no_line cause worse) = absurd (no_line_refuted bytes line later cause e printable worse)
  line_cause bytes a b (no_event line later why e printable bad) (no_event other more cause is shown worse) =
      let cut = printable_cut line other later more (sym e ∙ is) printable shown in
      let at_line = λ (it : List ℕ). IsBadEvent m config it cause in
      event_cause line why cause bad (subst at_line (sym cut.0) worse)

  -- what stands behind an event's word in its line is what the word asks for
  call_refuted : (fields : List ℕ) (client replica reading : ℕ) (op : Op) → Fits m config (Call client replica reading op) → AreNumbers fields client replica reading (m.text op) → (cause : Cause) → IsBadCall m config fields cause → ⊥
  unfolding op_numbers
  call_refuted fields client replica reading op fits are cause h =
      let known : IsInRange config fields = ((client, replica, reading, m.text op, are), fits.0.0, fits.0.1) in
      let last : cause ≡ NoOp = call_cause fields cause NoOp (call_first fields cause h) (no_op known) in
      let bad : HasNoOp m config fields = subst (λ (c : Cause). IsBadCall m config fields c) last h in
      let one = numbers_one fields _ _ _ _ _ _ _ _ (op_numbers fields bad).0.4 are in
      bad.bad op (both (m.is_op op) (has_rules (m.kind op)) fits.1.3 fits.0.2) (sym one.3)

  sending_refuted : (client replica reading : ℕ) → (client < config.clients) × (replica < config.replicas) → (client < 2 ^ 64) × (replica < 2 ^ 64) × (reading < 2 ^ 64) → (cause : Cause) → IsBadSending config (three_fields (decimal client) (decimal replica) (decimal reading)) cause → ⊥
  sending_refuted client replica reading known fits cause h =
      let fields = three_fields (decimal client) (decimal replica) (decimal reading) in
      let three : HasThree fields = (client, replica, reading, record { text = refl; client_number = fits.0; replica_number = fits.1; reading_number = fits.2 }) in
      let last : cause ≡ NoOp = first_one (three_counted fields) (λ it. it.0) cause NoOp (sending_first config fields cause h) (no_op (three, known.0, known.1)) in
      subst (λ (c : Cause). IsBadSending config fields c) last h

  fields_refuted : (event : Event Op) → Fits m config event → (cause : Cause) → IsBadFields m config (event_word event) (event_rest m event) cause → ⊥
  fields_refuted (Call client replica reading op) fits cause h =
      call_refuted (event_rest m (Call client replica reading op)) client replica reading op fits (record { text = refl; client_number = fits.1.0; replica_number = fits.1.1; reading_number = fits.1.2 }) cause h
  fields_refuted (Resend client replica reading) fits cause h = sending_refuted client replica reading fits.0 fits.1 cause h
  fields_refuted (Ack client replica reading) fits cause h = sending_refuted client replica reading fits.0 fits.1 cause h
  fields_refuted (Deliver message) fits cause h =
      let fields = decimal message in
      let one : IsOneNumber fields = (message, refl, fits.1) in
      let last : cause ≡ NoOp = first_one (one_field fields) (λ it. it) cause NoOp (deliver_first config fields cause h) (no_op one) in
      subst (λ (c : Cause). IsBadDeliver fields c) last h
  fields_refuted (Tick replica reading) fits cause h =
      let fields = decimal replica ++ 32 ∷ decimal reading in
      let two : HasTwo fields = (replica, reading, record { text = refl; first_number = fits.1.0; second_number = fits.1.1 }) in
      let last : cause ≡ NoOp = first_one (two_counted fields) (λ known. known.0) cause NoOp (tick_first config fields cause h) (no_op (two, fits.0)) in
      subst (λ (c : Cause). IsBadTick config fields c) last h
  fields_refuted (Gossip from to) fits cause h =
      let fields = decimal from ++ 32 ∷ decimal to in
      let two : HasTwo fields = (from, to, record { text = refl; first_number = fits.1.0; second_number = fits.1.1 }) in
      let last : cause ≡ NoOp = first_one (two_counted fields) (λ known. known.0) cause NoOp (gossip_first config fields cause h) (no_op (two, fits.0.0, fits.0.1, fits.0.2)) in
      subst (λ (c : Cause). IsBadGossip config fields c) last h
  fields_refuted (Show replica) fits cause h =
      let fields = decimal replica in
      let one : IsOneNumber fields = (replica, refl, fits.1) in
      let last : cause ≡ NoOp = first_one (one_field fields) (λ known. known.0) cause NoOp (show_first config fields cause h) (no_op (one, fits.0)) in
      subst (λ (c : Cause). IsBadShow config fields c) last h

  -- an event's text is not refused
  pub event_refuted : (event : Event Op) → Fits m config event → (line : List ℕ) → line ≡ event_text m event → (cause : Cause) → IsBadEvent m config line cause → ⊥
  event_refuted event fits line e cause (no_word alone before) = before (event_word event) (event_rest m event) (e ∙ event_parts m event)
  event_refuted event fits line e cause (word_alone word is) = alone_or_before line word (event_word event) (event_rest m event) is (e ∙ event_parts m event)
  event_refuted event fits line e cause (bad_rest word rest why is bad) =
      let cut = word_cut word (event_word event) rest (event_rest m event) (sym is ∙ e ∙ event_parts m event) in
      let at_word = λ (w : EventWord). IsBadFields m config w rest why in
      let at_rest = λ (fields : List ℕ). IsBadFields m config (event_word event) fields why in
      fields_refuted event fits why (subst at_rest cut.1 (subst at_word cut.0 bad))

  -- an event's line is not refused
  pub line_refuted : ArePrintable m → (event : Event Op) → Fits m config event → (bytes later : List ℕ) → bytes ≡ event_text m event ++ 10 ∷ later → (cause : Cause) → IsBadLine m config bytes cause → ⊥
  line_refuted ops event fits bytes later e cause (no_line why bad) = no_line_refuted bytes (event_text m event) later why e (event_printable m ops event fits.1) bad
  line_refuted ops event fits bytes later e cause (no_event line other why is printable bad) =
      let cut = printable_cut line (event_text m event) other later (sym is ∙ e) printable (event_printable m ops event fits.1) in
      event_refuted event fits line cut.0 why bad
