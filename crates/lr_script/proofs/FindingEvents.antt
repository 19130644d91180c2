-- An event is found in a line, or why the line is none's.
use Rattle.std.proofs.Common.{◌≡◌, ◌≢◌, ◌⊎◌, inl, inr, ◌<◌, ◌≤◌, ◌^◌, ℕ, Bool, true, false, eqb, List, ◌∷◌, ◌++◌, refl, ◌∙◌, ap, arith}
use Rattle.std.specs.Prelude.{codes}
use Rattle.std.specs.Fmt.{decimal}
use Rattle.std.proofs.lemmas.Bool.{eqb-false, eqb-true}
use Rattle.lr_base.specs.Meaning.{Meaning}
use Rattle.lr_base.specs.declared.events.Event.{Event}
use Rattle.lr_base.specs.declared.events.Event.TheVariants.{Resend, Ack, Deliver, Tick, Gossip, Show}
use Rattle.lr_base.specs.declared.names.Config.{Config}
use Rattle.lr_script.specs.Fields.{IsNoNumber, IsPair, IsTriple, spaces, three_fields, word_text}
use Rattle.lr_script.specs.Faults.{AreNoSending, HasNoPair, IsBadFields, IsBadSending}
use Rattle.lr_script.specs.Script.{Fits}
use Rattle.lr_script.specs.Texts.{event_text}
use Rattle.lr_script.specs.declared.fields.EventWord.{EventWord}
use Rattle.lr_script.specs.declared.fields.EventWord.TheVariants.{Resend as WResend, Ack as WAck, Deliver as WDeliver, Tick as WTick, Gossip as WGossip, Show as WShow}
use Rattle.lr_script.specs.declared.refusals.Cause.{Cause}
use Rattle.lr_script.specs.declared.refusals.Cause.TheVariants.{Fields, Number, Range}
use Rattle.lr_script.proofs.Finding.{IsCut, IsNumber, cut_or_whole, less_or_not, number_or_none}
use Rattle.lr_script.proofs.Splits.{spaces_behind}

-- two numbers are one, or they aren't
one_or_two : (a b : ℕ) → (a ≡ b) ⊎ (a ≢ b)
one_or_two a b = go (eqb a b) refl
  where
    go : (same : Bool) → eqb a b ≡ same → (a ≡ b) ⊎ (a ≢ b)
    go true is = inl (eqb-true a b is)
    go false is = inr (eqb-false a b is)

-- two fields, or not
abbrev ArePair : List ℕ → Type 0
ArePair fields = (first second : List ℕ) × IsPair fields first second

pair_or_not : (fields : List ℕ) → ArePair fields ⊎ (spaces fields ≢ 1)
pair_or_not fields = go (cut_or_whole fields)
  where
    second : (cut : IsCut fields) → IsCut cut.1 ⊎ (spaces cut.1 ≡ 0) → ArePair fields ⊎ (spaces fields ≢ 1)
    second cut (inl more) = inr (λ one.
        let first = spaces_behind fields cut.0 cut.1 cut.2 cut.3 in
        let next = spaces_behind cut.1 more.0 more.1 more.2 more.3 in
        omega arith)
    second cut (inr whole) =
        inl (cut.0, cut.1, record { text = cut.2; first_field = cut.3; second_field = whole })

    go : IsCut fields ⊎ (spaces fields ≡ 0) → ArePair fields ⊎ (spaces fields ≢ 1)
    go (inl cut) = second cut (cut_or_whole cut.1)
    go (inr whole) = inr (λ one. omega arith)

-- two numbers that are written so
abbrev AreNumbers : List ℕ → List ℕ → Type 0
AreNumbers first second = IsNumber first × IsNumber second

numbers_or_not : (fields first second : List ℕ) → IsPair fields first second → AreNumbers first second ⊎ HasNoPair fields
numbers_or_not fields first second split = go (number_or_none first) (number_or_none second)
  where
    none : IsNoNumber first ⊎ IsNoNumber second → HasNoPair fields
    none bad = record { first = first; second = second; split = split; bad = bad }

    go : IsNumber first ⊎ IsNoNumber first → IsNumber second ⊎ IsNoNumber second
        → AreNumbers first second ⊎ HasNoPair fields
    go (inl a) (inl b) = inl (a, b)
    go (inr bad) b = inr (none (inl bad))
    go (inl a) (inr bad) = inr (none (inr bad))

module _ (config : Config) where
  -- the client, the replica and the reading that are written so
  abbrev pub IsSending : List ℕ → List ℕ → List ℕ → Type 0
  IsSending client replica reading = (a : IsNumber client) × (b : IsNumber replica) × IsNumber reading
      × (a.0 < config.clients) × (b.0 < config.replicas)

  pub sending_or_none : (client replica reading : List ℕ) → IsSending client replica reading
      ⊎ ((cause : Cause) × AreNoSending config client replica reading cause)
  sending_or_none client replica reading =
      numbers (number_or_none client) (number_or_none replica) (number_or_none reading)
    where
      range : (a : IsNumber client) (b : IsNumber replica) (c : IsNumber reading)
          → (a.0 < config.clients) ⊎ (config.clients ≤ a.0) → (b.0 < config.replicas) ⊎ (config.replicas ≤ b.0)
          → IsSending client replica reading
          ⊎ ((cause : Cause) × AreNoSending config client replica reading cause)
      range a b c = go
        where
          out : (config.clients ≤ a.0) ⊎ (config.replicas ≤ b.0)
              → (cause : Cause) × AreNoSending config client replica reading cause
          out bad = (
            Range,
            record {
              client_number = a.0;
              replica_number = b.0;
              reading_number = c.0;
              client_is = a.1;
              replica_is = b.1;
              reading_is = c.1;
              client_fits = a.2;
              replica_fits = b.2;
              reading_fits = c.2;
              bad = bad;
            },
          )

          go : (a.0 < config.clients) ⊎ (config.clients ≤ a.0) → (b.0 < config.replicas) ⊎ (config.replicas ≤ b.0)
              → IsSending client replica reading
              ⊎ ((cause : Cause) × AreNoSending config client replica reading cause)
          go (inl below) (inl under) = inl (a, b, c, below, under)
          go (inr bad) under = inr (out (inl bad))
          go (inl below) (inr bad) = inr (out (inr bad))

      numbers : IsNumber client ⊎ IsNoNumber client → IsNumber replica ⊎ IsNoNumber replica
          → IsNumber reading ⊎ IsNoNumber reading → IsSending client replica reading
          ⊎ ((cause : Cause) × AreNoSending config client replica reading cause)
      numbers (inl a) (inl b) (inl c) =
          range a b c (less_or_not a.0 config.clients) (less_or_not b.0 config.replicas)
      numbers (inr bad) b c = inr (Number, inl bad)
      numbers (inl a) (inr bad) c = inr (Number, inr (inl bad))
      numbers (inl a) (inl b) (inr bad) = inr (Number, inr (inr bad))

  -- three fields that are a client, a replica and a reading
  abbrev IsSent : List ℕ → Type 0
  IsSent fields = (client replica reading : ℕ)
      × (fields ≡ three_fields (decimal client) (decimal replica) (decimal reading))
      × ((client < config.clients) × (replica < config.replicas))
      × ((client < 2 ^ 64) × (replica < 2 ^ 64) × (reading < 2 ^ 64))

  abbrev IsNotSent : List ℕ → Type 0
  IsNotSent fields = (cause : Cause) × IsBadSending config fields cause

  module _ (fields client replica reading : List ℕ) (split : IsTriple fields client replica reading) where
    no_sender : (cause : Cause) → AreNoSending config client replica reading cause → IsBadSending config fields cause
    no_sender Number bad =
        record { client = client; replica = replica; reading = reading; split = split; bad = bad }
    no_sender Range bad =
        record { client = client; replica = replica; reading = reading; split = split; bad = bad }
    no_sender _ bad = absurd bad

    triple_or_bad : IsSending client replica reading
        ⊎ ((cause : Cause) × AreNoSending config client replica reading cause) → IsSent fields ⊎ IsNotSent fields
    triple_or_bad (inr bad) = inr (bad.0, no_sender bad.0 bad.1)
    triple_or_bad (inl has) = inl (
      has.0.0,
      has.1.0,
      has.2.0,
      split.text ∙ ap (λ t. three_fields t replica reading) has.0.1
          ∙ ap (λ t. three_fields (decimal has.0.0) t reading) has.1.1
          ∙ ap (three_fields (decimal has.0.0) (decimal has.1.0)) has.2.1,
      (has.3, has.4),
      (has.0.2, has.1.2, has.2.2),
    )

  sent_or_bad : (fields : List ℕ) → IsSent fields ⊎ IsNotSent fields
  sent_or_bad fields = go (cut_or_whole fields)
    where
      third : (cut : IsCut fields) (next : IsCut cut.1) → IsCut next.1 ⊎ (spaces next.1 ≡ 0)
          → IsSent fields ⊎ IsNotSent fields
      third cut next (inl more) = inr (
        Fields,
        (λ two.
            let first = spaces_behind fields cut.0 cut.1 cut.2 cut.3 in
            let second = spaces_behind cut.1 next.0 next.1 next.2 next.3 in
            let third = spaces_behind next.1 more.0 more.1 more.2 more.3 in
            omega arith),
      )
      third cut next (inr whole) = triple_or_bad fields cut.0 next.0 next.1 (record {
        text = cut.2 ∙ ap (λ t. cut.0 ++ 32 ∷ t) next.2;
        client_field = cut.3;
        replica_field = next.3;
        reading_field = whole;
      }) (sending_or_none cut.0 next.0 next.1)

      second : (cut : IsCut fields) → IsCut cut.1 ⊎ (spaces cut.1 ≡ 0) → IsSent fields ⊎ IsNotSent fields
      second cut (inl next) = third cut next (cut_or_whole next.1)
      second cut (inr whole) =
          inr (Fields, (λ two. let first = spaces_behind fields cut.0 cut.1 cut.2 cut.3 in omega arith))

      go : IsCut fields ⊎ (spaces fields ≡ 0) → IsSent fields ⊎ IsNotSent fields
      go (inl cut) = second cut (cut_or_whole cut.1)
      go (inr whole) = inr (Fields, (λ two. omega arith))

module _ {Value Op : Type 0} (m : Meaning Value Op) (config : Config) where
  -- the event that stands behind this word
  abbrev pub IsBehind : EventWord → List ℕ → Type 0
  IsBehind word fields = (event : Event Op) × Fits m config event
      × (word_text word ++ 32 ∷ fields ≡ event_text m event)

  -- why there is none
  abbrev pub IsBad : EventWord → List ℕ → Type 0
  IsBad word fields = (cause : Cause) × IsBadFields m config word fields cause

  pub resend_or_bad : (fields : List ℕ) → IsBehind WResend fields ⊎ IsBad WResend fields
  resend_or_bad fields = elim (sent_or_bad config fields) [
    | inl sent ↦ inl (Resend sent.0 sent.1 sent.2, (sent.4, sent.5), ap (λ t. codes "resend " ++ t) sent.3)
    | inr bad ↦ inr bad
  ]

  pub ack_or_bad : (fields : List ℕ) → IsBehind WAck fields ⊎ IsBad WAck fields
  ack_or_bad fields = elim (sent_or_bad config fields) [
    | inl sent ↦ inl (Ack sent.0 sent.1 sent.2, (sent.4, sent.5), ap (λ t. codes "ack " ++ t) sent.3)
    | inr bad ↦ inr bad
  ]

  pub deliver_or_bad : (fields : List ℕ) → IsBehind WDeliver fields ⊎ IsBad WDeliver fields
  deliver_or_bad fields = go (cut_or_whole fields) (number_or_none fields)
    where
      go : IsCut fields ⊎ (spaces fields ≡ 0) → IsNumber fields ⊎ IsNoNumber fields
          → IsBehind WDeliver fields ⊎ IsBad WDeliver fields
      go (inl cut) number = inr (Fields, (let more = spaces_behind fields cut.0 cut.1 cut.2 cut.3 in omega arith))
      go (inr whole) (inl number) =
          inl (Deliver number.0, (tt, number.2), ap (λ t. codes "deliver " ++ t) number.1)
      go (inr whole) (inr none) = inr (Number, (whole, none))

  pub show_or_bad : (fields : List ℕ) → IsBehind WShow fields ⊎ IsBad WShow fields
  show_or_bad fields = go (cut_or_whole fields) (number_or_none fields)
    where
      range : (number : IsNumber fields) → (number.0 < config.replicas) ⊎ (config.replicas ≤ number.0)
          → IsBehind WShow fields ⊎ IsBad WShow fields
      range number (inl below) = inl (Show number.0, (below, number.2), ap (λ t. codes "show " ++ t) number.1)
      range number (inr above) = inr (Range, (number.0, number.1, number.2, above))

      go : IsCut fields ⊎ (spaces fields ≡ 0) → IsNumber fields ⊎ IsNoNumber fields
          → IsBehind WShow fields ⊎ IsBad WShow fields
      go (inl cut) number = inr (Fields, (let more = spaces_behind fields cut.0 cut.1 cut.2 cut.3 in omega arith))
      go (inr whole) (inl number) = range number (less_or_not number.0 config.replicas)
      go (inr whole) (inr none) = inr (Number, (whole, none))

  module _ (fields first second : List ℕ) (split : IsPair fields first second) where
    two_or_bad : (a : IsNumber first) (b : IsNumber second)
        → (a.0 < config.replicas) ⊎ (config.replicas ≤ a.0) → (b.0 < config.replicas) ⊎ (config.replicas ≤ b.0)
        → (a.0 ≡ b.0) ⊎ (a.0 ≢ b.0) → IsBehind WGossip fields ⊎ IsBad WGossip fields
    two_or_bad a b = go
      where
        text : fields ≡ decimal a.0 ++ 32 ∷ decimal b.0
        text = split.text ∙ ap (λ t. t ++ 32 ∷ second) a.1 ∙ ap (λ t. decimal a.0 ++ 32 ∷ t) b.1

        out : (config.replicas ≤ a.0) ⊎ (config.replicas ≤ b.0) ⊎ (a.0 ≡ b.0) → IsBad WGossip fields
        out bad = (
          Range,
          record {
            first = a.0;
            second = b.0;
            text = text;
            first_number = a.2;
            second_number = b.2;
            bad = bad;
          },
        )

        go : (a.0 < config.replicas) ⊎ (config.replicas ≤ a.0) → (b.0 < config.replicas) ⊎ (config.replicas ≤ b.0)
            → (a.0 ≡ b.0) ⊎ (a.0 ≢ b.0) → IsBehind WGossip fields ⊎ IsBad WGossip fields
        go (inl from) (inl to) (inr other) =
            inl (Gossip a.0 b.0, ((from, to, other), (a.2, b.2)), ap (λ t. codes "gossip " ++ t) text)
        go (inr bad) to same = inr (out (inl bad))
        go (inl from) (inr bad) same = inr (out (inr (inl bad)))
        go (inl from) (inl to) (inl bad) = inr (out (inr (inr bad)))

    pair_or_bad : AreNumbers first second ⊎ HasNoPair fields → IsBehind WGossip fields ⊎ IsBad WGossip fields
    pair_or_bad (inl (a, b)) =
        two_or_bad a b (less_or_not a.0 config.replicas) (less_or_not b.0 config.replicas) (one_or_two a.0 b.0)
    pair_or_bad (inr none) = inr (Number, none)

  pub gossip_or_bad : (fields : List ℕ) → IsBehind WGossip fields ⊎ IsBad WGossip fields
  gossip_or_bad fields = elim (pair_or_not fields) [
    | inl pair ↦ pair_or_bad fields pair.0 pair.1 pair.2 (numbers_or_not fields pair.0 pair.1 pair.2)
    | inr none ↦ inr (Fields, none)
  ]

  module _ (fields first second : List ℕ) (split : IsPair fields first second) where
    tick_range : (a : IsNumber first) (b : IsNumber second)
        → (a.0 < config.replicas) ⊎ (config.replicas ≤ a.0) → IsBehind WTick fields ⊎ IsBad WTick fields
    tick_range a b = go
      where
        text : fields ≡ decimal a.0 ++ 32 ∷ decimal b.0
        text = split.text ∙ ap (λ t. t ++ 32 ∷ second) a.1 ∙ ap (λ t. decimal a.0 ++ 32 ∷ t) b.1

        go : (a.0 < config.replicas) ⊎ (config.replicas ≤ a.0) → IsBehind WTick fields ⊎ IsBad WTick fields
        go (inl below) = inl (Tick a.0 b.0, (below, (a.2, b.2)), ap (λ t. codes "tick " ++ t) text)
        go (inr above) = inr (
          Range,
          record {
            replica = a.0;
            reading = b.0;
            text = text;
            replica_number = a.2;
            reading_number = b.2;
            bad = above;
          },
        )

    tick_numbers : AreNumbers first second ⊎ HasNoPair fields → IsBehind WTick fields ⊎ IsBad WTick fields
    tick_numbers (inl (a, b)) = tick_range a b (less_or_not a.0 config.replicas)
    tick_numbers (inr none) = inr (Number, none)

  pub tick_or_bad : (fields : List ℕ) → IsBehind WTick fields ⊎ IsBad WTick fields
  tick_or_bad fields = elim (pair_or_not fields) [
    | inl pair ↦ tick_numbers fields pair.0 pair.1 pair.2 (numbers_or_not fields pair.0 pair.1 pair.2)
    | inr none ↦ inr (Fields, none)
  ]
