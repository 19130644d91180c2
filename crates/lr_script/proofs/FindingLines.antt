-- Events are found in lines, or the first line that is none's. So all bytes mean something.
use Rattle.std.proofs.Common.{◌≡◌, ◌≢◌, ◌⊎◌, inl, inr, ◌<◌, ◌≤◌, ◌+◌, ℕ, zero, suc, List, [], ◌∷◌, ◌++◌, length, length-append, append_assoc, refl, sym, ◌∙◌, ap, arith}
use Rattle.std.specs.List.{All}
use Rattle.std.proofs.lemmas.List.Elements.{All-cons}
use Rattle.lr_base.specs.Limits.{most_script_bytes}
use Rattle.lr_base.specs.Meaning.{Encoding, Lawful, Meaning}
use Rattle.lr_base.specs.declared.events.Event.{Event}
use Rattle.lr_base.specs.declared.lr_service.Kind.{Kind}
use Rattle.lr_base.specs.declared.names.Config.{Config}
use Rattle.lr_script.specs.Fields.{spaces, word_text}
use Rattle.lr_script.specs.Faults.{HasMeaning, IsBadAmong, IsBadEvent, IsBadLine, IsNoLine, bad_head, bad_rest, empty, no_event, no_header, no_line, no_word, too_long, word_alone}
use Rattle.lr_script.specs.Script.{Fits, events_text, line_of}
use Rattle.lr_script.specs.Texts.{event_text, header_text}
use Rattle.lr_script.specs.declared.fields.EventWord.{EventWord}
use Rattle.lr_script.specs.declared.fields.EventWord.TheVariants.{Call, Resend, Ack, Deliver, Tick, Gossip, Show}
use Rattle.lr_script.specs.declared.refusals.Cause.{Cause}
use Rattle.lr_script.specs.declared.refusals.Cause.TheVariants.{Event as NoWord, Fields, Header as NoHeader, TooLong}
use Rattle.lr_script.proofs.Cuts.{field_one, word_spaceless}
use Rattle.lr_script.proofs.Finding.{IsCut, IsLine, cut_or_whole, less_or_not, line_or_none, word_or_none}
use Rattle.lr_script.proofs.FindingCalls.{call_or_bad}
use Rattle.lr_script.proofs.FindingEvents.{IsBad, IsBehind, ack_or_bad, deliver_or_bad, gossip_or_bad, resend_or_bad, show_or_bad, tick_or_bad}
use Rattle.lr_script.proofs.FindingHeaders.{IsHeaderLine, IsNoHeaderLine, header_or_none}
use Rattle.lr_script.proofs.Refusing.{refusal}
use Rattle.lr_script.proofs.ScriptRefusals.{line_more}
use Rattle.lr_script.proofs.Splits.{spaces_behind}

module _ {Value Op : Type 0} (m : Meaning Value Op) {e : Encoding Value} {kind_of : Op → Kind}
    (lawful : Lawful m e kind_of) (config : Config) where
  fields_or_bad : (word : EventWord) (fields : List ℕ) → IsBehind m config word fields ⊎ IsBad m config word fields
  fields_or_bad Call fields = call_or_bad m lawful config fields
  fields_or_bad Resend fields = resend_or_bad m config fields
  fields_or_bad Ack fields = ack_or_bad m config fields
  fields_or_bad Deliver fields = deliver_or_bad m config fields
  fields_or_bad Tick fields = tick_or_bad m config fields
  fields_or_bad Gossip fields = gossip_or_bad m config fields
  fields_or_bad Show fields = show_or_bad m config fields

  -- the event whose line this is
  abbrev IsEventLine : List ℕ → Type 0
  IsEventLine line = (event : Event Op) × Fits m config event × (line ≡ event_text m event)

  event_or_bad : (line : List ℕ) → IsEventLine line ⊎ ((cause : Cause) × IsBadEvent m config line cause)
  event_or_bad line = go (cut_or_whole line)
    where
      behind : (cut : IsCut line) (word : EventWord) → cut.0 ≡ word_text word
          → IsBehind m config word cut.1 ⊎ IsBad m config word cut.1
          → IsEventLine line ⊎ ((cause : Cause) × IsBadEvent m config line cause)
      behind cut word is (inl found) =
          inl (found.0, found.1, cut.2 ∙ ap (λ w. w ++ 32 ∷ cut.1) is ∙ found.2)
      behind cut word is (inr bad) =
          inr (bad.0, bad_rest word cut.1 bad.0 (cut.2 ∙ ap (λ w. w ++ 32 ∷ cut.1) is) bad.1)

      parted : (cut : IsCut line)
          → ((word : EventWord) × (cut.0 ≡ word_text word)) ⊎ ((word : EventWord) → cut.0 ≢ word_text word)
          → IsEventLine line ⊎ ((cause : Cause) × IsBadEvent m config line cause)
      parted cut (inl word) = behind cut word.0 word.1 (fields_or_bad word.0 cut.1)
      parted cut (inr none) = inr (
        NoWord,
        no_word
            (λ word same.
            let more = spaces_behind line cut.0 cut.1 cut.2 cut.3 in
            let whole : spaces line ≡ 0 = ap spaces same ∙ word_spaceless word in
            omega arith)
            (λ word rest same.
            none word (field_one cut.0 (word_text word) cut.1 rest (sym cut.2 ∙ same) cut.3 (word_spaceless word)).0),
      )

      alone : spaces line ≡ 0
          → ((word : EventWord) × (line ≡ word_text word)) ⊎ ((word : EventWord) → line ≢ word_text word)
          → IsEventLine line ⊎ ((cause : Cause) × IsBadEvent m config line cause)
      alone whole (inl word) = inr (Fields, word_alone word.0 word.1)
      alone whole (inr none) = inr (
        NoWord,
        no_word none (λ word rest same.
            let more = spaces_behind line (word_text word) rest same (word_spaceless word) in
            omega arith),
      )

      go : IsCut line ⊎ (spaces line ≡ 0) → IsEventLine line ⊎ ((cause : Cause) × IsBadEvent m config line cause)
      go (inl cut) = parted cut (word_or_none cut.0)
      go (inr whole) = alone whole (word_or_none line)

  -- the event that the bytes begin with
  abbrev IsNext : List ℕ → Type 0
  IsNext bytes = (event : Event Op) × (later : List ℕ) × Fits m config event
      × (bytes ≡ event_text m event ++ 10 ∷ later)

  next_or_bad : (bytes : List ℕ) → IsNext bytes ⊎ ((cause : Cause) × IsBadLine m config bytes cause)
  next_or_bad bytes = go (line_or_none bytes)
    where
      event : (line : IsLine bytes) → IsEventLine line.0 ⊎ ((cause : Cause) × IsBadEvent m config line.0 cause)
          → IsNext bytes ⊎ ((cause : Cause) × IsBadLine m config bytes cause)
      event line (inl found) =
          inl (found.0, line.1, found.1, line.2 ∙ ap (λ t. t ++ 10 ∷ line.1) found.2)
      event line (inr bad) = inr (bad.0, no_event line.0 line.1 bad.0 line.2 line.3 bad.1)

      go : IsLine bytes ⊎ ((cause : Cause) × IsNoLine bytes cause)
          → IsNext bytes ⊎ ((cause : Cause) × IsBadLine m config bytes cause)
      go (inl line) = event line (event_or_bad line.0)
      go (inr none) = inr (none.0, no_line none.0 none.1)

  -- the events whose lines these are
  abbrev AreEvents : List ℕ → Type 0
  AreEvents lines = (events : List (Event Op)) × All (Fits m config) events × (lines ≡ events_text m events)

  -- the first line that is no event's
  abbrev IsBadIn : List ℕ → Type 0
  IsBadIn lines = (line : ℕ) × (cause : Cause) × IsBadAmong m config lines line cause

  -- an event before others, or before a bad line
  more_events : (bytes : List ℕ) (next : IsNext bytes) → AreEvents next.1 ⊎ IsBadIn next.1
      → AreEvents bytes ⊎ IsBadIn bytes
  more_events bytes next (inl more) = inl (
    next.0 ∷ more.0,
    All-cons (Fits m config) next.0 more.0 next.2 more.1,
    next.3 ∙ ap (λ t. event_text m next.0 ++ 10 ∷ t) more.2
        ∙ sym (append_assoc (event_text m next.0) (10 ∷ []) (events_text m more.0)),
  )
  more_events bytes next (inr bad) = inr (
    bad.0 + 1,
    bad.1,
    record {
      events = next.0 ∷ bad.2.events;
      rest = bad.2.rest;
      text = next.3 ∙ ap (λ t. event_text m next.0 ++ 10 ∷ t) bad.2.text
          ∙ sym (line_more (event_text m next.0) (events_text m bad.2.events) bad.2.rest);
      fit = All-cons (Fits m config) next.0 bad.2.events next.2 bad.2.fit;
      some = bad.2.some;
      number = omega (arith, bad.2.number);
      bad = bad.2.bad;
    },
  )

  -- a first line that is no event's
  bad_first : (bytes : List ℕ) → 1 ≤ length bytes → (cause : Cause) → IsBadLine m config bytes cause → IsBadIn bytes
  bad_first bytes some cause bad = (
    2,
    cause,
    record {
      events = [];
      rest = bytes;
      text = refl;
      fit = λ k d below. absurd (omega arith);
      some = some;
      number = refl;
      bad = bad;
    },
  )

  pub events_or_bad : (most : ℕ) (lines : List ℕ) → length lines ≤ most → AreEvents lines ⊎ IsBadIn lines
  events_or_bad most [] short = inl ([], (λ k d below. absurd (omega arith)), refl)
  events_or_bad zero (byte ∷ lines) short = absurd (omega arith)
  events_or_bad (suc most) (byte ∷ lines) short = go (next_or_bad (byte ∷ lines)) (events_or_bad most)
    where
      go : IsNext (byte ∷ lines) ⊎ ((cause : Cause) × IsBadLine m config (byte ∷ lines) cause)
          → ((later : List ℕ) → length later ≤ most → AreEvents later ⊎ IsBadIn later)
          → AreEvents (byte ∷ lines) ⊎ IsBadIn (byte ∷ lines)
      go (inl next) others =
          let whole = ap length next.3 in
          let parts = length-append (event_text m next.0) (10 ∷ next.1) in
          more_events (byte ∷ lines) next (others next.1 (omega (arith, whole, parts, short)))
      go (inr bad) others = inr (bad_first (byte ∷ lines) (omega arith) bad.0 bad.1)

-- no bytes are left
none_left : (bytes : List ℕ) → length bytes ≤ 0 → bytes ≡ []
none_left [] none = refl
none_left (byte ∷ bytes) none = absurd (omega arith)

module _ {Value Op : Type 0} (m : Meaning Value Op) {e : Encoding Value} {kind_of : Op → Kind}
    (lawful : Lawful m e kind_of) where
  -- all bytes are a script, or have a first bad line
  pub each_meaning : (bytes : List ℕ) → HasMeaning m bytes
  each_meaning bytes = long (less_or_not most_script_bytes (length bytes))
    where
      headed : length bytes ≤ most_script_bytes → (line : IsLine bytes) → IsHeaderLine line.0 ⊎ IsNoHeaderLine line.0
          → HasMeaning m bytes
      headed short line (inr none) = inr (
        1,
        NoHeader,
        refusal m lawful.printable_text bytes 1 NoHeader
            (inl (no_header line.0 line.1 short line.2 line.3 none)),
      )
      headed short line (inl header) =
          let text : bytes ≡ line_of (header_text header.0) ++ line.1 = line.2 ∙ ap (λ t. t ++ 10 ∷ line.1) header.2
          ∙ sym (append_assoc (header_text header.0) (10 ∷ []) line.1) in
          elim (events_or_bad m lawful header.0.config (length line.1) line.1 (omega arith)) [
            | inl found ↦ inl (
              header.0,
              found.0,
              record {
                valid = header.1;
                fit = found.1;
                short = short;
                text = text ∙ ap (λ t. line_of (header_text header.0) ++ t) found.2;
              },
            )
            | inr bad ↦ inr (
              bad.0,
              bad.1,
              refusal m lawful.printable_text bytes bad.0 bad.1 (inr (record {
                header = header.0;
                lines = line.1;
                text = text;
                valid = header.1;
                short = short;
                bad = bad.2;
              })),
            )
          ]

      first : length bytes ≤ most_script_bytes → (0 < length bytes) ⊎ (length bytes ≤ 0)
          → IsLine bytes ⊎ ((cause : Cause) × IsNoLine bytes cause) → HasMeaning m bytes
      first short (inr none) line = inr (
        1,
        NoHeader,
        refusal m lawful.printable_text bytes 1 NoHeader
            (inl (empty (none_left bytes none))),
      )
      first short (inl some) (inl line) = headed short line (header_or_none line.0)
      first short (inl some) (inr none) = inr (
        1,
        none.0,
        refusal m lawful.printable_text bytes 1 none.0
            (inl (bad_head none.0 short some none.1)),
      )

      long : (most_script_bytes < length bytes) ⊎ (length bytes ≤ most_script_bytes) → HasMeaning m bytes
      long (inl much) = inr (0, TooLong, refusal m lawful.printable_text bytes 0 TooLong (inl (too_long much)))
      long (inr short) = first short (less_or_not 0 (length bytes)) (line_or_none bytes)
