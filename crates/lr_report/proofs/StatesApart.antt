-- A state is told apart by its line.
use Rattle.std.proofs.Common.{◌≡◌, ℕ, List, ◌∷◌, ◌++◌, drop, codes, refl, sym, ◌∙◌, ap, append_assoc}
use Rattle.std.specs.Fmt.{decimal}
use Rattle.std.specs.List.{All}
use Rattle.lr_base.specs.declared.events.StateLine.{StateLine}
use Rattle.lr_report.specs.Printed.{joined_by, mark_text, clock_fields, log_fields, call_fields}
use Rattle.lr_graph.specs.Fitting.{NumberFits, CidFits, SpotFits, MarkFits, StateFits}
use Rattle.lr_report.specs.Texts.{cid_text, spot_text}
use Rattle.lr_report.proofs.DigitsApart.{goes_on, number_apart}
use Rattle.lr_report.proofs.FieldsApart.{Tells, TellsLine, first_apart, number_first, cid_apart, spot_apart, mark_apart, number_shows, cid_shows, spot_shows, mark_shows, list_apart}

-- the parts of a stamp
stamp_apart : Tells goes_on (All NumberFits) (joined_by (codes ".") decimal)
stamp_apart = list_apart NumberFits decimal number_apart 46 refl refl number_shows

-- lists of spots
spots_apart : (replicas : ℕ) → Tells goes_on (All SpotFits) (joined_by (codes ",") (spot_text replicas))
spots_apart replicas = list_apart SpotFits (spot_text replicas) (spot_apart replicas) 44 refl refl (spot_shows replicas)

-- lists of calls
cids_apart : Tells goes_on (All CidFits) (joined_by (codes ",") cid_text)
cids_apart = list_apart CidFits cid_text cid_apart 44 refl refl cid_shows

-- lists of marks
marks_apart : Tells goes_on (All MarkFits) (joined_by (codes ",") mark_text)
marks_apart = list_apart MarkFits mark_text mark_apart 44 refl refl mark_shows

-- the fields up to the clock
clock_apart : (a b : StateLine) (x y : List ℕ) → StateFits a → StateFits b → clock_fields a ++ 32 ∷ x ≡ clock_fields b ++ 32 ∷ y → (a.replica ≡ b.replica) × (a.view ≡ b.view) × (a.clock ≡ b.clock) × (x ≡ y)
clock_apart a b x y fa fb same =
    let first = number_first a.replica b.replica _ _ _ _ fa.replica fb.replica (ap (drop 7) same) refl refl in
    let second = number_first a.view b.view _ _ _ _ fa.view fb.view (ap (drop 6) first.1) refl refl in
    let third = number_apart a.clock b.clock (32 ∷ x) (32 ∷ y) fa.clock fb.clock refl refl (ap (drop 7) second.1) in
    (first.0, second.0, third.0, ap (drop 1) third.1)

-- the fields up to the acks
log_apart : (replicas : ℕ) (a b : StateLine) (x y : List ℕ) → StateFits a → StateFits b → log_fields replicas a ++ 32 ∷ x ≡ log_fields replicas b ++ 32 ∷ y → (a.received ≡ b.received) × (a.log ≡ b.log) × (a.acks ≡ b.acks) × (x ≡ y)
log_apart replicas a b x y fa fb same =
    let first = first_apart goes_on (All NumberFits) (joined_by (codes ".") decimal) stamp_apart a.received b.received _ _ _ _ fa.received fb.received (ap (drop 10) same) refl refl in
    let second = first_apart goes_on (All SpotFits) (joined_by (codes ",") (spot_text replicas)) (spots_apart replicas) a.log b.log _ _ _ _ fa.log fb.log (ap (drop 5) first.1) refl refl in
    let third = spots_apart replicas a.acks b.acks (32 ∷ x) (32 ∷ y) fa.acks fb.acks refl refl (ap (drop 6) second.1) in
    (first.0, second.0, third.0, ap (drop 1) third.1)

-- the fields up to the line's end
call_apart : (a b : StateLine) (x y : List ℕ) → StateFits a → StateFits b → call_fields a ++ 10 ∷ x ≡ call_fields b ++ 10 ∷ y → (a.calls ≡ b.calls) × (a.held ≡ b.held) × (a.marks ≡ b.marks) × (x ≡ y)
call_apart a b x y fa fb same =
    let first = first_apart goes_on (All CidFits) (joined_by (codes ",") cid_text) cids_apart a.calls b.calls _ _ _ _ fa.calls fb.calls (ap (drop 7) same) refl refl in
    let second = first_apart goes_on (All CidFits) (joined_by (codes ",") cid_text) cids_apart a.held b.held _ _ _ _ fa.held fb.held (ap (drop 6) first.1) refl refl in
    let third = marks_apart a.marks b.marks (10 ∷ x) (10 ∷ y) fa.marks fb.marks refl refl (ap (drop 8) second.1) in
    (first.0, second.0, third.0, ap (drop 1) third.1)

-- states
pub state_apart : (replicas : ℕ) → TellsLine StateFits (λ line. clock_fields line ++ (log_fields replicas line ++ call_fields line))
state_apart replicas a b x y fa fb same =
    let whole = sym (append_assoc (clock_fields a) (log_fields replicas a ++ call_fields a) (10 ∷ x)) ∙ same ∙ append_assoc (clock_fields b) (log_fields replicas b ++ call_fields b) (10 ∷ y) in
    let first = clock_apart a b _ _ fa fb whole in
    let later = ap (λ (text : List ℕ). 32 ∷ text) first.3 in
    let behind = sym (append_assoc (log_fields replicas a) (call_fields a) (10 ∷ x)) ∙ later ∙ append_assoc (log_fields replicas b) (call_fields b) (10 ∷ y) in
    let second = log_apart replicas a b _ _ fa fb behind in
    let third = call_apart a b x y fa fb (ap (λ (text : List ℕ). 32 ∷ text) second.3) in
    (λ i. record { replica = first.0 i; view = first.1 i; clock = first.2 i; received = second.0 i; log = second.1 i; acks = second.2 i; calls = third.0 i; held = third.1 i; marks = third.2 i }, third.3)
