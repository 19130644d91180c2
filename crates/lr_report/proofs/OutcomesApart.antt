-- An outcome is told apart by its line.
use Rattle.std.proofs.Common.{◌≡◌, ℕ, false, not, eqb, List, ◌∷◌, ◌++◌, drop, refl, ap}
use Rattle.std.specs.Fmt.{decimal}
use Rattle.lr_base.specs.declared.events.Outcome.TheVariants.{Send, Accept, Note, Hold, Take, Got, Stale, ClockAt, NoMessage, Refuse, State}
use Rattle.lr_base.specs.declared.events.Refusal.TheVariants.{Late, Again, Settled, Noted, FullLog, FullHeld, Worn, Unfinished, Idle, Nothing}
use Rattle.lr_base.specs.declared.events.Sent.TheVariants.{Update, Query, Ack, Done, Answer, Gossip}
use Rattle.lr_base.specs.declared.names.Actor.{Actor}
use Rattle.lr_base.specs.declared.names.Cid.{Cid}
use Rattle.lr_report.specs.Printed.{sent_text, refusal_text, outcome_text}
use Rattle.lr_graph.specs.Fitting.{NumberFits, CidFits, SpotFits, ActorFits, SentFits, RefusalFits, OutcomeFits}
use Rattle.lr_report.specs.Texts.{cid_text, spot_text, actor_text}
use Rattle.lr_script.specs.CutLaws.{cut_one}
use Rattle.lr_report.proofs.DigitsApart.{starts_with_digit, number_apart, feedless, unlike}
use Rattle.lr_report.proofs.FieldsApart.{TellsLine, first_apart, number_first, cid_apart, spot_apart, actor_apart}
use Rattle.lr_report.proofs.StatesApart.{state_apart}

-- a call before other fields
cid_first : (a b : Cid) (s t z w : List ℕ) → CidFits a → CidFits b → (cid_text a ++ s) ++ z ≡ (cid_text b ++ t) ++ w → starts_with_digit (s ++ z) ≡ false → starts_with_digit (t ++ w) ≡ false → (a ≡ b) × (s ++ z ≡ t ++ w)
cid_first = first_apart starts_with_digit CidFits cid_text cid_apart

-- a client or a replica before other fields
actor_first : (a b : Actor) (s t z w : List ℕ) → ActorFits a → ActorFits b → (actor_text a ++ s) ++ z ≡ (actor_text b ++ t) ++ w → starts_with_digit (s ++ z) ≡ false → starts_with_digit (t ++ w) ≡ false → (a ≡ b) × (s ++ z ≡ t ++ w)
actor_first = first_apart starts_with_digit ActorFits actor_text actor_apart

-- a number, a call or a spot that ends its line
pub number_last : TellsLine NumberFits decimal
number_last a b x y fa fb same =
    let one = number_apart a b (10 ∷ x) (10 ∷ y) fa fb refl refl same in
    (one.0, ap (drop 1) one.1)

cid_last : TellsLine CidFits cid_text
cid_last a b x y fa fb same =
    let one = cid_apart a b (10 ∷ x) (10 ∷ y) fa fb refl refl same in
    (one.0, ap (drop 1) one.1)

spot_last : (replicas : ℕ) → TellsLine SpotFits (spot_text replicas)
spot_last replicas a b x y fa fb same =
    let one = spot_apart replicas a b (10 ∷ x) (10 ∷ y) fa fb refl refl same in
    (one.0, ap (drop 1) one.1)

-- messages
sent_apart : (replicas : ℕ) → TellsLine SentFits (sent_text replicas)
sent_apart replicas (Update c time) (Update d other) x y fa fb same =
    let first = cid_first c d _ _ _ _ fa.0 fb.0 (ap (drop 7) same) refl refl in
    let last = number_last time other x y fa.1 fb.1 (ap (drop 4) first.1) in
    (λ i. Update (first.0 i) (last.0 i), last.1)
sent_apart replicas (Query c) (Query d) x y fa fb same =
    let last = cid_last c d x y fa fb (ap (drop 6) same) in
    (ap Query last.0, last.1)
sent_apart replicas (Ack c time) (Ack d other) x y fa fb same =
    let first = cid_first c d _ _ _ _ fa.0 fb.0 (ap (drop 4) same) refl refl in
    let last = number_last time other x y fa.1 fb.1 (ap (drop 4) first.1) in
    (λ i. Ack (first.0 i) (last.0 i), last.1)
sent_apart replicas (Done c spot) (Done d other) x y fa fb same =
    let first = cid_first c d _ _ _ _ fa.0 fb.0 (ap (drop 5) same) refl refl in
    let last = spot_last replicas spot other x y fa.1 fb.1 (ap (drop 4) first.1) in
    (λ i. Done (first.0 i) (last.0 i), last.1)
sent_apart replicas (Answer c text) (Answer d other) x y fa fb same =
    let first = cid_first c d _ _ _ _ fa.0 fb.0 (ap (drop 7) same) refl refl in
    let last = cut_one (λ byte. not (eqb byte 10)) 10 refl text other x y (ap (drop 1) first.1) (feedless text fa.1) (feedless other fb.1) in
    (λ i. Answer (first.0 i) (last.0 i), last.1)
sent_apart replicas Gossip Gossip x y fa fb same = (refl, ap (drop 7) same)
sent_apart replicas (Ack _ _) (Answer _ _) x y fa fb same = unlike 1 _ _ refl same
sent_apart replicas (Answer _ _) (Ack _ _) x y fa fb same = unlike 1 _ _ refl same
sent_apart replicas (Update _ _) _ x y fa fb same = unlike 0 _ _ refl same
sent_apart replicas (Query _) _ x y fa fb same = unlike 0 _ _ refl same
sent_apart replicas (Ack _ _) _ x y fa fb same = unlike 0 _ _ refl same
sent_apart replicas (Done _ _) _ x y fa fb same = unlike 0 _ _ refl same
sent_apart replicas (Answer _ _) _ x y fa fb same = unlike 0 _ _ refl same
sent_apart replicas Gossip _ x y fa fb same = unlike 0 _ _ refl same

-- reasons
refusal_apart : (replicas : ℕ) → TellsLine RefusalFits (refusal_text replicas)
refusal_apart replicas (Late time clock) (Late other later) x y fa fb same =
    let first = number_first time other _ _ _ _ fa.0 fb.0 (ap (drop 5) same) refl refl in
    let last = number_last clock later x y fa.1 fb.1 (ap (drop 1) first.1) in
    (λ i. Late (first.0 i) (last.0 i), last.1)
refusal_apart replicas (Again spot) (Again other) x y fa fb same =
    let last = spot_last replicas spot other x y fa fb (ap (drop 6) same) in
    (ap Again last.0, last.1)
refusal_apart replicas Settled Settled x y fa fb same = (refl, ap (drop 8) same)
refusal_apart replicas (Noted spot) (Noted other) x y fa fb same =
    let last = spot_last replicas spot other x y fa fb (ap (drop 6) same) in
    (ap Noted last.0, last.1)
refusal_apart replicas FullLog FullLog x y fa fb same = (refl, ap (drop 9) same)
refusal_apart replicas FullHeld FullHeld x y fa fb same = (refl, ap (drop 10) same)
refusal_apart replicas Worn Worn x y fa fb same = (refl, ap (drop 5) same)
refusal_apart replicas (Unfinished c) (Unfinished d) x y fa fb same =
    let last = cid_last c d x y fa fb (ap (drop 5) same) in
    (ap Unfinished last.0, last.1)
refusal_apart replicas Idle Idle x y fa fb same = (refl, ap (drop 5) same)
refusal_apart replicas Nothing Nothing x y fa fb same = (refl, ap (drop 8) same)
refusal_apart replicas (Noted _) Nothing x y fa fb same = unlike 3 _ _ refl same
refusal_apart replicas Nothing (Noted _) x y fa fb same = unlike 3 _ _ refl same
refusal_apart replicas FullLog FullHeld x y fa fb same = unlike 5 _ _ refl same
refusal_apart replicas FullHeld FullLog x y fa fb same = unlike 5 _ _ refl same
refusal_apart replicas (Late _ _) _ x y fa fb same = unlike 0 _ _ refl same
refusal_apart replicas (Again _) _ x y fa fb same = unlike 0 _ _ refl same
refusal_apart replicas Settled _ x y fa fb same = unlike 0 _ _ refl same
refusal_apart replicas (Noted _) _ x y fa fb same = unlike 0 _ _ refl same
refusal_apart replicas FullLog _ x y fa fb same = unlike 0 _ _ refl same
refusal_apart replicas FullHeld _ x y fa fb same = unlike 0 _ _ refl same
refusal_apart replicas Worn _ x y fa fb same = unlike 0 _ _ refl same
refusal_apart replicas (Unfinished _) _ x y fa fb same = unlike 0 _ _ refl same
refusal_apart replicas Idle _ x y fa fb same = unlike 0 _ _ refl same
refusal_apart replicas Nothing _ x y fa fb same = unlike 0 _ _ refl same

-- outcomes
pub outcome_apart : (replicas : ℕ) → TellsLine OutcomeFits (outcome_text replicas)
outcome_apart replicas (Send number from to what) (Send other source target more) x y fa fb same =
    let first = number_first number other _ _ _ _ fa.0 fb.0 (ap (drop 5) same) refl refl in
    let second = actor_first from source _ _ _ _ fa.1 fb.1 (ap (drop 1) first.1) refl refl in
    let third = actor_first to target _ _ _ _ fa.2 fb.2 (ap (drop 1) second.1) refl refl in
    let last = sent_apart replicas what more x y fa.3 fb.3 (ap (drop 1) third.1) in
    (λ i. Send (first.0 i) (second.0 i) (third.0 i) (last.0 i), last.1)
outcome_apart replicas (Accept spot c) (Accept other d) x y fa fb same =
    let first = first_apart starts_with_digit SpotFits (spot_text replicas) (spot_apart replicas) spot other _ _ _ _ fa.0 fb.0 (ap (drop 7) same) refl refl in
    let last = cid_last c d x y fa.1 fb.1 (ap (drop 1) first.1) in
    (λ i. Accept (first.0 i) (last.0 i), last.1)
outcome_apart replicas (Note spot c) (Note other d) x y fa fb same =
    let first = first_apart starts_with_digit SpotFits (spot_text replicas) (spot_apart replicas) spot other _ _ _ _ fa.0 fb.0 (ap (drop 5) same) refl refl in
    let last = cid_last c d x y fa.1 fb.1 (ap (drop 1) first.1) in
    (λ i. Note (first.0 i) (last.0 i), last.1)
outcome_apart replicas (Hold c) (Hold d) x y fa fb same =
    let last = cid_last c d x y fa fb (ap (drop 5) same) in
    (ap Hold last.0, last.1)
outcome_apart replicas (Take count) (Take other) x y fa fb same =
    let last = number_last count other x y fa fb (ap (drop 5) same) in
    (ap Take last.0, last.1)
outcome_apart replicas (Got c) (Got d) x y fa fb same =
    let last = cid_last c d x y fa fb (ap (drop 4) same) in
    (ap Got last.0, last.1)
outcome_apart replicas (Stale c) (Stale d) x y fa fb same =
    let last = cid_last c d x y fa fb (ap (drop 6) same) in
    (ap Stale last.0, last.1)
outcome_apart replicas (ClockAt reading) (ClockAt other) x y fa fb same =
    let last = number_last reading other x y fa fb (ap (drop 6) same) in
    (ap ClockAt last.0, last.1)
outcome_apart replicas (NoMessage message) (NoMessage other) x y fa fb same =
    let last = number_last message other x y fa fb (ap (drop 5) same) in
    (ap NoMessage last.0, last.1)
outcome_apart replicas (Refuse why) (Refuse other) x y fa fb same =
    let last = refusal_apart replicas why other x y fa fb (ap (drop 7) same) in
    (ap Refuse last.0, last.1)
outcome_apart replicas (State line) (State other) x y fa fb same =
    let last = state_apart replicas line other x y fa fb same in
    (ap State last.0, last.1)
outcome_apart replicas (Send _ _ _ _) (Stale _) x y fa fb same = unlike 1 _ _ refl same
outcome_apart replicas (Send _ _ _ _) (State _) x y fa fb same = unlike 1 _ _ refl same
outcome_apart replicas (Stale _) (Send _ _ _ _) x y fa fb same = unlike 1 _ _ refl same
outcome_apart replicas (Stale _) (State _) x y fa fb same = unlike 3 _ _ refl same
outcome_apart replicas (State _) (Send _ _ _ _) x y fa fb same = unlike 1 _ _ refl same
outcome_apart replicas (State _) (Stale _) x y fa fb same = unlike 3 _ _ refl same
outcome_apart replicas (Note _ _) (NoMessage _) x y fa fb same = unlike 2 _ _ refl same
outcome_apart replicas (NoMessage _) (Note _ _) x y fa fb same = unlike 2 _ _ refl same
outcome_apart replicas (Send _ _ _ _) _ x y fa fb same = unlike 0 _ _ refl same
outcome_apart replicas (Accept _ _) _ x y fa fb same = unlike 0 _ _ refl same
outcome_apart replicas (Note _ _) _ x y fa fb same = unlike 0 _ _ refl same
outcome_apart replicas (Hold _) _ x y fa fb same = unlike 0 _ _ refl same
outcome_apart replicas (Take _) _ x y fa fb same = unlike 0 _ _ refl same
outcome_apart replicas (Got _) _ x y fa fb same = unlike 0 _ _ refl same
outcome_apart replicas (Stale _) _ x y fa fb same = unlike 0 _ _ refl same
outcome_apart replicas (ClockAt _) _ x y fa fb same = unlike 0 _ _ refl same
outcome_apart replicas (NoMessage _) _ x y fa fb same = unlike 0 _ _ refl same
outcome_apart replicas (Refuse _) _ x y fa fb same = unlike 0 _ _ refl same
outcome_apart replicas (State _) _ x y fa fb same = unlike 0 _ _ refl same
