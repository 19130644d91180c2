-- Each field is told apart by its text, if what stands behind it does not go on with the field.
use Rattle.std.proofs.Common.{◌≡◌, ℕ, Bool, true, false, cond, ◌==◌, eqb, ltb, List, [], ◌∷◌, ◌++◌, get_or, drop, codes, refl, sym, ◌∙◌, ap, arith, append_assoc}
use Rattle.std.specs.Fmt.{decimal}
use Rattle.std.specs.List.{All, flat_map}
use Rattle.std.proofs.lemmas.Bool.{eqb-true}
use Rattle.std.proofs.lemmas.Bool.Decides.{nat_tests}
use Rattle.std.proofs.lemmas.List.Elements.{All-head, All-tail}
use Rattle.lr_base.specs.declared.names.Actor.TheVariants.{Client, Replica}
use Rattle.lr_report.specs.Printed.{joined_by, mark_text}
use Rattle.lr_graph.specs.Fitting.{NumberFits, CidFits, SpotFits, MarkFits, ActorFits}
use Rattle.lr_report.specs.Texts.{cid_text, place_text, spot_text, actor_text}
use Rattle.lr_report.proofs.DigitsApart.{is_digit, starts_with_digit, goes_on, number_apart, number_begins, unlike}

-- texts of what fits are told apart before anything that does not go on with them
abbrev pub Tells : {A : Type 0} → (List ℕ → Bool) → (A → Type 0) → (A → List ℕ) → Type 0
Tells {A} more Fits text = (a b : A) (x y : List ℕ) → Fits a → Fits b → more x ≡ false → more y ≡ false → text a ++ x ≡ text b ++ y → (a ≡ b) × (x ≡ y)

-- texts of what fits are told apart before a line feed
abbrev pub TellsLine : {A : Type 0} → (A → Type 0) → (A → List ℕ) → Type 0
TellsLine {A} Fits text = (a b : A) (x y : List ℕ) → Fits a → Fits b → text a ++ 10 ∷ x ≡ text b ++ 10 ∷ y → (a ≡ b) × (x ≡ y)

-- the first field of several
pub first_apart : {A : Type 0} (more : List ℕ → Bool) (Fits : A → Type 0) (text : A → List ℕ) → Tells more Fits text → (a b : A) (s t z w : List ℕ) → Fits a → Fits b → (text a ++ s) ++ z ≡ (text b ++ t) ++ w → more (s ++ z) ≡ false → more (t ++ w) ≡ false → (a ≡ b) × (s ++ z ≡ t ++ w)
first_apart more Fits text tells a b s t z w fa fb same hs ht = tells a b (s ++ z) (t ++ w) fa fb hs ht (sym (append_assoc (text a) s z) ∙ same ∙ append_assoc (text b) t w)

-- a number before other fields
pub number_first : (a b : ℕ) (s t z w : List ℕ) → NumberFits a → NumberFits b → (decimal a ++ s) ++ z ≡ (decimal b ++ t) ++ w → starts_with_digit (s ++ z) ≡ false → starts_with_digit (t ++ w) ≡ false → (a ≡ b) × (s ++ z ≡ t ++ w)
number_first = first_apart starts_with_digit NumberFits decimal number_apart

-- calls
pub cid_apart : Tells starts_with_digit CidFits cid_text
cid_apart a b x y fa fb hx hy same =
    let first = number_first a.client b.client _ _ _ _ fa.0 fb.0 same refl refl in
    let second = number_apart a.seq b.seq x y fa.1 fb.1 hx hy (ap (drop 1) first.1) in
    (λ i. record { client = first.0 i; seq = second.0 i }, second.1)

-- marks
pub mark_apart : Tells starts_with_digit MarkFits mark_text
mark_apart a b x y fa fb hx hy same =
    let first = number_first a.0 b.0 _ _ _ _ fa.0 fb.0 same refl refl in
    let second = number_apart a.1 b.1 x y fa.1 fb.1 hx hy (ap (drop 1) first.1) in
    (λ i. (first.0 i, second.0 i), second.1)

-- no number begins with the letter of the order
no_letter : (n : ℕ) (x y : List ℕ) → NumberFits n → 111 ∷ x ≡ decimal n ++ y → ⊥
no_letter n x y fits same =
    let bad : false ≡ true = ap starts_with_digit same ∙ number_begins n y fits in
    cc

-- places
place_apart : (replicas : ℕ) → Tells starts_with_digit NumberFits (place_text replicas)
place_apart replicas a b x y fa fb hx hy same = go (a == replicas) (b == replicas) refl refl same
  where
    go : (s t : Bool) → (a == replicas) ≡ s → (b == replicas) ≡ t → cond s (codes "o") (decimal a) ++ x ≡ cond t (codes "o") (decimal b) ++ y → (a ≡ b) × (x ≡ y)
    go true true is also same = (eqb-true a replicas is ∙ sym (eqb-true b replicas also), ap (drop 1) same)
    go true false is also same = absurd (no_letter b x y fb same)
    go false true is also same = absurd (no_letter a y x fa (sym same))
    go false false is also same = number_apart a b x y fa fb hx hy same

-- spots
pub spot_apart : (replicas : ℕ) → Tells starts_with_digit SpotFits (spot_text replicas)
spot_apart replicas a b x y fa fb hx hy same =
    let first = first_apart starts_with_digit NumberFits (place_text replicas) (place_apart replicas) a.place b.place _ _ _ _ fa.0 fb.0 same refl refl in
    let second = number_apart a.number b.number x y fa.1 fb.1 hx hy (ap (drop 1) first.1) in
    (λ i. record { place = first.0 i; number = second.0 i }, second.1)

-- clients and replicas
pub actor_apart : Tells starts_with_digit ActorFits actor_text
actor_apart (Client a) (Client b) x y fa fb hx hy same =
    let one = number_apart a b x y fa fb hx hy (ap (drop 1) same) in
    (ap Client one.0, one.1)
actor_apart (Replica a) (Replica b) x y fa fb hx hy same =
    let one = number_apart a b x y fa fb hx hy (ap (drop 1) same) in
    (ap Replica one.0, one.1)
actor_apart (Client a) (Replica b) x y fa fb hx hy same = unlike 0 _ _ refl same
actor_apart (Replica a) (Client b) x y fa fb hx hy same = unlike 0 _ _ refl same

-- the text begins with a hyphen
abbrev pub starts_with_hyphen : List ℕ → Bool
starts_with_hyphen text = eqb (get_or text 0 0) 45

-- no text of what fits begins with a hyphen
abbrev pub Shows : {A : Type 0} → (A → Type 0) → (A → List ℕ) → Type 0
Shows {A} Fits text = (a : A) (rest : List ℕ) → Fits a → starts_with_hyphen (text a ++ rest) ≡ false

-- a digit is no hyphen
digit_shows : (text : List ℕ) → starts_with_digit text ≡ true → starts_with_hyphen text ≡ false
digit_shows [] is = refl
digit_shows (x ∷ text) is = grind (arith, nat_tests)

-- no number, call, mark or spot begins with a hyphen
pub number_shows : Shows NumberFits decimal
number_shows n rest fits = digit_shows (decimal n ++ rest) (number_begins n rest fits)

-- nor does what begins with a number
number_and_more : (n : ℕ) (more rest : List ℕ) → NumberFits n → starts_with_hyphen ((decimal n ++ more) ++ rest) ≡ false
number_and_more n more rest fits = ap starts_with_hyphen (append_assoc (decimal n) more rest) ∙ number_shows n (more ++ rest) fits

pub cid_shows : Shows CidFits cid_text
cid_shows cid rest fits = number_and_more cid.client (46 ∷ decimal cid.seq) rest fits.0

pub mark_shows : Shows MarkFits mark_text
mark_shows mark rest fits = number_and_more mark.0 (47 ∷ decimal mark.1) rest fits.0

pub spot_shows : (replicas : ℕ) → Shows SpotFits (spot_text replicas)
spot_shows replicas spot rest fits = go (spot.place == replicas)
  where
    go : (s : Bool) → starts_with_hyphen ((cond s (codes "o") (decimal spot.place) ++ 58 ∷ decimal spot.number) ++ rest) ≡ false
    go true = refl
    go false = number_and_more spot.place (58 ∷ decimal spot.number) rest fits.0

-- what does not go on does not go on with a digit
over : (text : List ℕ) → goes_on text ≡ false → starts_with_digit text ≡ false
over [] is = refl
over (x ∷ text) is = grind (arith, nat_tests)

-- lists whose elements have a mark between each two
module _ {A : Type 0} (Fits : A → Type 0) (text : A → List ℕ) (tells : Tells starts_with_digit Fits text) (mark : ℕ) (other : is_digit mark ≡ false) (above : ltb 32 mark ≡ true) where
  -- what stands behind an element does not go on with a digit
  rest_over : (rows : List A) (x : List ℕ) → goes_on x ≡ false → starts_with_digit (flat_map (λ row. mark ∷ text row) rows ++ x) ≡ false
  rest_over [] x hx = over x hx
  rest_over (row ∷ rows) x hx = other

  -- the elements behind the first
  rest_apart : (rows others : List A) (x y : List ℕ) → All Fits rows → All Fits others → goes_on x ≡ false → goes_on y ≡ false → flat_map (λ row. mark ∷ text row) rows ++ x ≡ flat_map (λ row. mark ∷ text row) others ++ y → (rows ≡ others) × (x ≡ y)
  rest_apart [] [] x y fa fb hx hy same = (refl, same)
  rest_apart [] (b ∷ others) x y fa fb hx hy same =
      let bad : false ≡ true = sym hx ∙ ap goes_on same ∙ above in
      absurd (cc)
  rest_apart (a ∷ rows) [] x y fa fb hx hy same =
      let bad : true ≡ false = sym above ∙ ap goes_on same ∙ hy in
      absurd (cc)
  rest_apart (a ∷ rows) (b ∷ others) x y fa fb hx hy same =
      let first = first_apart starts_with_digit Fits text tells a b _ _ _ _ (All-head Fits a rows fa) (All-head Fits b others fb) (ap (drop 1) same) (rest_over rows x hx) (rest_over others y hy) in
      let more = rest_apart rows others x y (All-tail Fits a rows fa) (All-tail Fits b others fb) hx hy first.1 in
      (λ i. first.0 i ∷ more.0 i, more.1)

  -- the whole list
  pub list_apart : Shows Fits text → Tells goes_on (All Fits) (joined_by (mark ∷ []) text)
  list_apart shows [] [] x y fa fb hx hy same = (refl, ap (drop 1) same)
  list_apart shows [] (b ∷ others) x y fa fb hx hy same =
      let bad : true ≡ false = ap starts_with_hyphen (same ∙ append_assoc (text b) _ y) ∙ shows b _ (All-head Fits b others fb) in
      absurd (cc)
  list_apart shows (a ∷ rows) [] x y fa fb hx hy same =
      let bad : true ≡ false = ap starts_with_hyphen (sym same ∙ append_assoc (text a) _ x) ∙ shows a _ (All-head Fits a rows fa) in
      absurd (cc)
  list_apart shows (a ∷ rows) (b ∷ others) x y fa fb hx hy same =
      let first = first_apart starts_with_digit Fits text tells a b _ _ _ _ (All-head Fits a rows fa) (All-head Fits b others fb) same (rest_over rows x hx) (rest_over others y hy) in
      let more = rest_apart rows others x y (All-tail Fits a rows fa) (All-tail Fits b others fb) hx hy first.1 in
      (λ i. first.0 i ∷ more.0 i, more.1)
