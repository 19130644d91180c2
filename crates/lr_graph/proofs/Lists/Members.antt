-- Elements of lists: facts about each, tests of all and of any, filtering and finding.
use Rattle.std.proofs.Common.{◌≡◌, ◌≤◌, Bool, true, false, cond, ◌⊎◌, inl, inr, List, [], ◌∷◌, ◌++◌, length, filter, find, Option, Some, None, refl, sym, ap, ◌∙◌, subst, true≢false, arith}
use Rattle.std.specs.List.{list_all, list_any}
use Rattle.lr_base.specs.Orders.{IsAmong}
use Rattle.lr_graph.specs.Closed.{Each}
use Rattle.lr_graph.proofs.Lists.Tests.{and-intro, and-left, and-right, or-cases, or-left, or-right}

module _ {A : Type 0} where
  pub each-at : (P : A → Type 0) (x : A) (xs : List A) → Each P xs → IsAmong x xs → P x
  each-at P x [] all member = absurd member
  each-at P x (y ∷ xs) all (inl e) = let Q : A → Type 0 = P in subst Q (sym e) all.0
  each-at P x (y ∷ xs) all (inr member) = each-at P x xs all.1 member

  pub each-from : (P : A → Type 0) (xs : List A) → ((x : A) → IsAmong x xs → P x) → Each P xs
  each-from P [] h = tt
  each-from P (y ∷ xs) h = (h y (inl refl), each-from P xs (λ x member. h x (inr member)))

  pub each-map : (P Q : A → Type 0) (xs : List A) → ((x : A) → P x → Q x) → Each P xs → Each Q xs
  each-map P Q [] f all = tt
  each-map P Q (x ∷ xs) f all = (f x all.0, each-map P Q xs f all.1)

  pub each-append : (P : A → Type 0) (xs ys : List A) → Each P xs → Each P ys → Each P (xs ++ ys)
  each-append P [] ys first second = second
  each-append P (x ∷ xs) ys first second = (first.0, each-append P xs ys first.1 second)

  pub among-left : (x : A) (xs ys : List A) → IsAmong x xs → IsAmong x (xs ++ ys)
  among-left x [] ys member = absurd member
  among-left x (y ∷ xs) ys (inl e) = inl e
  among-left x (y ∷ xs) ys (inr member) = inr (among-left x xs ys member)

  pub among-right : (x : A) (xs ys : List A) → IsAmong x ys → IsAmong x (xs ++ ys)
  among-right x [] ys member = member
  among-right x (y ∷ xs) ys member = inr (among-right x xs ys member)

  -- ---- tests of all and of any

  pub list_all-each : (p : A → Bool) (xs : List A) → list_all p xs ≡ true → Each (λ x. p x ≡ true) xs
  list_all-each p [] e = tt
  list_all-each p (x ∷ xs) e = (and-left (p x) _ e, list_all-each p xs (and-right (p x) _ e))

  pub each-list_all : (p : A → Bool) (xs : List A) → Each (λ x. p x ≡ true) xs → list_all p xs ≡ true
  each-list_all p [] all = refl
  each-list_all p (x ∷ xs) all = and-intro (p x) _ all.0 (each-list_all p xs all.1)

  pub list_any-among : (p : A → Bool) (xs : List A) → list_any p xs ≡ true → (x : A) × IsAmong x xs × (p x ≡ true)
  list_any-among p [] e = absurd (true≢false (sym e))
  list_any-among p (y ∷ xs) e = by_case (list_any-among p xs) (or-cases (p y) _ e)
    where
      by_case : (list_any p xs ≡ true → (x : A) × IsAmong x xs × (p x ≡ true)) → (p y ≡ true) ⊎ (list_any p xs ≡ true) → (x : A) × IsAmong x (y ∷ xs) × (p x ≡ true)
      by_case rest (inl h) = (y, inl refl, h)
      by_case rest (inr h) = let found = rest h in (found.0, inr found.1, found.2)

  pub among-list_any : (p : A → Bool) (x : A) (xs : List A) → IsAmong x xs → p x ≡ true → list_any p xs ≡ true
  among-list_any p x [] member h = absurd member
  among-list_any p x (y ∷ xs) (inl e) h = or-left (p y) _ (ap p (sym e) ∙ h)
  among-list_any p x (y ∷ xs) (inr member) h = or-right (p y) _ (among-list_any p x xs member h)

  -- ---- finding

  pub find-some : (p : A → Bool) (xs : List A) (x : A) → find p xs ≡ Some x → IsAmong x xs × (p x ≡ true)
  find-some p [] x e = absurd (none_some e)
    where
      none_some : ◌≡◌ {A = Option A} None (Some x) → ⊥
      none_some e = cc
  find-some p (y ∷ xs) x e = at_head (p y) refl e (find-some p xs x)
    where
      at_head : (t : Bool) → p y ≡ t → cond t (Some y) (find p xs) ≡ Some x → (find p xs ≡ Some x → IsAmong x xs × (p x ≡ true)) → IsAmong x (y ∷ xs) × (p x ≡ true)
      at_head true h e rest = let same : y ≡ x = cc in (inl (sym same), ap p (sym same) ∙ h)
      at_head false h e rest = let found = rest e in (inr found.0, found.1)

  pub find-none : (p : A → Bool) (xs : List A) → find p xs ≡ None → Each (λ x. p x ≡ false) xs
  find-none p [] e = tt
  find-none p (y ∷ xs) e = at_head (p y) refl e (find-none p xs)
    where
      at_head : (t : Bool) → p y ≡ t → cond t (Some y) (find p xs) ≡ None → (find p xs ≡ None → Each (λ x. p x ≡ false) xs) → Each (λ x. p x ≡ false) (y ∷ xs)
      at_head true h e rest = absurd (some_none e)
        where
          some_none : Some y ≡ None → ⊥
          some_none e = cc
      at_head false h e rest = (h, rest e)

  pub find-passed : (p : A → Bool) (xs : List A) → Each (λ x. p x ≡ false) xs → find p xs ≡ None
  find-passed p [] all = refl
  find-passed p (y ∷ xs) all = ap (λ t. cond t (Some y) (find p xs)) all.0 ∙ find-passed p xs all.1

  -- ---- filtering

  pub filter-each : (P : A → Type 0) (p : A → Bool) (xs : List A) → Each P xs → Each (λ x. P x × (p x ≡ true)) (filter p xs)
  filter-each P p [] all = tt
  filter-each P p (y ∷ xs) all = at_head (p y) refl (filter-each P p xs all.1)
    where
      at_head : (t : Bool) → p y ≡ t → Each (λ x. P x × (p x ≡ true)) (filter p xs) → Each (λ x. P x × (p x ≡ true)) (cond t (y ∷ filter p xs) (filter p xs))
      at_head true e rest = ((all.0, e), rest)
      at_head false e rest = rest

  pub among-filter : (p : A → Bool) (x : A) (xs : List A) → IsAmong x xs → p x ≡ true → IsAmong x (filter p xs)
  among-filter p x [] member h = absurd member
  among-filter p x (y ∷ xs) (inl e) h = at_head (p y) (ap p (sym e) ∙ h)
    where
      at_head : (t : Bool) → t ≡ true → IsAmong x (cond t (y ∷ filter p xs) (filter p xs))
      at_head true q = inl e
      at_head false q = absurd (true≢false (sym q))
  among-filter p x (y ∷ xs) (inr member) h = at_head (p y) (among-filter p x xs member h)
    where
      at_head : (t : Bool) → IsAmong x (filter p xs) → IsAmong x (cond t (y ∷ filter p xs) (filter p xs))
      at_head true rest = inr rest
      at_head false rest = rest

  pub length-filter : (p : A → Bool) (xs : List A) → length (filter p xs) ≤ length xs
  length-filter p [] = omega arith
  length-filter p (y ∷ xs) = at_head (p y) (length-filter p xs)
    where
      at_head : (t : Bool) → length (filter p xs) ≤ length xs → length (cond t (y ∷ filter p xs) (filter p xs)) ≤ length (y ∷ xs)
      at_head true h = omega arith
      at_head false h = omega arith
