-- Changes of one name's value in a table: two that commute at one name commute.
use Rattle.std.proofs.Common.{◌≡◌, Bool, true, false, cond, refl, sym, ◌∙◌, ap}
use Rattle.std.specs.Prelude.{Option, Some}
use Rattle.std.specs.Ordering.{nat_cmp, eq_by_cmp}
use Rattle.std.specs.declared.cmp.Ordering.{Ordering}
use Rattle.std.specs.declared.cmp.Ordering.TheVariants.{Less, Equal, Greater}
use Rattle.std.specs.Cmp.Lexicographic.{slice_cmp}
use Rattle.std.specs.FinMap.{get, insert, get-insert, same_map, slice_cmp-IsAntisymmetric, nat_cmp-IsAntisymmetric}
use Rattle.std.proofs.lemmas.Cmp.{nat_list_cmp_total, eq_by_cmp_equiv}
use Rattle.lr_base.specs.Bytes.{Bytes}
use Rattle.lr_words.specs.Tables.{Table}

-- the table with a name's value made anew from the one that it has, if it has one
-- for example: x raised by 3
abbrev pub changed : {V : Type 0} → Table V → Bytes → (Option V → V) → Table V
changed table name change = insert table name (change (get table name))

-- whether two names are one, by their order
-- for example: `a`, `a`
abbrev pub same_name : Bytes → Bytes → Bool
same_name = eq_by_cmp (slice_cmp nat_cmp)

-- names that tie are one
pub same_name-true : (a b : Bytes) → same_name a b ≡ true → a ≡ b
same_name-true a b e = go (slice_cmp nat_cmp a b) refl
  where
    go : (o : Ordering) → slice_cmp nat_cmp a b ≡ o → a ≡ b
    go Equal is = slice_cmp-IsAntisymmetric nat_cmp-IsAntisymmetric a b is
    go Less is = let no : false ≡ true = rw is at e in cc
    go Greater is = let no : false ≡ true = rw is at e in cc

-- a name ties with itself
pub same_name-refl : (a : Bytes) → same_name a a ≡ true
same_name-refl a = (eq_by_cmp_equiv nat_list_cmp_total).refl a

-- and ties hold both ways
pub same_name-symm : (a b : Bytes) → same_name a b ≡ same_name b a
same_name-symm a b = (eq_by_cmp_equiv nat_list_cmp_total).symm a b

module _ {V : Type 0} where
  -- a look-up after a change
  pub get-changed : (table : Table V) (name q : Bytes) (f : Option V → V)
      → get (changed table name f) q ≡ cond (same_name q name) (Some (f (get table name))) (get table q)
  get-changed table name q f = get-insert nat_list_cmp_total table name (f (get table name)) q

  -- the value that was changed
  get-changed-same : (table : Table V) (name : Bytes) (f : Option V → V)
      → get (changed table name f) name ≡ Some (f (get table name))
  get-changed-same table name f = get-changed table name name f
      ∙ ap (λ b. cond b (Some (f (get table name))) (get table name)) (same_name-refl name)

  -- another name's value stays
  get-changed-other : (table : Table V) (name q : Bytes) (f : Option V → V) → same_name q name ≡ false
      → get (changed table name f) q ≡ get table q
  get-changed-other table name q f other = get-changed table name q f
      ∙ ap (λ b. cond b (Some (f (get table name))) (get table q)) other

  -- a look-up after two changes of one name
  twice : (table : Table V) (name q : Bytes) (f g : Option V → V)
      → get (changed (changed table name f) name g) q
      ≡ cond (same_name q name) (Some (g (Some (f (get table name))))) (get table q)
  twice table name q f g =
      get-changed (changed table name f) name q g
      ∙ ap (λ x. cond (same_name q name) (Some (g x)) (get (changed table name f) q)) (get-changed-same table name f)
      ∙ ap (cond (same_name q name) (Some (g (Some (f (get table name)))))) (get-changed table name q f)
      ∙ inner (same_name q name) _ _ _
    where
      inner : (b : Bool) (x y z : Option V) → cond b x (cond b y z) ≡ cond b x z
      inner true x y z = refl
      inner false x y z = refl

  -- a look-up after changes of two names
  apart : (table : Table V) (m n q : Bytes) (f g : Option V → V) → same_name n m ≡ false
      → get (changed (changed table m f) n g) q
      ≡ cond (same_name q n) (Some (g (get table n))) (cond (same_name q m) (Some (f (get table m))) (get table q))
  apart table m n q f g other =
      get-changed (changed table m f) n q g
      ∙ ap (λ x. cond (same_name q n) (Some (g x)) (get (changed table m f) q)) (get-changed-other table m n f other)
      ∙ ap (cond (same_name q n) (Some (g (get table n)))) (get-changed table m q f)

  -- two changes whose order makes no difference at one name give one table
  pub changes-commute : (table : Table V) (m n : Bytes) (f g : Option V → V)
      → ((x : Option V) → g (Some (f x)) ≡ f (Some (g x)))
      → changed (changed table m f) n g ≡ changed (changed table n g) m f
  changes-commute table m n f g swap =
      same_map nat_list_cmp_total (slice_cmp-IsAntisymmetric nat_cmp-IsAntisymmetric) _ _
      (λ q. go q (same_name n m) refl)
    where
      either : (q : Bytes) (a b : Bool) (x y z : Option V) → same_name q n ≡ a → same_name q m ≡ b
          → same_name n m ≡ false → cond a x (cond b y z) ≡ cond b y (cond a x z)
      either q true true x y z e f' other =
          let first : q ≡ n = same_name-true q n e in
          let both : false ≡ true = sym other ∙ ap (λ name. same_name name m) (sym first) ∙ f' in
          cc
      either q true false x y z e f' other = refl
      either q false b x y z e f' other = refl

      go : (q : Bytes) (b : Bool) → same_name n m ≡ b
          → get (changed (changed table m f) n g) q ≡ get (changed (changed table n g) m f) q
      go q true e =
          let one : n ≡ m = same_name-true n m e in
          ap (λ name. get (changed (changed table m f) name g) q) one ∙ twice table m q f g
          ∙ ap (λ c. cond (same_name q m) (Some c) (get table q)) (swap (get table m))
          ∙ sym (ap (λ name. get (changed (changed table name g) m f) q) one ∙ twice table m q g f)
      go q false e = apart table m n q f g e ∙ either q (same_name q n) (same_name q m) _ _ _ refl refl e
          ∙ sym (apart table n m q g f (same_name-symm m n ∙ e))
