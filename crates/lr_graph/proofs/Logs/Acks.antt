-- The acknowledgements that pass a test, in the order of spots: the list that the rules keep.
use Rattle.std.proofs.Common.{◌≡◌, suc, Bool, true, false, cond, ◌&&◌, ◌⊎◌, inl, inr, List, [], ◌∷◌, length, filter, refl, sym, ap, ◌∙◌, true≢false}
use Rattle.lr_base.specs.Ascending.{is_before}
use Rattle.lr_base.specs.Insertion.{insert_all_by, insert_by}
use Rattle.lr_base.specs.InsertionLaws.{among-inserted, ascends-filter, ascends-inserted, each-inserted, length-inserted}
use Rattle.lr_base.specs.Orders.{IsAmong}
use Rattle.lr_base.specs.declared.messages.LogAck.{LogAck}
use Rattle.lr_graph.specs.Closed.{Each}
use Rattle.lr_graph.specs.Graph.{acks_of}
use Rattle.lr_graph.specs.Sets.{how_many}
use Rattle.lr_graph.proofs.Lists.Ascents.{Ascends, same-ascents}
use Rattle.lr_graph.proofs.Lists.Members.{among-filter, each-at, each-from, each-map, filter-each}
use Rattle.lr_graph.proofs.Lists.Tests.{and-intro, and-left, and-right}
use Rattle.lr_graph.proofs.Logs.Orders.{before-apart, before-trans, behind-shown}

-- whether an acknowledgement's spot comes before another's
abbrev pub ack_before : LogAck → LogAck → Bool
ack_before a b = is_before a.spot b.spot

-- no two have one spot
abbrev pub HasApartAcks : List LogAck → Type 0
HasApartAcks [] = Unit {0}
HasApartAcks (a ∷ older) = Each (λ b. a.spot ≡ b.spot → ⊥) older × HasApartAcks older

-- ---- one more

module _ (a : LogAck) where
  each-put : (P : LogAck → Type 0) (xs : List LogAck) → P a → Each P xs → Each P (insert_by ack_before a xs)
  each-put P xs own all = each-inserted (λ x y. false) ack_before a P xs own all

  among-put : (y : LogAck) (xs : List LogAck) → (y ≡ a) ⊎ IsAmong y xs → IsAmong y (insert_by ack_before a xs)
  among-put y xs place = among-inserted (λ x y. false) ack_before a (λ x no. absurd (true≢false (sym no))) y xs place

  ascends-put : (xs : List LogAck) → Each (λ x. a.spot ≡ x.spot → ⊥) xs → Ascends ack_before xs → Ascends ack_before (insert_by ack_before a xs)
  ascends-put xs apart h =
      ascends-inserted (λ x y. false) ack_before a ack_before (λ x y. before-trans a.spot x.spot y.spot) xs (each-map _ _ xs (λ x out t no e. by_test x out t e) apart) h
    where
      by_test : (x : LogAck) → (a.spot ≡ x.spot → ⊥) → (t : Bool) → ack_before a x ≡ t → cond t (ack_before a x) (ack_before x a) ≡ true
      by_test x out true e = e
      by_test x out false e = behind-shown a.spot x.spot out e

-- ---- what is listed

pub each-acks : (P : LogAck → Type 0) (test : LogAck → Bool) (all : List LogAck) → Each (λ a. test a ≡ true → P a) all → Each P (acks_of test all)
each-acks P test [] h = tt
each-acks P test (a ∷ all) h = at_head (test a) refl (each-acks P test all h.1)
  where
    at_head : (t : Bool) → test a ≡ t → Each P (acks_of test all) → Each P (cond t (insert_by ack_before a (acks_of test all)) (acks_of test all))
    at_head true e rest = each-put a P (acks_of test all) (h.0 e) rest
    at_head false e rest = rest

pub among-acks : (test : LogAck → Bool) (all : List LogAck) (a : LogAck) → IsAmong a all → test a ≡ true → IsAmong a (acks_of test all)
among-acks test [] a member here = absurd member
among-acks test (b ∷ all) a (inl e) here = at_head (test b) (ap test (sym e) ∙ here)
  where
    at_head : (t : Bool) → t ≡ true → IsAmong a (cond t (insert_by ack_before b (acks_of test all)) (acks_of test all))
    at_head true q = among-put b a (acks_of test all) (inl e)
    at_head false q = absurd (true≢false (sym q))
among-acks test (b ∷ all) a (inr member) here = at_head (test b) (among-acks test all a member here)
  where
    at_head : (t : Bool) → IsAmong a (acks_of test all) → IsAmong a (cond t (insert_by ack_before b (acks_of test all)) (acks_of test all))
    at_head true rest = among-put b a (acks_of test all) (inr rest)
    at_head false rest = rest

pub acks-among : (test : LogAck → Bool) (all : List LogAck) (a : LogAck) → IsAmong a (acks_of test all) → IsAmong a all × (test a ≡ true)
acks-among test all a member = each-at (λ (x : LogAck). IsAmong x all × (test x ≡ true)) a (acks_of test all) (each-acks _ test all (each-from _ all (λ x in_all e. (in_all, e)))) member

pub ascends-acks : (test : LogAck → Bool) (all : List LogAck) → HasApartAcks all → Ascends ack_before (acks_of test all)
ascends-acks test [] apart = tt
ascends-acks test (a ∷ all) apart = at_head (test a) (ascends-acks test all apart.1)
  where
    at_head : (t : Bool) → Ascends ack_before (acks_of test all) → Ascends ack_before (cond t (insert_by ack_before a (acks_of test all)) (acks_of test all))
    at_head true rest = ascends-put a (acks_of test all) (each-acks (λ (b : LogAck). a.spot ≡ b.spot → ⊥) test all (each-map _ _ all (λ b k e. k) apart.0)) rest
    at_head false rest = rest

-- an ascending list of just those that pass is this one
pub acks-are : (test : LogAck → Bool) (all xs : List LogAck) → HasApartAcks all → Ascends ack_before xs → ((a : LogAck) → IsAmong a xs → IsAmong a all × (test a ≡ true)) → ((a : LogAck) → IsAmong a all → test a ≡ true → IsAmong a xs) → xs ≡ acks_of test all
acks-are test all xs apart ascends each every =
    same-ascents ack_before (λ a b e same. before-apart a.spot b.spot e (ap (λ (x : LogAck). x.spot) same)) (λ a b c. before-trans a.spot b.spot c.spot) xs (acks_of test all) ascends (ascends-acks test all apart)
    (λ a member. let h = each a member in among-acks test all a h.0 h.1) (λ a member. let h = acks-among test all a member in every a h.0 h.1)

-- tests that agree list the same
pub acks-same : (f g : LogAck → Bool) (all : List LogAck) → Each (λ a. f a ≡ g a) all → acks_of f all ≡ acks_of g all
acks-same f g [] same = refl
acks-same f g (a ∷ all) same = λ i. cond (same.0 i) (insert_by ack_before a (acks-same f g all same.1 i)) (acks-same f g all same.1 i)

-- there are as many as pass
pub length-acks : (test : LogAck → Bool) (all : List LogAck) → length (acks_of test all) ≡ how_many test all
length-acks test [] = refl
length-acks test (a ∷ all) = at_head (test a) (length-acks test all)
  where
    at_head : (t : Bool) → length (acks_of test all) ≡ how_many test all → length (cond t (insert_by ack_before a (acks_of test all)) (acks_of test all)) ≡ cond t (suc (how_many test all)) (how_many test all)
    at_head true rest = length-inserted ack_before a (acks_of test all) ∙ ap suc rest
    at_head false rest = rest

-- ---- what passes another test too, and what comes

pub filter-acks : (test keep : LogAck → Bool) (all : List LogAck) → HasApartAcks all → filter keep (acks_of test all) ≡ acks_of (λ a. test a && keep a) all
filter-acks test keep all apart =
    acks-are (λ a. test a && keep a) all (filter keep (acks_of test all)) apart (ascends-filter ack_before keep (acks_of test all) (ascends-acks test all apart))
    (λ a member. let h = each-at _ a (filter keep (acks_of test all)) (filter-each (λ x. IsAmong x (acks_of test all)) keep (acks_of test all) (each-from _ (acks_of test all) (λ x k. k))) member in let k = acks-among test all a h.0 in (k.0, and-intro (test a) _ k.1 h.1))
    (λ a member e. among-filter keep a (acks_of test all) (among-acks test all a member (and-left (test a) _ e)) (and-right (test a) _ e))

each-puts : (P : LogAck → Type 0) (more xs : List LogAck) → Each P more → Each P xs → Each P (insert_all_by ack_before more xs)
each-puts P [] xs new old = old
each-puts P (a ∷ more) xs new old = each-puts P more (insert_by ack_before a xs) new.1 (each-put a P xs new.0 old)

among-puts : (y : LogAck) (more xs : List LogAck) → IsAmong y more ⊎ IsAmong y xs → IsAmong y (insert_all_by ack_before more xs)
among-puts y [] xs (inl member) = absurd member
among-puts y [] xs (inr member) = member
among-puts y (a ∷ more) xs (inl (inl e)) = among-puts y more (insert_by ack_before a xs) (inr (among-put a y xs (inl e)))
among-puts y (a ∷ more) xs (inl (inr member)) = among-puts y more (insert_by ack_before a xs) (inl member)
among-puts y (a ∷ more) xs (inr member) = among-puts y more (insert_by ack_before a xs) (inr (among-put a y xs (inr member)))

ascends-puts : (more xs : List LogAck) → Ascends ack_before more → Each (λ a. Each (λ x. a.spot ≡ x.spot → ⊥) xs) more → Ascends ack_before xs → Ascends ack_before (insert_all_by ack_before more xs)
ascends-puts [] xs new apart h = h
ascends-puts (a ∷ more) xs new apart h =
    ascends-puts more (insert_by ack_before a xs) new.1
    (each-from _ more (λ b member. each-put a (λ x. b.spot ≡ x.spot → ⊥) xs (λ same. before-apart a.spot b.spot (each-at _ b more new.0 member) (sym same)) (each-at _ b more apart.1 member)))
    (ascends-put a xs apart.0 h)

-- two of one spot are one
pub one-ack : (all : List LogAck) → HasApartAcks all → (a b : LogAck) → IsAmong a all → IsAmong b all → a.spot ≡ b.spot → a ≡ b
one-ack [] apart a b p q e = absurd p
one-ack (x ∷ all) apart a b (inl p) (inl q) e = p ∙ sym q
one-ack (x ∷ all) apart a b (inl p) (inr q) e = absurd (each-at _ b all apart.0 q (ap (λ (y : LogAck). y.spot) (sym p) ∙ e))
one-ack (x ∷ all) apart a b (inr p) (inl q) e = absurd (each-at _ a all apart.0 p (ap (λ (y : LogAck). y.spot) (sym q) ∙ sym e))
one-ack (x ∷ all) apart a b (inr p) (inr q) e = one-ack all apart.1 a b p q e

-- inserting those of one test among those of another, which has none of these: those of either test
pub puts-acks : (f g h : LogAck → Bool) (all : List LogAck) → HasApartAcks all → Each (λ a. (f a ≡ true → g a ≡ true → ⊥) × (h a ≡ true → (f a ≡ true) ⊎ (g a ≡ true)) × (f a ≡ true → h a ≡ true) × (g a ≡ true → h a ≡ true)) all
    → insert_all_by ack_before (acks_of f all) (acks_of g all) ≡ acks_of h all
puts-acks f g h all apart tests =
    acks-are h all (insert_all_by ack_before (acks_of f all) (acks_of g all)) apart
    (ascends-puts (acks_of f all) (acks_of g all) (ascends-acks f all apart)
    (each-from _ (acks_of f all) (λ a in_f. each-from _ (acks_of g all) (λ b in_g same.
    let p = acks-among f all a in_f in let q = acks-among g all b in_g in
    (each-at _ a all tests p.0).0 p.1 (ap g (one-ack all apart a b p.0 q.0 same) ∙ q.1))))
    (ascends-acks g all apart))
    (λ a member. each-at (λ (x : LogAck). IsAmong x all × (h x ≡ true)) a (insert_all_by ack_before (acks_of f all) (acks_of g all))
    (each-puts _ (acks_of f all) (acks_of g all)
    (each-from _ (acks_of f all) (λ x k. let p = acks-among f all x k in (p.0, (each-at _ x all tests p.0).2 p.1)))
    (each-from _ (acks_of g all) (λ x k. let q = acks-among g all x k in (q.0, (each-at _ x all tests q.0).3 q.1)))) member)
    (λ a member e. by_test a member ((each-at _ a all tests member).1 e))
  where
    by_test : (a : LogAck) → IsAmong a all → (f a ≡ true) ⊎ (g a ≡ true) → IsAmong a (insert_all_by ack_before (acks_of f all) (acks_of g all))
    by_test a member (inl k) = among-puts a (acks_of f all) (acks_of g all) (inl (among-acks f all a member k))
    by_test a member (inr k) = among-puts a (acks_of f all) (acks_of g all) (inr (among-acks g all a member k))
