-- The executed calls that a state line lists, in the graph and by the rules.
use Rattle.std.proofs.Common.{◌≡◌, Bool, true, false, cond, not, ◌⊎◌, inl, inr, List, [], ◌∷◌, filter, map, Some, None, is_some, refl, sym, ap, ◌∙◌, true≢false, arith}
use Rattle.std.proofs.lemmas.Bool.Decides.{nat_tests}
use Rattle.lr_base.specs.Ascending.{cid_before, same_cid}
use Rattle.lr_base.specs.Calls.{AreByCall}
use Rattle.lr_base.specs.Orders.{IsAmong}
use Rattle.lr_base.specs.InsertionLaws.{among-inserted, ascends-filter, ascends-inserted, each-inserted}
use Rattle.lr_base.specs.NameLaws.{cid-apart, cid-trans, same_cid-is, same_cid-self}
use Rattle.lr_base.specs.Rules.{known_of}
use Rattle.lr_base.specs.declared.messages.Known.{Known}
use Rattle.lr_base.specs.declared.names.Cid.{Cid}
use Rattle.lr_graph.specs.Closed.{Each}
use Rattle.lr_graph.specs.Graph.{Acceptance, calls_of, has_call}
use Rattle.lr_graph.specs.Sets.{SpotSet, insert_call}
use Rattle.lr_graph.proofs.Lists.Ascents.{Ascends, same-ascents}
use Rattle.lr_graph.proofs.Lists.Members.{among-filter, each-at, each-from, each-map, filter-each}
use Rattle.lr_graph.proofs.Sets.Values.{has_call-holds}

-- ---- by the rules

each-keys : (P : Cid → Type 0) (calls : List (Cid × Known)) → Each (λ e. P e.0) calls → Each P (map (λ e. e.0) calls)
each-keys P [] h = tt
each-keys P (e ∷ calls) h = (h.0, each-keys P calls h.1)

ascends-keys : (calls : List (Cid × Known)) → AreByCall calls → Ascends cid_before (map (λ e. e.0) calls)
ascends-keys [] h = tt
ascends-keys (e ∷ calls) h = (each-keys (λ c. cid_before e.0 c ≡ true) calls h.0, ascends-keys calls h.1)

among-keys : (calls : List (Cid × Known)) (cid : Cid) → is_some (known_of calls cid) ≡ true → IsAmong cid (map (λ e. e.0) calls)
among-keys [] cid e = absurd (true≢false (sym e))
among-keys (f ∷ calls) cid e = at_head (same_cid cid f.0) refl e (among-keys calls cid)
  where
    at_head : (t : Bool) → same_cid cid f.0 ≡ t → is_some (cond t (Some f.1) (known_of calls cid)) ≡ true → (is_some (known_of calls cid) ≡ true → IsAmong cid (map (λ e. e.0) calls))
        → IsAmong cid (f.0 ∷ map (λ e. e.0) calls)
    at_head true q e rest = inl (same_cid-is cid f.0 q)
    at_head false q e rest = inr (rest e)

-- a call of the table is known
each-known : (calls more : List (Cid × Known)) → ((cid : Cid) → is_some (known_of calls cid) ≡ true → is_some (known_of more cid) ≡ true) → Each (λ e. is_some (known_of more e.0) ≡ true) calls
each-known [] more into = tt
each-known (e ∷ calls) more into =
    (into e.0 (ap (λ t. is_some (cond t (Some e.1) (known_of calls e.0))) (same_cid-self e.0)), each-known calls more (λ cid h. into cid (behind cid (same_cid cid e.0) h)))
  where
    behind : (cid : Cid) (t : Bool) → is_some (known_of calls cid) ≡ true → is_some (cond t (Some e.1) (known_of calls cid)) ≡ true
    behind cid true h = refl
    behind cid false h = h

-- ---- in the graph

module _ (cid : Cid) where
  each-insert_call : (P : Cid → Type 0) (cids : List Cid) → P cid → Each P cids → Each P (insert_call cid cids)
  each-insert_call P cids own all = each-inserted same_cid cid_before cid P cids own all

  among-insert_call : (y : Cid) (cids : List Cid) → (y ≡ cid) ⊎ IsAmong y cids → IsAmong y (insert_call cid cids)
  among-insert_call y cids either = among-inserted same_cid cid_before cid (same_cid-is cid) y cids either

  ascends-insert_call : (cids : List Cid) → Ascends cid_before cids → Ascends cid_before (insert_call cid cids)
  ascends-insert_call cids h = ascends-inserted same_cid cid_before cid cid_before (cid-trans cid) cids (each-from _ cids (λ x member. by_test x)) h
    where
      by_test : (x : Cid) (t : Bool) → same_cid cid x ≡ false → cid_before cid x ≡ t → cond t (cid_before cid x) (cid_before x cid) ≡ true
      by_test x true other e = e
      by_test x false other e = grind (arith, nat_tests)

module _ {Op : Type 0} where
  pub each-calls_of : (P : Cid → Type 0) (l : List (Acceptance Op)) (x : SpotSet) → Each (λ a. x a.spot ≡ true → P a.cid) l → Each P (calls_of l x)
  each-calls_of P [] x h = tt
  each-calls_of P (a ∷ l) x h = at_head (x a.spot) refl (each-calls_of P l x h.1)
    where
      at_head : (t : Bool) → x a.spot ≡ t → Each P (calls_of l x) → Each P (cond t (insert_call a.cid (calls_of l x)) (calls_of l x))
      at_head true e rest = each-insert_call a.cid P (calls_of l x) (h.0 e) rest
      at_head false e rest = rest

  pub among-calls_of : (l : List (Acceptance Op)) (x : SpotSet) (a : Acceptance Op) → IsAmong a l → x a.spot ≡ true → IsAmong a.cid (calls_of l x)
  among-calls_of [] x a member here = absurd member
  among-calls_of (b ∷ l) x a (inl e) here = at_head (x b.spot) (ap (λ (c : Acceptance Op). x c.spot) (sym e) ∙ here)
    where
      at_head : (t : Bool) → t ≡ true → IsAmong a.cid (cond t (insert_call b.cid (calls_of l x)) (calls_of l x))
      at_head true q = among-insert_call b.cid a.cid (calls_of l x) (inl (ap (λ (c : Acceptance Op). c.cid) e))
      at_head false q = absurd (true≢false (sym q))
  among-calls_of (b ∷ l) x a (inr member) here = at_head (x b.spot) (among-calls_of l x a member here)
    where
      at_head : (t : Bool) → IsAmong a.cid (calls_of l x) → IsAmong a.cid (cond t (insert_call b.cid (calls_of l x)) (calls_of l x))
      at_head true rest = among-insert_call b.cid a.cid (calls_of l x) (inr rest)
      at_head false rest = rest

  pub ascends-calls_of : (l : List (Acceptance Op)) (x : SpotSet) → Ascends cid_before (calls_of l x)
  ascends-calls_of [] x = tt
  ascends-calls_of (a ∷ l) x = at_head (x a.spot) (ascends-calls_of l x)
    where
      at_head : (t : Bool) → Ascends cid_before (calls_of l x) → Ascends cid_before (cond t (insert_call a.cid (calls_of l x)) (calls_of l x))
      at_head true rest = ascends-insert_call a.cid (calls_of l x) rest
      at_head false rest = rest

  -- a table with those calls of a set that pass a test is listed as these are
  pub calls-table : (l : List (Acceptance Op)) (x : SpotSet) (keep : Cid → Bool) (calls : List (Cid × Known)) → AreByCall calls
      → ((cid : Cid) → is_some (known_of calls cid) ≡ keep cid) → ((cid : Cid) → keep cid ≡ true → has_call l x cid ≡ true) → filter keep (calls_of l x) ≡ map (λ e. e.0) calls
  calls-table l x keep calls apart known within =
      same-ascents cid_before cid-apart cid-trans (filter keep (calls_of l x)) (map (λ e. e.0) calls) (ascends-filter cid_before keep (calls_of l x) (ascends-calls_of l x)) (ascends-keys calls apart)
      (λ cid member. (let h = each-at _ cid (filter keep (calls_of l x)) (filter-each (λ c. IsAmong c (calls_of l x)) keep (calls_of l x) (each-from _ (calls_of l x) (λ c k. k))) member in among-keys calls cid (known cid ∙ h.1)))
      (λ cid member. each-at _ cid (map (λ e. e.0) calls) (each-keys (λ c. IsAmong c (filter keep (calls_of l x))) calls
      (each-map _ _ calls (λ e h. back e.0 (sym (known e.0) ∙ h)) (each-known calls calls (λ c h. h)))) member)
    where
      back : (cid : Cid) → keep cid ≡ true → IsAmong cid (filter keep (calls_of l x))
      back cid h =
          let a = has_call-holds l x cid (within cid h) in
          among-filter keep cid (calls_of l x) (Rattle.std.proofs.Common.subst (λ (c : Cid). IsAmong c (calls_of l x)) a.3 (among-calls_of l x a.0 a.1 a.2)) h
