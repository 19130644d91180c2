-- The least spot of a call in a set, and the spots that are kept.
use Rattle.std.proofs.Common.{◌≡◌, Bool, true, false, cond, ◌&&◌, ◌||◌, ◌⊎◌, inl, inr, List, [], ◌∷◌, ◌++◌, Option, Some, None, is_some, refl, sym, ap, ◌∙◌, true≢false}
use Rattle.std.specs.List.{list_any}
use Rattle.std.proofs.lemmas.Option.{none-some}
use Rattle.std.specs.Option.{option_or}
use Rattle.lr_base.specs.Ascending.{same_cid, is_before}
use Rattle.lr_base.specs.Orders.{IsAmong}
use Rattle.lr_base.specs.declared.names.Cid.{Cid}
use Rattle.lr_base.specs.declared.names.Spot.{Spot}
use Rattle.lr_graph.specs.Graph.{Acceptance, Kept, has_call, keep_new, keep_one, kept_spot, least_spot}
use Rattle.lr_graph.specs.Sets.{SpotSet, lesser}
use Rattle.lr_base.specs.NameLaws.{before-apart, before-trans}
use Rattle.lr_graph.proofs.Lists.Members.{among-list_any}
use Rattle.lr_graph.proofs.Lists.Tests.{and-intro, and-left, and-right, never, before-once, same_cid-is, same_cid-self}
use Rattle.lr_graph.proofs.Sets.Values.{has_call-holds, holds-has_call}

-- ---- the least spot of a call

-- one of these two spots comes first, if it isn't the other one
abbrev pub IsFirst : Spot → Spot → Type 0
IsFirst a b = (b ≡ a) ⊎ (is_before a b ≡ true)

module _ {Op : Type 0} where
  -- the least spot is that of an acceptance of the call in the set
  pub least_spot-is : (l : List (Acceptance Op)) (x : SpotSet) (cid : Cid) (s : Spot) → least_spot l x cid ≡ Some s
      → (a : Acceptance Op) × IsAmong a l × (x a.spot ≡ true) × (a.cid ≡ cid) × (a.spot ≡ s)
  least_spot-is [] x cid s e = absurd (none-some _ e)
  least_spot-is (a ∷ l) x cid s e = at_newest (x a.spot && same_cid cid a.cid) refl (least_spot l x cid) refl e (least_spot-is l x cid s)
    where
      at_newest : (t : Bool) → (x a.spot && same_cid cid a.cid) ≡ t → (o : Option Spot) → least_spot l x cid ≡ o → cond t (lesser a.spot o) o ≡ Some s
          → (least_spot l x cid ≡ Some s → (b : Acceptance Op) × IsAmong b l × (x b.spot ≡ true) × (b.cid ≡ cid) × (b.spot ≡ s))
          → (b : Acceptance Op) × IsAmong b (a ∷ l) × (x b.spot ≡ true) × (b.cid ≡ cid) × (b.spot ≡ s)
      at_newest false p o q e rest = let b = rest (q ∙ e) in (b.0, inr b.1, b.2, b.3, b.4)
      at_newest true p None q e rest = let is : a.spot ≡ s = cc in (a, inl refl, and-left (x a.spot) _ p, sym (same_cid-is cid a.cid (and-right (x a.spot) _ p)), is)
      at_newest true p (Some b) q e rest = by_order (is_before a.spot b) e
        where
          by_order : (t : Bool) → Some (cond t a.spot b) ≡ Some s → (b : Acceptance Op) × IsAmong b (a ∷ l) × (x b.spot ≡ true) × (b.cid ≡ cid) × (b.spot ≡ s)
          by_order true e = let is : a.spot ≡ s = cc in (a, inl refl, and-left (x a.spot) _ p, sym (same_cid-is cid a.cid (and-right (x a.spot) _ p)), is)
          by_order false e = let b = rest (q ∙ e) in (b.0, inr b.1, b.2, b.3, b.4)

  -- a set has no least spot of a call that it lacks
  pub least_spot-lacks : (l : List (Acceptance Op)) (x : SpotSet) (cid : Cid) → has_call l x cid ≡ false → least_spot l x cid ≡ None
  least_spot-lacks l x cid lacks = by_spot (least_spot l x cid) refl
    where
      by_spot : (o : Option Spot) → least_spot l x cid ≡ o → o ≡ None
      by_spot None e = refl
      by_spot (Some s) e =
          let a = least_spot-is l x cid s e in
          absurd (true≢false (sym (holds-has_call l x cid a.0 a.1 a.2 a.3) ∙ lacks))

  -- what comes before all others of the call is the least spot
  pub least_spot-first : (l : List (Acceptance Op)) (x : SpotSet) (a : Acceptance Op) → IsAmong a l → x a.spot ≡ true
      → ((b : Acceptance Op) → IsAmong b l → x b.spot ≡ true → b.cid ≡ a.cid → IsFirst a.spot b.spot) → least_spot l x a.cid ≡ Some a.spot
  least_spot-first [] x a member here first = absurd member
  least_spot-first (b ∷ l) x a (inl e) here first =
      let test : (x b.spot && same_cid a.cid b.cid) ≡ true = ap (λ (c : Acceptance Op). x c.spot && same_cid a.cid c.cid) (sym e) ∙ and-intro (x a.spot) _ here (same_cid-self a.cid) in
      ap (λ t. cond t (lesser b.spot (least_spot l x a.cid)) (least_spot l x a.cid)) test
      ∙ ap (λ (c : Acceptance Op). lesser c.spot (least_spot l x a.cid)) (sym e)
      ∙ by_others (least_spot l x a.cid) refl
    where
      by_others : (o : Option Spot) → least_spot l x a.cid ≡ o → lesser a.spot o ≡ Some a.spot
      by_others None q = refl
      by_others (Some s) q =
          let c = least_spot-is l x a.cid s q in
          by_order (first c.0 (inr c.1) c.2 c.3) c.4
        where
          by_order : {c : Spot} → IsFirst a.spot c → c ≡ s → Some (cond (is_before a.spot s) a.spot s) ≡ Some a.spot
          by_order (inl one) is = ap Some (chosen (is_before a.spot s))
            where
              chosen : (t : Bool) → cond t a.spot s ≡ a.spot
              chosen true = refl
              chosen false = sym is ∙ one
          by_order (inr before) is = ap (λ t. Some (cond t a.spot s)) (ap (is_before a.spot) (sym is) ∙ before)
  least_spot-first (b ∷ l) x a (inr member) here first =
      ap (λ o. cond (x b.spot && same_cid a.cid b.cid) (lesser b.spot o) o) (least_spot-first l x a member here (λ c in_l. first c (inr in_l)))
      ∙ by_newest (x b.spot && same_cid a.cid b.cid) refl
    where
      by_newest : (t : Bool) → (x b.spot && same_cid a.cid b.cid) ≡ t → cond t (lesser b.spot (Some a.spot)) (Some a.spot) ≡ Some a.spot
      by_newest false p = refl
      by_newest true p = by_order (first b (inl refl) (and-left (x b.spot) _ p) (sym (same_cid-is a.cid b.cid (and-right (x b.spot) _ p))))
        where
          by_order : IsFirst a.spot b.spot → Some (cond (is_before b.spot a.spot) b.spot a.spot) ≡ Some a.spot
          by_order (inl one) = ap Some (chosen (is_before b.spot a.spot))
            where
              chosen : (t : Bool) → cond t b.spot a.spot ≡ a.spot
              chosen true = one
              chosen false = refl
          by_order (inr before) = ap (λ t. Some (cond t b.spot a.spot)) (before-once a.spot b.spot before)

-- a spot isn't before itself
apart-self : (spot : Spot) → is_before spot spot ≡ false
apart-self spot = never _ (λ own. before-apart spot spot own refl)

-- no spot of the call comes before the least one
abbrev pub IsLeast : Option Spot → Spot → Type 0
IsLeast None spot = ⊥
IsLeast (Some least) spot = is_before spot least ≡ false

module _ {Op : Type 0} where
  pub least_spot-least : (l : List (Acceptance Op)) (x : SpotSet) (cid : Cid) (a : Acceptance Op) → IsAmong a l
      → x a.spot ≡ true → a.cid ≡ cid → IsLeast (least_spot l x cid) a.spot
  least_spot-least [] x cid a member here own = absurd member
  least_spot-least (b ∷ l) x cid a (inl e) here own =
      let test : (x b.spot && same_cid cid b.cid) ≡ true =
      ap (λ (c : Acceptance Op). x c.spot && same_cid cid c.cid) (sym e)
      ∙ and-intro (x a.spot) _ here (ap (same_cid cid) own ∙ same_cid-self cid) in
      rw test (by_others (least_spot l x cid))
    where
      spot : a.spot ≡ b.spot
      spot = ap (λ (c : Acceptance Op). c.spot) e

      by_others : (o : Option Spot) → IsLeast (lesser b.spot o) a.spot
      by_others None = ap (λ s. is_before s b.spot) spot ∙ apart-self b.spot
      by_others (Some s) = by_order (is_before b.spot s) refl
        where
          by_order : (t : Bool) → is_before b.spot s ≡ t → is_before a.spot (cond t b.spot s) ≡ false
          by_order true before = ap (λ s. is_before s b.spot) spot ∙ apart-self b.spot
          by_order false after = ap (λ z. is_before z s) spot ∙ after
  least_spot-least (b ∷ l) x cid a (inr member) here own =
      by_test (x b.spot && same_cid cid b.cid) (least_spot l x cid) (least_spot-least l x cid a member here own)
    where
      by_test : (t : Bool) (o : Option Spot) → IsLeast o a.spot → IsLeast (cond t (lesser b.spot o) o) a.spot
      by_test false o least = least
      by_test true None least = absurd least
      by_test true (Some s) least = by_order (is_before b.spot s) refl
        where
          by_order : (t : Bool) → is_before b.spot s ≡ t → is_before a.spot (cond t b.spot s) ≡ false
          by_order false after = least
          by_order true before = never _ (λ own. true≢false (sym (before-trans a.spot b.spot s own before) ∙ least))

-- ---- the spots that are kept

-- what is kept of a call before is kept on
kept_spot-before : (kept more : List Kept) (cid : Cid) (s : Spot) → kept_spot kept cid ≡ Some s → kept_spot (kept ++ more) cid ≡ Some s
kept_spot-before [] more cid s e = absurd (none-some _ e)
kept_spot-before (k ∷ kept) more cid s e = at_first (same_cid cid k.cid) e (kept_spot-before kept more cid s)
  where
    at_first : (t : Bool) → cond t (Some k.spot) (kept_spot kept cid) ≡ Some s → (kept_spot kept cid ≡ Some s → kept_spot (kept ++ more) cid ≡ Some s)
        → cond t (Some k.spot) (kept_spot (kept ++ more) cid) ≡ Some s
    at_first true e rest = e
    at_first false e rest = rest e

-- where nothing was kept of a call, what comes behind counts
kept_spot-behind : (kept more : List Kept) (cid : Cid) → kept_spot kept cid ≡ None → kept_spot (kept ++ more) cid ≡ kept_spot more cid
kept_spot-behind [] more cid e = refl
kept_spot-behind (k ∷ kept) more cid e = at_first (same_cid cid k.cid) e (kept_spot-behind kept more cid)
  where
    at_first : (t : Bool) → cond t (Some k.spot) (kept_spot kept cid) ≡ None → (kept_spot kept cid ≡ None → kept_spot (kept ++ more) cid ≡ kept_spot more cid)
        → cond t (Some k.spot) (kept_spot (kept ++ more) cid) ≡ kept_spot more cid
    at_first true e rest = absurd (none-some _ (sym e))
    at_first false e rest = rest e

-- what keeping a spot of one call does to what is kept of another
keep_one-other : (cid other : Cid) (o : Option Spot) (kept : List Kept) (known : Bool) → same_cid other cid ≡ false → kept_spot (keep_one cid o kept known) other ≡ kept_spot kept other
keep_one-other cid other None kept known apart = refl
keep_one-other cid other (Some s) kept true apart = refl
keep_one-other cid other (Some s) kept false apart = by_kept (kept_spot kept other) refl
  where
    by_kept : (o : Option Spot) → kept_spot kept other ≡ o → kept_spot (kept ++ record { cid = cid; spot = s } ∷ []) other ≡ o
    by_kept (Some k) e = kept_spot-before kept _ other k e
    by_kept None e = kept_spot-behind kept _ other e ∙ ap (λ t. cond t (Some s) None) apart

or_none : (k : Option Spot) → k ≡ option_or k None
or_none None = refl
or_none (Some k) = refl

-- keeping a spot of a call: what was kept of it, and else this spot
keep_one-own : (cid : Cid) (o : Option Spot) (kept : List Kept) → kept_spot (keep_one cid o kept (is_some (kept_spot kept cid))) cid ≡ option_or (kept_spot kept cid) o
keep_one-own cid None kept = or_none (kept_spot kept cid)
keep_one-own cid (Some s) kept = by_kept (kept_spot kept cid) refl
  where
    by_kept : (k : Option Spot) → kept_spot kept cid ≡ k → kept_spot (keep_one cid (Some s) kept (is_some k)) cid ≡ option_or k (Some s)
    by_kept (Some k) e = e
    by_kept None e = kept_spot-behind kept _ cid e ∙ ap (λ t. cond t (Some s) None) (same_cid-self cid)

-- the spot that a set keeps of a call: what was kept of it before, and else the least one
abbrev pub spot_to_keep : {Op : Type 0} → List (Acceptance Op) → SpotSet → List Kept → Cid → Option Spot
spot_to_keep l x kept cid = option_or (kept_spot kept cid) (least_spot l x cid)

module _ {Op : Type 0} (l : List (Acceptance Op)) (x : SpotSet) (kept : List Kept) where
  -- the same after some of the acceptances
  keep_some : (some : List (Acceptance Op)) (cid : Cid) → kept_spot (keep_new l x some kept) cid ≡ option_or (kept_spot kept cid) (cond (list_any (λ a. same_cid cid a.cid) some) (least_spot l x cid) None)
  keep_some [] cid = or_none (kept_spot kept cid)
  keep_some (a ∷ some) cid = by_call (same_cid cid a.cid) refl (keep_some some cid)
    where
      by_call : (t : Bool) → same_cid cid a.cid ≡ t
          → kept_spot (keep_new l x some kept) cid ≡ option_or (kept_spot kept cid) (cond (list_any (λ b. same_cid cid b.cid) some) (least_spot l x cid) None)
          → kept_spot (keep_new l x (a ∷ some) kept) cid ≡ option_or (kept_spot kept cid) (cond (t || list_any (λ b. same_cid cid b.cid) some) (least_spot l x cid) None)
      by_call false e rest = keep_one-other a.cid cid (least_spot l x a.cid) (keep_new l x some kept) _ e ∙ rest
      by_call true e rest =
          ap (kept_spot (keep_new l x (a ∷ some) kept)) (same_cid-is cid a.cid e)
          ∙ keep_one-own a.cid (least_spot l x a.cid) (keep_new l x some kept)
          ∙ ap (λ c. option_or (kept_spot (keep_new l x some kept) c) (least_spot l x c)) (sym (same_cid-is cid a.cid e))
          ∙ ap (λ k. option_or k (least_spot l x cid)) rest
          ∙ once (kept_spot kept cid) (list_any (λ b. same_cid cid b.cid) some) (least_spot l x cid)
        where
          once : (k : Option Spot) (t : Bool) (o : Option Spot) → option_or (option_or k (cond t o None)) o ≡ option_or k o
          once (Some k) t o = refl
          once None true None = refl
          once None true (Some s) = refl
          once None false o = refl

  -- of each call that is kept which was kept before, and else the least spot of the set
  pub keep_new-is : (cid : Cid) → kept_spot (keep_new l x l kept) cid ≡ spot_to_keep l x kept cid
  keep_new-is cid = keep_some l cid ∙ ap (option_or (kept_spot kept cid)) (by_any (list_any (λ a. same_cid cid a.cid) l) refl)
    where
      by_any : (t : Bool) → list_any (λ a. same_cid cid a.cid) l ≡ t → cond t (least_spot l x cid) None ≡ least_spot l x cid
      by_any true e = refl
      by_any false e = sym (least_spot-lacks l x cid (never _ (λ has.
          let a = has_call-holds l x cid has in
          true≢false (sym (among-list_any (λ b. same_cid cid b.cid) a.0 l a.1 (ap (same_cid cid) a.3 ∙ same_cid-self cid)) ∙ e))))

-- a set has a least spot of a call that it has
pub least_spot-some : {Op : Type 0} (l : List (Acceptance Op)) (x : SpotSet) (cid : Cid) → has_call l x cid ≡ true → is_some (least_spot l x cid) ≡ true
least_spot-some [] x cid e = absurd (true≢false (sym e))
least_spot-some (a ∷ l) x cid e = at_newest (x a.spot && same_cid cid a.cid) e (least_spot l x cid) (least_spot-some l x cid)
  where
    at_newest : (t : Bool) → (t || has_call l x cid) ≡ true → (o : Option Spot) → (has_call l x cid ≡ true → is_some o ≡ true) → is_some (cond t (lesser a.spot o) o) ≡ true
    at_newest true e None rest = refl
    at_newest true e (Some b) rest = refl
    at_newest false e o rest = rest e

-- of each call of a set a spot is kept
pub kept-ready : {Op : Type 0} (l : List (Acceptance Op)) (x : SpotSet) (kept : List Kept) (cid : Cid) → has_call l x cid ≡ true → is_some (spot_to_keep l x kept cid) ≡ true
kept-ready l x kept cid has = by_kept (kept_spot kept cid)
  where
    by_kept : (o : Option Spot) → is_some (option_or o (least_spot l x cid)) ≡ true
    by_kept (Some s) = refl
    by_kept None = least_spot-some l x cid has
