-- What the rules find in their lists, and what is left of these by a test.
use Rattle.std.proofs.Common.{◌≡◌, Bool, true, false, cond, ◌&&◌, List, [], ◌∷◌, filter, Option, Some, None, refl, sym, ap, ◌∙◌}
use Rattle.std.specs.List.{list_any}
use Rattle.lr_base.specs.Ascending.{same_cid}
use Rattle.lr_base.specs.Rules.{known_of, logs_ack, logs_update}
use Rattle.lr_base.specs.declared.messages.Known.{Known}
use Rattle.lr_base.specs.declared.messages.LogAck.{LogAck}
use Rattle.lr_base.specs.declared.messages.LogUpdate.{LogUpdate}
use Rattle.lr_base.specs.declared.names.Cid.{Cid}
use Rattle.lr_graph.specs.Closed.{HasApartSpots}
use Rattle.lr_graph.specs.Graph.{Acceptance, acks_of, has_call}
use Rattle.lr_graph.specs.Sets.{SpotSet}
use Rattle.lr_graph.proofs.Lists.Members.{among-list_any, each-at, list_any-among}
use Rattle.lr_graph.proofs.Lists.Tests.{and-intro, and-left, and-right, same-test, same_cid-is, same_cid-sym}
use Rattle.lr_graph.proofs.Logs.Acks.{acks-among, among-acks}
use Rattle.lr_graph.proofs.Related.Ties.{IsLogOf}
use Rattle.lr_graph.proofs.Sets.ReadySets.{apart-same}

-- an update of a call is logged just where the set has an acceptance of it
pub log-logs : {Op : Type 0} (l : List (Acceptance Op)) (g : SpotSet) (us : List (LogUpdate Op)) → HasApartSpots l → IsLogOf l g us → (cid : Cid) → logs_update us cid ≡ has_call l g cid
log-logs {Op} l g us apart log cid = same-test _ _ forth back
  where
    forth : logs_update us cid ≡ true → has_call l g cid ≡ true
    forth e =
        let u = list_any-among (λ (x : LogUpdate Op). same_cid x.cid cid) us e in
        let of = each-at _ u.0 us log.each u.1 in
        among-list_any (λ (a : Acceptance Op). g a.spot && same_cid cid a.cid) of.0 l of.1.among
        (and-intro (g of.0.spot) _ of.2 (same_cid-sym cid of.0.cid ∙ ap (λ c. same_cid c cid) (sym of.1.cid) ∙ u.2))

    back : has_call l g cid ≡ true → logs_update us cid ≡ true
    back e =
        let a = list_any-among (λ (x : Acceptance Op). g x.spot && same_cid cid x.cid) l e in
        let u = each-at _ a.0 l log.all a.1 (and-left (g a.0.spot) _ a.2) in
        let of = each-at _ u.0 us log.each u.1 in
        let same : of.0 ≡ a.0 = apart-same l apart of.0 a.0 of.1.among a.1 (sym of.1.spot ∙ u.2) in
        among-list_any (λ (x : LogUpdate Op). same_cid x.cid cid) u.0 us u.1
        (ap (λ c. same_cid c cid) (of.1.cid ∙ ap (λ (x : Acceptance Op). x.cid) same) ∙ same_cid-sym a.0.cid cid ∙ and-right (g a.0.spot) _ a.2)

-- an acknowledgement of a call is in the list of those that pass just where one passes
pub acks-logs : (test : LogAck → Bool) (all : List LogAck) (cid : Cid) → logs_ack (acks_of test all) cid ≡ list_any (λ a. test a && same_cid a.cid cid) all
acks-logs test all cid = same-test _ _
    (λ e. let a = list_any-among (λ (a : LogAck). same_cid a.cid cid) (acks_of test all) e in let h = acks-among test all a.0 a.1 in
    among-list_any (λ (a : LogAck). test a && same_cid a.cid cid) a.0 all h.0 (and-intro (test a.0) _ h.1 a.2))
    (λ e. let a = list_any-among (λ (a : LogAck). test a && same_cid a.cid cid) all e in
    among-list_any (λ (a : LogAck). same_cid a.cid cid) a.0 (acks_of test all) (among-acks test all a.0 a.1 (and-left (test a.0) _ a.2)) (and-right (test a.0) _ a.2))

-- what is known of a call by the calls of a table that pass a test
pub known-filter : (keep : Cid → Bool) (calls : List (Cid × Known)) (cid : Cid) → known_of (filter (λ e. keep e.0) calls) cid ≡ cond (keep cid) (known_of calls cid) None
known-filter keep [] cid = neither (keep cid)
  where
    neither : (t : Bool) → ◌≡◌ {A = Option Known} None (cond t None None)
    neither true = refl
    neither false = refl
known-filter keep (e ∷ calls) cid = by_call (same_cid cid e.0) refl (keep e.0) refl (known-filter keep calls cid)
  where
    by_call : (t : Bool) → same_cid cid e.0 ≡ t → (u : Bool) → keep e.0 ≡ u → known_of (filter (λ x. keep x.0) calls) cid ≡ cond (keep cid) (known_of calls cid) None
        → known_of (cond u (e ∷ filter (λ x. keep x.0) calls) (filter (λ x. keep x.0) calls)) cid ≡ cond (keep cid) (cond t (Some e.1) (known_of calls cid)) None
    by_call true same true kept rest = rw (same, ap keep (same_cid-is cid e.0 same) ∙ kept) refl
    by_call true same false kept rest = rw (ap keep (same_cid-is cid e.0 same) ∙ kept) (rest ∙ rw (ap keep (same_cid-is cid e.0 same) ∙ kept) refl)
    by_call false other true kept rest = ap (λ t. cond t (Some e.1) (known_of (filter (λ x. keep x.0) calls) cid)) other ∙ rest
    by_call false other false kept rest = rest
