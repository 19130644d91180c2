-- Gossip that tells nothing new.
use Rattle.std.proofs.Common.{◌≡◌, ◌∙◌, Bool, true, false, List, [], ◌∷◌, ℕ, suc, ap, get_or, length, refl, set, sym}
use Rattle.std.specs.Prelude.{filter}
use Rattle.std.proofs.lemmas.List.{set-get_or}
use Rattle.lr_base.specs.Logged.{AllAcksReceived, AllReceived}
use Rattle.lr_base.specs.Rules.{CausalState, gossip_taken, is_new, new_acks, new_count, new_updates}
use Rattle.lr_base.specs.StampLaws.{join-least, length-join, stamp_le-antisymm, stamp_le-refl}
use Rattle.lr_base.specs.Stamps.{join, stamp_le}
use Rattle.lr_base.specs.declared.messages.Gossip.{Gossip}
use Rattle.lr_base.specs.declared.messages.LogAck.{LogAck}
use Rattle.lr_base.specs.declared.messages.LogUpdate.{LogUpdate}
use Rattle.lr_causal.proofs.Each.{Each}
use Rattle.lr_causal.proofs.Received.{AllAcksReceived-later, AllReceived-later}

-- where none passes a test, none is left
filter-empty : {X : Type 0} (test : X → Bool) (xs : List X) → Each (λ x. test x ≡ false) xs → filter test xs ≡ []
filter-empty test [] none = refl
filter-empty test (x ∷ xs) none = rw (none 0 x refl) (filter-empty test xs (λ k. none (suc k)))

-- a stamp joined with one below it stays
join-below : (a b : List ℕ) → length a ≡ length b → stamp_le b a ≡ true → join a b ≡ a
join-below a b long below =
    let least = join-least a b in
    stamp_le-antisymm (join a b) a (length-join a b long) (least.least a (stamp_le-refl a) below) least.above_first

module _ {Value Op : Type 0} (me from : ℕ) (state : CausalState Value Op) (gossip : Gossip Op)
    (received : stamp_le gossip.rep_ts state.rep_ts ≡ true) (updates : AllReceived gossip.rep_ts gossip.updates)
    (acks : AllAcksReceived gossip.rep_ts gossip.acks) where
  -- no item of what was received is new
  none-new : new_updates state.rep_ts gossip.updates ≡ []
  none-new =
      filter-empty (λ (u : LogUpdate Op). is_new state.rep_ts u.spot) gossip.updates
      (AllReceived-later gossip.rep_ts state.rep_ts gossip.updates gossip.updates received refl updates)

  none-new_acks : new_acks state.rep_ts gossip.acks ≡ []
  none-new_acks =
      filter-empty (λ (a : LogAck). is_new state.rep_ts a.spot) gossip.acks
      (AllAcksReceived-later gossip.rep_ts state.rep_ts gossip.acks gossip.acks received refl acks)

  pub new_count-none : new_count state gossip ≡ 0
  new_count-none = rw (none-new, none-new_acks) refl

  -- gossip of which all was received and told before leaves the state as it is
  pub gossip_taken-none : state.rep_ts ≡ get_or state.table me [] → length gossip.rep_ts ≡ length state.rep_ts
      → length (get_or state.table from []) ≡ length state.rep_ts
      → stamp_le gossip.rep_ts (get_or state.table from []) ≡ true → gossip_taken me from state gossip ≡ state
  gossip_taken-none own long row_long told =
      let row : join (get_or state.table from []) gossip.rep_ts ≡ get_or state.table from [] =
      join-below (get_or state.table from []) gossip.rep_ts (row_long ∙ sym long) told in
      let stays : join state.rep_ts gossip.rep_ts ≡ state.rep_ts =
      join-below state.rep_ts gossip.rep_ts (sym long) received in
      let rows : set (set state.table from (get_or state.table from [])) me state.rep_ts ≡ state.table =
      ap (λ (t : List (List ℕ)). set t me state.rep_ts) (set-get_or state.table from [])
      ∙ ap (set state.table me) own ∙ set-get_or state.table me [] in
      rw (none-new, none-new_acks, row, stays, rows) refl
