use Rattle.std.proofs.Common.{◌≡◌, ◌∙◌, ap, filter, length, not, take, ℕ}
use Rattle.std.specs.Prelude.{nat_le}
use Rattle.std.proofs.lemmas.List.{take_rest}
use Rattle.std.proofs.lemmas.Result.{on_ok_weaker}
use Rattle.lr_base.specs.Logged.{Fits}
use Rattle.lr_base.specs.Stamps.{part}
use Rattle.lr_value.specs.Waiting.{behind}
use Rattle.lr_value.proofs.Gathered.{add-recalled}
use Rattle.lr_value.proofs.Numbered.{index-filter}
use Rattle.lr_value.proofs.gathering.add_place.Goals as goal

pub add_waiting-requires-2 : goal.add_waiting-requires-2
add_waiting-requires-2 g c =
    let updates = c.args.updates.now in
    index-filter (Fits (length c.args.val_ts.now)) (λ u. not (nat_le u.spot.number c.part.result)) updates _
    (take_rest updates c.first_past-new.result ∙ c.first_past-new.ensures.past) c.requires.fit

pub returns : goal.returns
returns g c =
    let updates = c.args.updates.now in
    let new = c.first_past-new.result in
    let cut : take new updates ≡ filter (λ u. nat_le u.spot.number (part c.seen.result.now c.args.place)) updates =
    c.first_past-new.ensures.up_to
    ∙ ap (λ (n : ℕ). filter (λ u. nat_le u.spot.number n) updates) c.part.ensures in
    on_ok_weaker c.add_waiting-2.result
    (λ added. add-recalled c.args.place c.args.val_ts.now c.seen.result.now c.in-Some.memory updates
    (behind c.args.found.now.items) (behind c.add_remembered.new.found.items) (behind c.add_waiting-2.new.found.items) _
    c.waits.result.now new c.waits.ensures.seen c.requires.of_place
    (c.requires.memory c.in-Some.memory c.in-Some.is).recalls c.waits.ensures.waits cut c.seen.ensures
    c.in_ok-add_remembered.ensures added (take_rest updates new))
    c.add_waiting-2.ensures
