use Rattle.std.proofs.Common.{◌≡◌, ◌+◌, ◌++◌, ◌∙◌, List, ℕ, ap, sym, refl, rules}
use Rattle.lr_draw.specs.Histories.{no_turn, no_way, send_front}
use Rattle.lr_draw.proofs.reading.read_send.Goals as goal

pub returns-in_default-behind-clause-bad : goal.returns-in_default-behind-clause-bad
returns-in_default-behind-clause-bad c _ rest is =
    let front : c.as_slice.result.now ≡ send_front (c.args.place.messages + 1) = c.as_slice.ensures ∙ c.in-Ok.ensures in
    no_turn rest is (λ fields e. c.in_default-behind.ensures fields (e ∙ ap (λ (f : List ℕ). f ++ fields) (sym front)))

pub returns-in_default-way_of-clause-bad : goal.returns-in_default-way_of-clause-bad
returns-in_default-way_of-clause-bad c _ rest is = no_way c.in-Some.fields.now (search rules)
    (c.in_default-way_of.ensures.none refl)
