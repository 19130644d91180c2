use Rattle.std.proofs.Common.{ap, ◌∙◌, take, not}
use Rattle.std.specs.Prelude.{◌==◌, filter, nat_le, nat_lt}
use Rattle.std.proofs.lemmas.List.{take_rest}
use Rattle.lr_value.proofs.Gathered.{filter-both}
use Rattle.lr_value.proofs.Numbered.{neither, of_place-filter}
use Rattle.lr_value.proofs.gathering.numbered.Goals as goal

pub first_from-requires : goal.first_from-requires
first_from-requires g c = (
  c.requires.0,
  of_place-filter c.requires.0 (λ u. nat_le u.spot.number c.args.number) c.args.updates.now _
      c.first_past.ensures.up_to c.requires.1,
)

pub returns : goal.returns
returns g c =
    let up_to = take c.first_past.result c.args.updates.now in
    take_rest up_to c.first_from.result
    ∙ c.first_from.ensures.from
    ∙ ap (filter (λ u. not (nat_lt u.spot.number c.args.number))) c.first_past.ensures.up_to
    ∙ filter-both (λ u. not (nat_lt u.spot.number c.args.number)) (λ u. nat_le u.spot.number c.args.number)
    (λ u. u.spot.number == c.args.number) (λ u. neither u.spot.number c.args.number) c.args.updates.now
