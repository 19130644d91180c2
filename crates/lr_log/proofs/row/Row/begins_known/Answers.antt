use Rattle.std.proofs.Common.{◌≡◌, ◌∙◌, Bool, true, false, not, List, ap, sym, refl, slice_index_or}
use Rattle.lr_base.specs.Rules.{is_new}
use Rattle.lr_log.proofs.RowLemmas.{begins-new}
use Rattle.lr_log.proofs.row.Row.begins_known.Goals as goal

pub returns : goal.returns
returns g c e =
    begins-new g.T.AtSpot.spot_of c.args.floor.now c.requires.0 c.args.self.now c.requires.1 (λ x xs is.
    let first : c.index-items-0.result ≡ x = c.index-items-0.is
    ∙ ap (λ (items : List g.row.T.Denot). slice_index_or items 0 c.index-items-0.result)
    (c.as_slice-items.ensures.value ∙ c.self.view_is ∙ is) in
    ap (λ (y : g.row.T.Denot). is_new c.args.floor.now (g.T.AtSpot.spot_of y)) (sym first)
    ∙ sym (c.is_new.ensures ∙ ap (is_new c.args.floor.now) c.spot.ensures) ∙ shown c.is_new.result e)
  where
    shown : (b : Bool) → not b ≡ false → b ≡ true
    shown true e = refl
    shown false e = sym e
