use Rattle.std.proofs.Common.{◌∙◌, sym, ap, List, ℕ, get_or}
use Rattle.lr_base.proofs.Order.{part-element}
use Rattle.lr_base.specs.Stamps.{part}
use Rattle.lr_base.proofs.stamp.Stamp.part.Goals as goal

pub returns : goal.returns
returns c =
    ap (λ (a : List ℕ). get_or a c.args.place 0) c.deref.ensures.0
    ∙ sym (part-element c.self.inside.parts.items c.args.place)
    ∙ ap (λ (a : List ℕ). part a c.args.place) c.self.view_is
