use Rattle.std.proofs.Common.{arith, sym, ◌∙◌, ap}
use Rattle.std.specs.Option.{option_copied}
use Rattle.lr_causal.proofs.Facts.{AllLogged-find}
use Rattle.lr_causal.proofs.causal.Causal.taken_before.Goals as goal

pub stamp-requires : goal.stamp-requires
stamp-requires g c =
    let logged = AllLogged-find g.S.Op.Operation.kind_of _ _ c.args.self.now.log.updates c.args.self.now.logged c.in_ok-update.update.now
    (sym c.first_update.ensures ∙ ap option_copied c.in_ok-update.was) in
    let place = logged.place in
    let prev = logged.prev in
    record { place = omega arith; number = logged.number }

pub returns-clause-parts : goal.returns-clause-parts
returns-clause-parts g c =
    let logged = AllLogged-find g.S.Op.Operation.kind_of _ _ c.args.self.now.log.updates c.args.self.now.logged c.in_ok-update.update.now
    (sym c.first_update.ensures ∙ ap option_copied c.in_ok-update.was) in
    c.stamp.ensures.parts ∙ logged.prev
