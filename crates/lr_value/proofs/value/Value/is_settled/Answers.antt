use Rattle.std.proofs.Common.{◌∙◌, Some, ap, sym}
use Rattle.std.specs.Option.{option_map}
use Rattle.lr_value.specs.Applied.{Applied, Memory, progress}
use Rattle.lr_value.proofs.Ended.{idle}
use Rattle.lr_value.proofs.Settled.{settled-before}
use Rattle.lr_value.proofs.value.Value.is_settled.Goals as goal

pub returns-in-Some-clause-settled : goal.returns-in-Some-clause-settled
returns-in-Some-clause-settled g c is =
    let looked = sym (ap (λ (v : Applied _). option_map (λ (m : Memory). m.seen) v.memory) c.self.view_is)
    ∙ ap (option_map (λ (m : Memory). m.seen)) c.in-Some.is ∙ ap Some (c.is_of.ensures.0 is) in
    settled-before c.args.self.now (g.L.Places.updates c.args.log.now) c.args.received.now looked c.requires.all_received
    c.requires.remembered

pub returns-in-Some-clause-idle : goal.returns-in-Some-clause-idle
returns-in-Some-clause-idle g c is calls =
    let settled = returns-in-Some-clause-settled g c is in
    idle g.S.Service.meaning (g.L.Places.updates c.args.log.now) (progress c.args.self.now calls) settled.none_ready
