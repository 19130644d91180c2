use Rattle.std.proofs.Common.{◌∙◌, ap, length}
use Rattle.lr_value.specs.Applied.{Applied}
use Rattle.lr_tests.proofs.Places.{first-look, second-look}
use Rattle.lr_tests.proofs.value.apply_twice.Goals as goal

pub apply_ready-requires : goal.apply_ready-requires
apply_ready-requires c =
    first-look c.received-received.result _ c.forget.new.self c.args.value.now.value c.args.value.now.val_ts
    c.forget.ensures c.requires c.received-received.ensures.logged c.received-received.ensures.received
    c.received-received.ensures.parts

pub apply_ready-requires-2 : goal.apply_ready-requires-2
apply_ready-requires-2 c =
    second-look c.received-received.result _ c.apply_ready.new.self c.in_ok-apply_ready.ensures.settled
    (c.in_ok-apply_ready.ensures.stays.1.parts ∙ ap (λ (v : Applied _). length v.val_ts) c.forget.ensures ∙ c.requires)
    c.received-received.ensures.logged c.received-received.ensures.received c.received-received.ensures.parts
