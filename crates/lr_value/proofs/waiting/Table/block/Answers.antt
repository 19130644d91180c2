use Rattle.lr_value.proofs.Placed.{by-need-put}
use Rattle.lr_value.proofs.waiting.Table.block.Goals as goal

pub returns-clause-by_need : goal.returns-clause-by_need
returns-clause-by_need g c =
    let there = rw c.as_slice.ensures.value at c.place_by_need-at.ensures in
    rw c.in_ok-insert.ensures.items
    (by-need-put (λ b. b.needs) c.args.self.now.blocked.items c.place_by_need-at.result
    (record { needs = c.args.needs; update = c.args.update }) there c.requires)
