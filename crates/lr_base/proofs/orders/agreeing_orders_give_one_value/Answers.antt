use Rattle.lr_base.specs.OrderLaws.{one-value, ordered-opposites}
use Rattle.lr_base.proofs.orders.agreeing_orders_give_one_value.Goals as goal

pub returns-clause-pairs : goal.returns-clause-pairs
returns-clause-pairs g c value one other same agree =
    let m = g.S.Service.meaning in
    one-value m one other value same agree

pub returns-clause-kinds : goal.returns-clause-kinds
returns-clause-kinds g c value one other same updates agree =
    let m = g.S.Service.meaning in
    one-value m one other value same (ordered-opposites m _ g.met.S.Service.lawful one other same updates agree)
