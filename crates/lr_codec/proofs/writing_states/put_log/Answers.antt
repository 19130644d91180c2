use Rattle.std.proofs.Common.{◌++◌, ◌∙◌, ap, sym, length}
use Rattle.std.specs.Prelude.{flat_map}
use Rattle.lr_base.specs.Bytes.{count_bytes}
use Rattle.lr_codec.specs.Lists.{item_bytes, merged}
use Rattle.lr_codec.proofs.Log.{length-merged}
use Rattle.lr_codec.proofs.Puts.{then_put}
use Rattle.lr_codec.proofs.writing_states.put_log.Goals as goal

pub returns-clause-ok : goal.returns-clause-ok
returns-clause-ok g c =
    let bytes = item_bytes g.S.Service.meaning in
    let items = merged c.args.updates.now c.args.acks.now in
    let count = c.in_ok-put_count_field.ensures
    ∙ ap (λ n. c.args.out.now ++ count_bytes n) (sym (length-merged c.args.updates.now c.args.acks.now)) in
    then_put c.put_items.result c.args.out.now (count_bytes (length items)) (flat_map bytes items)
    c.put_count_field.new.out c.put_items.new.out count c.put_items.ensures.ok
