use Rattle.byteorder.specs.Endian.{big_bytes}
use Rattle.lr_base.specs.Formats.{listed}
use Rattle.lr_codec.specs.Lists.{entry_count_format, entry_format}
use Rattle.lr_codec.proofs.Puts.{then_put}
use Rattle.lr_codec.proofs.writing_states.put_order.Goals as goal

pub returns-clause-ok : goal.returns-clause-ok
returns-clause-ok g c =
    let entries = (listed (entry_count_format 0)
    (λ last. entry_format g.S.Service.meaning 0)).written c.args.entries.now in
    then_put c.put_entries.result c.args.out.now (big_bytes 8 c.args.base) entries c.put_number_field.new.out
    c.put_entries.new.out c.in_ok-put_number_field.ensures c.put_entries.ensures.ok
