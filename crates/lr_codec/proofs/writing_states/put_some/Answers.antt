use Rattle.std.proofs.Common.{[]}
use Rattle.byteorder.specs.Endian.{big_bytes}
use Rattle.lr_codec.specs.States.{numbered_format}
use Rattle.lr_codec.proofs.Puts.{then_put}
use Rattle.lr_codec.proofs.writing_states.put_some.Goals as goal

pub returns-clause-ok : goal.returns-clause-ok
returns-clause-ok g c =
    let numbered = (numbered_format g.S.Service.meaning 0 (0, [])).written c.args.numbered.now in
    then_put c.put_numbered.result c.args.out.now (big_bytes 1 1) numbered c.put_byte_field.new.out
    c.put_numbered.new.out c.in_ok-put_byte_field.ensures c.put_numbered.ensures.ok
