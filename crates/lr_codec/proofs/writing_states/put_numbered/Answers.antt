use Rattle.std.proofs.Common.{[]}
use Rattle.byteorder.specs.Endian.{big_bytes}
use Rattle.lr_codec.specs.States.{frozen_call_format}
use Rattle.lr_codec.proofs.Puts.{then_put}
use Rattle.lr_codec.proofs.writing_states.put_numbered.Goals as goal

pub returns-clause-ok : goal.returns-clause-ok
returns-clause-ok g c =
    let numbered = c.args.numbered.now in
    let call = (frozen_call_format g.S.Service.meaning 0 []).written numbered.1 in
    then_put c.put_call.result c.args.out.now (big_bytes 8 numbered.0) call c.put_number_field.new.out
    c.put_call.new.out c.in_ok-put_number_field.ensures c.put_call.ensures.ok
