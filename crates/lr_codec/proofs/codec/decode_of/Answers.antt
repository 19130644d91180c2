use Rattle.std.proofs.Common.{arith}
use Rattle.lr_base.specs.FormatLaws.{one_spelling-in}
use Rattle.lr_codec.specs.StateLaws.{state-exact}
use Rattle.lr_codec.specs.States.{state_format}
use Rattle.lr_codec.proofs.Ranged.{all-bytes, ranged-state}
use Rattle.lr_codec.proofs.codec.decode_of.Goals as goal

pub returns-in-Ok-clause-ranges : goal.returns-in-Ok-clause-ranges
returns-in-Ok-clause-ranges g c =
    let m = g.S.Service.meaning in
    let e = g.S.Service.encoding in
    let number = g.S.Service.NUMBER in
    let bytes = c.args.bytes.now in
    let format = state_format m e number c.args.whose in
    let exact = state-exact m g.S.Op.Operation.kind_of g.met.S.Service.lawful number c.args.whose in
    ranged-state m e number c.args.whose c.in-Ok.state
    (one_spelling-in format exact bytes c.in-Ok.state (all-bytes bytes (λ i. omega (arith, c.type_inv.bytes i)))
    (c.in-Ok.ensures (format.field bytes) c.state_field.ensures)).1

pub returns-in-Err-Bad-clause-read : goal.returns-in-Err-Bad-clause-read
returns-in-Err-Bad-clause-read g c =
    let format = state_format g.S.Service.meaning g.S.Service.encoding g.S.Service.NUMBER c.args.whose in
    rw c.in-Err-Bad.field-0-is at (c.in-Err-Bad.ensures (format.field c.args.bytes.now) c.state_field.ensures)
