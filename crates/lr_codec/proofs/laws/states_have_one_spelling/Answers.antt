use Rattle.std.specs.Prelude.{None}
use Rattle.lr_base.specs.FormatLaws.{one_spelling-in, spelled-in}
use Rattle.lr_codec.specs.RangeLaws.{own-state}
use Rattle.lr_codec.specs.StateLaws.{state-exact}
use Rattle.lr_codec.specs.States.{state_format}
use Rattle.lr_codec.proofs.laws.states_have_one_spelling.Goals as goal

pub returns-clause-spelling : goal.returns-clause-spelling
returns-clause-spelling g c =
    let m = g.S.Service.meaning in
    let number = g.S.Service.NUMBER in
    let e = g.S.Service.encoding in
    let exact = state-exact m g.S.Op.Operation.kind_of g.met.S.Service.lawful number None in
    record {
      spelled = spelled-in (state_format m e number None) exact;
      one_spelling = one_spelling-in (state_format m e number None) exact;
    }

pub returns-clause-ranges : goal.returns-clause-ranges
returns-clause-ranges g c state below is own =
    own-state g.S.Service.meaning g.S.Service.encoding g.S.Service.NUMBER state below is own
