use Rattle.lr_codec.specs.RangeLaws.{own-state}
use Rattle.lr_codec.proofs.Within.{few-entries}
use Rattle.lr_codec.proofs.codec.encode.Goals as goal

pub put_state-requires : goal.put_state-requires
put_state-requires g c = few-entries g.S.Service.meaning g.S.Service.encoding c.args.state.now c.requires

pub returns-clause-real : goal.returns-clause-real
returns-clause-real g c =
    own-state g.S.Service.meaning g.S.Service.encoding g.S.Service.NUMBER c.args.state.now
    c.service_number-below.ensures.below c.requires c.in_ok-put_state.ensures.real
