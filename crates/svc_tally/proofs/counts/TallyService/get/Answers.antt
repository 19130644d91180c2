use Rattle.svc_tally.specs.Tally.{tally_format}
use Rattle.svc_tally.proofs.counts.TallyService.get.Goals as goal

pub returns : goal.returns
returns c = c.decoded.ensures (tally_format.field c.args.bytes.now) c.field.ensures
