use Rattle.std.proofs.Common.{◌∙◌}
use Rattle.lr_codec.specs.Lists.{item_bytes}
use Rattle.lr_codec.proofs.Log.{ack-alone, no_ack}
use Rattle.lr_codec.proofs.writing_log.put_acks.Goals as goal

pub loop-place-preserved : goal.loop-place-preserved
loop-place-preserved g c =
    ack-alone (item_bytes g.S.Service.meaning) c.args.acks.now c.loop-place.place no_ack
    c.loop-place.out c.put_ack.new.out c.loop-place-test.true c.in_ok-put_ack.ensures ∙ c.loop-place.invariant
