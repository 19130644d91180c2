use Rattle.std.proofs.Common.{refl}
use Rattle.lr_draw.specs.Histories.{first}
use Rattle.lr_draw.proofs.ReadingLemmas.{begun}
use Rattle.lr_draw.proofs.reading.read_history.Goals as goal

pub returns-in-None-clause-err : goal.returns-in-None-clause-err
returns-in-None-clause-err c = first (c.in-None.ensures.none refl)

pub loop-rest-init : goal.loop-rest-init
loop-rest-init c = begun c.args.bytes.now c.in-Some.lines.now c.new.result c.new-2.result c.new.ensures
    c.new-2.ensures c.in-Some.ensures.some
