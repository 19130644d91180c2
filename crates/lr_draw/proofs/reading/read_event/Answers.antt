use Rattle.std.proofs.Common.{refl, rules}
use Rattle.lr_draw.specs.Histories.{no_act}
use Rattle.lr_draw.proofs.reading.read_event.Goals as goal

pub returns-in_default-act_of-clause-bad : goal.returns-in_default-act_of-clause-bad
returns-in_default-act_of-clause-bad c _ no_space = no_act c.in-Some.text.now (search rules)
    (c.in_default-act_of.ensures.none refl)
