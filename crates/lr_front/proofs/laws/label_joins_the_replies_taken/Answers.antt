use Rattle.lr_front.specs.FrontLaws.{clock-greatest, label-joins}
use Rattle.lr_front.proofs.laws.label_joins_the_replies_taken.Goals as goal

pub returns-clause-label : goal.returns-clause-label
returns-clause-label g c config client events = label-joins config client events

pub returns-clause-clock : goal.returns-clause-clock
returns-clause-clock g c config client events = clock-greatest config client events
