use Rattle.lr_base.specs.StampLaws.{length-set_part, part-set_part, part-set_part_other}
use Rattle.lr_base.proofs.laws.set_part_changes_one.Goals as goal

pub returns-clause-own : goal.returns-clause-own
returns-clause-own c = part-set_part

pub returns-clause-others : goal.returns-clause-others
returns-clause-others c = part-set_part_other

pub returns-clause-count : goal.returns-clause-count
returns-clause-count c = length-set_part
