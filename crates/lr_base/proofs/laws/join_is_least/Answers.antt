use Rattle.lr_base.specs.StampLaws.{join-assoc, join-comm, join-least, join-self, length-join, part-join}
use Rattle.lr_base.proofs.laws.join_is_least.Goals as goal

pub returns-clause-least : goal.returns-clause-least
returns-clause-least c = join-least

pub returns-clause-merge : goal.returns-clause-merge
returns-clause-merge c = record {
  commutative = join-comm;
  associative = join-assoc;
  idempotent = join-self;
}

pub returns-clause-parts : goal.returns-clause-parts
returns-clause-parts c = part-join

pub returns-clause-count : goal.returns-clause-count
returns-clause-count c = length-join
