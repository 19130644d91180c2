use Rattle.lr_base.specs.StampLaws.{parts-stamp_le, stamp_le-parts, stamp_le-refl, stamp_le-trans, stamp_le-antisymm, stamp_le-zeros}
use Rattle.lr_base.proofs.laws.order_of_stamps.Goals as goal

pub returns-clause-order : goal.returns-clause-order
returns-clause-order c = record {
  reflexive = stamp_le-refl;
  transitive = stamp_le-trans;
  antisymmetric = stamp_le-antisymm;
}

pub returns-clause-parts : goal.returns-clause-parts
returns-clause-parts c a b = (parts-stamp_le a b, stamp_le-parts a b)

pub returns-clause-zero : goal.returns-clause-zero
returns-clause-zero c = stamp_le-zeros
