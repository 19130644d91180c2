use Rattle.std.proofs.Common.{arith}
use Rattle.std.proofs.lemmas.Grind.{common_steps}
use Rattle.lr_words.proofs.word.split_at_space.Goals as goal

pub returns-then-text-i-eq32-clause-first : goal.returns-then-text-i-eq32-clause-first
returns-then-text-i-eq32-clause-first c k same = grind (arith, common_steps, c.loop-i.invariant k)
