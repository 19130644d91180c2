use Rattle.lr_words.proofs.Clones.{same-clones}
use Rattle.lr_words.proofs.entries.copied.Goals as goal

pub returns : goal.returns
returns g c = same-clones g.V.Clone.is_clone g.met.V.Stored.cloned _ _ c.in_ok-copied.ensures.cases
