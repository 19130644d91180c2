use Rattle.lr_words.specs.TableLaws.{table-exact}
use Rattle.lr_words.proofs.laws.tables_are_exact.Goals as goal

pub returns : goal.returns
returns g c = table-exact g.V.Stored.format g.met.V.Stored.exact
