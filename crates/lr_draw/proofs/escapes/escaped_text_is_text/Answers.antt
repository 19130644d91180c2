use Rattle.lr_draw.proofs.EscapeLemmas.{escaped_is}
use Rattle.lr_draw.proofs.escapes.escaped_text_is_text.Goals as goal

pub returns : goal.returns
returns c = escaped_is
