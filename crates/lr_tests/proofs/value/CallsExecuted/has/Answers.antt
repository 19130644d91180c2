use Rattle.std.proofs.Common.{◌∙◌, sym, ap, is_some}
use Rattle.std.specs.Prelude.{find}
use Rattle.lr_base.specs.Ascending.{same_cid}
use Rattle.lr_tests.proofs.Lists.{found_known, some-copied}
use Rattle.lr_tests.proofs.value.CallsExecuted.has.Goals as goal

pub returns : goal.returns
returns c =
    c.is_some.ensures
    ∙ sym (some-copied c.entry_of.result)
    ∙ ap is_some c.entry_of.ensures
    ∙ ap (λ es. is_some (find (λ e. same_cid c.args.cid e.0) es)) c.as_slice.ensures.value
    ∙ found_known c.args.self.now.entries.items c.args.cid
