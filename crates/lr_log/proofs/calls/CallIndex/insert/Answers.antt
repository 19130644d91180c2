use Rattle.lr_log.proofs.CallLemmas.{inserted-entry}
use Rattle.lr_log.proofs.calls.CallIndex.insert.Goals as goal

pub returns-clause-ok : goal.returns-clause-ok
returns-clause-ok c =
    inserted-entry c.args.entry c.as_slice.result.now c.self.inside.entries.items c.args.self.now
    c.insert.new.self.items
    c.count_before-at.result c.as_slice.ensures.value c.self.view_is c.count_before-at.ensures.most
    c.count_before-at.ensures.point c.requires.free c.in_ok-insert.ensures.items
