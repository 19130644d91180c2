use Rattle.std.proofs.Common.{◌∙◌, sym, arith}
use Rattle.lr_log.proofs.Entries.{not-false, not-true}
use Rattle.lr_log.proofs.Finding.{index-at, index-end, index-other}
use Rattle.lr_log.proofs.calls.CallIndex.first_of.Goals as goal

pub returns : goal.returns
returns c =
    index-at c.args.cid c.as_slice-entries.result.now c.args.self.now c.count_of_earlier-at.result
    (record { cid = record { client = 0; seq = 0 }; spot = record { place = 0; number = 0 } })
    (c.as_slice-entries.ensures.value ∙ c.self.view_is) c.count_of_earlier-at.ensures.point
    (omega (arith, c.count_of_earlier-at.ensures.most)) (not-false _ (sym c.ne.ensures ∙ c.if-ne.false))

pub returns-then-at-entries : goal.returns-then-at-entries
returns-then-at-entries c =
    index-end c.args.cid c.as_slice-entries.result.now c.args.self.now c.count_of_earlier-at.result
    (c.as_slice-entries.ensures.value ∙ c.self.view_is) c.count_of_earlier-at.ensures.point c.if-at-entries.true

pub returns-then-ne : goal.returns-then-ne
returns-then-ne c =
    index-other c.args.cid c.as_slice-entries.result.now c.args.self.now c.count_of_earlier-at.result
    (record { cid = record { client = 0; seq = 0 }; spot = record { place = 0; number = 0 } })
    (c.as_slice-entries.ensures.value ∙ c.self.view_is) c.requires c.count_of_earlier-at.ensures.point
    (omega (arith, c.count_of_earlier-at.ensures.most)) (not-true _ (sym c.ne.ensures ∙ c.if-ne.true))
