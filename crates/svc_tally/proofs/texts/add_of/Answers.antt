use Rattle.std.proofs.Common.{refl, sym, ◌∙◌}
use Rattle.lr_words.specs.WordTexts.{same-front, word-no_space}
use Rattle.svc_tally.proofs.texts.add_of.Goals as goal

pub returns-in_err-amount-clause-none : goal.returns-in_err-amount-clause-none
returns-in_err-amount-clause-none c none name amount is fits same =
    let fronts = same-front c.in_ok-name.name name c.in_ok-name.number.now _ (word-no_space _ c.in_ok-name.ensures.word) (word-no_space name is) (sym c.in_ok-name.ensures.parts ∙ same) in
    c.in_err-amount.ensures.none refl amount fits fronts.1
