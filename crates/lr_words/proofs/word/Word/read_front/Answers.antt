use Rattle.std.proofs.Common.{◌≡◌, true, false, get_or, length, refl, sym, ap, ◌∙◌}
use Rattle.lr_words.specs.Word.{is_word}
use Rattle.lr_words.specs.WordTexts.{space-behind, same-front, word-no_space}
use Rattle.lr_words.proofs.word.Word.read_front.Goals as goal

pub returns-in_err-front-clause-none : goal.returns-in_err-front-clause-none
returns-in_err-front-clause-none c none word rest is same =
    let space : get_or c.args.text.now (length word) 0 ≡ 32 = rw same (space-behind word rest) in
    c.in_err-front.ensures.none refl (length word) space

pub returns-in_err-word-clause-none : goal.returns-in_err-word-clause-none
returns-in_err-word-clause-none c none word rest is same =
    let fronts = same-front c.in_ok-front.front.now word c.in_ok-front.rest.now rest c.in_ok-front.ensures.first (word-no_space word is) (sym c.in_ok-front.ensures.parts ∙ same) in
    let front : is_word c.in_ok-front.front.now ≡ true = ap is_word fronts.0 ∙ is in
    let found : false ≡ true = c.in_err-word.ensures.word.1 front in
    cc
