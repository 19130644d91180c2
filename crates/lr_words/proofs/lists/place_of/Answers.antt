use Rattle.std.proofs.Common.{[], length, sym, ap, arith, ◌∙◌}
use Rattle.lr_base.specs.InsertionLaws.{inserted-where}
use Rattle.lr_words.specs.Formats.{is_up_to}
use Rattle.lr_words.proofs.lists.place_of.Goals as goal

pub returns-then-le-clause-place : goal.returns-then-le-clause-place
returns-then-le-clause-place c =
    inserted-where is_up_to c.args.word.now c.args.words.now c.loop-place.place c.index-words-place.result [] (omega arith) c.loop-place.invariant
    (λ within. ap (is_up_to c.args.word.now) (sym c.index-words-place.is) ∙ sym c.le.ensures ∙ c.if-le.true)

pub returns-clause-place : goal.returns-clause-place
returns-clause-place c =
    inserted-where is_up_to c.args.word.now c.args.words.now (length c.args.words.now) [] [] (omega arith) (λ k low. c.loop-place.invariant k (omega arith)) (λ within. absurd (omega arith))
