use Rattle.std.proofs.Common.{◌≡◌, ◌<◌, length, arith}
use Rattle.lr_base.specs.InsertionLaws.{length-inserted}
use Rattle.lr_words.specs.Formats.{insert_word, is_up_to}
use Rattle.lr_words.specs.WordOrder.{insert_word-in_order}
use Rattle.lr_words.proofs.lists.WordList.add.Goals as goal

pub invariant_of-self-2 : goal.invariant_of-self-2
invariant_of-self-2 c =
    let words = c.self.inside.words.items in
    let same : c.insert.new.self.items ≡ insert_word c.args.word words = cc (c.in_ok-insert.ensures.items, c.deref.ensures.value, c.place_of-place.ensures.place) in
    let some : 0 < length (insert_word c.args.word words) = omega (arith, length-inserted is_up_to c.args.word words) in
    (rw same some, rw same (insert_word-in_order c.args.word words c.self.invariant.1))
