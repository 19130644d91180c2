use Rattle.std.proofs.Common.{◌≡◌, ◌-◌, length, true}
use Rattle.std.specs.Prelude.{None}
use Rattle.lr_base.specs.Bytes.{times}
use Rattle.lr_words.specs.Formats.{are_in_order, next_word_field}
use Rattle.lr_base.specs.Lasts.{last_of}
use Rattle.lr_base.specs.RowLaws.{joined}
use Rattle.lr_words.proofs.lists.words_field.Given as goal

-- the words so far, and what is left of the bytes
abbrev pub invariant-loop : goal.invariant-loop
invariant-loop l = record {
  reads : joined l.words.items (times next_word_field (l.count - l.counter) (last_of l.words.items) l.rest) ≡ times next_word_field l.count None l.bytes;
  count : length l.words.items ≡ l.counter;
  order : are_in_order l.words.items ≡ true;
}
