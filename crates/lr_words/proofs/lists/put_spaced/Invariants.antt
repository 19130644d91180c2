use Rattle.std.proofs.Common.{◌≡◌, ◌++◌, ◌∷◌, flat_map, take, true}
use Rattle.std.specs.List.{list_all}
use Rattle.lr_words.specs.Word.{is_word}
use Rattle.lr_words.proofs.lists.put_spaced.Given as goal

-- the words so far stand behind what was there
abbrev pub invariant-loop-word : goal.invariant-loop-word
invariant-loop-word l = record {
  put : l.out ≡ l.initial.out ++ flat_map (λ word. 32 ∷ word) (take l.word-index l.words);
  real : list_all is_word (take l.word-index l.words) ≡ true;
}
