use Rattle.std.proofs.Common.{◌≡◌, ◌<◌, ℕ, [], false, get_or}
use Rattle.lr_words.specs.Formats.{is_up_to}
use Rattle.lr_words.proofs.lists.place_of.Given as goal

-- the word is up to none so far
abbrev pub invariant-loop-place : goal.invariant-loop-place
invariant-loop-place l = (k : ℕ) → k < l.place → is_up_to l.word (get_or l.words k []) ≡ false
