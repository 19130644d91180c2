-- Words that are read and found one behind the other.
use Rattle.std.proofs.Common.{◌≡◌, true, List, ℕ, [], ◌∷◌, ◌++◌, refl, sym, ◌∙◌, ap}
use Rattle.std.proofs.lemmas.Bool.{and_parts, and_from}
use Rattle.lr_base.specs.Lasts.{last_of}
use Rattle.lr_base.specs.RowLaws.{last_of-tail}
use Rattle.lr_words.specs.Formats.{is_up_to, are_in_order, follows}

-- words in order, with one more behind them
pub in_order-more : (words : List (List ℕ)) (word : List ℕ) → are_in_order words ≡ true → follows (last_of words) word ≡ true → are_in_order (words ++ word ∷ []) ≡ true
in_order-more [] word order next = refl
in_order-more (w ∷ []) word order next = and_from _ _ next refl
in_order-more (w ∷ v ∷ words) word order next =
    let parts = and_parts (is_up_to w v) (are_in_order (v ∷ words)) order in
    and_from _ _ parts.0 (in_order-more (v ∷ words) word parts.1 (ap (λ last. follows last word) (sym (last_of-tail w v words)) ∙ next))
