use Rattle.std.proofs.Common.{◌≡◌, ◌∙◌, ℕ, Bool, true, false, nat_eq, List, [], ◌∷◌, ap, codes}
use Rattle.lr_base.specs.declared.events.Outcome.{Outcome}
use Rattle.lr_base.specs.declared.events.Outcome.TheVariants.{Send}
use Rattle.lr_base.specs.declared.events.Sent.{Sent}
use Rattle.lr_base.specs.declared.events.Sent.TheVariants.{Answer}
use Rattle.lr_graph.proofs.Counting.{three-read}
use Rattle.lr_graph.proofs.worked.another_answer_is_not_legal.Goals as goal

abbrev sent_text : Sent → List ℕ
sent_text (Answer cid text) = text
sent_text _ = []

abbrev text_of : List Outcome → List ℕ
text_of (Send number from to what ∷ rest) = sent_text what
text_of _ = []

abbrev begins_with_four : List ℕ → Bool
begins_with_four [] = false
begins_with_four (byte ∷ bytes) = nat_eq byte 52

apart : codes "4" ≡ codes "3" → ⊥
apart e = let same : true ≡ false = ap begins_with_four e in cc

pub returns : goal.returns
returns c = λ legal. apart (ap text_of legal.1.1.1.1.0.outcomes ∙ three-read)
