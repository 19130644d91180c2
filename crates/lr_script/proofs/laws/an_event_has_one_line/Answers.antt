use Rattle.std.proofs.Common.{◌∷◌, sym, ◌∙◌, append_assoc, []}
use Rattle.lr_base.specs.OpLaws.{one-text}
use Rattle.lr_script.specs.Texts.{event_text}
use Rattle.lr_script.proofs.EventTexts.{event_one, event_cut}
use Rattle.lr_script.proofs.laws.an_event_has_one_line.Goals as goal

pub returns-clause-line : goal.returns-clause-line
returns-clause-line g c = λ config a b set fa fb. event_one g.S.Service.meaning (one-text g.S.Service.meaning g.met.S.Service.lawful) a b fa.1 fb.1

pub returns-clause-first : goal.returns-clause-first
returns-clause-first g c =
    let m = g.S.Service.meaning in
    λ a b x y fa fb same. event_cut m (one-text g.S.Service.meaning g.met.S.Service.lawful) g.met.S.Service.lawful.printable_text a b x y fa fb
    (sym (append_assoc (event_text m a) (10 ∷ []) x) ∙ same ∙ append_assoc (event_text m b) (10 ∷ []) y)
