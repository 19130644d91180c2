use Rattle.std.proofs.Common.{◌==◌, List, ap, ◌∙◌}
use Rattle.std.proofs.lemmas.Result.{IfOk-weaker}
use Rattle.std.specs.List.{find}
use Rattle.std.specs.Option.{option_map}
use Rattle.lr_graph.specs.Told.{sent_message_of}
use Rattle.lr_graph.specs.declared.facts.items.SentCopy.{SentCopy}
use Rattle.lr_graph.proofs.Told.Gathering.{find-told}
use Rattle.lr_graph.proofs.facts.items.Gathered.delivery_of.Goals as goal

pub returns-in-Deliver : goal.returns-in-Deliver
returns-in-Deliver g c =
    rw c.in-Deliver.is
    (IfOk-weaker c.copy_numbered.result _ _
    (λ came same. ap (option_map sent_message_of) (same ∙ ap (λ (xs : List (SentCopy _)). find (λ x. x.number == c.in-Deliver.message) xs) c.as_slice.ensures) ∙ find-told c.in-Deliver.message c.args.self.now.messages)
    c.copy_numbered.ensures)
