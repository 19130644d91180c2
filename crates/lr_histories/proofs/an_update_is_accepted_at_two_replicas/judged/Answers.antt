-- This file is made by .ci/laws_of_histories.
use Rattle.std.proofs.Common.{refl}
use Rattle.lr_histories.proofs.Alike.{legal-alike, turned}
use Rattle.lr_histories.proofs.Computing.{computed_mail, mail_alike}
use Rattle.lr_histories.proofs.Deciding.{found-legal, refuted}
use Rattle.lr_histories.specs.AnUpdateIsAcceptedAtTwoReplicas.{history}
use Rattle.lr_histories.proofs.an_update_is_accepted_at_two_replicas.judged.Goals as goal

pub returns-clause-legal : goal.returns-clause-legal
returns-clause-legal c =
    legal-alike (turned mail_alike) history.config (history.steps history.line)
    (found-legal computed_mail history.config (history.steps history.line) refl refl)

pub returns-clause-altered : goal.returns-clause-altered
returns-clause-altered c legal =
    refuted computed_mail history.config (history.steps history.altered) refl
    (legal-alike mail_alike history.config (history.steps history.altered) legal)
