-- This file is made by .ci/laws_of_histories.
use Rattle.std.proofs.Common.{refl}
use Rattle.lr_histories.proofs.Alike.{legal-alike, turned}
use Rattle.lr_histories.proofs.Computing.{computed_tally, tally_alike}
use Rattle.lr_histories.proofs.Deciding.{found-legal, refuted}
use Rattle.lr_histories.specs.AnAcknowledgementIsNotedAgainAfterItLeft.{history}
use Rattle.lr_histories.proofs.an_acknowledgement_is_noted_again_after_it_left.judged.Goals as goal

pub returns-clause-legal : goal.returns-clause-legal
returns-clause-legal c =
    legal-alike (turned tally_alike) history.config (history.steps history.line)
    (found-legal computed_tally history.config (history.steps history.line) refl refl)

pub returns-clause-altered : goal.returns-clause-altered
returns-clause-altered c legal =
    refuted computed_tally history.config (history.steps history.altered) refl
    (legal-alike tally_alike history.config (history.steps history.altered) legal)
