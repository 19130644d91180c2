use Rattle.std.proofs.Common.{[], ◌∷◌, refl, sym}
use Rattle.lr_base.specs.declared.events.Outcome.TheVariants.{Send}
use Rattle.lr_base.specs.declared.events.Sent.TheVariants.{Answer}
use Rattle.lr_base.specs.declared.names.Actor.TheVariants.{Client, Replica}
use Rattle.lr_graph.proofs.Counting.{three-read}
use Rattle.lr_graph.specs.Worked.{second_call}
use Rattle.lr_graph.proofs.worked.an_addition_is_read.Goals as goal

pub returns : goal.returns
returns c = (
  record { event = refl; outcomes = refl },
  (
    record { event = refl; outcomes = refl },
    (
      record { event = refl; outcomes = refl },
      (
        record { event = refl; outcomes = refl },
        (
          record {
            event = refl;
            outcomes = λ k. Send 4 (Replica 0) (Client 0) (Answer second_call (sym three-read k)) ∷ [];
          },
          (record { event = refl; outcomes = refl }, (record { event = refl; outcomes = refl }, tt)),
        ),
      ),
    ),
  ),
)
