use Rattle.std.proofs.Common.{refl}
use Rattle.lr_graph.proofs.worked.a_call_stays_while_its_update_is_logged.Goals as goal

pub returns-clause-stays : goal.returns-clause-stays
returns-clause-stays c = (
  record { event = refl; outcomes = refl },
  (
    record { event = refl; outcomes = refl },
    (
      record { event = refl; outcomes = refl },
      (
        record { event = refl; outcomes = refl },
        (
          record { event = refl; outcomes = refl },
          (record { event = refl; outcomes = refl }, tt),
        ),
      ),
    ),
  ),
)
