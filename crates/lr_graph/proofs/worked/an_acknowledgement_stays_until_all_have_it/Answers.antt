use Rattle.std.proofs.Common.{refl}
use Rattle.lr_graph.proofs.worked.an_acknowledgement_stays_until_all_have_it.Goals as goal

pub returns-clause-stays : goal.returns-clause-stays
returns-clause-stays c = (
  record { event = refl; outcomes = refl },
  (
    record { event = refl; outcomes = refl },
    (
      record { event = refl; outcomes = refl },
      (
        record { event = refl; outcomes = refl },
        (
          record { event = refl; outcomes = refl },
          (
            record { event = refl; outcomes = refl },
            (
              record { event = refl; outcomes = refl },
              (
                record { event = refl; outcomes = refl },
                (
                  record { event = refl; outcomes = refl },
                  (
                    record { event = refl; outcomes = refl },
                    (record { event = refl; outcomes = refl }, tt),
                  ),
                ),
              ),
            ),
          ),
        ),
      ),
    ),
  ),
)
