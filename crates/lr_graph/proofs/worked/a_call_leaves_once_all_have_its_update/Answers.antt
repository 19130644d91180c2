use Rattle.std.proofs.Common.{refl}
use Rattle.lr_graph.proofs.worked.a_call_leaves_once_all_have_its_update.Goals as goal

pub returns-clause-leaves : goal.returns-clause-leaves
returns-clause-leaves c = (
  record { event = refl; outcomes = refl },
  (
    record { event = refl; outcomes = refl },
    (
      record { event = refl; outcomes = refl },
      (
        record { event = refl; outcomes = refl },
        (
          record { event = refl; outcomes = refl },
          (
            record { event = refl; outcomes = refl },
            (
              record { event = refl; outcomes = refl },
              (
                record { event = refl; outcomes = refl },
                (
                  record { event = refl; outcomes = refl },
                  (
                    record { event = refl; outcomes = refl },
                    (
                      record { event = refl; outcomes = refl },
                      (record { event = refl; outcomes = refl }, tt),
                    ),
                  ),
                ),
              ),
            ),
          ),
        ),
      ),
    ),
  ),
)

pub returns-clause-in_time : goal.returns-clause-in_time
returns-clause-in_time c = (
  record { event = refl; outcomes = refl },
  (
    record { event = refl; outcomes = refl },
    (
      record { event = refl; outcomes = refl },
      (
        record { event = refl; outcomes = refl },
        (
          record { event = refl; outcomes = refl },
          (
            record { event = refl; outcomes = refl },
            (
              record { event = refl; outcomes = refl },
              (
                record { event = refl; outcomes = refl },
                (
                  record { event = refl; outcomes = refl },
                  (
                    record { event = refl; outcomes = refl },
                    (
                      record { event = refl; outcomes = refl },
                      (record { event = refl; outcomes = refl }, tt),
                    ),
                  ),
                ),
              ),
            ),
          ),
        ),
      ),
    ),
  ),
)
