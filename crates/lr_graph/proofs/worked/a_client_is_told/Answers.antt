use Rattle.std.proofs.Common.{inl, refl}
use Rattle.lr_graph.proofs.worked.a_client_is_told.Goals as goal

pub returns-clause-done : goal.returns-clause-done
returns-clause-done c = record { message = _; comes = refl; to = refl; what = refl; got = inl refl }

pub returns-clause-answer : goal.returns-clause-answer
returns-clause-answer c = record { message = _; comes = refl; to = refl; what = refl; got = inl refl }
