-- Steps of a run, from what its parts have done.
use Rattle.std.proofs.Common.{◌≡◌, ◌+◌, ◌++◌, ℕ, suc, [], ◌∷◌, Result, Ok, Err, arith, ap}
use Rattle.std.specs.Prelude.{IfOk}
use Rattle.lr_base.specs.Fronts.{new_front}
use Rattle.lr_base.specs.Meaning.{Meaning}
use Rattle.lr_base.specs.Replicas.{first_replica}
use Rattle.lr_base.specs.declared.names.Config.{Config}
use Rattle.lr_graph.specs.Runs.{first_fronts, first_replicas}

-- one replica more, and one front end
pub first_replicas-more : {Value Op : Type 0} (m : Meaning Value Op) (config : Config) (k : ℕ) → first_replicas m config k ++ first_replica m config k ∷ [] ≡ first_replicas m config (k + 1)
first_replicas-more m config k = let next : suc k ≡ k + 1 = omega arith in ap (first_replicas m config) next

pub first_fronts-more : {Op : Type 0} (config : Config) (k : ℕ) → first_fronts {Op = Op} config k ++ new_front config k ∷ [] ≡ first_fronts config (k + 1)
first_fronts-more config k = let next : suc k ≡ k + 1 = omega arith in ap (first_fronts config) next

-- what follows of an answer
pub map-ok : {A E : Type 0} (result : Result A E) (P Q : A → Type 0) → ((x : A) → P x → Q x) → IfOk result P → IfOk result Q
map-ok (Ok x) P Q step p = step x p
map-ok (Err e) P Q step p = tt
