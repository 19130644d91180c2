-- What a front end keeps at all times.
use Rattle.std.specs.Prelude.{◌≡◌, ◌≤◌, ◌+◌, ℕ, Option, length}
use Rattle.std.specs.Option.{ForSome}
use Rattle.lr_base.specs.Limits.{last_number, most_replicas}
use Rattle.lr_base.specs.Stamps.{Stamp}
use Rattle.lr_base.specs.declared.lr_service.Kind.{Kind}
use Rattle.lr_base.specs.declared.messages.Call.{Call}

-- a call, where there is one, has an operation of this kind
-- for example: `add x 3` is causal
abbrev pub IsOfKind : {Op : Type 0} → (Op → Kind) → Kind → Option (Call Op) → Type 0
IsOfKind kind_of kind call = ForSome call (λ it. kind ≡ kind_of it.op)

-- there are some replicas, the label has a part for each and one for the order, the calls can be numbered, and the open
-- call is of this kind
-- for example: 1 replica, `[0, 0]`, 1, `0.1` with `add x 3`, causal
pub record IsKept {Op : Type 0} (kind_of : Op → Kind) (replicas : ℕ) (label : Stamp) (calls : ℕ)
    (open_call : Option (Call Op)) (kind : Kind) : Type 0 where
  pub some_replica : 1 ≤ replicas
  pub most_replicas : replicas ≤ most_replicas
  pub parts : length label ≡ replicas + 1
  pub most_calls : calls ≤ last_number
  pub same : IsOfKind kind_of kind open_call
