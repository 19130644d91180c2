-- To be believed: kinds of operations, and which pairs of updates need one order.
use Rattle.std.specs.Prelude.{◌≡◌, Bool, true, false, ◌&&◌, ◌||◌, not}
use Rattle.lr_base.specs.declared.lr_service.Kind.{Kind}
use Rattle.lr_base.specs.declared.lr_service.Kind.TheVariants.{Query, Forced, Immediate}

-- whether an operation of this kind only reads
-- for example: `is_query Query` is true
abbrev pub is_query : Kind → Bool
is_query Query = true
is_query _ = false

-- whether it is a forced update
abbrev pub is_forced : Kind → Bool
is_forced Forced = true
is_forced _ = false

-- whether it is an immediate update
abbrev pub is_immediate : Kind → Bool
is_immediate Immediate = true
is_immediate _ = false

-- an operation of this kind only reads
-- for example: `Query`
abbrev pub IsQuery : Kind → Type 0
IsQuery kind = is_query kind ≡ true

-- an operation of this kind may change the value
-- for example: `Causal`, `Forced`, `Immediate`
abbrev pub IsUpdate : Kind → Type 0
IsUpdate kind = is_query kind ≡ false

-- operations of this kind have rules in a run: they are ordered by labels alone
-- for example: true of `Causal` and `Query`, false of `Forced`
abbrev pub has_rules : Kind → Bool
has_rules kind = not (is_forced kind) && not (is_immediate kind)

-- two updates of these kinds need one order everywhere: one is immediate, or both are forced
-- for example: true of `Forced, Forced`; false of `Causal, Forced`
abbrev pub are_ordered : Kind → Kind → Bool
are_ordered a b = is_immediate a || is_immediate b || (is_forced a && is_forced b)
