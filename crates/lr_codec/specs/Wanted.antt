-- Which operations may stand somewhere.
use Rattle.std.specs.Prelude.{Bool}
use Rattle.lr_base.specs.Kinds.{is_immediate}
use Rattle.lr_base.specs.declared.lr_service.Kind.{Kind}
use Rattle.lr_codec.specs.Parts.{is_update}
use Rattle.lr_codec.specs.declared.parts.Wanted.TheVariants as wanted
use Rattle.lr_codec.specs.declared.parts.Wanted.{Wanted}

-- the kinds that pass
abbrev pub passes : Wanted → Kind → Bool
passes wanted.Update = is_update
passes wanted.Immediate = is_immediate
