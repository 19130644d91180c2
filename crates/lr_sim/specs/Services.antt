-- To be believed: the services that a header may name.
use Rattle.lr_base.specs.Meaning.{Meaning}
use Rattle.lr_script.specs.declared.heading.Name.{Name}
use Rattle.lr_script.specs.declared.heading.Name.TheVariants.{Tally, Mail, Claims}
use Rattle.svc_claims.specs.Claims.{claims}
use Rattle.svc_mail.specs.Mail.{mail}
use Rattle.svc_tally.specs.Tally.{tally}

-- this holds of what the service of this name means
-- for example: of `tally`, where the header names it
abbrev pub HoldsOf : ((Value Op : Type 0) → Meaning Value Op → Type 0) → Name → Type 0
HoldsOf P Tally = P _ _ tally
HoldsOf P Mail = P _ _ mail
HoldsOf P Claims = P _ _ claims
