use Rattle.svc_claims.specs.Claims.{claims_format}
use Rattle.svc_claims.proofs.value.ClaimsService.get.Goals as goal

pub returns : goal.returns
returns c = c.decoded.ensures (claims_format.field c.args.bytes.now) c.field.ensures
