use Rattle.std.proofs.Common.{◌∙◌, refl, ap, drop}
use Rattle.lr_script.specs.Texts.{service_text, config_text}
use Rattle.lr_script.proofs.Cuts.{head_field, service_spaceless}
use Rattle.lr_script.proofs.heading.header_of.Goals as goal

pub returns-in_err-service-clause-none : goal.returns-in_err-service-clause-none
returns-in_err-service-clause-none c _ header set e =
    let behind = c.in_ok-fields.ensures.cases.1 ∙ ap (drop 10) e in
    c.in_err-service.ensures.none refl header.service (head_field _ _ _ (service_text header.service) (config_text header.config) c.split_field.ensures.field behind (service_spaceless header.service))
