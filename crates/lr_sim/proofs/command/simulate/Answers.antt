use Rattle.std.proofs.Common.{refl, Ok}
use Rattle.lr_script.specs.declared.heading.Name.TheVariants.{Tally, Mail, Claims}
use Rattle.lr_sim.proofs.Ending.{head-means, holds-at, means-named, one-header, refusals-of}
use Rattle.lr_sim.proofs.command.simulate.Goals as goal
use Rattle.svc_claims.specs.Claims.{claims}
use Rattle.svc_mail.specs.Mail.{mail}
use Rattle.svc_tally.specs.Tally.{tally}

pub returns-in-Tally : goal.returns-in-Tally
returns-in-Tally g c source read =
    let header = c.in-Ok.header in
    let is = c.in-Ok.ensures.header in
    let one = one-header header c.args.bytes.now (Ok header) refl ((is header).0 refl).1 (λ other. (is other).1) in
    means-named header c.args.bytes.now c.in-Ok.ensures.ok one tally (λ P. holds-at P header.service Tally c.in-Tally.is)
    source _ _ read c.simulate_script.ensures

pub returns-in-Mail : goal.returns-in-Mail
returns-in-Mail g c source read =
    let header = c.in-Ok.header in
    let is = c.in-Ok.ensures.header in
    let one = one-header header c.args.bytes.now (Ok header) refl ((is header).0 refl).1 (λ other. (is other).1) in
    means-named header c.args.bytes.now c.in-Ok.ensures.ok one mail (λ P. holds-at P header.service Mail c.in-Mail.is)
    source _ _ read c.simulate_script-in-Mail.ensures

pub returns-in-Claims : goal.returns-in-Claims
returns-in-Claims g c source read =
    let header = c.in-Ok.header in
    let is = c.in-Ok.ensures.header in
    let one = one-header header c.args.bytes.now (Ok header) refl ((is header).0 refl).1 (λ other. (is other).1) in
    means-named header c.args.bytes.now c.in-Ok.ensures.ok one claims (λ P. holds-at P header.service Claims c.in-Claims.is)
    source _ _ read c.simulate_script-in-Claims.ensures

pub returns-in-Err : goal.returns-in-Err
returns-in-Err g c source read =
    let bytes = c.args.bytes.now in
    head-means g.W.Sink.seen _ source bytes c.in-Err.fault c.refused.result
    (refusals-of bytes (c.what_is_refused_means_nothing.ensures bytes) (c.what_is_refused_means_nothing-2.ensures bytes) (c.what_is_refused_means_nothing-3.ensures bytes))
    c.refused.ensures c.in-Err.ensures.err read
