use Rattle.std.proofs.Common.{◌∙◌, sym, refl, arith}
use Rattle.std.proofs.lemmas.Fmt.{decimal_injective}
use Rattle.lr_script.proofs.Cuts.{config_one, config_spaces}
use Rattle.lr_script.proofs.heading.config_of.Goals as goal

pub returns-in_err-texts-clause-none : goal.returns-in_err-texts-clause-none
returns-in_err-texts-clause-none c _ config set e =
    let few = c.in_err-texts.ensures.none refl in
    let many = config_spaces c.args.fields.now config set e in
    omega arith

pub returns-in_err-replicas-clause-none : goal.returns-in_err-replicas-clause-none
returns-in_err-replicas-clause-none c _ config set e =
    let one = config_one _ _ _ _ config c.in_ok-texts.ensures.some set e in
    c.in_err-replicas.ensures.none refl config.replicas (omega arith) one.0

pub returns-in_err-clients-clause-none : goal.returns-in_err-clients-clause-none
returns-in_err-clients-clause-none c _ config set e =
    let one = config_one _ _ _ _ config c.in_ok-texts.ensures.some set e in
    c.in_err-clients.ensures.none refl config.clients (omega arith) one.1

pub returns-in_err-delta-clause-none : goal.returns-in_err-delta-clause-none
returns-in_err-delta-clause-none c _ config set e =
    let one = config_one _ _ _ _ config c.in_ok-texts.ensures.some set e in
    c.in_err-delta.ensures.none refl config.delta set.number one.2

pub returns-then-replicas-lt1-clause-none : goal.returns-then-replicas-lt1-clause-none
returns-then-replicas-lt1-clause-none c _ config set e =
    let one = config_one _ _ _ _ config c.in_ok-texts.ensures.some set e in
    let same = decimal_injective c.in_ok-replicas.replicas config.replicas (omega arith) (omega arith) (sym c.in_ok-replicas.ensures.read ∙ one.0) in
    absurd (omega arith)

pub returns-then-replicas-gt-MOST_REPLICAS-clause-none : goal.returns-then-replicas-gt-MOST_REPLICAS-clause-none
returns-then-replicas-gt-MOST_REPLICAS-clause-none c _ config set e =
    let one = config_one _ _ _ _ config c.in_ok-texts.ensures.some set e in
    let same = decimal_injective c.in_ok-replicas.replicas config.replicas (omega arith) (omega arith) (sym c.in_ok-replicas.ensures.read ∙ one.0) in
    absurd (omega arith)

pub returns-then-clients-lt1-clause-none : goal.returns-then-clients-lt1-clause-none
returns-then-clients-lt1-clause-none c _ config set e =
    let one = config_one _ _ _ _ config c.in_ok-texts.ensures.some set e in
    let same = decimal_injective c.in_ok-clients.clients config.clients (omega arith) (omega arith) (sym c.in_ok-clients.ensures.read ∙ one.1) in
    absurd (omega arith)

pub returns-then-clients-gt-MOST_CLIENTS-clause-none : goal.returns-then-clients-gt-MOST_CLIENTS-clause-none
returns-then-clients-gt-MOST_CLIENTS-clause-none c _ config set e =
    let one = config_one _ _ _ _ config c.in_ok-texts.ensures.some set e in
    let same = decimal_injective c.in_ok-clients.clients config.clients (omega arith) (omega arith) (sym c.in_ok-clients.ensures.read ∙ one.1) in
    absurd (omega arith)
