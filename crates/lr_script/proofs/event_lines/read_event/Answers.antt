use Rattle.std.proofs.Common.{◌++◌, ◌∷◌, ◌∙◌, refl, ap}
use Rattle.lr_script.specs.Fields.{word_text}
use Rattle.lr_script.specs.Faults.{IsBadEvent, no_word, word_alone, bad_rest, IsBadCall, IsBadSending, IsBadDeliver, IsBadTick, IsBadGossip, IsBadShow}
use Rattle.lr_script.specs.declared.fields.EventWord.TheVariants.{Call, Resend, Ack, Deliver, Tick, Gossip, Show}
use Rattle.lr_script.proofs.Cuts.{field_alone_is, field_before_is, no_word_alone, no_word_before}
use Rattle.lr_script.proofs.FaultLemmas.{fault_said}
use Rattle.lr_script.proofs.event_lines.read_event.Goals as goal

pub returns-in_default-clause-err : goal.returns-in_default-clause-err
returns-in_default-clause-err g c =
    let none = c.in_default.ensures.none refl in
    let is = c.split_field.ensures.field in
    no_word (λ word. no_word_alone _ _ _ is word (none word)) (λ word. no_word_before _ _ _ is word (none word))

pub returns-in_default-fields-clause-err : goal.returns-in_default-fields-clause-err
returns-in_default-fields-clause-err g c =
    let is = field_alone_is _ _ _ c.split_field.ensures.field c.in_default-fields.is in
    word_alone c.in-Some.word (is ∙ c.in-Some.ensures.some)

pub returns-in-Call-clause-err : goal.returns-in-Call-clause-err
returns-in-Call-clause-err g c =
    let fields = c.in-Some-fields.fields.now in
    let is = field_before_is _ _ _ _ c.split_field.ensures.field c.in-Some-fields.is in
    let word = c.in-Some.ensures.some ∙ ap word_text c.in-Call.is in
    fault_said (IsBadCall g.S.Service.meaning c.args.config fields) (IsBadEvent g.S.Service.meaning c.args.config c.args.text.now)
    (λ cause bad. bad_rest Call fields cause (is ∙ ap (λ w. w ++ 32 ∷ fields) word) bad) c.read_call.result c.read_call.ensures.err

pub returns-in-Resend-clause-err : goal.returns-in-Resend-clause-err
returns-in-Resend-clause-err g c =
    let fields = c.in-Some-fields.fields.now in
    let is = field_before_is _ _ _ _ c.split_field.ensures.field c.in-Some-fields.is in
    let word = c.in-Some.ensures.some ∙ ap word_text c.in-Resend.is in
    fault_said (IsBadSending c.args.config fields) (IsBadEvent g.S.Service.meaning c.args.config c.args.text.now)
    (λ cause bad. bad_rest Resend fields cause (is ∙ ap (λ w. w ++ 32 ∷ fields) word) bad) c.read_resend.result c.read_resend.ensures.err

pub returns-in-Ack-clause-err : goal.returns-in-Ack-clause-err
returns-in-Ack-clause-err g c =
    let fields = c.in-Some-fields.fields.now in
    let is = field_before_is _ _ _ _ c.split_field.ensures.field c.in-Some-fields.is in
    let word = c.in-Some.ensures.some ∙ ap word_text c.in-Ack.is in
    fault_said (IsBadSending c.args.config fields) (IsBadEvent g.S.Service.meaning c.args.config c.args.text.now)
    (λ cause bad. bad_rest Ack fields cause (is ∙ ap (λ w. w ++ 32 ∷ fields) word) bad) c.read_ack.result c.read_ack.ensures.err

pub returns-in-Deliver-clause-err : goal.returns-in-Deliver-clause-err
returns-in-Deliver-clause-err g c =
    let fields = c.in-Some-fields.fields.now in
    let is = field_before_is _ _ _ _ c.split_field.ensures.field c.in-Some-fields.is in
    let word = c.in-Some.ensures.some ∙ ap word_text c.in-Deliver.is in
    fault_said (IsBadDeliver fields) (IsBadEvent g.S.Service.meaning c.args.config c.args.text.now)
    (λ cause bad. bad_rest Deliver fields cause (is ∙ ap (λ w. w ++ 32 ∷ fields) word) bad) c.read_deliver.result c.read_deliver.ensures.err

pub returns-in-Tick-clause-err : goal.returns-in-Tick-clause-err
returns-in-Tick-clause-err g c =
    let fields = c.in-Some-fields.fields.now in
    let is = field_before_is _ _ _ _ c.split_field.ensures.field c.in-Some-fields.is in
    let word = c.in-Some.ensures.some ∙ ap word_text c.in-Tick.is in
    fault_said (IsBadTick c.args.config fields) (IsBadEvent g.S.Service.meaning c.args.config c.args.text.now)
    (λ cause bad. bad_rest Tick fields cause (is ∙ ap (λ w. w ++ 32 ∷ fields) word) bad) c.read_tick.result c.read_tick.ensures.err

pub returns-in-Gossip-clause-err : goal.returns-in-Gossip-clause-err
returns-in-Gossip-clause-err g c =
    let fields = c.in-Some-fields.fields.now in
    let is = field_before_is _ _ _ _ c.split_field.ensures.field c.in-Some-fields.is in
    let word = c.in-Some.ensures.some ∙ ap word_text c.in-Gossip.is in
    fault_said (IsBadGossip c.args.config fields) (IsBadEvent g.S.Service.meaning c.args.config c.args.text.now)
    (λ cause bad. bad_rest Gossip fields cause (is ∙ ap (λ w. w ++ 32 ∷ fields) word) bad) c.read_gossip.result c.read_gossip.ensures.err

pub returns-in-Show-clause-err : goal.returns-in-Show-clause-err
returns-in-Show-clause-err g c =
    let fields = c.in-Some-fields.fields.now in
    let is = field_before_is _ _ _ _ c.split_field.ensures.field c.in-Some-fields.is in
    let word = c.in-Some.ensures.some ∙ ap word_text c.in-Show.is in
    fault_said (IsBadShow c.args.config fields) (IsBadEvent g.S.Service.meaning c.args.config c.args.text.now)
    (λ cause bad. bad_rest Show fields cause (is ∙ ap (λ w. w ++ 32 ∷ fields) word) bad) c.read_show.result c.read_show.ensures.err
