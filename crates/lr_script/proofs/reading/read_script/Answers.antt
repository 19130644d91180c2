use Rattle.std.proofs.Common.{Err, ap, rules}
use Rattle.std.specs.Prelude.{IfOk, IfErr}
use Rattle.lr_base.specs.OpLaws.{one-text}
use Rattle.lr_script.specs.Faults.{IsScriptFault}
use Rattle.lr_script.specs.Script.{IsScript}
use Rattle.lr_script.specs.declared.heading.Header.{Header}
use Rattle.lr_script.proofs.OneMeaning.{head_fault_is, script_exactly, fault_exactly}
use Rattle.lr_script.proofs.Refusing.{head_refused, lines_refused}
use Rattle.lr_script.proofs.ScriptRefusals.{head_fault, events_read, head_refuted}
use Rattle.lr_script.proofs.reading.read_script.Goals as goal

pub returns-in-Ok-clause-ok : goal.returns-in-Ok-clause-ok
returns-in-Ok-clause-ok g c = events_read g.S.Service.meaning c.args.bytes.now c.in-Ok.lines.now c.in-Ok.header c.read_events.result c.in-Ok.ensures.valid c.in-Ok.ensures.short c.in-Ok.ensures.text c.read_events.ensures.fit c.read_events.ensures.text

pub returns-in-Ok-clause-err : goal.returns-in-Ok-clause-err
returns-in-Ok-clause-err g c = lines_refused g.S.Service.meaning g.met.S.Service.lawful.printable_text c.args.bytes.now c.in-Ok.lines.now c.in-Ok.header c.in-Ok.ensures.valid c.in-Ok.ensures.short c.in-Ok.ensures.text c.read_events.result c.read_events.ensures.err

pub returns-in-Err-clause-err : goal.returns-in-Err-clause-err
returns-in-Err-clause-err g c = head_refused g.S.Service.meaning g.met.S.Service.lawful.printable_text c.args.bytes.now c.in-Err.fault c.in-Err.ensures.err

pub returns-in-Ok-clause-whole : goal.returns-in-Ok-clause-whole
returns-in-Ok-clause-whole g c =
    let m = g.S.Service.meaning in
    let bytes = c.args.bytes.now in
    let result = c.read_events.result in
    let ok : IfOk result (λ events. (header : Header) × IsScript m header events bytes) = search rules in
    let err : IfErr result (IsScriptFault m bytes) = search rules in
    script_exactly m g.met.S.Service.lawful.printable_text bytes (one-text g.S.Service.meaning g.met.S.Service.lawful) result ok err

pub returns-in-Ok-clause-exact : goal.returns-in-Ok-clause-exact
returns-in-Ok-clause-exact g c =
    let m = g.S.Service.meaning in
    let bytes = c.args.bytes.now in
    let result = c.read_events.result in
    let ok : IfOk result (λ events. (header : Header) × IsScript m header events bytes) = search rules in
    let err : IfErr result (IsScriptFault m bytes) = search rules in
    fault_exactly m g.met.S.Service.lawful.printable_text bytes result ok err

pub returns-in-Err-clause-whole : goal.returns-in-Err-clause-whole
returns-in-Err-clause-whole g c =
    let m = g.S.Service.meaning in
    script_exactly m g.met.S.Service.lawful.printable_text c.args.bytes.now (one-text g.S.Service.meaning g.met.S.Service.lawful) (Err c.in-Err.fault) tt (head_fault m c.args.bytes.now c.in-Err.fault c.in-Err.ensures.err)

pub returns-in-Err-clause-exact : goal.returns-in-Err-clause-exact
returns-in-Err-clause-exact g c =
    let m = g.S.Service.meaning in
    fault_exactly m g.met.S.Service.lawful.printable_text c.args.bytes.now (Err c.in-Err.fault) tt (head_fault m c.args.bytes.now c.in-Err.fault c.in-Err.ensures.err)

pub returns-in-Ok-clause-head : goal.returns-in-Ok-clause-head
returns-in-Ok-clause-head g c = λ line cause bad.
    absurd (head_refuted c.args.bytes.now c.in-Ok.header (record { valid = c.in-Ok.ensures.valid; rest = c.in-Ok.lines.now; text = c.in-Ok.ensures.text }) c.in-Ok.ensures.short line cause bad)

pub returns-in-Err-clause-head : goal.returns-in-Err-clause-head
returns-in-Err-clause-head g c = λ line cause bad. ap Err (head_fault_is c.args.bytes.now c.in-Err.fault c.in-Err.ensures.err (λ e. c.in-Err.ensures.memory (ap Err e)) line cause bad)
