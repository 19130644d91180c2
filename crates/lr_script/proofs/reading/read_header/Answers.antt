use Rattle.std.proofs.Common.{Ok, rules}
use Rattle.lr_script.proofs.OneMeaning.{HasReadHeader, header_exactly, head_fault_exactly}
use Rattle.lr_script.proofs.reading.read_header.Goals as goal

pub returns-in_err-header-clause-header : goal.returns-in_err-header-clause-header
returns-in_err-header-clause-header c =
    let has : HasReadHeader c.args.bytes.now c.from_residual.result = record { ok = search rules; short = search rules; err = search rules; memory = search rules } in
    header_exactly c.args.bytes.now c.from_residual.result has

pub returns-in_err-header-clause-fault : goal.returns-in_err-header-clause-fault
returns-in_err-header-clause-fault c =
    let has : HasReadHeader c.args.bytes.now c.from_residual.result = record { ok = search rules; short = search rules; err = search rules; memory = search rules } in
    head_fault_exactly c.args.bytes.now c.from_residual.result has

pub returns-clause-header : goal.returns-clause-header
returns-clause-header c =
    let has : HasReadHeader c.args.bytes.now (Ok c.in_ok-header.header) = record { ok = search rules; short = search rules; err = search rules; memory = search rules } in
    header_exactly c.args.bytes.now (Ok c.in_ok-header.header) has

pub returns-clause-fault : goal.returns-clause-fault
returns-clause-fault c =
    let has : HasReadHeader c.args.bytes.now (Ok c.in_ok-header.header) = record { ok = search rules; short = search rules; err = search rules; memory = search rules } in
    head_fault_exactly c.args.bytes.now (Ok c.in_ok-header.header) has
