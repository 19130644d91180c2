use Rattle.std.proofs.Common.{◌+◌, ◌-◌, length, take, drop, get_or, sym, ◌∙◌}
use Rattle.lr_script.proofs.Splits.{around}
use Rattle.lr_script.proofs.Printables.{printable_before, printable_all, unended, unended_around, unprintable_there}
use Rattle.lr_script.proofs.lines.first_line.Goals as goal

pub returns-in_default-clause-err : goal.returns-in_default-clause-err
returns-in_default-clause-err c = unended c.args.bytes.now (printable_all c.args.bytes.now (sym c.in_default.ensures))

pub returns-then-bytes-end-eq10-clause-printable : goal.returns-then-bytes-end-eq10-clause-printable
returns-then-bytes-end-eq10-clause-printable c = printable_before c.args.bytes.now c.in-Some.end (sym c.in-Some.ensures)

pub returns-then-contains-clause-err : goal.returns-then-contains-clause-err
returns-then-contains-clause-err c =
    let there = unprintable_there c.args.bytes.now c.in-Some.end (sym c.in-Some.ensures) in
    record {
      before = take c.in-Some.end c.args.bytes.now;
      byte = get_or c.args.bytes.now c.in-Some.end 0;
      later = take (length c.args.bytes.now - (c.in-Some.end + 1)) (drop (c.in-Some.end + 1) c.args.bytes.now);
      text = around c.args.bytes.now c.in-Some.end there.0;
      printable = printable_before c.args.bytes.now c.in-Some.end (sym c.in-Some.ensures);
      bad = there.1;
      other = c.if-bytes-end-eq10.false;
      ended = sym c.contains.ensures.value ∙ c.if-contains.true;
    }

pub returns-clause-err : goal.returns-clause-err
returns-clause-err c =
    let there = unprintable_there c.args.bytes.now c.in-Some.end (sym c.in-Some.ensures) in
    unended_around c.args.bytes.now _ _ _ (around c.args.bytes.now c.in-Some.end there.0) (printable_before c.args.bytes.now c.in-Some.end (sym c.in-Some.ensures)) c.if-bytes-end-eq10.false (sym c.contains.ensures.value ∙ c.if-contains.false)
