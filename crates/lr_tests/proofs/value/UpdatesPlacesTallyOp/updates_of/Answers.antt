use Rattle.std.proofs.Common.{arith}
use Rattle.lr_tests.proofs.Places.{sample-in-order, sample-one, sample-past, sample-two, sample-zero}
use Rattle.lr_tests.proofs.value.UpdatesPlacesTallyOp.updates_of.Goals as goal

pub returns-in-0-clause-updates : goal.returns-in-0-clause-updates
returns-in-0-clause-updates c =
    let it = c.args.self.now in
    sample-zero c.args.place it.zero.0 it.one.0 it.two.0 it.zero.1 it.one.1 it.two.1 c.as_slice-zero.result.now
    c.in-0.is
    it.zero_is it.one_is it.two_is c.as_slice-zero.ensures.sample c.as_slice-one.ensures.sample
    c.as_slice-two.ensures.sample c.as_slice-zero.ensures.all

pub returns-in-1-clause-updates : goal.returns-in-1-clause-updates
returns-in-1-clause-updates c =
    let it = c.args.self.now in
    sample-one c.args.place it.zero.0 it.one.0 it.two.0 it.zero.1 it.one.1 it.two.1 c.as_slice-one.result.now c.in-1.is
    it.zero_is it.one_is it.two_is c.as_slice-zero.ensures.sample c.as_slice-one.ensures.sample
    c.as_slice-two.ensures.sample c.as_slice-one.ensures.all

pub returns-in-2-clause-updates : goal.returns-in-2-clause-updates
returns-in-2-clause-updates c =
    let it = c.args.self.now in
    sample-two c.args.place it.zero.0 it.one.0 it.two.0 it.zero.1 it.one.1 it.two.1 c.as_slice-two.result.now c.in-2.is
    it.zero_is it.one_is it.two_is c.as_slice-zero.ensures.sample c.as_slice-one.ensures.sample
    c.as_slice-two.ensures.sample c.as_slice-two.ensures.all

pub returns-in_default-clause-updates : goal.returns-in_default-clause-updates
returns-in_default-clause-updates c =
    let it = c.args.self.now in
    sample-past c.args.place it.zero.0 it.one.0 it.two.0 it.zero.1 it.one.1 it.two.1 (λ e. omega arith)
    (λ e. omega arith)
    (λ e. omega arith) it.zero_is it.one_is it.two_is c.as_slice-zero.ensures.sample c.as_slice-one.ensures.sample
    c.as_slice-two.ensures.sample

pub returns-in-0-clause-in_order : goal.returns-in-0-clause-in_order
returns-in-0-clause-in_order c =
    let it = c.args.self.now in
    sample-in-order it.zero.0 it.one.0 it.two.0 it.zero.1 it.one.1 it.two.1 it.zero_is it.one_is it.two_is
    c.as_slice-zero.ensures.sample c.as_slice-one.ensures.sample c.as_slice-two.ensures.sample

pub returns-in-1-clause-in_order : goal.returns-in-1-clause-in_order
returns-in-1-clause-in_order c =
    let it = c.args.self.now in
    sample-in-order it.zero.0 it.one.0 it.two.0 it.zero.1 it.one.1 it.two.1 it.zero_is it.one_is it.two_is
    c.as_slice-zero.ensures.sample c.as_slice-one.ensures.sample c.as_slice-two.ensures.sample

pub returns-in-2-clause-in_order : goal.returns-in-2-clause-in_order
returns-in-2-clause-in_order c =
    let it = c.args.self.now in
    sample-in-order it.zero.0 it.one.0 it.two.0 it.zero.1 it.one.1 it.two.1 it.zero_is it.one_is it.two_is
    c.as_slice-zero.ensures.sample c.as_slice-one.ensures.sample c.as_slice-two.ensures.sample

pub returns-in_default-clause-in_order : goal.returns-in_default-clause-in_order
returns-in_default-clause-in_order c =
    let it = c.args.self.now in
    sample-in-order it.zero.0 it.one.0 it.two.0 it.zero.1 it.one.1 it.two.1 it.zero_is it.one_is it.two_is
    c.as_slice-zero.ensures.sample c.as_slice-one.ensures.sample c.as_slice-two.ensures.sample
