use Rattle.std.proofs.Common.{inl, inr}
use Rattle.lr_causal.proofs.Entered.{kept-entered}
use Rattle.lr_causal.proofs.entering.EnteringExecuted.enter.Goals as goal

pub returns-clause-kept : goal.returns-clause-kept
returns-clause-kept c =
    kept-entered _ c.args.cid c.args.entry c.args.self.now.entered.items c.push.new.self.items c.args.self.now.table
    c.enter.new.self c.args.self.now.within c.requires c.in_ok-push.ensures.items (inl c.in_ok-enter.ensures.ok)

pub returns-in_err-enter-clause-kept : goal.returns-in_err-enter-clause-kept
returns-in_err-enter-clause-kept c =
    kept-entered _ c.args.cid c.args.entry c.args.self.now.entered.items c.push.new.self.items c.args.self.now.table
    c.enter.new.self c.args.self.now.within c.requires c.in_ok-push.ensures.items (inr c.in_err-enter.ensures.err)
