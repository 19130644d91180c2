use Rattle.std.proofs.Common.{◌∙◌, ap, length, subst, sym}
use Rattle.lr_causal.specs.Causal.{HasSeen, NoneApplied}
use Rattle.lr_value.specs.Remembered.{Remembers}
use Rattle.lr_causal.proofs.causal.Causal.close.Goals as goal

pub invariant_of-self-clause-val_parts : goal.invariant_of-self-clause-val_parts
invariant_of-self-clause-val_parts g c = ap (λ v. length v.val_ts) c.keep.ensures ∙ c.args.self.now.val_parts

pub invariant_of-self-clause-remembers : goal.invariant_of-self-clause-remembers
invariant_of-self-clause-remembers g c =
    let it = c.args.self.now in subst (λ v. Remembers v it.log.updates) (sym c.keep.ensures) it.remembers

pub invariant_of-self-clause-seen : goal.invariant_of-self-clause-seen
invariant_of-self-clause-seen g c =
    let it = c.args.self.now in subst (λ v. HasSeen it.table.own v.memory) (sym c.keep.ensures) it.seen

pub invariant_of-self-clause-waits : goal.invariant_of-self-clause-waits
invariant_of-self-clause-waits g c known =
    let it = c.args.self.now in
    subst (λ v. NoneApplied v.val_ts it.held.items) (sym c.keep.ensures) (it.waits known)
