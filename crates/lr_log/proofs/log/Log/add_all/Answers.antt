use Rattle.std.proofs.Common.{◌∙◌, map}
use Rattle.lr_log.specs.Items.{items_of}
use Rattle.lr_log.proofs.Logs.{acks-free, ordered-all, ordered-back, taken-back}
use Rattle.lr_log.proofs.log.Log.add_all.Goals as goal

pub insert_all-requires-2-clause-free : goal.insert_all-requires-2-clause-free
insert_all-requires-2-clause-free g c =
    acks-free c.args.self.now c.self.inside.updates (map (λ u. u.now) c.args.updates.now) c.self.inside.acks
    c.args.acks.now c.self.view_is
    c.requires.free

pub invariant_of-self-in-Ok : goal.invariant_of-self-in-Ok
invariant_of-self-in-Ok g c =
    ordered-all c.args.self.now c.self.inside.updates c.insert_all.new.self (map (λ u. u.now) c.args.updates.now)
    c.self.inside.acks
    c.insert_all-2.new.self c.args.acks.now c.self.view_is c.requires.free c.self.invariant c.requires.ordered
    c.in_ok-insert_all.ensures.ok
    c.in-Ok.ensures.ok

pub invariant_of-self-in_default : goal.invariant_of-self-in_default
invariant_of-self-in_default g c =
    ordered-back c.self.inside.updates c.take_back.new.self c.self.inside.acks c.insert_all-2.new.self c.self.invariant
    (taken-back c.args.self.now c.self.inside.updates c.insert_all.new.self c.take_back.new.self c.args.updates.now
    c.self.inside.acks
    c.args.acks.now c.self.view_is c.requires.free c.in_ok-insert_all.ensures.ok c.take_back.ensures)
    c.in_default.ensures.err

pub returns-in_default-clause-err : goal.returns-in_default-clause-err
returns-in_default-clause-err g c =
    (λ i. items_of
    (taken-back c.args.self.now c.self.inside.updates c.insert_all.new.self c.take_back.new.self c.args.updates.now
    c.self.inside.acks
    c.args.acks.now c.self.view_is c.requires.free c.in_ok-insert_all.ensures.ok c.take_back.ensures i)
    (c.in_default.ensures.err i))
    ∙ c.self.view_is
