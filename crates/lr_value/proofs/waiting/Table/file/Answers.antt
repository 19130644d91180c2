use Rattle.std.proofs.Common.{◌≢◌, inl, refl}
use Rattle.std.proofs.Math.Nat.{le_refl}
use Rattle.lr_base.specs.Stamps.{part}
use Rattle.lr_value.specs.Table.{Lacks, is_met}
use Rattle.lr_value.proofs.Held.{held-block, held-put, if-both, table-block, table-put}
use Rattle.lr_value.proofs.Members.{fits-among, same-spot}
use Rattle.lr_value.proofs.Placed.{count-inserted, met-lacking}
use Rattle.lr_value.proofs.waiting.Table.file.Goals as goal

pub first_lack-requires : goal.first_lack-requires
first_lack-requires g c = (fits-among _ c.requires.1 c.requires.2.fit c.args.update.now c.requires.3).prev

pub make_ready-requires-clause-one : goal.make_ready-requires-clause-one
make_ready-requires-clause-one g c r among same =
    let left = c.requires.1 in
    let table = c.requires.2 in
    same-spot left table.order r.now c.args.update.now (table.held r.now (inl (r, among, refl))) c.requires.3 same

pub returns-in-None-clause-table : goal.returns-in-None-clause-table
returns-in-None-clause-table g c =
    if-both c.make_ready.result _ _ _ (λ ok put order raised left among table. rw c.make_ready.ensures.blocked
    (table-put (λ needs. needs.place ≢ raised → Lacks c.args.val_ts.now needs) c.args.val_ts.now left
    c.args.self.now.ready.items c.args.self.now.blocked.items table c.args.update.now _ among
    (c.in-None.ensures.none refl) put order)) c.make_ready.ensures.ready c.make_ready.ensures.in_order

pub returns-in-None-clause-held : goal.returns-in-None-clause-held
returns-in-None-clause-held g c =
    if-both c.make_ready.result _ _ _ (λ ok put order u. rw c.make_ready.ensures.blocked
    (held-put c.args.update.now c.args.self.now.ready.items _ c.args.self.now.blocked.items put u)) c.make_ready.ensures.ready
    c.make_ready.ensures.in_order

pub returns-in-Some-clause-table : goal.returns-in-Some-clause-table
returns-in-Some-clause-table g c =
    if-both c.block.result _ _ _ (λ ok put order raised left among table. rw (c.block.ensures.ready, put.1)
    (table-block (λ needs. needs.place ≢ raised → Lacks c.args.val_ts.now needs) c.args.val_ts.now left
    c.args.self.now.ready.items c.args.self.now.blocked.items table c.in-Some.needs c.args.update put.0 among
    (λ other. c.in-Some.ensures.lacks) c.in-Some.ensures.stands (rw put.1 at order))) c.block.ensures.blocked
    c.block.ensures.by_need

pub returns-in-Some-clause-held : goal.returns-in-Some-clause-held
returns-in-Some-clause-held g c =
    if-both c.block.result _ _ _ (λ ok put order u. rw (c.block.ensures.ready, put.1)
    (held-block c.in-Some.needs c.args.update c.args.self.now.ready.items c.args.self.now.blocked.items put.0 u))
    c.block.ensures.blocked c.block.ensures.by_need

pub returns-in-Some-clause-met : goal.returns-in-Some-clause-met
returns-in-Some-clause-met g c =
    if-both c.block.result _ _ _ (λ ok put order place.
    let blocked = c.args.self.now.blocked.items in
    let same = count-inserted (λ b. is_met place (part c.args.val_ts.now place) b.needs) blocked put.0
    (record { needs = c.in-Some.needs; update = c.args.update })
    (met-lacking c.args.val_ts.now place c.in-Some.needs c.in-Some.ensures.lacks) in
    rw (put.1, same) (le_refl _)) c.block.ensures.blocked c.block.ensures.by_need
