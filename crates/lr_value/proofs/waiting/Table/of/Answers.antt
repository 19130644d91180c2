use Rattle.std.proofs.Common.{◌≡◌, ◌<◌, true, [], inl, length, refl, arith}
use Rattle.std.proofs.lemmas.Option.{slice_get_read}
use Rattle.std.proofs.lemmas.List.Edits.{length-remove}
use Rattle.lr_base.specs.Ascending.{is_before}
use Rattle.lr_base.specs.Stamps.{stamp_le}
use Rattle.lr_value.specs.Table.{Lacks}
use Rattle.lr_value.specs.Waiting.{behind}
use Rattle.lr_value.proofs.Held.{filed-inserted, held-shelved}
use Rattle.lr_value.proofs.Left.{ascends-but}
use Rattle.lr_value.proofs.Members.{fits-among, held-alone, order-behind}
use Rattle.lr_value.proofs.Placed.{among-get, each-among, get-at, take-removed, take-whole}
use Rattle.lr_value.proofs.waiting.Table.of.Goals as goal

pub loop-at-init : goal.loop-at-init
loop-at-init g c = rw c.new.ensures.items (record {
  within = omega arith;
  in_order = (order-behind c.args.waiting.items).0 c.requires.in_order;
  seen = tt;
  by_need = tt;
  filed = λ b among. absurd among;
  held = λ u. held-alone u c.args.waiting.items [] refl;
})

pub first_lack-requires : goal.first_lack-requires
first_lack-requires g c =
    let ready = c.loop-at.table.ready.items in
    let r = c.index.result.now in
    let within : c.loop-at.at < length ready = omega arith in
    let here = slice_get_read ready (length ready) c.loop-at.at r refl within c.index.ensures in
    (fits-among _ (behind c.args.waiting.items) c.requires.fit r.now ((c.loop-at.invariant.held r.now).0
    (inl (r, among-get ready c.loop-at.at r here, refl)))).prev

pub loop-at-preserved : goal.loop-at-preserved
loop-at-preserved g c =
    let old = c.loop-at.invariant in
    let ready = c.loop-at.table.ready.items in
    let blocked = c.loop-at.table.blocked.items in
    let y = c.remove-update.result in
    let within : c.loop-at.at < length ready = omega arith in
    let here = slice_get_read ready (length ready) c.loop-at.at y refl within c.remove-update.ensures.value in
    let put = c.in_ok-block-in-Some.ensures.blocked in
    let same = get-at ready c.loop-at.at y c.index.result.now here in
    let stands = rw same at (rw c.index.ensures at c.in-Some.ensures.stands) in
    rw (c.block.ensures.ready, c.remove-update.ensures.items, put.1) (record {
      within = omega (arith, length-remove ready c.loop-at.at within);
      in_order = ascends-but (λ a b. is_before a.now.spot b.now.spot) ready c.loop-at.at old.in_order;
      seen = take-removed (λ r. stamp_le r.now.prev c.args.val_ts.now ≡ true) ready c.loop-at.at old.seen;
      by_need = rw put.1 at c.in_ok-block-in-Some.ensures.by_need;
      filed = filed-inserted (Lacks c.args.val_ts.now) c.args.val_ts.now c.in-Some.needs y blocked put.0
          c.in-Some.ensures.lacks stands old.filed;
      held = λ u.
          let shelved = held-shelved c.in-Some.needs y ready blocked c.loop-at.at put.0 here u in
          (λ held. (old.held u).0 (shelved.0 held), λ among. shelved.1 ((old.held u).1 among));
    })

pub returns-clause-table : goal.returns-clause-table
returns-clause-table g c =
    let old = c.loop-at.invariant in
    let ready = c.loop-at.table.ready.items in
    record {
      in_order = old.in_order;
      causes = each-among (λ r. stamp_le r.now.prev c.args.val_ts.now ≡ true) ready
          (take-whole _ ready c.loop-at.at (omega arith) old.seen);
      by_need = old.by_need;
      filed = old.filed;
      order = c.requires.in_order;
      fit = c.requires.fit;
      held = λ u held. (old.held u).0 held;
    }

pub returns-clause-whole : goal.returns-clause-whole
returns-clause-whole g c u among = (c.loop-at.invariant.held u).1 among
