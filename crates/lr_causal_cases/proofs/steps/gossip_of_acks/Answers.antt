use Rattle.std.proofs.Common.{◌≡◌, ◌<◌, ◌++◌, ◌∙◌, [], ◌∷◌, refl, subst, sym, arith}
use Rattle.lr_base.specs.Logged.{AllAcksReceived}
use Rattle.lr_base.specs.Places.{AreInOrder}
use Rattle.lr_base.specs.declared.messages.LogAck.{LogAck}
use Rattle.lr_causal.specs.GossipLaws.{StandInOrder-of}
use Rattle.lr_causal_cases.proofs.Acks.{AreUpTo, in_order-push, received-push, up_to-push}
use Rattle.lr_causal_cases.proofs.steps.gossip_of_acks.Goals as goal

pub loop-number-preserved : goal.loop-number-preserved
loop-number-preserved c =
    let place = c.args.place in
    let number = c.in_ok-number.number in
    let acks = c.loop-number.acks in
    let ack : LogAck = record { spot = record { place = place; number = number }; cid = c.cid.result; time = 0 } in
    let grown : c.push.new.self ≡ acks ++ ack ∷ [] = c.in_ok-push.ensures.ok in
    let past : c.loop-number.last < number = omega (arith, c.if-number-last.false) in
    let it = c.loop-number.invariant in
    record {
      received =
          subst (λ as'. AllAcksReceived c.args.rep_ts as') (sym grown)
          (received-push c.args.rep_ts acks ack (sym c.is_new.ensures ∙ c.if-is_new.false) it.received);
      up_to =
          subst (λ as'. AreUpTo place number as') (sym grown)
          (up_to-push place c.loop-number.last acks ack refl past it.up_to);
      in_order =
          subst (λ as'. AreInOrder (λ (a : LogAck). a.spot) as') (sym grown)
          (in_order-push place c.loop-number.last acks ack refl past it.up_to it.in_order);
    }

pub returns : goal.returns
returns c = rw c.new.ensures record {
  rep_parts = refl;
  logged = λ k u e. cc;
  updates_received = λ k u e. cc;
  acks_received = c.loop-number.invariant.received;
  ordered =
      StandInOrder-of [] c.loop-number.acks
      (record { in_order = tt; acks_in_order = c.loop-number.invariant.in_order; apart = tt });
}
