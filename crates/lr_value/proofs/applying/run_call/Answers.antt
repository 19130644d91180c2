use Rattle.std.proofs.Common.{length, ap, ◌∙◌, refl}
use Rattle.lr_value.proofs.Tables.{AllKnown-entered, known_of-stays}
use Rattle.lr_value.proofs.applying.run_call.Goals as goal

pub returns-clause-goes_on : goal.returns-clause-goes_on
returns-clause-goes_on g c long =
    let calls = g.E.Executed.known c.args.calls.now in
    record {
      parts = refl;
      stays = known_of-stays calls (g.E.Executed.known c.enter.new.self) c.args.update.now.cid _
          c.in_ok-enter.ensures.ok c.requires.new;
      known = AllKnown-entered _ calls (g.E.Executed.known c.enter.new.self) c.args.update.now.cid _
          c.in_ok-enter.ensures.ok (ap length c.copy.ensures ∙ long);
    }
