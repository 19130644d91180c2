use Rattle.std.proofs.Common.{◌∙◌, [], ◌∷◌, ap, refl, take}
use Rattle.std.proofs.Math.Seq.{take-length}
use Rattle.lr_base.specs.declared.acts.Act.TheVariants.{Say}
use Rattle.lr_base.specs.declared.names.Actor.TheVariants.{Client}
use Rattle.lr_world.proofs.Outboxing.{opened-lines}
use Rattle.lr_world.specs.Outboxes.{after_acts}
use Rattle.lr_world.proofs.run.Run.say.Goals as goal

pub returns-clause-made : goal.returns-clause-made
returns-clause-made g c =
    let it = c.args.self.now in
    record {
      acting = tt;
      finishes = refl;
      printed =
          ap (λ o. o.lines) (c.in_ok-say.ensures ∙ ap (λ o. after_acts o (Say c.args.line ∷ [])) c.open.ensures)
          ∙ opened-lines (Client 0) c.len-sent.result (Say c.args.line ∷ []);
      undoes = record {
        sent = ap (λ n. take n it.posted.items) (c.len-sent.ensures ∙ it.posted.ok.0) ∙ take-length it.posted.items;
        changed = record { fronts = refl; replicas = refl };
      };
    }
