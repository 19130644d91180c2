use Rattle.std.proofs.Common.{◌∙◌, ap, take}
use Rattle.std.proofs.Math.Seq.{take-length}
use Rattle.lr_world.proofs.Shaped.{posted-either}
use Rattle.lr_world.proofs.run.Run.send.Goals as goal

pub invariant_of-self-clause-all_posted : goal.invariant_of-self-clause-all_posted
invariant_of-self-clause-all_posted g c =
    let it = c.args.self.now in
    posted-either g.S.Op.Operation.kind_of it.config c.post.result it.posted.items it.outbox.posts c.post.new.posted.items c.post.ensures.ok c.post.ensures.err it.all_posted c.requires.posts

pub undo-requires-clause-begun : goal.undo-requires-clause-begun
undo-requires-clause-begun g c =
    let it = c.args.self.now in (
      record c.requires.begun.0 { posted = it.posted.items },
      record {
        sent = ap (take c.len.result) c.in_default.ensures.err ∙ ap (λ n. take n it.posted.items) (c.len.ensures ∙ it.posted.ok.0) ∙ take-length it.posted.items;
        changed = record { fronts = c.requires.begun.1.fronts; replicas = c.requires.begun.1.replicas };
      },
    )

pub returns-in_default-clause-err : goal.returns-in_default-clause-err
returns-in_default-clause-err g c before begun =
    let it = c.args.self.now in
    c.undo.ensures.run (record before { posted = it.posted.items })
    (record {
      sent = ap (take c.len.result) c.in_default.ensures.err ∙ ap (λ n. take n it.posted.items) (c.len.ensures ∙ it.posted.ok.0) ∙ take-length it.posted.items;
      changed = record { fronts = begun.fronts; replicas = begun.replicas };
    })
