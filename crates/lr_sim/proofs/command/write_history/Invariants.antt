use Rattle.std.proofs.Common.{◌≡◌, take, drop}
use Rattle.lr_script.specs.Script.{events_text}
use Rattle.lr_sim.proofs.Writing.{IsRun}
use Rattle.lr_world.specs.Worlds.{run_of, setup_of}
use Rattle.lr_sim.proofs.command.write_history.Given as goal

-- the run has the header's set-up, so many events were made, these are their printed steps, the other events' lines are left, and no write failed
abbrev pub invariant-loop-event : goal.invariant-loop-event
invariant-loop-event g l = record {
  setup : setup_of l.run ≡ l.header.config;
  number : l.number ≡ l.event-index;
  lines : l.lines ≡ events_text g.S.Service.meaning (drop l.event-index l.events);
  so_far : IsRun g.S.Service.meaning l.header (take l.event-index l.events) (run_of l.run) (g.W.Sink.seen l.initial.out).held (g.W.Sink.seen l.out).held l.text;
  unfailed : (g.W.Sink.seen l.out).faults ≡ (g.W.Sink.seen l.initial.out).faults;
}
