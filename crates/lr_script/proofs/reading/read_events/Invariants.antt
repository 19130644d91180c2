use Rattle.std.proofs.Common.{◌≡◌, ◌+◌, ◌≤◌, ◌++◌, length}
use Rattle.std.specs.List.{All}
use Rattle.lr_script.specs.Script.{Fits, events_text}
use Rattle.lr_script.proofs.reading.read_events.Given as goal

abbrev pub invariant-loop-rest : goal.invariant-loop-rest
invariant-loop-rest g l = record {
  number : l.line ≡ length l.events + 1;
  short : length l.events + length l.rest ≤ length l.fn.lines;
  fit : All (Fits g.S.Service.meaning l.config) l.events;
  text : l.fn.lines ≡ events_text g.S.Service.meaning l.events ++ l.rest;
}

abbrev pub decreases-loop-rest : goal.decreases-loop-rest
decreases-loop-rest g l = length l.rest
