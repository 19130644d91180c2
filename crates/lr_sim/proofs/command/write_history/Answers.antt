use Rattle.std.proofs.Common.{◌≡◌, ◌∙◌, ◌+◌, ◌-◌, ◌++◌, [], List, ℕ, ap, drop, length, refl, subst, sym, take}
use Rattle.lr_base.specs.Events.{FitsRun}
use Rattle.lr_base.specs.declared.names.Config.{Config}
use Rattle.lr_graph.specs.Made.{IsMade}
use Rattle.lr_graph.specs.Runs.{RunState}
use Rattle.lr_script.specs.Script.{events_text, line_of}
use Rattle.lr_script.specs.Texts.{header_text}
use Rattle.lr_sim.proofs.Writing.{begun-none, begun-of, cut-at, event-of, fits-at, lines-behind, moved-all, moved-front, printed-all, run-moved, run-none, run-step}
use Rattle.lr_world.specs.Worlds.{run_of}
use Rattle.lr_sim.proofs.command.write_history.Goals as goal

pub returns-in_err-run-clause-part : goal.returns-in_err-run-clause-part
returns-in_err-run-clause-part g c = begun-none g.S.Service.meaning c.args.header.now c.args.events.now _

pub returns-in_err-render_header-clause-part : goal.returns-in_err-render_header-clause-part
returns-in_err-render_header-clause-part g c = begun-none g.S.Service.meaning c.args.header.now c.args.events.now _

pub loop-event-init : goal.loop-event-init
loop-event-init g c =
    let m = g.S.Service.meaning in
    let header = c.args.header.now in
    let bytes = c.args.bytes.now in
    let text = c.render_header.new.out in
    let head : text ≡ line_of (header_text header) = c.in_ok-render_header.ensures ∙ ap (λ (t : List ℕ). t ++ line_of (header_text header)) c.new-text.ensures in
    let made : IsMade m header.config [] (run_of c.in_ok-run.run') =
    subst (λ (run : RunState _ _). IsMade m header.config [] run) (sym c.in_ok-run.ensures.run)
    (c.a_made_history_goes_on.ensures.first header.config) in
    record {
      setup = c.in_ok-run.ensures.setup;
      number = refl;
      lines =
          ap (λ (n : ℕ). take (length bytes - n) (drop n bytes)) c.len.ensures
          ∙ lines-behind bytes (line_of (header_text header)) (events_text m c.args.events.now) text c.requires.text head;
      so_far = run-none m header _ made head;
      unfailed = refl;
    }

pub make_step-requires-clause-fits : goal.make_step-requires-clause-fits
make_step-requires-clause-fits g c =
    let m = g.S.Service.meaning in
    let fits = fits-at m c.args.header.now c.args.events.now c.requires.fit c.loop-event-test.true c.event-item.is in
    subst (λ (config : Config). FitsRun m config c.event-item.result) (sym c.loop-event.invariant.setup) fits.0

pub make_step-requires-clause-line : goal.make_step-requires-clause-line
make_step-requires-clause-line g c =
    let cut = cut-at g.S.Service.meaning c.args.header.now c.split_event_line.ensures c.args.events.now c.requires.fit
    c.loop-event-test.true c.event-item.is c.loop-event.invariant.lines in
    cut.0

pub returns-in_err-make_step-clause-part : goal.returns-in_err-make_step-clause-part
returns-in_err-make_step-clause-part g c =
    begun-of g.S.Service.meaning c.args.header.now c.what_is_made_is_legal.ensures c.loop-event.event-index c.loop-event.invariant.so_far

pub returns-in_err-write_full-clause-part : goal.returns-in_err-write_full-clause-part
returns-in_err-write_full-clause-part g c =
    let m = g.S.Service.meaning in
    let header = c.args.header.now in
    let inv = c.loop-event.invariant in
    let fits = fits-at m header c.args.events.now c.requires.fit c.loop-event-test.true c.event-item.is in
    let part = c.in_err-write_full.ensures.part in
    begun-of m header c.what_is_made_is_legal.ensures (c.loop-event.event-index + 1) (run-moved m header part.1
    (run-step m header c.a_made_history_goes_on.ensures.next c.args.events.now inv.setup c.loop-event-test.true c.event-item.is
    (ap (λ (n : ℕ). n + 1) inv.number) (event-of m header _ fits) c.in_ok-make_step.ensures.made c.in_ok-make_step.ensures.text inv.so_far))

pub loop-event-preserved : goal.loop-event-preserved
loop-event-preserved g c =
    let m = g.S.Service.meaning in
    let header = c.args.header.now in
    let inv = c.loop-event.invariant in
    let fits = fits-at m header c.args.events.now c.requires.fit c.loop-event-test.true c.event-item.is in
    let cut = cut-at m header c.split_event_line.ensures c.args.events.now c.requires.fit c.loop-event-test.true c.event-item.is inv.lines in
    record {
      setup = c.make_step.ensures.setup ∙ inv.setup;
      number = ap (λ (n : ℕ). n + 1) inv.number;
      lines = cut.1;
      so_far =
          run-moved m header c.in_ok-write_full.ensures.moved
          (run-step m header c.a_made_history_goes_on.ensures.next c.args.events.now inv.setup c.loop-event-test.true c.event-item.is
          (ap (λ (n : ℕ). n + 1) inv.number) (event-of m header _ fits) c.in_ok-make_step.ensures.made c.in_ok-make_step.ensures.text
          inv.so_far);
      unfailed = c.in_ok-write_full.ensures.counted ∙ inv.unfailed;
    }

pub returns-in_err-write_whole-clause-part : goal.returns-in_err-write_whole-clause-part
returns-in_err-write_whole-clause-part g c =
    let part = c.in_err-write_whole.ensures.prefix in
    begun-of g.S.Service.meaning c.args.header.now c.what_is_made_is_legal.ensures c.loop-event.event-index
    (run-moved g.S.Service.meaning c.args.header.now (moved-front part.0 c.as_slice.ensures part.1)
    c.loop-event.invariant.so_far)

pub returns-clause-whole : goal.returns-clause-whole
returns-clause-whole g c =
    printed-all g.S.Service.meaning c.args.header.now c.what_is_made_is_legal.ensures c.loop-event-test.false
    (run-moved g.S.Service.meaning c.args.header.now (moved-all c.as_slice.ensures c.in_ok-write_whole.ensures.whole)
    c.loop-event.invariant.so_far)

pub returns-clause-part : goal.returns-clause-part
returns-clause-part g c =
    begun-of g.S.Service.meaning c.args.header.now c.what_is_made_is_legal.ensures c.loop-event.event-index
    (run-moved g.S.Service.meaning c.args.header.now (moved-all c.as_slice.ensures c.in_ok-write_whole.ensures.whole)
    c.loop-event.invariant.so_far)
