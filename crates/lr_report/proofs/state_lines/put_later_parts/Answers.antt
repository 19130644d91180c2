use Rattle.std.proofs.Common.{ℕ, arith, ◌++◌, ◌-◌, take, drop, sym, ◌∙◌, ap}
use Rattle.std.specs.Prelude.{codes}
use Rattle.std.specs.Fmt.{decimal}
use Rattle.std.specs.List.{flat_map}
use Rattle.std.proofs.lemmas.List.{flat_map_more}
use Rattle.lr_report.proofs.PrintedLemmas.{later_parts}
use Rattle.lr_report.proofs.state_lines.put_later_parts.Goals as goal

pub loop-place-preserved : goal.loop-place-preserved
loop-place-preserved c =
    let place = c.loop-place.place in
    let stamp = c.args.stamp.now in
    let dotted = λ (number : ℕ). codes "." ++ decimal number in
    c.in_ok-put_next_part.ensures
    ∙ ap (λ text. text ++ dotted c.part.result) c.loop-place.invariant
    ∙ ap (λ number. (c.args.out.now ++ flat_map dotted (take (place - 1) (drop 1 stamp))) ++ dotted number) c.part.ensures
    ∙ flat_map_more dotted c.args.out.now (take (place - 1) (drop 1 stamp)) _
    ∙ ap (λ parts. c.args.out.now ++ flat_map dotted parts) (sym (later_parts stamp place c.loop-place.auto.place (omega (arith, c.loop-place-test.true, c.parts-place-end.ensures))))
