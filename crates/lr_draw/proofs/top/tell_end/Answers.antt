use Rattle.std.proofs.Common.{◌≡◌, ◌∙◌, List, ℕ, inl, inr, refl, ap, sym, subst}
use Rattle.std.specs.Io.KnownBytes.{Appends}
use Rattle.lr_draw.specs.Top.{code_of, text_of}
use Rattle.lr_draw.specs.declared.command.DrawEnd.TheVariants.{NoMemory}
use Rattle.lr_draw.proofs.top.tell_end.Goals as goal

pub returns-in-Ok-fault_line : goal.returns-in-Ok-fault_line
returns-in-Ok-fault_line g c = record {
  end_told = c.args.end;
  same = inl refl;
  status = c.tell.ensures.code ∙ sym (ap code_of c.in-Line.is);
  told = λ quiet.
      let text : c.as_bytes.result.now ≡ text_of c.args.end = c.as_bytes.ensures.value
      ∙ c.in-Ok-fault_line.ensures ∙ sym (ap text_of c.in-Line.is) in
      subst (λ (bytes : List ℕ). Appends (g.E.Sink.seen c.args.err.now).held (g.E.Sink.seen c.tell.new.err).held bytes) text
      (c.tell.ensures.told quiet);
}

pub returns-in-Err : goal.returns-in-Err
returns-in-Err g c = record {
  end_told = NoMemory;
  same = inr (c.in-Line.line, c.in-Line.is, refl);
  status = c.tell-in-Err.ensures.code;
  told = c.tell-in-Err.ensures.told;
}
