-- An end of the simulation, told.
use Rattle.std.proofs.Common.{◌≡◌, ◌⊎◌, inl, inr, ℕ, refl, sym, ap, subst}
use Rattle.lr_outside.specs.Seen.{SinkChange, SinkSeen, SourceChange, sink_change}
use Rattle.lr_script.specs.declared.refusals.Cause.{Cause}
use Rattle.lr_sim.specs.Ends.{EndMeans, IsComplete}
use Rattle.lr_sim.specs.declared.command.SimEnd.{SimEnd}
use Rattle.lr_sim.specs.declared.command.SimEnd.TheVariants.{Script, NoMemory}
use Rattle.lazyrep.specs.Top.{SimStatus, Told}

module _ {Out : Type 0} (seen : Out → SinkSeen) (was now : Out) (source : SourceChange) where
  -- where there is no memory to tell a script's fault nothing was read in vain, and nothing was written
  less : (line : ℕ) (cause : Cause) → EndMeans source (sink_change seen was now) (Script line cause)
      → EndMeans source (sink_change seen was now) NoMemory
  less line cause means = (means.1.unfailed, ap (λ (out : Out). (seen out).faults) means.3, inl means.3)

  -- an end that was told gives its status
  pub status-told : {Err : Type 0} (err : SinkChange Err) (end : SimEnd) (code : ℕ)
      → EndMeans source (sink_change seen was now) end → IsComplete source (sink_change seen was now) end
      → Told err end code → SimStatus source (sink_change seen was now) err code
  status-told err end code means complete t = record {
    end = t.end_told;
    meant = meant t.same;
    complete = whole t.same;
    status = t.status;
    told = t.told;
  }
    where
      sink : SinkChange Out
      sink = sink_change seen was now

      meant : (t.end_told ≡ end) ⊎ ((line : ℕ) × (cause : Cause) × (end ≡ Script line cause) × (t.end_told ≡ NoMemory)) → EndMeans source sink t.end_told
      meant (inl same) = subst (λ (e : SimEnd). EndMeans source sink e) (sym same) means
      meant (inr script) = subst (λ (e : SimEnd). EndMeans source sink e) (sym script.3)
          (less script.0 script.1 (subst (λ (e : SimEnd). EndMeans source sink e) script.2 means))

      whole : (t.end_told ≡ end) ⊎ ((line : ℕ) × (cause : Cause) × (end ≡ Script line cause) × (t.end_told ≡ NoMemory)) → IsComplete source sink t.end_told
      whole (inl same) = subst (λ (e : SimEnd). IsComplete source sink e) (sym same) complete
      whole (inr script) = λ no_read no_write memory. absurd (memory script.3)
