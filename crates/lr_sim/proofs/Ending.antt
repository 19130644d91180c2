-- What an end says, from what was said of the parts.
use Rattle.std.proofs.Common.{◌≡◌, ◌≤◌, ◌⊎◌, inl, inr, ℕ, List, [], length, Option, Result, Ok, Err, refl, sym, subst, ◌∙◌, arith}
use Rattle.lr_base.specs.Limits.{most_script_bytes}
use Rattle.lr_base.specs.Meaning.{Meaning}
use Rattle.lr_base.specs.declared.events.Event.{Event}
use Rattle.lr_outside.specs.Faults.{Rose, one_more}
use Rattle.lr_outside.specs.Seen.{SinkChange, SinkSeen, SourceChange, sink_change}
use Rattle.lr_script.specs.Faults.{IsBadAt, IsBadHead, IsHeadFault, IsRefusal, IsScriptFault}
use Rattle.lr_script.specs.declared.refusals.Cause.{Cause}
use Rattle.lr_script.specs.declared.refusals.ScriptFault.{ScriptFault}
use Rattle.lr_script.specs.declared.refusals.ScriptFault.TheVariants.{Line, NoMemory as NoMemoryLeft}
use Rattle.lr_script.specs.Script.{HasHeader, IsScript, events_text}
use Rattle.lr_script.specs.declared.heading.Header.{Header}
use Rattle.lr_script.specs.declared.heading.Name.{Name}
use Rattle.lr_script.specs.declared.heading.Name.TheVariants.{Tally, Mail, Claims}
use Rattle.lr_sim.specs.Ends.{EndMeans, HasReadInput, IsComplete, IsDoneFor, IsNoScriptOf, IsRefusedFor}
use Rattle.lr_sim.specs.Headline.{HasBegun, HasPrinted, HasRunOf, HasRunPartOf}
use Rattle.lr_sim.specs.Parts.{EndMeansOf, IsFault, faults_run}
use Rattle.lr_sim.specs.Services.{HoldsOf}
use Rattle.lr_sim.specs.declared.command.RunFault.{RunFault}
use Rattle.lr_sim.specs.declared.command.RunFault.TheVariants.{Write}
use Rattle.lr_sim.specs.declared.command.SimEnd.{SimEnd}
use Rattle.lr_sim.specs.declared.command.SimEnd.TheVariants.{Ok as Done, Script, ReadFault, WriteFault, NoMemory}
use Rattle.svc_claims.specs.Claims.{claims}
use Rattle.svc_mail.specs.Mail.{mail}
use Rattle.svc_tally.specs.Tally.{tally}

module _ {Value Op : Type 0} (m : Meaning Value Op) where
  -- the history of a script's events was written, whole
  pub run-whole : {header : Header} {bytes : List ℕ} {events slice : List (Event Op)} {before now : Option (List ℕ)}
      → IsScript m header events bytes → slice ≡ events → HasPrinted m header slice before now []
      → HasRunOf m header bytes before now
  run-whole {header} {bytes} {events} {slice} {before} {now} script is printed = record {
    events = events;
    script = script;
    printed_all = subst (λ (es : List (Event Op)). HasPrinted m header es before now []) is printed;
  }

  -- or in part
  pub run-part : {header : Header} {bytes : List ℕ} {events slice : List (Event Op)} {before now : Option (List ℕ)}
      → IsScript m header events bytes → slice ≡ events → HasBegun m header slice before now
      → HasRunPartOf m header bytes before now
  run-part {header} {bytes} {events} {slice} {before} {now} script is begun = record {
    events = events;
    script = script;
    printed_part = subst (λ (es : List (Event Op)). HasBegun m header es before now) is begun;
  }

  -- a script's bytes begin with its header's line
  script-has : (header : Header) (events : List (Event Op)) (bytes : List ℕ) → IsScript m header events bytes → HasHeader header bytes
  script-has header events bytes is = record { valid = is.valid; rest = events_text m events; text = is.text }

-- what holds of a service's meaning holds of that which its name names
pub holds-at : (P : (Value Op : Type 0) → Meaning Value Op → Type 0) (name named : Name) → name ≡ named → HoldsOf P named → HoldsOf P name
holds-at P name named is holds = subst (λ (n : Name). HoldsOf P n) (sym is) holds

-- what follows for each meaning follows for that of a name
holds-map : (P Q : (Value Op : Type 0) → Meaning Value Op → Type 0) → ((Value Op : Type 0) (m : Meaning Value Op) → P Value Op m → Q Value Op m) → (name : Name) → HoldsOf P name → HoldsOf Q name
holds-map P Q then Tally holds = then _ _ tally holds
holds-map P Q then Mail holds = then _ _ mail holds
holds-map P Q then Claims holds = then _ _ claims holds

-- and so does what holds for every meaning
holds-each : (P : (Value Op : Type 0) → Meaning Value Op → Type 0) → ((Value Op : Type 0) (m : Meaning Value Op) → P Value Op m) → (name : Name) → HoldsOf P name
holds-each P each Tally = each _ _ tally
holds-each P each Mail = each _ _ mail
holds-each P each Claims = each _ _ claims

either : {A B C : Type 0} → (B → C) → A ⊎ B → A ⊎ C
either f (inl a) = inl a
either f (inr b) = inr (f b)

module _ (header : Header) (bytes : List ℕ) (has : HasHeader header bytes) (one : (other : Header) → HasHeader other bytes → other ≡ header) where
  -- only bytes that begin with a header's line could be a script with it
  no-script : (other : Header) (name : Name) → (HasHeader other bytes → HoldsOf (λ V O m. IsNoScriptOf m other bytes) name)
      → HoldsOf (λ V O m. IsNoScriptOf m other bytes) name
  no-script other Tally none = λ events script. none (script-has tally other events bytes script) events script
  no-script other Mail none = λ events script. none (script-has mail other events bytes script) events script
  no-script other Claims none = λ events script. none (script-has claims other events bytes script) events script

  -- what the header's service means, and that what holds of it holds of what the header's name stands for
  module _ {Value Op : Type 0} (m : Meaning Value Op)
      (named : (P : (V O : Type 0) → Meaning V O → Type 0) → P Value Op m → HoldsOf P header.service) where
    -- a refusal for the service that the header names is one of the bytes
    refused-for : (line : ℕ) (cause : Cause) → IsRefusal m bytes line cause → IsRefusedFor bytes line cause
    refused-for line cause r = record {
      meaningless = λ other. no-script other other.service (λ begins.
          subst (λ (h : Header). HoldsOf (λ V O m. IsNoScriptOf m h bytes) h.service) (sym (one other begins))
          (named (λ V O m. IsNoScriptOf m header bytes) (r.meaningless header)));
      fault = either (λ bad. record { header = header; has = has; bad = named (λ V O m. IsBadAt m bytes line cause) bad }) r.fault;
      long = r.long;
    }

    -- what an end means for the service that the header names it means for the source that the bytes were read from
    pub means-named : {Out : Type 0} (source : SourceChange) (sink : SinkChange Out) (end : SimEnd) → HasReadInput source bytes
        → EndMeansOf m header bytes sink end → EndMeans source sink end
    means-named source sink Done read means =
        (bytes, read, record { header = header; run = named (λ V O m. HasRunOf m header bytes sink.before.held sink.after.held) means.0 }, means.1)
    means-named source sink (Script line cause) read means = (bytes, read, refused-for line cause means.0, means.1)
    means-named source sink ReadFault read means = absurd means
    means-named source sink WriteFault read means =
        (bytes, read, record { header = header; part = named (λ V O m. HasRunPartOf m header bytes sink.before.held sink.after.held) means.0 }, means.1)
    means-named source sink NoMemory read means = (
      read.unfailed,
      means.0,
      either (λ part.
          (bytes, read, record { header = header; part = named (λ V O m. HasRunPartOf m header bytes sink.before.held sink.after.held) part })) means.1,
    )

-- a header that was read is the only one that the bytes begin with
pub one-header : (header : Header) (bytes : List ℕ) (result : Result Header ScriptFault) → result ≡ Ok header
    → length bytes ≤ most_script_bytes
    → ((other : Header) → HasHeader other bytes × (length bytes ≤ most_script_bytes) → result ≡ Ok other)
    → (other : Header) → HasHeader other bytes → other ≡ header
one-header header bytes result is short reads other begins =
    let same : Ok other ≡ Ok header = sym (reads other (begins, short)) ∙ is in
    cc

-- a header that was not read ends the simulation, with nothing written
pub head-means : {Out : Type 0} (seen : Out → SinkSeen) (out : Out) (source : SourceChange) (bytes : List ℕ) (fault : ScriptFault) (end : SimEnd)
    → ((name : Name) (line : ℕ) (cause : Cause) → IsBadHead bytes line cause → HoldsOf (λ V O m. IsRefusal m bytes line cause) name)
    → IsFault fault end → IsHeadFault bytes fault → HasReadInput source bytes → EndMeans source (sink_change seen out out) end
head-means seen out source bytes (Line line cause) end refusals is bad read =
    subst (λ (e : SimEnd). EndMeans source (sink_change seen out out) e) (sym is) (bytes, read, refused, refl)
  where
    refusal : IsRefusal tally bytes line cause
    refusal = refusals Tally line cause bad

    refused : IsRefusedFor bytes line cause
    refused = record {
      meaningless = λ other. holds-map (λ V O m. IsRefusal m bytes line cause) (λ V O m. IsNoScriptOf m other bytes)
          (λ V O m r. r.meaningless other) other.service (refusals other.service line cause bad);
      fault = inl bad;
      long = refusal.long;
    }
head-means seen out source bytes NoMemoryLeft end refusals is bad read =
    subst (λ (e : SimEnd). EndMeans source (sink_change seen out out) e) (sym is) (read.unfailed, refl, inl refl)

-- a run that a write ended counted one fault more
pub write-fault : (T : Type 0) (before : ℕ) {now : ℕ} {fault : RunFault} → fault ≡ Write
    → now ≡ faults_run {T = T} before (Err fault) → now ≡ one_more before
write-fault T before {now} {fault} is counted = subst (λ (f : RunFault). now ≡ faults_run {T = T} before (Err f)) is counted

-- one more fault is a rise
rose : (before now : ℕ) → now ≡ one_more before → Rose before now
rose before now is = omega (arith, is)

-- each end says that the simulation didn't give up
pub complete-from : {Out : Type 0} (source : SourceChange) (sink : SinkChange Out) (end : SimEnd) → EndMeans source sink end → IsComplete source sink end
complete-from source sink Done means no_read no_write memory =
    (means.0, means.1, λ header. holds-each (λ V O m. IsDoneFor m header means.0 Done) (λ V O m events script. refl) header.service)
complete-from source sink (Script line cause) means no_read no_write memory = (
  means.0,
  means.1,
  λ header. holds-map (λ V O m. IsNoScriptOf m header means.0) (λ V O m. IsDoneFor m header means.0 (Script line cause))
      (λ V O m none events script. absurd (none events script)) header.service (means.2.meaningless header),
)
complete-from source sink ReadFault means no_read no_write memory = absurd (no_read (rose _ _ means.0))
complete-from source sink WriteFault means no_read no_write memory = absurd (no_write (rose _ _ means.3))
complete-from source sink NoMemory means no_read no_write memory = absurd (memory refl)

-- each service refuses what has no header
pub refusals-of : (bytes : List ℕ)
    → ((line : ℕ) (cause : Cause) → IsScriptFault tally bytes (Line line cause) → IsRefusal tally bytes line cause)
    → ((line : ℕ) (cause : Cause) → IsScriptFault mail bytes (Line line cause) → IsRefusal mail bytes line cause)
    → ((line : ℕ) (cause : Cause) → IsScriptFault claims bytes (Line line cause) → IsRefusal claims bytes line cause)
    → (name : Name) (line : ℕ) (cause : Cause) → IsBadHead bytes line cause → HoldsOf (λ V O m. IsRefusal m bytes line cause) name
refusals-of bytes t m c Tally line cause bad = t line cause (inl bad)
refusals-of bytes t m c Mail line cause bad = m line cause (inl bad)
refusals-of bytes t m c Claims line cause bad = c line cause (inl bad)
