-- What stands in an outbox once a step is done.
use Rattle.std.proofs.Common.{◌≡◌, ◌+◌, ◌++◌, ℕ, List, [], ◌∷◌, length, refl, sym, ◌∙◌, ap, append-nil, append_assoc, arith, length-append}
use Rattle.lr_base.specs.declared.acts.Act.{Act}
use Rattle.lr_base.specs.declared.acts.Act.TheVariants.{Say, Send}
use Rattle.lr_base.specs.declared.acts.Posted.{Posted}
use Rattle.lr_base.specs.declared.events.Outcome.TheVariants.{Send as SendLine}
use Rattle.lr_base.specs.declared.names.Actor.{Actor}
use Rattle.lr_graph.specs.Runs.{act_lines, act_posts, sent_of_message}
use Rattle.lr_world.specs.Outboxes.{Outboxed, after_act, after_acts, opened}

module _ {Op : Type 0} where
  -- one thing after another, and then more
  pub after_acts-append : (out : Outboxed Op) (acts more : List (Act Op)) → after_acts out (acts ++ more) ≡ after_acts (after_acts out acts) more
  after_acts-append out [] more = refl
  after_acts-append out (act ∷ acts) more = after_acts-append (after_act out act) acts more

  -- a step's parts
  pub after_acts-parts : (before middle now : Outboxed Op) (acts more : List (Act Op)) → middle ≡ after_acts before acts → now ≡ after_acts middle more → now ≡ after_acts before (acts ++ more)
  after_acts-parts before middle now acts more first then =
      then ∙ ap (λ (out : Outboxed Op). after_acts out more) first ∙ sym (after_acts-append before acts more)

  -- the messages are those of the acts, behind the others
  pub after_acts-posts : (out : Outboxed Op) (acts : List (Act Op)) → (after_acts out acts).posts ≡ out.posts ++ act_posts out.from acts
  unfolding after_act
  after_acts-posts out [] = sym (append-nil out.posts)
  after_acts-posts out (Say line ∷ acts) = after_acts-posts (after_act out (Say line)) acts
  after_acts-posts out (Send to message ∷ acts) =
      after_acts-posts (after_act out (Send to message)) acts
      ∙ append_assoc out.posts (record { from = out.from; to = to; message = message } ∷ []) (act_posts out.from acts)

  -- and so are the lines
  pub after_acts-lines : (out : Outboxed Op) (acts : List (Act Op)) → (after_acts out acts).lines ≡ out.lines ++ act_lines (out.sent + length out.posts) out.from acts
  unfolding after_act
  after_acts-lines out [] = sym (append-nil out.lines)
  after_acts-lines out (Say line ∷ acts) =
      after_acts-lines (after_act out (Say line)) acts
      ∙ append_assoc out.lines (line ∷ []) (act_lines (out.sent + length out.posts) out.from acts)
  after_acts-lines out (Send to message ∷ acts) =
      let post : Posted Op = record { from = out.from; to = to; message = message } in
      let longer = length-append out.posts (post ∷ []) in
      let next : out.sent + length (out.posts ++ post ∷ []) ≡ out.sent + length out.posts + 1 = omega (arith, longer) in
      after_acts-lines (after_act out (Send to message)) acts
      ∙ ap (λ (n : ℕ). (out.lines ++ SendLine (out.sent + length out.posts + 1) out.from to (sent_of_message message) ∷ []) ++ act_lines n out.from acts) next
      ∙ append_assoc out.lines (SendLine (out.sent + length out.posts + 1) out.from to (sent_of_message message) ∷ []) (act_lines (out.sent + length out.posts + 1) out.from acts)

  -- of a whole step
  pub opened-posts : (from : Actor) (sent : ℕ) (acts : List (Act Op)) → (after_acts (opened from sent) acts).posts ≡ act_posts from acts
  opened-posts from sent acts = after_acts-posts (opened from sent) acts

  pub opened-lines : (from : Actor) (sent : ℕ) (acts : List (Act Op)) → (after_acts (opened from sent) acts).lines ≡ act_lines sent from acts
  opened-lines from sent acts =
      let none : sent + length {A = Posted Op} [] ≡ sent = omega arith in
      after_acts-lines (opened from sent) acts ∙ ap (λ (n : ℕ). act_lines n from acts) none
