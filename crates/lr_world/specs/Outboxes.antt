-- What the step of an actor puts into the outbox of its run.
-- In the examples replica 0 makes event 2 of `first.script`.
use Rattle.std.specs.Prelude.{◌+◌, ◌++◌, ℕ, List, [], ◌∷◌, length}
use Rattle.lr_base.specs.declared.acts.Act.{Act}
use Rattle.lr_base.specs.declared.acts.Act.TheVariants.{Say, Send}
use Rattle.lr_base.specs.declared.acts.Posted.{Posted}
use Rattle.lr_base.specs.declared.events.Outcome.{Outcome}
use Rattle.lr_base.specs.declared.events.Outcome.TheVariants.{Send as SendLine}
use Rattle.lr_base.specs.declared.names.Actor.{Actor}
use Rattle.lr_graph.specs.Runs.{sent_of_message}

-- who makes the step, how many messages were sent before it, and its lines and messages so far
-- for example: `r0`, 1, none yet
pub record Outboxed (Op : Type 0) : Type 0 where
  pub from : Actor
  pub sent : ℕ
  pub lines : List Outcome
  pub posts : List (Posted Op)

-- a step of this actor begins, where so many messages were sent before
-- for example: `r0`, 1, no line, no message
abbrev pub opened : {Op : Type 0} → Actor → ℕ → Outboxed Op
opened from sent = record { from = from; sent = sent; lines = []; posts = [] }

-- one thing more is done: a line comes behind the others, or a message, which gets the next number
unfoldable pub after_act : {Op : Type 0} → Outboxed Op → Act Op → Outboxed Op
after_act out (Say line) = record out { lines = out.lines ++ line ∷ [] }
after_act out (Send to message) = record out {
  lines = out.lines ++ SendLine (out.sent + length out.posts + 1) out.from to (sent_of_message message) ∷ [];
  posts = out.posts ++ record { from = out.from; to = to; message = message } ∷ [];
}

-- all this is done, in order
-- for example: two lines, and the reply as message 2
abbrev pub after_acts : {Op : Type 0} → Outboxed Op → List (Act Op) → Outboxed Op
after_acts out [] = out
after_acts out (act ∷ acts) = after_acts (after_act out act) acts
