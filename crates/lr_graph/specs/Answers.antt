-- Which answers are printable.
-- The contract of `answers_are_printable` cites these.
use Rattle.std.specs.Prelude.{◌≡◌, true}
use Rattle.lr_base.specs.Meaning.{is_printable}
use Rattle.lr_base.specs.declared.events.Outcome.{Outcome}
use Rattle.lr_base.specs.declared.events.Outcome.TheVariants.{Send}
use Rattle.lr_base.specs.declared.events.Sent.TheVariants.{Answer}

-- if an outcome sends an answer, then a printable one
-- for example: the answer `3` to `0.2`; `got 0.1`
abbrev pub HasPrintableAnswer : Outcome → Type 0
HasPrintableAnswer (Send number from to (Answer cid text)) = is_printable text ≡ true
HasPrintableAnswer _ = Unit {0}
