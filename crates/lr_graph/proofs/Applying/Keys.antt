-- Applying keeps the table's calls in their order, so that none is executed twice.
use Rattle.std.proofs.Common.{◌≡◌, ℕ, zero, suc, Bool, true, false, cond, List, Option, Some, None, is_some, length, refl, true≢false}
use Rattle.std.specs.Option.{option_map_or}
use Rattle.lr_base.specs.CallLaws.{AreByCall-entered}
use Rattle.lr_base.specs.Calls.{AreByCall, enter_call}
use Rattle.lr_base.specs.Meaning.{Meaning}
use Rattle.lr_base.specs.Rules.{CausalState, Progress, applied, apply_one, apply_ready, known_of, progress_of, stamp_of, take_ready, waiting}
use Rattle.lr_base.specs.Stamps.{join}
use Rattle.lr_base.specs.declared.messages.Known.{Known}
use Rattle.lr_base.specs.declared.messages.LogUpdate.{LogUpdate}

-- what isn't something is nothing
unknown : (o : Option Known) → is_some o ≡ false → o ≡ None
unknown None e = refl
unknown (Some k) e = absurd (true≢false e)

module _ {Value Op : Type 0} (m : Meaning Value Op) where
  keys-one : (p : Progress Value) (u : LogUpdate Op) → AreByCall p.calls → AreByCall (apply_one m p u).calls
  keys-one p u h = at_known (is_some (known_of p.calls u.cid)) refl
    where
      at_known : (t : Bool) → is_some (known_of p.calls u.cid) ≡ t → AreByCall (cond t (record p { val_ts = join p.val_ts (stamp_of u) }) (record {
        value = m.apply p.value u.op;
        val_ts = join p.val_ts (stamp_of u);
        calls = enter_call (u.cid, record { spot = u.spot; stamp = stamp_of u }) p.calls;
      })).calls
      at_known true e = h
      at_known false e = AreByCall-entered _ p.calls (unknown (known_of p.calls u.cid) e) h

  keys-ready : (turns : ℕ) (todo : List (LogUpdate Op)) (p : Progress Value) → AreByCall p.calls → AreByCall (apply_ready m turns todo p).calls
  keys-ready zero todo p h = h
  keys-ready (suc turns) todo p h = at_taken (take_ready p.val_ts todo) (λ rest u. keys-ready turns rest (apply_one m p u) (keys-one p u h))
    where
      at_taken : (o : Option (LogUpdate Op × List (LogUpdate Op))) → ((rest : List (LogUpdate Op)) (u : LogUpdate Op) → AreByCall (apply_ready m turns rest (apply_one m p u)).calls)
          → AreByCall (option_map_or (λ taken. apply_ready m turns taken.1 (apply_one m p taken.0)) o p).calls
      at_taken None more = h
      at_taken (Some taken) more = more taken.1 taken.0

  pub keys-applied : (state : CausalState Value Op) → AreByCall state.calls → AreByCall (applied m state).calls
  keys-applied state h = keys-ready (length (waiting state.val_ts state.updates)) (waiting state.val_ts state.updates) (progress_of state) h
