-- Stable bytes are exact: each of their formats is.
use Rattle.std.proofs.Common.{◌≡◌, ◌+◌, ◌-◌, ◌^◌, ◌==◌, ◌&&◌, ◌||◌, cond, ℕ, Bool, true, false, List}
use Rattle.std.proofs.Common.{refl, sym, ◌∙◌, ap}
use Rattle.std.specs.Prelude.{nat_lt}
use Rattle.std.proofs.lemmas.Bool.{and_parts, eqb-true}
use Rattle.lr_base.specs.FormatLaws.{both-exact, leading-exact, number_of-exact, number_format-exact, only_where-exact}
use Rattle.lr_base.specs.FormatLaws.{optional-exact, renamed-exact, repeated-exact}
use Rattle.lr_base.specs.Formats.{IsExactFormat, number_of, number_format, both, only_where}
use Rattle.lr_base.specs.Kinds.{is_immediate}
use Rattle.lr_base.specs.Meaning.{Encoding, Meaning, Lawful}
use Rattle.lr_base.specs.Stamps.{Stamp, part}
use Rattle.lr_base.specs.declared.bytes.BadWhat.TheVariants.{Magic}
use Rattle.lr_base.specs.declared.lr_service.Kind.{Kind}
use Rattle.lr_base.specs.declared.messages.Entry.{Entry}
use Rattle.lr_codec.specs.declared.heads.Head.{Head}
use Rattle.lr_codec.specs.Parts.{byte_where, number_where, part_format, stamp_format, op_format, value_format}
use Rattle.lr_codec.specs.PartLaws.{byte-exact, number_where-exact, part-exact, stamp-exact, op-exact, value-exact}
use Rattle.lr_codec.specs.Lists.{log_format, calls_format, order_format, marks_format}
use Rattle.lr_codec.specs.ListLaws.{log-exact, calls-exact, order-exact, marks-exact}
use Rattle.lr_codec.specs.States.{Whose, magic, replica_format, head_format, flag_format, may_be_open, views_format}
use Rattle.lr_codec.specs.States.{stamps_format, table_format, free_cid_format, frozen_call_format}
use Rattle.lr_codec.specs.States.{may_freeze, frozen_number_format}
use Rattle.lr_codec.specs.States.{frozen_format, list_parts, lists_format, front_format, state_with, front_of, lists_of}
use Rattle.lr_codec.specs.States.{state_format}

replica-exact : (whose : Whose) → IsExactFormat (replica_format whose)
replica-exact whose = renamed-exact (λ parts. record { replicas = parts.0; me = parts.1 })
    (λ head. (head.replicas, head.me)) _ (λ head is. refl) (λ parts is. refl)
    (leading-exact (byte_where _) (λ replicas. byte_where _) (byte-exact _) (λ replicas. byte-exact _))

-- the head is exact, whose first two numbers are known
head-exact : (service : ℕ) (whose : Whose) → IsExactFormat (head_format service whose)
head-exact service whose = renamed-exact (λ parts. parts.1.1) (λ head. (magic, (service, head)))
    (both (only_where first Magic (number_of 4)) (both (byte_where second) (replica_format whose))) (λ head is. refl)
    here (both-exact _ _ (only_where-exact first Magic (number_of 4) (number_of-exact 4))
    (both-exact _ _ (byte-exact second) (replica-exact whose)))
  where
    first : ℕ → Bool
    first number = number == magic

    second : ℕ → Bool
    second number = number == service

    here : (parts : ℕ × (ℕ × Head))
        → (both (only_where first Magic (number_of 4)) (both (byte_where second) (replica_format whose))).is_value parts
        ≡ true → (magic, (service, parts.1.1)) ≡ parts
    here (one, (two, head)) is =
        let sides = and_parts _ _ is in
        let mark = eqb-true one magic (and_parts _ _ sides.0).1 in
        let number = eqb-true two service (and_parts _ _ (and_parts _ _ sides.1).0).1 in
        sym (ap (λ n. (n, (two, head))) mark ∙ ap (λ n. (magic, (n, head))) number)

flag-exact : (may : Bool) → IsExactFormat (flag_format may)
flag-exact may = renamed-exact (λ byte. byte == 1) (λ flag. cond flag 1 0) (byte_where is_flag) there here
    (byte-exact is_flag)
  where
    is_flag : ℕ → Bool
    is_flag byte = (byte == 0) || ((byte == 1) && may)

    there : (flag : Bool) → (byte_where is_flag).is_value (cond flag 1 0) ≡ true → (cond flag 1 0 == 1) ≡ flag
    there true is = refl
    there false is = refl

    choice : (byte : ℕ) (one : Bool) → (byte == 1) ≡ one → ((byte == 0) || (one && may)) ≡ true → cond one 1 0 ≡ byte
    choice byte true is_one is = sym (eqb-true byte 1 is_one)
    choice byte false is_one is = sym (eqb-true byte 0 (go (byte == 0) is))
      where
        go : (zero : Bool) → (zero || false) ≡ true → zero ≡ true
        go true is = refl
        go false is = is

    here : (byte : ℕ) → (byte_where is_flag).is_value byte ≡ true → cond (byte == 1) 1 0 ≡ byte
    here byte is = choice byte (byte == 1) refl (and_parts (nat_lt byte (256 ^ 1)) (is_flag byte) is).1

views-exact : (head : Head) → IsExactFormat (views_format head)
views-exact head = renamed-exact
    (λ it. record { clock = it.0; view = it.1.0; log_view = it.1.1.0; opened = it.1.1.1 })
    (λ views. (views.clock, (views.view, (views.log_view, views.opened)))) _ (λ views is. refl) (λ it is. refl)
    (both-exact number_format _ number_format-exact (leading-exact part_format _ part-exact (λ view.
    leading-exact (number_where _) _ (number_where-exact _) (λ log_view. flag-exact (may_be_open head view log_view)))))

stamps-exact : (parts : ℕ) → IsExactFormat (stamps_format parts)
stamps-exact parts = renamed-exact
    (λ it. record { rep_ts = it.0; val_ts = it.1.0; order_ts = it.1.1.0; imm_ts = it.1.1.1.0; top = it.1.1.1.1 })
    (λ stamps. (stamps.rep_ts, (stamps.val_ts, (stamps.order_ts, (stamps.imm_ts, stamps.top)))))
    _ (λ stamps is. refl) (λ it is. refl) (both-exact (stamp_format parts) _ (stamp-exact parts)
    (both-exact (stamp_format parts) _ (stamp-exact parts) (both-exact (stamp_format parts) _ (stamp-exact parts)
    (both-exact (stamp_format parts) part_format (stamp-exact parts) part-exact))))

front-exact : (service : ℕ) (whose : Whose) → IsExactFormat (front_format service whose)
front-exact service whose = renamed-exact
    (λ it. record { head = it.0; views = it.1.0; stamps = it.1.1.0; table = it.1.1.1 })
    (λ front. (front.head, (front.views, (front.stamps, front.table)))) _ (λ front is. refl) (λ it is. refl)
    (leading-exact (head_format service whose) _ (head-exact service whose) (λ head.
    both-exact (views_format head) _ (views-exact head) (both-exact (stamps_format (head.replicas + 1))
    (table_format head.replicas) (stamps-exact (head.replicas + 1)) (repeated-exact
    (λ last. stamp_format (head.replicas + 1)) (λ last. stamp-exact (head.replicas + 1)) (head.replicas - 1)))))

module _ {V Op : Type 0} (m : Meaning V Op) {e : Encoding V} (kind_of : Op → Kind)
    (lawful : Lawful m e kind_of) where
  free_cid-exact : (entries : List (Entry Op)) → IsExactFormat (free_cid_format entries)
  free_cid-exact entries = renamed-exact (λ parts. record { client = parts.0; seq = parts.1 })
      (λ cid. (cid.client, cid.seq)) _ (λ cid is. refl) (λ parts is. refl)
      (leading-exact (number_of 4) _ (number_of-exact 4) (λ client. number_where-exact _))

  frozen_call-exact : (parts : ℕ) (entries : List (Entry Op))
      → IsExactFormat (frozen_call_format m parts entries)
  frozen_call-exact parts entries = renamed-exact
      (λ it. record { cid = it.0; prev = it.1.0; op = it.1.1 }) (λ call. (call.cid, (call.prev, call.op))) _
      (λ call is. refl) (λ it is. refl) (both-exact (free_cid_format entries) _ (free_cid-exact entries)
      (both-exact (stamp_format parts) (op_format m is_immediate) (stamp-exact parts)
      (op-exact m kind_of is_immediate lawful)))

  frozen-exact : (parts : ℕ) (opened : Bool) (received : ℕ) (order : ℕ × List (Entry Op))
      → IsExactFormat (frozen_format m parts opened received order)
  frozen-exact parts opened received order = optional-exact (may_freeze opened received order) _
      (both-exact (frozen_number_format order) _ (number_where-exact _) (frozen_call-exact parts order.1))

  lists-exact : (replicas : ℕ) (rep_ts : Stamp) (opened : Bool)
      → IsExactFormat (lists_format m replicas rep_ts opened)
  lists-exact replicas rep_ts opened = renamed-exact
      (λ it. record {
        updates = it.0.0;
        acks = it.0.1;
        calls = it.1.0;
        base = it.1.1.0.0;
        entries = it.1.1.0.1;
        frozen = it.1.1.1.0;
        marks = it.1.1.1.1;
      })
      list_parts _ (λ lists is. refl) (λ it is. refl) (both-exact (log_format m replicas rep_ts) _
      (log-exact m kind_of lawful replicas rep_ts)
      (both-exact (calls_format replicas) _ (calls-exact replicas)
      (leading-exact (order_format m (replicas + 1)) _
      (order-exact m kind_of lawful (replicas + 1)) (λ order.
      both-exact (frozen_format m (replicas + 1) opened (part rep_ts replicas) order) marks_format
      (frozen-exact (replicas + 1) opened (part rep_ts replicas) order) marks-exact))))

  -- stable bytes are exact
  pub state-exact : (service : ℕ) (whose : Whose) → IsExactFormat (state_format m e service whose)
  state-exact service whose = renamed-exact
      (λ it. state_with it.0 it.1.0 it.1.1) (λ s. (front_of s, (lists_of s, s.value)))
      _ (λ s is. refl) (λ it is. refl) (leading-exact (front_format service whose) _ (front-exact service whose)
      (λ front. both-exact (lists_format m front.head.replicas front.stamps.rep_ts front.views.opened)
      (value_format e) (lists-exact front.head.replicas front.stamps.rep_ts front.views.opened)
      (value-exact m kind_of lawful)))
