-- The entries of an indexed map, as the table of executed calls.
use Rattle.std.proofs.Common.{◌≡◌, ◌∙◌, ◌||◌, List, [], ◌∷◌, refl, sym, ap, ℕ, Bool, true, false, cond, not}
use Rattle.std.proofs.Common.{Some, None, drop, length, ◌≤◌, ◌<◌, ◌+◌, get_or, add-one}
use Rattle.std.proofs.Math.Seq.{drop-cons}
use Rattle.std.proofs.lemmas.List.{drop_all}
use Rattle.std.proofs.lemmas.Map.Keys.{IsDistinct-head, IsDistinct-tail}
use Rattle.std.specs.List.{AllByRecursion, IsDistinct}
use Rattle.std.specs.Map.{keys_of, lookup}
use Rattle.lr_base.specs.CallLaws.{AreByCall-entered, known_of-entered, same-tables}
use Rattle.lr_base.specs.Calls.{AreByCall, by_call, enter_call}
use Rattle.lr_base.specs.Ascending.{cid_before, same_cid}
use Rattle.lr_base.specs.InsertionLaws.{ascends-filter}
use Rattle.lr_base.specs.NameLaws.{same_cid-sym}
use Rattle.lr_base.specs.Rules.{known_of}
use Rattle.lr_base.specs.contracts.names.CidPartialEq.TheImpl.{eq-value}
use Rattle.lr_base.specs.declared.names.Cid.{Cid}
use Rattle.lr_base.specs.declared.messages.Known.{Known}
use Rattle.lr_calls.specs.TableLaws.{known_of-without, without-behind, without-none}
use Rattle.lr_calls.specs.Tables.{is_named, without}

-- the derived comparison compares client and count
pub eq-same_cid : (a b : Cid) → eq-value.it a b ≡ same_cid a b
eq-same_cid a b = refl

-- a look-up by the key's own comparison
pub lookup-known_of : (es : List (Cid × Known)) (cid : Cid) → lookup (eq-value.it cid) es ≡ known_of es cid
lookup-known_of [] cid = refl
lookup-known_of (e ∷ es) cid = rw (eq-same_cid cid e.0, lookup-known_of es cid) refl

-- the same is known by a table as by its entries
pub known-by_call : (es : List (Cid × Known)) (cid : Cid) → known_of (by_call es) cid ≡ known_of es cid
known-by_call [] cid = refl
known-by_call (e ∷ es) cid =
    known_of-entered e (by_call es) cid ∙ ap (cond (same_cid cid e.0) (Some e.1)) (known-by_call es cid)

-- entries of other keys aren't known by this one
unlisted : (es : List (Cid × Known)) (cid : Cid) → AllByRecursion (λ k. same_cid cid k ≡ false) (keys_of es)
    → known_of es cid ≡ None
unlisted [] cid all = refl
unlisted (e ∷ es) cid all = let is = all.0 in rw is (unlisted es cid all.1)

-- a table of entries whose keys are apart has its calls in order
pub AreByCall-by_call : (es : List (Cid × Known)) → IsDistinct same_cid (keys_of es) → AreByCall (by_call es)
AreByCall-by_call [] apart = tt
AreByCall-by_call (e ∷ es) apart =
    AreByCall-entered e (by_call es)
    (known-by_call es e.0 ∙ unlisted es e.0 (IsDistinct-head same_cid e.0 (keys_of es) apart))
    (AreByCall-by_call es (IsDistinct-tail same_cid e.0 (keys_of es) apart))

-- a table in which an entry was put has one call more
pub by_call-inserted : (old new : List (Cid × Known)) (cid : Cid) (known : Known) → IsDistinct same_cid (keys_of old)
    → IsDistinct same_cid (keys_of new) → known_of (by_call old) cid ≡ None
    → ((q : Cid) → known_of new q ≡ cond (same_cid cid q) (Some known) (known_of old q))
    → by_call new ≡ enter_call (cid, known) (by_call old)
by_call-inserted old new cid known apart apart_now none put =
    same-tables (by_call new) (enter_call (cid, known) (by_call old)) (AreByCall-by_call new apart_now)
    (AreByCall-entered (cid, known) (by_call old) none (AreByCall-by_call old apart))
    (λ q. known-by_call new q ∙ put q ∙ ap (λ b. cond b (Some known) (known_of old q)) (same_cid-sym cid q)
    ∙ ap (cond (same_cid q cid) (Some known)) (sym (known-by_call old q))
    ∙ sym (known_of-entered (cid, known) (by_call old) q))

-- a table from whose entries one was taken out
pub by_call-removed : (old new : List (Cid × Known)) (cid : Cid) → IsDistinct same_cid (keys_of old)
    → IsDistinct same_cid (keys_of new)
    → ((q : Cid) → known_of new q ≡ cond (same_cid cid q) None (known_of old q))
    → by_call new ≡ without (cid ∷ []) (by_call old)
by_call-removed old new cid apart apart_now out =
    same-tables (by_call new) (without (cid ∷ []) (by_call old)) (AreByCall-by_call new apart_now)
    (ascends-filter (λ a b. cid_before a.0 b.0) (λ e. not (is_named (cid ∷ []) e.0)) (by_call old)
    (AreByCall-by_call old apart))
    (λ q. known-by_call new q ∙ out q ∙ ap (λ b. cond b None (known_of old q)) (same_cid-sym cid q)
    ∙ ap (cond (same_cid q cid) None) (sym (known-by_call old q))
    ∙ ap (λ b. cond b None (known_of (by_call old) q)) (one (same_cid q cid))
    ∙ sym (known_of-without (cid ∷ []) (by_call old) q))
  where
    one : (b : Bool) → b ≡ (b || false)
    one true = refl
    one false = refl

-- once a call has left, the others behind it are left to leave
pub leave-next : (cids : List Cid) (i : ℕ) (d : Cid) (calls : List (Cid × Known)) → i < length cids
    → without (drop (i + 1) cids) (without (get_or cids i d ∷ []) calls) ≡ without (drop i cids) calls
leave-next cids i d calls within =
    sym (without-behind (get_or cids i d ∷ []) (drop (i + 1) cids) calls)
    ∙ ap (λ (l : List Cid). without l calls)
    (ap (λ n. get_or cids i d ∷ drop n cids) (add-one i) ∙ sym (drop-cons cids i d within))

-- and behind the last none is
pub leave-done : (cids : List Cid) (i : ℕ) (calls : List (Cid × Known)) → length cids ≤ i
    → calls ≡ without (drop i cids) calls
leave-done cids i calls past =
    sym (without-none calls) ∙ ap (λ (l : List Cid). without l calls) (sym (drop_all i cids past))
