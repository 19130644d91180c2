-- The services' meanings over look-ups in place of tables, so that what they answer is found by computing.
use Rattle.std.proofs.Common.{◌≡◌, ◌∙◌, ◌+◌, ◌%◌, ◌^◌, ℕ, Bool, true, false, cond, List, [], ◌∷◌, ◌++◌, ap, refl}
use Rattle.std.proofs.Common.{codes, length, subst, unwrap_or}
use Rattle.std.specs.Prelude.{Option, Some, None, flat_map, is_some}
use Rattle.std.specs.Cmp.Lexicographic.{nat_list_cmp_total, slice_cmp}
use Rattle.std.specs.FinMap.{get, get-empty, get-insert, get-remove, insert, remove}
use Rattle.std.specs.Fmt.{decimal, digits, digits_onto}
use Rattle.std.specs.Ordering.{eq_by_cmp, nat_cmp}
use Rattle.lr_base.specs.Bytes.{Bytes}
use Rattle.lr_base.specs.Meaning.{Meaning}
use Rattle.lr_base.specs.declared.lr_service.Kind.{Kind}
use Rattle.lr_words.specs.Formats.{insert_word, with_word, words_of, words_text}
use Rattle.lr_words.specs.Tables.{Table}
use Rattle.svc_claims.specs.Claims.{ClaimsValue, claimed, claims, claims_apply, claims_kind, claims_read}
use Rattle.svc_claims.specs.declared.op.ClaimsOp.{ClaimsOp}
use Rattle.svc_claims.specs.declared.op.ClaimsOp.TheVariants.{Note, Claim, Clear, Who}
use Rattle.svc_mail.specs.Mail.{MailValue, mail, mail_apply, mail_kind, mail_read, number_text, with_user}
use Rattle.svc_mail.specs.declared.op.MailOp.{MailOp}
use Rattle.svc_mail.specs.declared.op.MailOp.TheVariants.{Send, Add as AddUser, Delete, Read as ReadBox}
use Rattle.svc_tally.specs.Tally.{Counts, tally, tally_apply, tally_kind, tally_read}
use Rattle.svc_tally.specs.declared.op.TallyOp.{TallyOp}
use Rattle.svc_tally.specs.declared.op.TallyOp.TheVariants.{Add, Read}
use Rattle.lr_histories.proofs.Alike.{Alike, related}

-- digits that compute
abbrev digits_of : ℕ → Bytes
digits_of n = digits_onto 64 10 false n []

same-digits : (n : ℕ) → decimal n ≡ digits_of n
unfolding digits
same-digits n = refl

-- what stands at a name, if something does
abbrev pub Look : Type 0 → Type 0
Look V = Bytes → Option V

abbrev same : Bytes → Bytes → Bool
same = eq_by_cmp (slice_cmp nat_cmp)

-- a look-up with this at a name, or with nothing there
abbrev put : {V : Type 0} → Look V → Bytes → Option V → Look V
put look name v q = cond (same q name) v (look q)

abbrev Finds : {V : Type 0} → Table V → Look V → Type 0
Finds table look = (q : Bytes) → get table q ≡ look q

module _ {V : Type 0} (table : Table V) (look : Look V) (name : Bytes) (h : Finds table look) where
  found-insert : (x y : V) → x ≡ y → Finds (insert table name x) (put look name (Some y))
  found-insert x y e q = get-insert nat_list_cmp_total table name x q
      ∙ (λ k. cond (same q name) (Some (e k)) (h q k))

  found-remove : Finds (remove table name) (put look name None)
  found-remove q = get-remove nat_list_cmp_total table name q ∙ ap (cond (same q name) None) (h q)

-- a meaning of which a history's outcomes say all
abbrev told_by : {V Op : Type 0} → (Op → Kind) → (Op → Bool) → V → (V → Op → V) → (V → Op → Bytes) → Meaning V Op
told_by kind is_op start apply read = record {
  start = start;
  kind = kind;
  apply = apply;
  read = read;
  is_op = is_op;
  text = λ op. [];
  op_of = λ text. None;
}

-- the tally over look-ups
abbrev count_at : Look ℕ → Bytes → ℕ
count_at look name = unwrap_or (look name) 0

abbrev tally_next : Look ℕ → TallyOp → Look ℕ
tally_next look (Add name amount) = put look name (Some ((count_at look name + amount) % 2 ^ 64))
tally_next look (Read name) = look

abbrev tally_told : Look ℕ → TallyOp → Bytes
tally_told look (Add name amount) = []
tally_told look (Read name) = digits_of (count_at look name)

abbrev pub computed_tally : Meaning (Look ℕ) TallyOp
computed_tally = told_by tally_kind tally.is_op (λ q. None) tally_next tally_told

tally_steps : (v : Counts) (look : Look ℕ) (op : TallyOp) → Finds v look → Finds (tally_apply v op) (tally_next look op)
tally_steps v look (Add name amount) h =
    found-insert v look name h _ _ (ap (λ o. (unwrap_or o 0 + amount) % 2 ^ 64) (h name))
tally_steps v look (Read name) h = h

tally_tells : (v : Counts) (look : Look ℕ) (op : TallyOp) → Finds v look → tally_read v op ≡ tally_told look op
tally_tells v look (Add name amount) h = refl
tally_tells v look (Read name) h = ap (λ o. decimal (unwrap_or o 0)) (h name) ∙ same-digits _

pub tally_alike : Alike tally computed_tally
tally_alike = record {
  kind = λ op. refl;
  is_op = λ op. refl;
  read = λ accepted set op. tally_tells _ _ op
      (related tally computed_tally Finds (get-empty (slice_cmp nat_cmp)) tally_steps accepted set);
}

-- words that are told, their count by digits that compute
abbrev told_words : List Bytes → Bytes
told_words words = digits_of (length words) ++ flat_map (λ word. 32 ∷ word) words

same-words : (words : List Bytes) → words_text words ≡ told_words words
same-words words = ap (λ count. count ++ flat_map (λ word. 32 ∷ word) words) (same-digits (length words))

-- the words with one more at a name, as a look-up
abbrev put_word : Look (List Bytes) → Bytes → Bytes → Look (List Bytes)
put_word look name word = put look name (Some (insert_word word (unwrap_or (look name) [])))

found-word : (table : Table (List Bytes)) (look : Look (List Bytes)) (name word : Bytes) → Finds table look
    → Finds (with_word table name word) (put_word look name word)
found-word table look name word h =
    found-insert table look name h _ _ (ap (λ o. insert_word word (unwrap_or o [])) (h name))

same-box : (table : Table (List Bytes)) (look : Look (List Bytes)) (name : Bytes) → Finds table look
    → words_text (words_of table name) ≡ told_words (unwrap_or (look name) [])
same-box table look name h = ap (λ o. words_text (unwrap_or o [])) (h name) ∙ same-words _

-- mail over look-ups
pub record Mailed : Type 0 where
  pub last : ℕ
  pub users : Look ℕ
  pub boxes : Look (List Bytes)

record IsMailed (v : MailValue) (w : Mailed) : Type 0 where
  last : v.last ≡ w.last
  users : Finds v.users w.users
  boxes : Finds v.boxes w.boxes

abbrev mailed_user : Mailed → Bytes → Option ℕ → Mailed
mailed_user w user None = record {
  last = (w.last + 1) % 2 ^ 64;
  users = put w.users user (Some ((w.last + 1) % 2 ^ 64));
  boxes = w.boxes;
}
mailed_user w user (Some number) = w

abbrev mail_next : Mailed → MailOp → Mailed
mail_next w (Send user word) = record { last = w.last; users = w.users; boxes = put_word w.boxes user word }
mail_next w (AddUser user) = mailed_user w user (w.users user)
mail_next w (Delete user) = record { last = w.last; users = put w.users user None; boxes = put w.boxes user None }
mail_next w (ReadBox user) = w

abbrev told_number : Option ℕ → Bytes
told_number None = codes "-"
told_number (Some number) = digits_of number

abbrev mail_told : Mailed → MailOp → Bytes
mail_told w (Send user word) = []
mail_told w (AddUser user) = []
mail_told w (Delete user) = []
mail_told w (ReadBox user) = told_number (w.users user) ++ (codes " " ++ told_words (unwrap_or (w.boxes user) []))

abbrev pub computed_mail : Meaning Mailed MailOp
computed_mail = told_by mail_kind mail.is_op (record { last = 0; users = λ q. None; boxes = λ q. None }) mail_next mail_told

user_steps : (v : MailValue) (w : Mailed) (user : Bytes) (known : Option ℕ) → IsMailed v w
    → IsMailed (with_user v user known) (mailed_user w user known)
user_steps v w user None h =
    let next : (v.last + 1) % 2 ^ 64 ≡ (w.last + 1) % 2 ^ 64 = ap (λ last. (last + 1) % 2 ^ 64) h.last in
    record { last = next; users = found-insert v.users w.users user h.users _ _ next; boxes = h.boxes }
user_steps v w user (Some number) h = h

mail_steps : (v : MailValue) (w : Mailed) (op : MailOp) → IsMailed v w → IsMailed (mail_apply v op) (mail_next w op)
mail_steps v w (Send user word) h =
    record { last = h.last; users = h.users; boxes = found-word v.boxes w.boxes user word h.boxes }
mail_steps v w (AddUser user) h =
    subst (λ known. IsMailed (with_user v user (get v.users user)) (mailed_user w user known)) (h.users user)
    (user_steps v w user (get v.users user) h)
mail_steps v w (Delete user) h = record {
  last = h.last;
  users = found-remove v.users w.users user h.users;
  boxes = found-remove v.boxes w.boxes user h.boxes;
}
mail_steps v w (ReadBox user) h = h

same-number : (o : Option ℕ) → number_text o ≡ told_number o
same-number None = refl
same-number (Some number) = same-digits number

mail_tells : (v : MailValue) (w : Mailed) (op : MailOp) → IsMailed v w → mail_read v op ≡ mail_told w op
mail_tells v w (Send user word) h = refl
mail_tells v w (AddUser user) h = refl
mail_tells v w (Delete user) h = refl
mail_tells v w (ReadBox user) h =
    let number : number_text (get v.users user) ≡ told_number (w.users user)
    = ap number_text (h.users user) ∙ same-number _ in
    λ k. number k ++ (codes " " ++ same-box v.boxes w.boxes user h.boxes k)

pub mail_alike : Alike mail computed_mail
mail_alike = record {
  kind = λ op. refl;
  is_op = λ op. refl;
  read = λ accepted set op. mail_tells _ _ op
      (related mail computed_mail IsMailed (record {
        last = refl;
        users = get-empty (slice_cmp nat_cmp);
        boxes = get-empty (slice_cmp nat_cmp);
      }) mail_steps accepted set);
}

-- claims over look-ups
pub record Noted : Type 0 where
  pub owners : Look Bytes
  pub notes : Look (List Bytes)

record IsNoted (v : ClaimsValue) (w : Noted) : Type 0 where
  owners : Finds v.owners w.owners
  notes : Finds v.notes w.notes

abbrev owned : Look Bytes → Bytes → Bytes → Bool → Look Bytes
owned look name who known = cond known look (put look name (Some who))

abbrev claims_next : Noted → ClaimsOp → Noted
claims_next w (Note name word) = record { owners = w.owners; notes = put_word w.notes name word }
claims_next w (Claim name who) = record { owners = owned w.owners name who (is_some (w.owners name)); notes = w.notes }
claims_next w (Clear name) = record { owners = put w.owners name None; notes = put w.notes name None }
claims_next w (Who name) = w

abbrev claims_told : Noted → ClaimsOp → Bytes
claims_told w (Note name word) = []
claims_told w (Claim name who) = []
claims_told w (Clear name) = []
claims_told w (Who name) = unwrap_or (w.owners name) (codes "-")
    ++ (codes " " ++ told_words (unwrap_or (w.notes name) []))

abbrev pub computed_claims : Meaning Noted ClaimsOp
computed_claims = told_by claims_kind claims.is_op (record { owners = λ q. None; notes = λ q. None }) claims_next claims_told

claim_steps : (table : Table Bytes) (look : Look Bytes) (name who : Bytes) (known : Bool) → Finds table look
    → Finds (cond known table (insert table name who)) (owned look name who known)
claim_steps table look name who true h = h
claim_steps table look name who false h = found-insert table look name h who who refl

claims_steps : (v : ClaimsValue) (w : Noted) (op : ClaimsOp) → IsNoted v w
    → IsNoted (claims_apply v op) (claims_next w op)
claims_steps v w (Note name word) h = record { owners = h.owners; notes = found-word v.notes w.notes name word h.notes }
claims_steps v w (Claim name who) h =
    let same_owner : is_some (get v.owners name) ≡ is_some (w.owners name) = ap is_some (h.owners name) in
    record {
      owners = subst (λ known. Finds (claimed v.owners name who) (owned w.owners name who known)) same_owner
          (claim_steps v.owners w.owners name who (is_some (get v.owners name)) h.owners);
      notes = h.notes;
    }
claims_steps v w (Clear name) h = record {
  owners = found-remove v.owners w.owners name h.owners;
  notes = found-remove v.notes w.notes name h.notes;
}
claims_steps v w (Who name) h = h

claims_tells : (v : ClaimsValue) (w : Noted) (op : ClaimsOp) → IsNoted v w → claims_read v op ≡ claims_told w op
claims_tells v w (Note name word) h = refl
claims_tells v w (Claim name who) h = refl
claims_tells v w (Clear name) h = refl
claims_tells v w (Who name) h =
    λ k. unwrap_or (h.owners name k) (codes "-") ++ (codes " " ++ same-box v.notes w.notes name h.notes k)

pub claims_alike : Alike claims computed_claims
claims_alike = record {
  kind = λ op. refl;
  is_op = λ op. refl;
  read = λ accepted set op. claims_tells _ _ op
      (related claims computed_claims IsNoted (record {
        owners = get-empty (slice_cmp nat_cmp);
        notes = get-empty (slice_cmp nat_cmp);
      }) claims_steps accepted set);
}
