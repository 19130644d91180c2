-- What is known by tables that calls were taken out of, and in which order the calls may leave.
use Rattle.std.specs.Prelude.{◌≡◌, ◌++◌, List, [], ◌∷◌, Bool, true, false, not, cond, None}
use Rattle.std.proofs.Common.{refl, sym, ap, ◌∙◌, ◌||◌, ◌&&◌, true≢false}
use Rattle.std.proofs.Math.Bool.{and_comm}
use Rattle.lr_base.specs.Ascending.{same_cid}
use Rattle.lr_base.specs.InsertionLaws.{filter-both}
use Rattle.lr_base.specs.NameLaws.{same_cid-is}
use Rattle.lr_base.specs.Rules.{known_of}
use Rattle.lr_base.specs.declared.messages.Known.{Known}
use Rattle.lr_base.specs.declared.names.Cid.{Cid}
use Rattle.lr_calls.specs.Tables.{is_named, without}

-- what is known by a table without some calls
pub known_of-without : (cids : List Cid) (calls : List (Cid × Known)) (q : Cid)
    → known_of (without cids calls) q ≡ cond (is_named cids q) None (known_of calls q)
known_of-without cids [] q = go (is_named cids q)
  where
    go : (t : Bool) → known_of [] q ≡ cond t None (known_of [] q)
    go true = refl
    go false = refl
known_of-without cids (e ∷ calls) q =
    go (is_named cids e.0) refl (same_cid q e.0) refl (is_named cids q) refl (known_of-without cids calls q)
  where
    go : (s : Bool) → is_named cids e.0 ≡ s → (t : Bool) → same_cid q e.0 ≡ t → (u : Bool) → is_named cids q ≡ u
        → known_of (without cids calls) q ≡ cond (is_named cids q) None (known_of calls q)
        → known_of (without cids (e ∷ calls)) q ≡ cond (is_named cids q) None (known_of (e ∷ calls) q)
    go true named true same true there rest =
        rw (named, there) (rest ∙ ap (λ b. cond b None (known_of calls q)) there)
    go true named true same false there rest =
        absurd (true≢false (sym named ∙ ap (is_named cids) (sym (same_cid-is q e.0 same)) ∙ there))
    go true named false same u there rest = rw (named, same) rest
    go false named true same true there rest =
        absurd (true≢false (sym there ∙ ap (is_named cids) (same_cid-is q e.0 same) ∙ named))
    go false named true same false there rest = rw (named, same, there) refl
    go false named false same u there rest = rw (named, same) rest

-- a call is among those of two lists where it is among those of one
named-append : (a b : List Cid) (cid : Cid) → is_named (a ++ b) cid ≡ (is_named a cid || is_named b cid)
named-append [] b cid = refl
named-append (c ∷ a) b cid = go (same_cid cid c) (named-append a b cid)
  where
    go : (s : Bool) → is_named (a ++ b) cid ≡ (is_named a cid || is_named b cid)
        → (s || is_named (a ++ b) cid) ≡ ((s || is_named a cid) || is_named b cid)
    go true rest = refl
    go false rest = rest

-- a call is outside two lists where it is outside each
outside-append : (a b : List Cid) (cid : Cid)
    → not (is_named (a ++ b) cid) ≡ (not (is_named a cid) && not (is_named b cid))
outside-append a b cid = ap not (named-append a b cid) ∙ go (is_named a cid) (is_named b cid)
  where
    go : (s t : Bool) → not (s || t) ≡ (not s && not t)
    go true t = refl
    go false t = refl

-- calls of two lists leave at once or one list after the other, in either order
pub without-behind : (a b : List Cid) (calls : List (Cid × Known))
    → without (a ++ b) calls ≡ without b (without a calls)
without-behind a b calls =
    sym (filter-both (λ e. not (is_named b e.0)) (λ e. not (is_named a e.0)) (λ e. not (is_named (a ++ b) e.0))
    (λ e. outside-append a b e.0) calls)

pub without-append : (a b : List Cid) (calls : List (Cid × Known))
    → without (a ++ b) calls ≡ without a (without b calls)
without-append a b calls =
    sym (filter-both (λ e. not (is_named a e.0)) (λ e. not (is_named b e.0)) (λ e. not (is_named (a ++ b) e.0))
    (λ e. outside-append a b e.0 ∙ and_comm (not (is_named a e.0)) (not (is_named b e.0))) calls)

-- where no call leaves, the table stays
pub without-none : (calls : List (Cid × Known)) → without [] calls ≡ calls
without-none [] = refl
without-none (e ∷ calls) = ap (λ (l : List (Cid × Known)). e ∷ l) (without-none calls)
