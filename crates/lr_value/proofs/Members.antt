-- Lists in the order of spots, and their members.
use Rattle.std.proofs.Common.{◌≡◌, ◌↔◌, inl, inr, ℕ, suc, true, List, [], ◌∷◌, length, refl, sym, ap, ◌∙◌}
use Rattle.std.proofs.Common.{subst, true≢false, arith}
use Rattle.std.specs.List.{AllByRecursion}
use Rattle.std.specs.Borrow.{Bor}
use Rattle.lr_base.specs.Ascending.{is_before}
use Rattle.lr_base.specs.Logged.{AllFit, Fits}
use Rattle.lr_base.specs.Orders.{IsAmong}
use Rattle.lr_base.specs.Places.{AreInOrder}
use Rattle.lr_base.specs.declared.messages.LogUpdate.{LogUpdate}
use Rattle.lr_value.specs.Table.{Has, IsHeld}
use Rattle.lr_value.specs.declared.waiting.Blocked.{Blocked}
use Rattle.lr_value.specs.Waiting.{behind}
use Rattle.lr_value.proofs.Placed.{before-self, before-trans, each-among}

module _ {Op : Type 0} where
  abbrev InOrder : List (LogUpdate Op) → Type 0
  InOrder us = AreInOrder (λ u. u.spot) us

  -- none comes before itself
  not-before : (u : LogUpdate Op) (us : List (LogUpdate Op)) (v : LogUpdate Op) → IsAmong v us
      → AllByRecursion (λ w. is_before u.spot w.spot ≡ true) us → u.spot ≡ v.spot → ⊥
  not-before u us v among all same =
      let before = each-among (λ w. is_before u.spot w.spot ≡ true) us all v among in
      let self : is_before v.spot v.spot ≡ true = rw same at before in
      true≢false (sym self ∙ before-self v.spot)

  -- of updates in order no two have one spot
  pub same-spot : (us : List (LogUpdate Op)) → InOrder us → (u v : LogUpdate Op) → IsAmong u us → IsAmong v us
      → u.spot ≡ v.spot → u ≡ v
  same-spot [] up u v first second same = absurd first
  same-spot (x ∷ us) up u v (inl a) (inl b) same = a ∙ sym b
  same-spot (x ∷ us) up u v (inl a) (inr b) same =
      absurd (not-before x us v b up.0 (ap (λ (w : LogUpdate Op). w.spot) (sym a) ∙ same))
  same-spot (x ∷ us) up u v (inr a) (inl b) same =
      absurd (not-before x us u a up.0 (ap (λ (w : LogUpdate Op). w.spot) (sym b) ∙ sym same))
  same-spot (x ∷ us) up u v (inr a) (inr b) same = same-spot us up.1 u v a b same

  -- lists in order with the same members are the same
  pub same-members : (us vs : List (LogUpdate Op)) → InOrder us → InOrder vs
      → ((u : LogUpdate Op) → IsAmong u us ↔ IsAmong u vs) → us ≡ vs
  same-members [] [] up down same = refl
  same-members [] (v ∷ vs) up down same = absurd ((same v).1 (inl refl))
  same-members (u ∷ us) [] up down same = absurd ((same u).0 (inl refl))
  same-members (u ∷ us) (v ∷ vs) up down same =
      let first : u ≡ v = head ((same u).0 (inl refl)) ((same v).1 (inl refl)) in
      let rest : us ≡ vs = same-members us vs up.1 down.1 (λ w. (
        λ among. tail u us w v vs up.0 (sym first) among ((same w).0 (inr among)),
        λ among. tail v vs w u us down.0 first among ((same w).1 (inr among)),
      )) in
      cc
    where
      head : IsAmong u (v ∷ vs) → IsAmong v (u ∷ us) → u ≡ v
      head (inl is) b = is
      head (inr a) (inl is) = sym is
      head (inr a) (inr b) =
          let down' = each-among (λ w. is_before v.spot w.spot ≡ true) vs down.0 u a in
          let up' = each-among (λ w. is_before u.spot w.spot ≡ true) us up.0 v b in
          absurd (true≢false (sym (before-trans u.spot v.spot u.spot up' down') ∙ before-self u.spot))

      tail : (a : LogUpdate Op) (ws : List (LogUpdate Op)) (w b : LogUpdate Op) (bs : List (LogUpdate Op))
          → AllByRecursion (λ x. is_before a.spot x.spot ≡ true) ws → b ≡ a → IsAmong w ws → IsAmong w (b ∷ bs)
          → IsAmong w bs
      tail a ws w b bs before is own (inl same) =
          absurd (not-before a ws w own before (sym (ap (λ (x : LogUpdate Op). x.spot) (same ∙ is))))
      tail a ws w b bs before is own (inr among) = among

  -- what a reference among some points to is among what these point to
  pub among-behind : (rs : List (Bor (LogUpdate Op))) (u : LogUpdate Op) → Has (λ r. r.now) u rs ↔ IsAmong u (behind rs)
  among-behind rs u = (λ has. into rs has.0 has.1 has.2, out rs)
    where
      into : (rs : List (Bor (LogUpdate Op))) (r : Bor (LogUpdate Op)) → IsAmong r rs → r.now ≡ u
          → IsAmong u (behind rs)
      into [] r among is = absurd among
      into (x ∷ rs) r (inl same) is = inl (sym is ∙ ap (λ (r : Bor (LogUpdate Op)). r.now) same)
      into (x ∷ rs) r (inr among) is = inr (into rs r among is)

      out : (rs : List (Bor (LogUpdate Op))) → IsAmong u (behind rs) → Has (λ r. r.now) u rs
      out [] among = absurd among
      out (x ∷ rs) (inl same) = (x, inl refl, sym same)
      out (x ∷ rs) (inr among) = let has = out rs among in (has.0, inr has.1, has.2)

  -- where nothing needs anything, what is held is among the ready ones
  pub held-alone : (u : LogUpdate Op) (ready : List (Bor (LogUpdate Op))) (blocked : List (Blocked Op))
      → length blocked ≡ 0 → IsHeld u ready blocked ↔ IsAmong u (behind ready)
  held-alone u ready [] none = (λ held. from held, λ among. inl ((among-behind ready u).1 among))
    where
      from : IsHeld u ready [] → IsAmong u (behind ready)
      from (inl has) = (among-behind ready u).0 has
      from (inr has) = absurd has.1
  held-alone u ready (b ∷ blocked) none = absurd (omega arith)

  each-behind : (P : LogUpdate Op → Type 0) (rs : List (Bor (LogUpdate Op)))
      → AllByRecursion P (behind rs) ↔ AllByRecursion (λ r. P r.now) rs
  each-behind P [] = (λ all. tt, λ all. tt)
  each-behind P (x ∷ rs) =
      let rest = each-behind P rs in (λ all. (all.0, rest.0 all.1), λ all. (all.0, rest.1 all.1))

  -- references stand in order where what they point to does
  pub order-behind : (rs : List (Bor (LogUpdate Op))) → InOrder (behind rs) ↔ AreInOrder (λ r. r.now.spot) rs
  order-behind [] = (λ up. tt, λ up. tt)
  order-behind (x ∷ rs) =
      let first = each-behind (λ u. is_before x.now.spot u.spot ≡ true) rs in
      let rest = order-behind rs in
      (λ up. (first.0 up.0, rest.0 up.1), λ up. (first.1 up.0, rest.1 up.1))

  -- what fits each of some fits one among them
  pub fits-among : (parts : ℕ) (us : List (LogUpdate Op)) → AllFit parts us → (u : LogUpdate Op) → IsAmong u us
      → Fits parts u
  fits-among parts [] all u among = absurd among
  fits-among parts (x ∷ us) all u (inl same) = subst (λ (v : LogUpdate Op). Fits parts v) (sym same) (all 0 x refl)
  fits-among parts (x ∷ us) all u (inr among) = fits-among parts us (λ k. all (suc k)) u among
