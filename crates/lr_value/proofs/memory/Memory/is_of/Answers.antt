use Rattle.std.proofs.Common.{◌≡◌, ◌∙◌, List, ℕ, true, true≢false, sym, ap, length}
use Rattle.lr_base.specs.Stamps.{stamp_le}
use Rattle.lr_base.specs.StampLaws.{stamp_le-antisymm, stamp_le-refl}
use Rattle.lr_value.specs.Applied.{Memory}
use Rattle.lr_value.proofs.memory.Memory.is_of.Goals as goal

pub returns-then-le : goal.returns-then-le
returns-then-le c =
    let seen : c.self.inside.seen ≡ c.args.self.now.seen = ap (λ (m : Memory). m.seen) c.self.view_is in
    let long : length c.self.inside.seen ≡ length c.args.received.now = ap length seen ∙ c.requires in
    let low : stamp_le c.self.inside.seen c.args.received.now ≡ true = sym c.le.ensures ∙ c.if-le.true in (
      λ high. sym seen
          ∙ stamp_le-antisymm c.self.inside.seen c.args.received.now long low (sym c.le-then-le.ensures ∙ high),
      λ same.
          let back : c.args.received.now ≡ c.self.inside.seen = sym same ∙ sym seen in
          c.le-then-le.ensures
          ∙ ap (λ (a : List ℕ). stamp_le a c.self.inside.seen) back
          ∙ stamp_le-refl c.self.inside.seen,
    )

pub returns-else-le : goal.returns-else-le
returns-else-le c =
    let seen : c.self.inside.seen ≡ c.args.self.now.seen = ap (λ (m : Memory). m.seen) c.self.view_is in (
      λ is. absurd (true≢false (sym is ∙ c.if-le.false)),
      λ same.
          let back : c.args.received.now ≡ c.self.inside.seen = sym same ∙ sym seen in
          c.le.ensures
          ∙ ap (λ (a : List ℕ). stamp_le c.self.inside.seen a) back
          ∙ stamp_le-refl c.self.inside.seen,
    )
