use Rattle.std.proofs.Common.{ℕ, ◌≡◌, ◌+◌, ◌%◌, ◌^◌, List, sym, ap, ◌∙◌, cond, refl, rules, arith, true, false}
use Rattle.std.specs.Prelude.{None, Some, Option, unwrap_or}
use Rattle.std.specs.BTreeMap as tree
use Rattle.std.specs.BTreeMap.{is_at}
use Rattle.std.specs.Cmp.Lexicographic.{slice_cmp}
use Rattle.std.specs.FinMap.{get}
use Rattle.std.specs.Ordering.{nat_cmp}
use Rattle.std.proofs.lemmas.Result.{on_ok_weaker}
use Rattle.lr_words.proofs.Trees.{changed-tree, get-tree}
use Rattle.lr_words.proofs.table.Table+u64.add.Goals as goal

-- the number after an amount was added, from the one before, if there was one
abbrev raised : ℕ → Option ℕ → ℕ
raised amount number = (unwrap_or number 0 + amount) % 2 ^ 64

pub returns-in-Some-clause-ok : goal.returns-in-Some-clause-ok
returns-in-Some-clause-ok c =
    let m = c.self.inside.entries in
    let number = raised c.args.amount (Some c.in-Some.number.now) in
    let updates = (c.get_mut.follows.holds number).3 (search rules) in
    changed-tree m (c.get_mut.follows.lender number) c.args.name.now number (raised c.args.amount) (Some c.in-Some.number.now) c.args.self.now updates.0 (sym c.in-Some.ensures.value) refl c.self.view_is

pub returns-in-None-clause-ok : goal.returns-in-None-clause-ok
returns-in-None-clause-ok c =
    let m = c.self.inside.entries in
    let number = c.args.amount in
    let is : number ≡ raised number None = omega arith in
    on_ok_weaker c.insert.result
    (λ updates. changed-tree m c.insert.new.entries c.args.name.now number (raised c.args.amount) None c.args.self.now
    (λ q. updates.0 q ∙ ap (λ t. cond (is_at (slice_cmp nat_cmp c.copy.result) q) (Some number) (tree.get (slice_cmp nat_cmp) t q)) c.get_mut.follows.holds-at-none
    ∙ ap (λ (n : List ℕ). cond (is_at (slice_cmp nat_cmp n) q) (Some number) (tree.get (slice_cmp nat_cmp) m q)) c.copy.ensures)
    (sym c.in-None.ensures.value) is c.self.view_is)
    c.insert.ensures.updates

-- where no number was found, the name has none
pub returns-in-None-clause-known : goal.returns-in-None-clause-known
returns-in-None-clause-known c known =
    let none : get c.args.self.now c.args.name.now ≡ None = ap (λ t. get t c.args.name.now) (sym c.self.view_is) ∙ get-tree c.self.inside.entries c.args.name.now ∙ sym c.in-None.ensures.value in
    let no : false ≡ true = rw none at known in
    cc
