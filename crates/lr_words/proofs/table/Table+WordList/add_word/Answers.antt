use Rattle.std.proofs.Common.{List, ℕ, sym, ap, ◌∙◌, rules, cond}
use Rattle.std.specs.Prelude.{None, Some, [], unwrap_or}
use Rattle.std.specs.BTreeMap as tree
use Rattle.std.specs.BTreeMap.{is_at}
use Rattle.std.specs.Cmp.Lexicographic.{slice_cmp}
use Rattle.std.specs.Ordering.{nat_cmp}
use Rattle.std.proofs.lemmas.Result.{on_err_weaker, on_ok_weaker}
use Rattle.lr_words.specs.Formats.{insert_word}
use Rattle.lr_words.proofs.Trees.{changed-tree, kept-tree}
use Rattle.lr_words.proofs.table.Table+WordList.add_word.Goals as goal

pub returns-in-Some-clause-ok : goal.returns-in-Some-clause-ok
returns-in-Some-clause-ok c =
    let m = c.self.inside.entries in
    let w = c.add.new.self in
    let updates = (c.get_mut.follows.holds w).3 (search rules) in
    on_ok_weaker c.add.result
    (λ more. changed-tree m (c.get_mut.follows.lender w) c.args.name.now w (λ x. insert_word c.args.word (unwrap_or x [])) (Some c.in-Some.words.now) c.args.self.now updates.0 (sym c.in-Some.ensures.value) more c.self.view_is)
    c.add.ensures.ok

pub returns-in-Some-clause-err : goal.returns-in-Some-clause-err
returns-in-Some-clause-err c =
    let m = c.self.inside.entries in
    let w = c.add.new.self in
    let updates = (c.get_mut.follows.holds w).3 (search rules) in
    on_err_weaker c.add.result
    (λ same. kept-tree m (c.get_mut.follows.lender w) c.args.name.now w updates.0 (sym c.in-Some.ensures.value ∙ ap (λ v. Some v) (sym same)) ∙ c.self.view_is)
    c.add.ensures.err

pub returns-in_ok-words-in-None-clause-ok : goal.returns-in_ok-words-in-None-clause-ok
returns-in_ok-words-in-None-clause-ok c =
    let m = c.self.inside.entries in
    let words = c.in_ok-words-in-None.words in
    on_ok_weaker c.insert.result
    (λ updates. changed-tree m c.insert.new.entries c.args.name.now words (λ x. insert_word c.args.word (unwrap_or x [])) None c.args.self.now
    (λ q. updates.0 q ∙ ap (λ t. cond (is_at (slice_cmp nat_cmp c.copy.result) q) (Some words) (tree.get (slice_cmp nat_cmp) t q)) c.get_mut.follows.holds-at-none
    ∙ ap (λ (n : List ℕ). cond (is_at (slice_cmp nat_cmp n) q) (Some words) (tree.get (slice_cmp nat_cmp) m q)) c.copy.ensures)
    (sym c.in-None.ensures.value) c.in_ok-words-in-None.ensures c.self.view_is)
    c.insert.ensures.updates
