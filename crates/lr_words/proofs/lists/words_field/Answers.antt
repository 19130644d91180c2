use Rattle.std.proofs.Common.{◌≡◌, ◌-◌, ◌+◌, ◌∷◌, [], List, ℕ, subst, true, arith, length-append, ◌∙◌}
use Rattle.std.specs.Prelude.{None, Err}
use Rattle.std.proofs.lemmas.Result.{err_from_is_err_and}
use Rattle.lr_base.specs.Bytes.{Found, Reads, times}
use Rattle.lr_words.specs.Formats.{follows, next_word_field}
use Rattle.lr_base.specs.Lasts.{last_of}
use Rattle.lr_base.specs.RowLaws.{joined-fault, joined-more}
use Rattle.lr_words.proofs.Rows.{in_order-more}
use Rattle.lr_words.proofs.lists.words_field.Goals as goal

pub returns-in_err-word-clause-reads : goal.returns-in_err-word-clause-reads
returns-in_err-word-clause-reads c =
    let p = err_from_is_err_and c.from_residual.result c.from_residual.ensures.1 in
    let wrong = subst (λ (words : List (List ℕ)). Reads {A = List ℕ} (next_word_field (last_of words) c.loop.rest.now) (Err c.in_err-word.field-0.0)) c.deref.ensures.value c.in_err-word.ensures.reads in
    rw (p.1, p.2) (joined-fault next_word_field c.loop.words.items (c.args.count - c.loop.counter) (c.args.count - (c.loop.counter + 1)) c.loop.rest.now
    (times next_word_field c.args.count None c.args.bytes.now) c.in_err-word.field-0.0 c.loop.invariant.reads (omega arith) wrong)

pub loop-preserved : goal.loop-preserved
loop-preserved c =
    let more = c.in_ok-push.ensures in
    let found : next_word_field (last_of c.loop.words.items) c.loop.rest.now ≡ Found c.in_ok-word.word c.in_ok-word.end.now = rw c.deref.ensures.value at c.in_ok-word.ensures.reads in
    let next : follows (last_of c.loop.words.items) c.in_ok-word.word ≡ true = rw c.deref.ensures.value at c.in_ok-word.ensures.order in
    rw more record {
      reads = joined-more next_word_field c.loop.words.items (c.args.count - c.loop.counter) (c.args.count - (c.loop.counter + 1)) c.loop.rest.now c.in_ok-word.word c.in_ok-word.end.now (omega arith) found ∙ c.loop.invariant.reads;
      count = omega (arith, length-append c.loop.words.items (c.in_ok-word.word ∷ []), c.loop.invariant.count);
      order = in_order-more c.loop.words.items c.in_ok-word.word c.loop.invariant.order next;
    }
