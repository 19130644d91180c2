use Rattle.std.proofs.Common.{◌≡◌, ◌+◌, ℕ, zero, suc, List, [], get_or, refl, length, replicate, ap, sym, ◌∙◌, subst}
use Rattle.std.proofs.Common.{arith}
use Rattle.std.proofs.lemmas.List.{length-replicate}
use Rattle.std.specs.List.{AllByRecursion}
use Rattle.lr_log.specs.Tables.{IsTold}
use Rattle.lr_log.proofs.table.Table.new.Goals as goal

pub push-requires : goal.push-requires
push-requires c =
    let n : length c.loop.rows.items ≡ c.loop.counter = ap length c.loop.invariant
    ∙ length-replicate c.loop.counter (replicate (c.args.config.replicas + 1) 0) in
    let less = c.loop-test.true in
    let most = c.requires.valid.most_replicas in
    omega arith

pub invariant_of-result : goal.invariant_of-result
invariant_of-result c =
    subst (λ (rows : List (List ℕ)). IsTold (record { me = c.args.me; own = get_or rows c.args.me []; rows = rows }))
    (sym is)
    (record {
      own_row = refl;
      within = (let n = length-replicate replicas row in let less = c.requires.own_place in omega arith);
      most = (let n = length-replicate replicas row in let most = c.requires.valid.most_replicas in omega arith);
      parts = subst (λ (n : ℕ). AllByRecursion (λ row. length row ≡ n + 1) (replicate replicas row))
          (sym (length-replicate replicas row)) (each replicas);
    })
  where
    replicas : ℕ
    replicas = c.args.config.replicas

    row : List ℕ
    row = replicate (replicas + 1) 0

    is : c.loop.rows.items ≡ replicate replicas row
    is = c.loop.invariant ∙ ap (λ (n : ℕ). replicate n row)
        (let past = c.loop-test.false in let end = c.loop.auto.counter-end in omega arith)

    each : (n : ℕ) → AllByRecursion (λ (r : List ℕ). length r ≡ replicas + 1) (replicate n row)
    each zero = tt
    each (suc n) = (length-replicate (replicas + 1) 0, each n)
