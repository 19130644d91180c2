-- What the tally answers after one addition.
use Rattle.std.proofs.Common.{◌≡◌, ◌∙◌, ◌+◌, ◌%◌, ◌^◌, ℕ, Some, ap, arith, codes, unwrap_or}
use Rattle.std.proofs.lemmas.Fmt.{decimal_digit}
use Rattle.std.specs.Cmp.Lexicographic.{nat_list_cmp_total, slice_cmp}
use Rattle.std.specs.FinMap.{empty, get, insert, get-empty, get-insert}
use Rattle.std.specs.Fmt.{decimal}
use Rattle.std.specs.Ordering.{nat_cmp}
use Rattle.svc_tally.specs.Tally.{Counts, count_of, tally_apply, tally_read}
use Rattle.svc_tally.specs.declared.op.TallyOp.TheVariants.{Add, Read}

-- the read sees the addition
pub three-read : tally_read (tally_apply empty (Add (codes "x") 3)) (Read (codes "x")) ≡ codes "3"
three-read =
    let none : Counts = empty in
    let zero : count_of none (codes "x") ≡ 0 = ap (λ o. unwrap_or o 0) (get-empty (slice_cmp nat_cmp) (codes "x")) in
    let sum : ℕ = (count_of none (codes "x") + 3) % 2 ^ 64 in
    let got : get (insert none (codes "x") sum) (codes "x") ≡ Some sum = get-insert nat_list_cmp_total none (codes "x") sum (codes "x") in
    ap (λ o. decimal (unwrap_or o 0)) got ∙ (λ k. decimal ((zero k + 3) % 2 ^ 64)) ∙ decimal_digit 3 (omega arith)
