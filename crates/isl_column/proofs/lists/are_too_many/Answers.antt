use Rattle.std.proofs.Common.{◌≡◌, ◌∙◌, IsTrue, nat_lt, ◌+◌, ◌*◌, ◌<◌, length, min, ℕ, arith, ap, subst, sym, rules}
use Rattle.std.proofs.lemmas.Grind.{common_steps}
use Rattle.isl_column.specs.Weight.{TakeTooMuch, row_bytes}
use Rattle.isl_column.proofs.SaturatedLaws.{saturated_right, saturated_product}
use Rattle.isl_column.proofs.lists.are_too_many.Goals as goal

pub returns : goal.returns
returns c =
    let m : ℕ = 18446744073709551615 in
    let count = c.args.count in
    let one = length c.args.rows.now + 1 in
    let bytes = row_bytes c.args.columns in
    let lists : c.saturating_mul.result ≡ min (count * one) m
    = c.saturating_mul.ensures ∙ ap (λ x. min (count * x) m) c.saturating_add-of_one.ensures ∙ saturated_right m count one in
    let all : c.saturating_mul-2.result ≡ min (count * one * bytes) m
    = c.saturating_mul-2.ensures ∙ ap (λ x. min (x * c.row_bytes.result) m) lists
    ∙ ap (λ x. min (min (count * one) m * x) m) c.row_bytes.ensures ∙ saturated_product m (count * one) bytes in
    let over : (x y : ℕ) → x ≡ min y m → (IsTrue (nat_lt 100663296 x) → 100663296 < y) × (100663296 < y → IsTrue (nat_lt 100663296 x))
    = λ x y e. ((λ h. grind (arith, common_steps)), (λ h. grind (arith, common_steps))) in
    over c.saturating_mul-2.result (count * one * bytes) all
