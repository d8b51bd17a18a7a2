use Rattle.std.proofs.Common.{◌≡◌, ap, refl, sym, subst, ◌∙◌, List, pos, replicate}
use Rattle.std.proofs.lemmas.List.{length-replicate}
use Rattle.isl_blocks.specs.Blocks.{width_at}
use Rattle.isl_piece.specs.declared.system.System.{System}
use Rattle.isl_orders.specs.Cases.{AreCasesOf}
use Rattle.isl_orders.specs.Comparison.{AreOrdered, IsApart, direction_of}
use Rattle.isl_orders.proofs.CaseLaws.{cases_as, cases_push, ordered_apart, ordered_same}
use Rattle.isl_orders.proofs.cases.cases_of.Goals.{then-has_same+in_ok-same_case+in_ok-push, else-has_same}
use Rattle.isl_orders.proofs.cases.cases_of.Goals as goal

pub returns : goal.returns
returns c =
    let widths = c.args.widths.now in
    let a = c.args.first in
    let b = c.args.second in
    let order = c.args.order in
    let P = IsApart (direction_of order) in
    let zeros = replicate (width_at widths a) (pos 0) in
    let long = length-replicate (width_at widths a) (pos 0) in
    let strict = rw c.direction.ensures at c.in_ok-cases.ensures in
    elim c.if-has_same.branch [
      | then-has_same+in_ok-same_case+in_ok-push w ↦
          cases_push widths a b P (λ xs ys. xs ≡ ys) (AreOrdered order) c.in_ok-cases.cases.items w.in_ok-same_case.field-0
          c.if-has_same.cases.items strict w.in_ok-same_case.ensures (ap (λ v. v.items) w.cases-is ∙ w.in_ok-push.ensures.items)
          (ordered_same order (sym c.has_same.ensures ∙ w.if-has_same.true)) (zeros, zeros, long, long ∙ c.requires.same, refl)
      | else-has_same w ↦
          subst (λ (l : List System). AreCasesOf widths a b (AreOrdered order) l) (ap (λ v. v.items) (sym w.cases-is))
          (cases_as widths a b P (AreOrdered order) c.in_ok-cases.cases.items c.requires.same
          (λ xs ys m n. ordered_apart order (sym c.has_same.ensures ∙ w.if-has_same.false) xs ys) strict)
    ]
