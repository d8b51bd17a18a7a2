use Rattle.std.proofs.Common.{◌≡◌, drop}
use Rattle.std.specs.List.{list_all}
use Rattle.isl_tree.specs.Known.{formula_is_known}
use Rattle.isl_kinds.specs.Place.{names_at}
use Rattle.isl_kinds.proofs.known.+formula.Given as goal

abbrev pub invariant-are_formulas_known-loop-formula : goal.invariant-are_formulas_known-loop-formula
invariant-are_formulas_known-loop-formula l = list_all (formula_is_known (names_at l.place)) (drop l.formula-index l.formulas) ≡
    list_all (formula_is_known (names_at l.place)) l.formulas
