-- The limits of an expression: those of the literals among its parts.
use Rattle.std.proofs.Common.{◌≡◌, ◌∙◌, Bool, true, false, not, ◌&&◌, ◌||◌, List, [], ◌∷◌, refl, ap}
use Rattle.std.specs.List.{list_all, list_any}
use Rattle.isl_text.specs.Limits.{is_within}
use Rattle.isl_tree.specs.declared.statement.Expr.{Expr}
use Rattle.isl_kinds.specs.Parts.{Part, parts_of}
use Rattle.isl_kinds.specs.Parts as part
use Rattle.isl_flat_law.proofs.LiteralLaws.{among_is, literals_among}
use Rattle.isl_stmt.specs.Limits.{expression_is_within, is_too_great}

among_within : (parts : List Part) → not (list_any is_too_great parts) ≡ list_all is_within (literals_among parts)
among_within [] = refl
among_within (part.literal l ∷ parts) =
    by (is_within l) (list_any is_too_great parts) (list_all is_within (literals_among parts)) (among_within parts)
  where
    by : (b c d : Bool) → not c ≡ d → not (not b || c) ≡ (b && d)
    by true c d is = is
    by false c d is = refl
among_within (_ ∷ parts) = among_within parts

pub none_too_great : (expr : Expr) (b : Bool) → b ≡ list_any is_too_great (parts_of expr) → not b ≡ expression_is_within expr
none_too_great expr b is = ap not is ∙ among_within (parts_of expr) ∙ ap (list_all is_within) (among_is expr)
