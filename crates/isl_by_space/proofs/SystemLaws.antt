-- The systems of pieces that are found by their space.
use Rattle.std.proofs.Common.{◌≡◌, refl, sym, ap, ◌∙◌, Bool, true, false, cond, if◌then◌else◌, Some, None, List, [], ◌∷◌, filter}
use Rattle.std.specs.List.{cons_option}
use Rattle.isl_space.specs.SpaceForm.{SpaceForm}
use Rattle.isl_piece.specs.declared.system.System.{System}
use Rattle.isl_piece.specs.Piece.{PieceView}
use Rattle.isl_index.specs.Found.{lies_in}
use Rattle.isl_index.specs.Same.{is_same_space}
use Rattle.isl_union.specs.Minus.{systems_in}

-- those of the pieces of the space are those of all
pub systems_again : (space : SpaceForm) (pieces : List PieceView)
    → systems_in space (filter (lies_in space) pieces) ≡ systems_in space pieces
systems_again space [] = refl
systems_again space (p ∷ pieces) = by (is_same_space space p.space) refl (systems_again space pieces)
  where
    rest : List PieceView
    rest = filter (lies_in space) pieces

    add : Bool → List System → List System
    add b = cons_option (if b then Some p.system else None)

    by : (b : Bool) → is_same_space space p.space ≡ b → systems_in space rest ≡ systems_in space pieces
        → systems_in space (cond b (p ∷ rest) rest) ≡ add (is_same_space space p.space) (systems_in space pieces)
    by true is same = ap (add (is_same_space space p.space)) same
    by false is same = same ∙ sym (ap (λ (b : Bool). add b (systems_in space pieces)) is)
