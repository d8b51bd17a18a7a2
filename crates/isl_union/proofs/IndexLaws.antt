-- What is made of the pieces of one space alone is what is made of all.
use Rattle.std.proofs.Common.{◌≡◌, refl, sym, ap, ◌∙◌, arith, ℕ, ◌+◌, Bool, true, false, cond, Some, None, List, [], ◌∷◌, ◌++◌}
use Rattle.std.proofs.Common.{if◌then◌else◌, filter, map, get_or, length, take, ◌<◌}
use Rattle.std.specs.List.{cons_option}
use Rattle.std.proofs.lemmas.List.{map-append, take_more}
use Rattle.std.proofs.lemmas.List.Sums.{sum_by-cons}
use Rattle.isl_space.specs.Name.{Name}
use Rattle.isl_space.specs.SpaceForm.{SpaceForm}
use Rattle.isl_piece.specs.declared.system.System.{System}
use Rattle.isl_piece.specs.Piece.{PieceView}
use Rattle.isl_index.specs.Found.{lies_in}
use Rattle.isl_union.specs.Meet.{is_same_space, common_piece, met_piece, met_with, pair_count, partners}
use Rattle.isl_union.specs.Minus.{systems_in}
use Rattle.isl_union.specs.Piece.{kept_piece}

-- the systems of those that lie in the space
pub systems_found : (space : SpaceForm) (pieces : List PieceView)
    → map (λ p. p.system) (filter (lies_in space) pieces) ≡ systems_in space pieces
systems_found space [] = refl
systems_found space (p ∷ pieces) = by (is_same_space space p.space) (systems_found space pieces)
  where
    by : (b : Bool) → map (λ p. p.system) (filter (lies_in space) pieces) ≡ systems_in space pieces
        → map (λ p. p.system) (cond b (p ∷ filter (lies_in space) pieces) (filter (lies_in space) pieces))
        ≡ cons_option (if b then Some p.system else None) (systems_in space pieces)
    by true rest = ap (λ l. p.system ∷ l) rest
    by false rest = rest

-- one more of them
pub systems_step : {X : Type 0} (f : X → System) (pieces : List PieceView) (piece : PieceView) (i : ℕ) (systems pushed : List X) (x : X)
    → i < length pieces → piece ≡ get_or pieces i piece → f x ≡ piece.system → pushed ≡ systems ++ x ∷ []
    → map f systems ≡ map (λ p. p.system) (take i pieces) → map f pushed ≡ map (λ p. p.system) (take (i + 1) pieces)
systems_step f pieces piece i systems pushed x low at is made so_far =
    ap (map f) made ∙ map-append f systems (x ∷ []) ∙ ap (λ l. l ++ f x ∷ []) so_far
    ∙ ap (λ (s : System). map (λ (p : PieceView). p.system) (take i pieces) ++ s ∷ []) is
    ∙ sym (ap (map (λ (p : PieceView). p.system)) (take_more pieces i piece low ∙ ap (λ (p : PieceView). take i pieces ++ p ∷ []) (sym at))
    ∙ map-append (λ (p : PieceView). p.system) (take i pieces) (piece ∷ []))

-- one that is not counted
one_less : (m n k : ℕ) → m ≡ k → n ≡ 0 → m ≡ n + k
one_less m n k e z = omega arith

module _ (piece : PieceView) where
  -- what the piece has in common with those of its space
  pub met_found : (params : List Name) (others : List PieceView)
      → met_with params (map kept_piece (filter (lies_in piece.space) others)) (kept_piece piece)
      ≡ met_with params (map kept_piece others) (kept_piece piece)
  met_found params [] = refl
  met_found params (p ∷ others) = by (is_same_space piece.space p.space) refl (met_found params others)
    where
      rest : List PieceView
      rest = filter (lies_in piece.space) others

      by : (b : Bool) → is_same_space piece.space p.space ≡ b
          → met_with params (map kept_piece rest) (kept_piece piece) ≡ met_with params (map kept_piece others) (kept_piece piece)
          → met_with params (map kept_piece (cond b (p ∷ rest) rest)) (kept_piece piece)
          ≡ cons_option (met_piece params (kept_piece piece) (kept_piece p)) (met_with params (map kept_piece others) (kept_piece piece))
      by true is same = ap (cons_option (met_piece params (kept_piece piece) (kept_piece p))) same
      by false is same =
          same ∙ sym (ap (λ (b : Bool). cons_option (if b then common_piece params (kept_piece piece) (kept_piece p) else None)
          (met_with params (map kept_piece others) (kept_piece piece))) is)

  -- as many lie in its space
  pub partners_found : (others : List PieceView)
      → partners (map kept_piece (filter (lies_in piece.space) others)) (kept_piece piece)
      ≡ partners (map kept_piece others) (kept_piece piece)
  partners_found [] = refl
  partners_found (p ∷ others) =
      by (is_same_space piece.space p.space) refl (partners_found others)
      ∙ sym (sum_by-cons (pair_count (kept_piece piece)) (kept_piece p) (map kept_piece others))
    where
      rest : List PieceView
      rest = filter (lies_in piece.space) others

      by : (b : Bool) → is_same_space piece.space p.space ≡ b
          → partners (map kept_piece rest) (kept_piece piece) ≡ partners (map kept_piece others) (kept_piece piece)
          → partners (map kept_piece (cond b (p ∷ rest) rest)) (kept_piece piece)
          ≡ pair_count (kept_piece piece) (kept_piece p) + partners (map kept_piece others) (kept_piece piece)
      by true is same =
          sum_by-cons (pair_count (kept_piece piece)) (kept_piece p) (map kept_piece rest)
          ∙ ap (λ n. pair_count (kept_piece piece) (kept_piece p) + n) same
      by false is same =
          let zero : pair_count (kept_piece piece) (kept_piece p) ≡ 0 = ap (λ (b : Bool). if b then 1 else 0) is in
          one_less (partners (map kept_piece rest) (kept_piece piece)) (pair_count (kept_piece piece) (kept_piece p))
          (partners (map kept_piece others) (kept_piece piece)) same zero
