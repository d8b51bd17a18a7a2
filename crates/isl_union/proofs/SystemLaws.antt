-- Pieces and their systems.
use Rattle.std.proofs.Common.{◌≡◌, ◌↔◌, refl, sym, ap, ◌∙◌, arith, subst, ◌+◌, ◌-◌, ◌^◌, List, ◌++◌, length, take, drop}
use Rattle.std.proofs.Common.{length-append, take-append-drop}
use Rattle.std.specs.List.{zip}
use Rattle.std.proofs.lemmas.List.{length-drop, length-take-le}
use Rattle.std.proofs.lemmas.List.Elements.{All-weaker}
use Rattle.isl_meter.specs.Gauge.{Gauge}
use Rattle.isl_space.specs.Element.{Element}
use Rattle.isl_space.specs.Name.{Name}
use Rattle.isl_space.specs.Names.{AreDistinct}
use Rattle.isl_space.specs.SpaceForm.{SpaceForm, coordinates_of, IsWellFormedSpace}
use Rattle.isl_space.specs.Valuation.{Valuation, values_of}
use Rattle.isl_space.proofs.ValuationLaws.{length-values_of, values_of-zip}
use Rattle.isl_piece.specs.declared.system.System.{System}
use Rattle.isl_piece.specs.Definition.{AreDefinitions}
use Rattle.isl_piece.specs.Formed.{AreWellFormedDefinitions}
use Rattle.isl_piece.specs.Normal.{IsNormal}
use Rattle.isl_piece.specs.Piece.{PieceView}
use Rattle.isl_piece.specs.Row.{IsRowUpTo, IsRowWithin}
use Rattle.isl_piece.specs.System.{HoldsSystem, IsSystemWithin, free_columns}
use Rattle.isl_piece.proofs.FormedLaws.{definitions_formed, definitions_within, system_up_to}
use Rattle.isl_piece.proofs.RowMagnitudes.{within_limit}
use Rattle.isl_union.specs.KeptValue.{KeptPiece, HasElement, IsKeptPiece, IsLive, IsVoid, columns_of, piece_system, point_of}
use Rattle.isl_union.specs.Numbers.{IsPieceUpTo}
use Rattle.isl_union.specs.Piece.{kept_piece, piece_of, IsPieceOf, IsPieceOver}

-- ---- the columns of a piece
pub free_of_piece : (params : List Name) (piece : KeptPiece) → free_columns (piece_system params piece) ≡ columns_of params piece.space
free_of_piece params piece = omega arith

-- a system over these columns is that of its piece
pub system_is : (params : List Name) (space : SpaceForm) (s : System) → s.columns ≡ length s.definitions + columns_of params space
    → s ≡ piece_system params (piece_of space s)
system_is params space s e = ap (λ n. let t : System = record { columns = n; definitions = s.definitions; rows = s.rows } in t) e

pub columns_from : (g : Gauge) (params : List Name) (space : SpaceForm) (s : System) → IsSystemWithin g s
    → free_columns s ≡ columns_of params space → s.columns ≡ length s.definitions + columns_of params space
columns_from g params space s h free = let c = h.count in omega (arith, c, free)

pub over_is : (g : Gauge) (params : List Name) (p : PieceView) → IsPieceOver g params p → p.system ≡ piece_system params (kept_piece p)
over_is g params p h = system_is params p.space p.system (columns_from g params p.space p.system h.within h.columns)

-- ---- within the limit
pub piece_within : (g : Gauge) (params : List Name) (piece : KeptPiece) → IsKeptPiece params piece → IsPieceUpTo (2 ^ g.bits - 1) piece
    → IsSystemWithin g (piece_system params piece)
piece_within g params piece kept h = record {
  rows = kept.rows;
  within = All-weaker (IsRowUpTo (2 ^ g.bits - 1)) (IsRowWithin g) (within_limit g) piece.rows h.rows;
  count = omega arith;
  definitions = subst (λ n. AreDefinitions g n piece.definitions) (sym (free_of_piece params piece))
      (definitions_within g (columns_of params piece.space) piece.definitions kept.definitions h.definitions);
}

pub piece_up_to : (g : Gauge) (params : List Name) (piece : KeptPiece) → IsSystemWithin g (piece_system params piece)
    → IsPieceUpTo (2 ^ g.bits - 1) piece
piece_up_to g params piece h = let u = system_up_to g (piece_system params piece) h in record { rows = u.rows; definitions = u.definitions }

-- the system of a piece that a value has
pub view_is : (params : List Name) (p : PieceView) → IsPieceOf params p → p.system ≡ piece_system params (kept_piece p)
view_is params p h = system_is params p.space p.system h.columns

pub view_within : (g : Gauge) (params : List Name) (p : PieceView) → IsPieceOf params p → IsPieceUpTo (2 ^ g.bits - 1) (kept_piece p)
    → IsSystemWithin g p.system
view_within g params p h u = subst (IsSystemWithin g) (sym (view_is params p h)) (piece_within g params (kept_piece p) h.kept u)

pub view_free : (params : List Name) (p : PieceView) → IsPieceOf params p → free_columns p.system ≡ columns_of params p.space
view_free params p h = let c = h.columns in omega (arith, c)

-- a piece that a value may have, with its numbers within the limit
abbrev pub IsFit : Gauge → List Name → KeptPiece → Type 0
IsFit g params piece = IsKeptPiece params piece × IsSystemWithin g (piece_system params piece)

-- ---- what may be kept
pub kept_from : (g : Gauge) (params : List Name) (piece : KeptPiece) → IsWellFormedSpace piece.space
    → IsSystemWithin g (piece_system params piece) → IsNormal piece.rows → IsLive params piece → IsKeptPiece params piece
kept_from g params piece space h normal live = record {
  space = space;
  definitions = let f = free_of_piece params piece in
      subst (λ n. AreWellFormedDefinitions n piece.definitions) f (definitions_formed g (free_columns (piece_system params piece))
      piece.definitions h.definitions);
  rows = h.rows;
  normal = normal;
  live = live;
}

-- a piece that is made of a space and a system is one that a value may have
pub made_sound : (params : List Name) (m : PieceView) (piece : KeptPiece) → kept_piece m ≡ piece
    → m.system.columns ≡ length piece.definitions + columns_of params piece.space → IsKeptPiece params piece → IsPieceOf params m
made_sound params m piece is columns kept = record {
  columns = columns ∙ ap (λ (p : KeptPiece). length p.definitions + columns_of params p.space) (sym is);
  kept = subst (IsKeptPiece params) (sym is) kept;
}

-- ---- elements
pub point_long : (params : List Name) (v : Valuation) (e : Element) (piece : KeptPiece) → HasElement params v e piece
    → length (point_of params v e) ≡ columns_of params piece.space
point_long params v e piece h =
    let whole = length-append (values_of params v) e.coordinates in
    let front = length-values_of params v in
    let same = ap coordinates_of h.space in
    let n = h.numbers in
    omega (arith, whole, front, same, n)

pub void_has : (params : List Name) (v : Valuation) (e : Element) (piece : KeptPiece) → IsVoid params piece → ¬ HasElement params v e piece
void_has params v e piece void h = void (point_of params v e) (point_long params v e piece h) h.holds

-- each list of numbers is the point of some element at some valuation
pub void_exactly : (params : List Name) (piece : KeptPiece) → AreDistinct params
    → IsVoid params piece ↔ ((v : Valuation) (e : Element) → ¬ HasElement params v e piece)
void_exactly params piece distinct = (
  (λ void v e. void_has params v e piece void),
  (λ none point l holds.
      let n = length params in
      let v : Valuation = zip params (take n point) in
      let e : Element = record { space = piece.space; coordinates = drop n point } in
      let front = length-take-le n point (omega (arith, l)) in
      let behind = length-drop n point in
      let named : values_of params v ≡ take n point = values_of-zip params (take n point) distinct (sym front) in
      let whole : point_of params v e ≡ point = ap (λ xs. xs ++ drop n point) named ∙ take-append-drop n point in
      none v e (record {
        numbers = omega (arith, behind, l);
        space = refl;
        holds = subst (λ xs. HoldsSystem (piece_system params piece) xs) (sym whole) holds;
      })),
)
