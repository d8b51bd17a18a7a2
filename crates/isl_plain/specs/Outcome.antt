-- public: what calls that write rows ensure.
use Rattle.std.specs.Prelude.{◌≡◌, ℕ, ℤ, List, ◌++◌, All, Any, map, Result, MatchResult}
use Rattle.isl_meter.specs.Gauge.{Gauge, IsWithin, overflown}
use Rattle.isl_meter.specs.declared.Cut.{Cut}
use Rattle.isl_piece.specs.declared.row.Row.{Row}
use Rattle.isl_piece.specs.Row.{IsRowWithin}
use Rattle.isl_tree.specs.declared.tree.PieceTree.{PieceTree}
use Rattle.isl_plain.specs.declared.places.Places.{Places}
use Rattle.isl_plain.specs.Rows.{Written, rows_written}
use Rattle.isl_plain.specs.Passes.{FailsBy, PiecePasses}
use Rattle.isl_plain.specs.Width.{added_in, PassesIn}

-- the numbers of a row have become these, within the limit; or a number passes it, which was counted
abbrev pub SumsUp : {A E : Type 0} (before now : Gauge) (new sums : List ℤ) → Type 0 → Result A E → Type 0
SumsUp before now new sums passes result =
    MatchResult result (λ _. (new ≡ sums) × All (IsWithin before) new × (now ≡ before)) (λ _. passes × (now ≡ overflown before))

-- the row that this one is when it is added up, within the limit; or why there is none
abbrev pub MakesRow : (before now : Gauge) → Places → Written → Type 0 → Result Row Cut → Type 0
MakesRow before now places written passes result =
    MatchResult result (λ row. (row ≡ added_in places written) × IsRowWithin before row × (now ≡ before)) (FailsBy passes before now)

-- the rows that these are when they are added up stand behind the old ones, within the limit; or why they don't
abbrev pub PutsRows : {A : Type 0} (before now : Gauge) (old new : List Row) → Places → List Written → Result A Cut → Type 0
PutsRows before now old new places written result =
    MatchResult result
    (λ _. (new ≡ old ++ map (added_in places) written) × All (IsRowWithin before) new × (now ≡ before))
    (FailsBy (Any (PassesIn before places) written) before now)

-- the rows that a piece writes, within the limit; or why there are none
abbrev pub WritesPiece : (before now : Gauge) → List (List ℕ) → PieceTree → Result (List Row) Cut → Type 0
WritesPiece before now params piece result =
    MatchResult result
    (λ rows. (rows ≡ rows_written params piece) × All (IsRowWithin before) rows × (now ≡ before))
    (FailsBy (PiecePasses before params piece) before now)
