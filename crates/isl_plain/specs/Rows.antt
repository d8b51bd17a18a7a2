-- public: the rows that a plain piece writes: one for each entry that is a term, and one for each comparison.
use Rattle.std.specs.Prelude.{ℕ, Bool, if◌then◌else◌, ◌+◌, ℤ, pos, List, [], ◌∷◌, ◌++◌, length, map, take, slice_index_or, Option, Some}
use Rattle.std.specs.Prelude.{None}
use Rattle.isl_piece.specs.declared.row.RowKind.{RowKind}
use Rattle.isl_piece.specs.declared.row.RowKind.TheVariants.{Zero, AtLeast, Divides, NotDivides}
use Rattle.isl_piece.specs.declared.row.Row.{Row}
use Rattle.isl_tree.specs.declared.tree.Compare.{Compare}
use Rattle.isl_tree.specs.declared.tree.Compare.TheVariants.{Equal, Less, LessEqual, Greater, GreaterEqual, Differs}
use Rattle.isl_tree.specs.declared.tree.Entry.{Entry}
use Rattle.isl_tree.specs.declared.tree.Formula.{Formula, And', Chain, Row_of-Formula, end_of-Formula, more_of-Formula}
use Rattle.isl_tree.specs.declared.tree.PieceTree.{PieceTree}
use Rattle.isl_tree.specs.Literal.{new_name, known_after, entry_term, piece_entries}
use Rattle.isl_tree.specs.Plain.{Remainder, lone_remainder}
use Rattle.isl_tree.specs.Term.{Term}
use Rattle.isl_tree.specs.Formula.{Link, Side}
use Rattle.isl_plain.specs.Linear.{Place, Amount, multiplied_out, difference, row_of}
use Rattle.isl_plain.specs.Places.{place_among}

-- a row before its numbers are added up: what is asked of a term less another one, and less a one at a column where there is one
pub record Written : Type 0 where
  pub kind : RowKind
  pub modulus : ℤ
  pub greater : Term
  pub less : Term
  pub last : Option ℕ

abbrev pub equation : Term → Term → Option ℕ → Written
equation greater less last = record { kind = Zero; modulus = pos 1; greater = greater; less = less; last = last }

abbrev pub inequality : Term → Term → Option ℕ → Written
inequality greater less last = record { kind = AtLeast; modulus = pos 1; greater = greater; less = less; last = last }

-- `left compare right` over n columns: the side that is to be greater, less the other, less one where they may not be equal
abbrev pub compared : ℕ → Compare → Term → Term → Written
compared n Equal left right = equation left right None
compared n GreaterEqual left right = inequality left right None
compared n Greater left right = inequality left right (Some n)
compared n LessEqual left right = inequality right left None
compared n Less left right = inequality right left (Some n)
compared n Differs left right = equation left right None

-- a remainder that is 0, or is not
abbrev pub kind_of_remainder : Compare → RowKind
kind_of_remainder Differs = NotDivides
kind_of_remainder _ = Divides

abbrev pub divided : Remainder → Compare → Written
divided r c = record { kind = kind_of_remainder c; modulus = r.1; greater = r.0; less = []; last = None }

-- an entry that brings in no name equals its coordinate
abbrev pub coordinate : Entry → ℕ → Written
coordinate entry at = equation (entry_term entry) [] (Some at)

abbrev pub written_entry : Entry → ℕ → Option (List ℕ) → List Written
written_entry entry at None = coordinate entry at ∷ []
written_entry entry at (Some name) = []

abbrev pub written_entries : List (List ℕ) → List Entry → ℕ → List Written
written_entries known [] at = []
written_entries known (entry ∷ entries) at =
    written_entry entry at (new_name known entry) ++ written_entries (known_after known (new_name known entry)) entries (at + 1)

-- the same, where an entry's own column tells whether it brings in a name
abbrev pub placed_entry : (Entry → ℕ → Bool) → Entry → ℕ → List Written
placed_entry brings entry at = if brings entry at then [] else coordinate entry at ∷ []

abbrev pub placed_entries : (Entry → ℕ → Bool) → List Entry → ℕ → List Written
placed_entries brings [] at = []
placed_entries brings (entry ∷ entries) at = placed_entry brings entry at ++ placed_entries brings entries (at + 1)

-- a row for each neighbouring pair of a chain of single terms
abbrev pub written_links : ℕ → Term → List Link → List Written
written_links n left [] = []
written_links n left ((c, right ∷ []) ∷ links) = compared n c left right ∷ written_links n right links
written_links n left _ = []

abbrev pub written_remainder : Remainder → List Link → List Written
written_remainder r [] = []
written_remainder r (link ∷ links) = divided r link.0 ∷ []

-- a chain begins with a remainder, or with another term
abbrev pub written_from : ℕ → Option Remainder → Term → List Link → List Written
written_from n None left links = written_links n left links
written_from n (Some r) left links = written_remainder r links

abbrev pub written_sides : ℕ → Side → List Link → List Written
written_sides n (left ∷ []) links = written_from n (lone_remainder left) left links
written_sides n _ links = []

-- a chain's rows; a plain formula is a chain, or chains joined by `and`
abbrev pub written_chain : ℕ → Formula → List Written
written_chain n (Chain first links) = written_sides n first links
written_chain n _ = []

abbrev pub written_chains : {m : _} → ℕ → Row_of-Formula m → List Written
written_chains n end_of-Formula = []
written_chains n (more_of-Formula f rest) = written_chain n f ++ written_chains n rest

abbrev pub written_formula : ℕ → Formula → List Written
written_formula n (Chain first links) = written_sides n first links
written_formula n (And' s row) = written_chains n row
written_formula n _ = []

-- the rows of a list of chains
abbrev pub written_list : ℕ → List Formula → List Written
written_list n [] = []
written_list n (f ∷ fs) = written_chain n f ++ written_list n fs

abbrev pub written_body : ℕ → Option Formula → List Written
written_body n None = []
written_body n (Some formula) = written_formula n formula

-- the columns of a piece: the parameters, and then the coordinates
abbrev pub piece_width : List (List ℕ) → PieceTree → ℕ
piece_width params piece = length params + length (piece_entries piece)

-- a name's column: the parameter's, or that of the entry that brings it in
abbrev pub piece_place : List (List ℕ) → PieceTree → Place
piece_place params piece = place_among params (piece_entries piece) (piece_width params piece)

abbrev pub written_piece : List (List ℕ) → PieceTree → List Written
written_piece params piece =
    written_entries params (piece_entries piece) (length params) ++ written_body (piece_width params piece) piece.body

-- what a written row adds over n columns: its terms, multiplied out
abbrev pub amounts_in : ℕ → Place → Written → List Amount
amounts_in n place w = difference n place (multiplied_out w.greater) (multiplied_out w.less) w.last

-- the numbers of a written row over n columns, added up
abbrev pub numbers_in : ℕ → Place → Written → List ℤ
numbers_in n place w = row_of n (amounts_in n place w)

abbrev pub added : ℕ → Place → Written → Row
added n place w = record {
  kind = w.kind;
  coefs = take n (numbers_in n place w);
  constant = slice_index_or (numbers_in n place w) n (pos 0);
  k = w.modulus;
}

-- the rows that a plain piece writes
abbrev pub rows_written : List (List ℕ) → PieceTree → List Row
rows_written params piece = map (added (piece_width params piece) (piece_place params piece)) (written_piece params piece)
