-- The rows that the code adds up are the rows that a plain piece writes.
use Rattle.std.proofs.Common.{◌≡◌, ◌∙◌, refl, sym, ap, subst, ℕ, ◌+◌, true, List, [], ◌++◌, length, map, arith}
use Rattle.std.specs.Prelude.{Any}
use Rattle.isl_meter.specs.Gauge.{Gauge}
use Rattle.isl_tree.specs.declared.tree.Entry.{Entry}
use Rattle.isl_tree.specs.declared.tree.PieceTree.{PieceTree}
use Rattle.isl_tree.specs.Literal.{piece_entries}
use Rattle.isl_tree.specs.Plain.{is_plain_piece}
use Rattle.isl_plain.specs.Places.{place_among, brings}
use Rattle.isl_plain.specs.Passes.{WrittenPasses, PiecePasses}
use Rattle.isl_plain.specs.Rows.{Written, added, placed_entries, written_entries, written_body, written_piece, rows_written}
use Rattle.isl_plain.proofs.PlainLaws.{piece_entries_plain}
use Rattle.isl_plain.proofs.BringLaws.{placed_are}

-- the rows of entries and body, with the names in one list
abbrev gathered : List (List ℕ) → List Entry → PieceTree → List Written
gathered params entries piece =
    placed_entries (brings params entries) entries (length params) ++ written_body (length params + length entries) piece.body

gathered_are : (params : List (List ℕ)) (piece : PieceTree) → is_plain_piece piece ≡ true
    → gathered params (piece_entries piece) piece ≡ written_piece params piece
gathered_are params piece plain =
    let entries = piece_entries piece in
    let start : length params + 0 ≡ length params = omega arith in
    ap (λ (l : List Written). l ++ written_body (length params + length entries) piece.body)
    (ap (λ (k : ℕ). placed_entries (brings params entries) entries k) (sym start)
    ∙ placed_are params [] entries refl (piece_entries_plain piece plain) ∙ ap (λ (k : ℕ). written_entries params entries k) start)

pub rows_are : (params : List (List ℕ)) (piece : PieceTree) (entries : List Entry) → entries ≡ piece_entries piece
    → is_plain_piece piece ≡ true
    → map (added (length params + length entries) (place_among params entries (length params + length entries)))
    (placed_entries (brings params entries) entries (length params) ++ written_body (length params + length entries) piece.body)
    ≡ rows_written params piece
rows_are params piece entries is plain =
    ap (λ (l : List Entry). map (added (length params + length l) (place_among params l (length params + length l)))
    (gathered params l piece)) is
    ∙ ap (map (added (length params + length (piece_entries piece))
    (place_among params (piece_entries piece) (length params + length (piece_entries piece))))) (gathered_are params piece plain)

pub passes_are : (g : Gauge) (params : List (List ℕ)) (piece : PieceTree) (entries : List Entry) → entries ≡ piece_entries piece
    → is_plain_piece piece ≡ true
    → Any (WrittenPasses g (length params + length entries) (place_among params entries (length params + length entries)))
    (placed_entries (brings params entries) entries (length params) ++ written_body (length params + length entries) piece.body)
    → PiecePasses g params piece
passes_are g params piece entries is plain passes =
    let n = length params + length (piece_entries piece) in
    let moved = subst (λ (l : List Entry). Any (WrittenPasses g (length params + length l)
    (place_among params l (length params + length l))) (gathered params l piece)) is passes in
    subst (λ (l : List Written). Any (WrittenPasses g n (place_among params (piece_entries piece) n)) l)
    (gathered_are params piece plain) moved
