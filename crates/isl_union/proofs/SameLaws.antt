-- Pieces that are the same by content.
use Rattle.std.proofs.Common.{◌≡◌, ◌↔◌, sym, ap, ◌∙◌, Bool, false, ℕ, ℤ, ◌<◌, List, get_or, length, map}
use Rattle.std.specs.Prelude.{IsTrue}
use Rattle.std.proofs.lemmas.Bool.{false≢true}
use Rattle.std.proofs.lemmas.List.{get_or-map}
use Rattle.isl_space.specs.SpaceForm.{SpaceForm}
use Rattle.isl_piece.specs.declared.definition.Definition.{Definition}
use Rattle.isl_piece.specs.declared.row.Row.{Row}
use Rattle.isl_piece.specs.declared.row.RowKind.{RowKind}
use Rattle.isl_piece.specs.Piece.{PieceView}
use Rattle.isl_union.specs.KeptValue.{KeptPiece}
use Rattle.isl_union.specs.Piece.{kept_piece}

pub rows_same : (a b : Row) → a.kind ≡ b.kind → a.constant ≡ b.constant → a.k ≡ b.k → a.coefs ≡ b.coefs → a ≡ b
rows_same a b kind constant k coefs = by a.kind b.kind a.coefs b.coefs a.constant b.constant a.k b.k kind coefs constant k
  where
    row : RowKind → List ℤ → ℤ → ℤ → Row
    row kind coefs constant k = record { kind = kind; coefs = coefs; constant = constant; k = k }

    by : (p q : RowKind) (cs ds : List ℤ) (x y m n : ℤ) → p ≡ q → cs ≡ ds → x ≡ y → m ≡ n → row p cs x m ≡ row q ds y n
    by p q cs ds x y m n e f g h = cc

pub pieces_same : (a b : PieceView) → a.space ≡ b.space → a.system.definitions ≡ b.system.definitions → a.system.rows ≡ b.system.rows
    → kept_piece a ≡ kept_piece b
pieces_same a b space definitions rows = by a.space b.space a.system.definitions b.system.definitions a.system.rows b.system.rows space
    definitions rows
  where
    piece : SpaceForm → List Definition → List Row → KeptPiece
    piece space definitions rows = record { space = space; definitions = definitions; rows = rows }

    by : (s t : SpaceForm) (ds es : List Definition) (xs ys : List Row) → s ≡ t → ds ≡ es → xs ≡ ys → piece s ds xs ≡ piece t es ys
    by s t ds es xs ys e f g = cc

-- lists whose pieces at one place are not the same
pub differ_at : (pieces others : List PieceView) (i : ℕ) (a b : PieceView) (t : Bool) → i < length pieces → i < length others
    → a ≡ get_or pieces i a → b ≡ get_or others i b → t ≡ false → IsTrue t ↔ (kept_piece a ≡ kept_piece b)
    → IsTrue false ↔ (map kept_piece pieces ≡ map kept_piece others)
differ_at pieces others i a b t low high here there wrong told = (
  (λ f. absurd (false≢true f)),
  (λ e. absurd (false≢true (sym wrong ∙ told.1
      (ap kept_piece here ∙ sym (get_or-map kept_piece pieces i a (kept_piece a) low)
      ∙ ap (λ (l : List KeptPiece). get_or l i (kept_piece a)) e
      ∙ get_or-map kept_piece others i b (kept_piece a) high ∙ sym (ap kept_piece there))))),
)
