-- public: subset claims with proofs, and their lines of text.
use Rattle.std.specs.Prelude.{◌≡◌, true, All, ℕ, List, [], ◌∷◌, ◌++◌, codes, filter, map}
use Rattle.std.specs.List.{flat_map}
use Rattle.isl_index.specs.Same.{is_same_space}
use Rattle.isl_piece.specs.declared.row.Row.{Row}
use Rattle.isl_print.specs.OrderedValue.{ordered, ordered_piece}
use Rattle.isl_print.specs.Printed.{printed}
use Rattle.isl_refute.specs.CertText.{cert_text}
use Rattle.isl_refute.specs.Refutes.{refutes}
use Rattle.isl_refute.specs.declared.tree.Cert.{Cert}
use Rattle.isl_space.specs.Name.{Name}
use Rattle.isl_space.specs.SpaceForm.{SpaceForm}
use Rattle.isl_union.specs.Compare.{AreEqual}
use Rattle.isl_union.specs.KeptValue.{KeptPiece, KeptValue, columns_of, HasNoDefinitions, IsKeptValue}

-- a piece of the lesser side, with the proof that the greater side has each of its elements
pub record Part : Type 0 where
  pub piece : KeptPiece
  pub cert : Cert

-- the greater side, and the parts of the lesser one
pub record Claim : Type 0 where
  pub outside : KeptValue
  pub parts : List Part

-- the value of one piece
abbrev pub alone : List Name → KeptPiece → KeptValue
alone params piece = record { params = params; pieces = piece ∷ [] }

-- the value of all parts
abbrev pub lesser_of : Claim → KeptValue
lesser_of claim = record { params = claim.outside.params; pieces = map (λ part. part.piece) claim.parts }

-- the rows of those pieces of the value that lie in the space, pieces and rows in the order in which they are printed
abbrev pub outs_in : KeptValue → SpaceForm → List (List Row)
outs_in value space = map (λ piece. piece.rows) (filter (λ piece. is_same_space space piece.space) (ordered value).pieces)

-- the proof refutes the rows of the part, in printed order, outside those of the pieces in its space
abbrev pub IsProved : KeptValue → Part → Type 0
IsProved outside part =
    refutes (outs_in outside part.piece.space) (columns_of outside.params part.piece.space) (ordered_piece part.piece).rows part.cert ≡ true

-- Over these parameters, and without defined columns: a value of exactly the elements of the greater side, and parts that have together
-- exactly those of the lesser one, each proved.
pub record IsClaimOf (names : List Name) (lesser greater : KeptValue) (claim : Claim) : Type 0 where
  pub params : claim.outside.params ≡ names
  pub outside : AreEqual claim.outside greater
  pub inside : AreEqual (lesser_of claim) lesser
  pub kept : IsKeptValue claim.outside
  pub parts_kept : IsKeptValue (lesser_of claim)
  pub plain : HasNoDefinitions claim.outside
  pub parts_plain : HasNoDefinitions (lesser_of claim)
  pub proved : All (IsProved claim.outside) claim.parts

-- ---- text: the line of the greater side; then for each part its line, and the line of its proof
abbrev pub part_text : List Name → Part → List ℕ
part_text params part = codes "from " ++ (printed (alone params part.piece) ++ 10 ∷ (cert_text part.cert ++ 10 ∷ []))

abbrev pub claim_text : Claim → List ℕ
claim_text claim = codes "outside " ++ printed claim.outside ++ 10 ∷ flat_map (part_text claim.outside.params) claim.parts
