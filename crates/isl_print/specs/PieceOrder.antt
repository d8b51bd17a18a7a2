-- public: the order of pieces in printed text.
use Rattle.std.specs.Prelude.{Bool}
use Rattle.std.specs.Cmp.Lexicographic.{slice_cmp}
use Rattle.std.specs.Ordering.{nat_cmp, is_lt}
use Rattle.std.specs.declared.cmp.Ordering.{Ordering}
use Rattle.isl_space.specs.SpaceForm.{space_text_of}
use Rattle.isl_union.specs.KeptValue.{KeptPiece}

-- pieces stand by the bytes of the text of their space
abbrev pub piece_cmp : KeptPiece → KeptPiece → Ordering
piece_cmp a b = slice_cmp nat_cmp (space_text_of a.space) (space_text_of b.space)

abbrev pub piece_before : KeptPiece → KeptPiece → Bool
piece_before a b = is_lt (piece_cmp a b)
