-- inner: the operations of this crate on two values, as one.
use Rattle.std.specs.Prelude.{Bool, false}
use Rattle.isl_space.specs.Element.{Element}
use Rattle.isl_space.specs.SpaceForm.{SpaceForm, set_of, map_of, IsTooWideSpace}
use Rattle.isl_piece.specs.Piece.{PieceView}
use Rattle.isl_index.specs.Found.{first_form}
use Rattle.isl_union.specs.Meet.{is_same_form}
use Rattle.isl_relation.specs.Formed.{FormsJoin}
use Rattle.isl_relation.specs.Maps.{ApplyHas, JoinHas}
use Rattle.isl_relation.specs.Together.{are_linked, is_domain}
use Rattle.isl_images.specs.declared.pairing.Pairing.{Pairing}
use Rattle.isl_images.specs.declared.pairing.Pairing.TheVariants.{Apply, Join}

-- the elements that are made of a map and a set, or of two maps
abbrev pub PairHas : Pairing → (Element → Type 0) → (Element → Type 0) → Element → Type 0
PairHas Apply M N element = ApplyHas M N element
PairHas Join M N element = JoinHas M N element

-- whether elements of the two spaces are put together
abbrev pub are_paired : Pairing → SpaceForm → SpaceForm → Bool
are_paired Apply = is_domain
are_paired Join = are_linked

-- whether the second space begins with the form in which elements of the first are put together with others
abbrev pub may_follow : Pairing → SpaceForm → SpaceForm → Bool
may_follow Apply (set_of x) t = false
may_follow Apply (map_of x y) t = is_same_form x (first_form t)
may_follow Join (set_of x) t = false
may_follow Join (map_of x y) t = is_same_form y (first_form t)

-- the same of a piece
abbrev pub may_pair : Pairing → SpaceForm → PieceView → Bool
may_pair pairing s piece = may_follow pairing s piece.space

-- two maps meet in one form, and the space of their join is too wide
abbrev pub IsWideJoin : SpaceForm → SpaceForm → Type 0
IsWideJoin s t = (formed : SpaceForm) × FormsJoin s t formed × IsTooWideSpace formed

-- no space that is formed of two is too wide; that of a map's image is as narrow as the map's own
abbrev pub IsNarrowPair : Pairing → SpaceForm → SpaceForm → Type 0
IsNarrowPair Apply s t = Unit {0}
IsNarrowPair Join s t = ¬ IsWideJoin s t
