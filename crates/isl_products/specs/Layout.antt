-- inner: how an element of a formed space is put together of one of a first space and one of a second. (isl manual, on spaces)
use Rattle.std.specs.Prelude.{◌≡◌, ℕ, ◌+◌, ◌≤◌, ℤ, Bool, true, false, if◌then◌else◌, Option, Some, None, List, ◌++◌, drop, take}
use Rattle.std.specs.List.{range_with_len}
use Rattle.isl_space.specs.Element.{Element}
use Rattle.isl_space.specs.Form.{Form, pair, width_of}
use Rattle.isl_space.specs.Space.{space_form_of}
use Rattle.isl_space.specs.SpaceForm.{SpaceForm, set_of, map_of, coordinates_of, IsTooWideSpace}
use Rattle.isl_piece.specs.Piece.{PieceView}
use Rattle.isl_index.specs.Found.{first_form}
use Rattle.isl_union.specs.Meet.{is_same_form}
use Rattle.isl_relation.specs.Together.{are_maps, are_sets, is_domain, is_range}
use Rattle.isl_products.specs.declared.layout.Layout.{Layout}
use Rattle.isl_products.specs.declared.layout.Pick.{Pick}
use Rattle.isl_products.specs.declared.layout.Place.{Place}
use Rattle.isl_products.specs.declared.layout.Place.TheVariants.{Domain, Range}
use Rattle.isl_products.specs.declared.layout.Product.{Product}
use Rattle.isl_products.specs.declared.layout.Product.TheVariants.{Universal, CrossSets, CrossMaps, Restrict}

-- ---- coordinates that are picked
-- those that are picked of a list
abbrev pub picked : Pick → List ℤ → List ℤ
picked pick xs = take pick.first (drop pick.before xs) ++ take pick.second (drop (pick.before + pick.first + pick.between) xs)

-- the places of so many parameters, and of the coordinates that are picked
abbrev pub picked_places : ℕ → Pick → List ℕ
picked_places parameters pick =
    range_with_len 0 parameters
    ++ (range_with_len (parameters + pick.before) pick.first
    ++ range_with_len (parameters + pick.before + pick.first + pick.between) pick.second)

-- the part of an element that is picked, as an element of a space
abbrev pub part : SpaceForm → Pick → Element → Element
part space pick element = record { space = space; coordinates = picked pick element.coordinates }

-- so many coordinates of the one space are picked as the other has
pub record IsPickOf (from : SpaceForm) (pick : Pick) (to : SpaceForm) : Type 0 where
  pub inside : pick.before + pick.first + pick.between + pick.second ≤ coordinates_of from
  pub count : pick.first + pick.second ≡ coordinates_of to

abbrev pub pick_first : ℕ → Pick
pick_first count = record { before = 0; first = count; between = 0; second = 0 }

abbrev pub pick_behind : ℕ → ℕ → Pick
pick_behind before count = record { before = before; first = count; between = 0; second = 0 }

-- ---- layouts
-- the formed space, and the coordinates of its elements that are those of the first and of the second
pub record LayoutView : Type 0 where
  pub space : SpaceForm
  pub own : Pick
  pub other : Pick

abbrev pub layout_view : Layout → LayoutView
layout_view layout = record { space = space_form_of layout.space; own = layout.own; other = layout.other }

-- x before y
abbrev pub universal_view : Form → Form → LayoutView
universal_view x y = record { space = map_of x y; own = pick_first (width_of x); other = pick_behind (width_of x) (width_of y) }

abbrev pub cross_sets_view : Form → Form → LayoutView
cross_sets_view x y = record { space = set_of (pair x y); own = pick_first (width_of x); other = pick_behind (width_of x) (width_of y) }

-- x, u, y and w, of which x and y are those of the first
abbrev pub cross_maps_view : Form → Form → Form → Form → LayoutView
cross_maps_view x y u w = record {
  space = map_of (pair x u) (pair y w);
  own = record { before = 0; first = width_of x; between = width_of u; second = width_of y };
  other = record { before = width_of x; first = width_of u; between = width_of y; second = width_of w };
}

-- the form at a place of a map, and its coordinates
abbrev pub form_at : Place → Form → Form → Form
form_at Domain x y = x
form_at Range x y = y

abbrev pub pick_at : Place → Form → Form → Pick
pick_at Domain x y = pick_first (width_of x)
pick_at Range x y = pick_behind (width_of x) (width_of y)

abbrev pub restrict_view : Place → Form → Form → LayoutView
restrict_view place x y = record { space = map_of x y; own = pick_first (width_of x + width_of y); other = pick_at place x y }

abbrev pub of_sets : Product → Form → Form → Option LayoutView
of_sets Universal x y = Some (universal_view x y)
of_sets CrossSets x y = Some (cross_sets_view x y)
of_sets CrossMaps x y = None
of_sets (Restrict place) x y = None

abbrev pub of_maps : Product → Form → Form → Form → Form → Option LayoutView
of_maps Universal x y u w = None
of_maps CrossSets x y u w = None
of_maps CrossMaps x y u w = Some (cross_maps_view x y u w)
of_maps (Restrict place) x y u w = None

abbrev pub of_map_and_set : Product → Form → Form → Form → Option LayoutView
of_map_and_set Universal x y z = None
of_map_and_set CrossSets x y z = None
of_map_and_set CrossMaps x y z = None
of_map_and_set (Restrict place) x y z = if is_same_form (form_at place x y) z then Some (restrict_view place x y) else None

-- the layout by which the product puts elements of the two spaces together, where it does
abbrev pub layout_of : Product → SpaceForm → SpaceForm → Option LayoutView
layout_of product (set_of x) (set_of y) = of_sets product x y
layout_of product (set_of x) (map_of u w) = None
layout_of product (map_of x y) (set_of z) = of_map_and_set product x y z
layout_of product (map_of x y) (map_of u w) = of_maps product x y u w

-- whether it does
abbrev pub are_together : Product → SpaceForm → SpaceForm → Bool
are_together Universal = are_sets
are_together CrossSets = are_sets
are_together CrossMaps = are_maps
are_together (Restrict Domain) = is_domain
are_together (Restrict Range) = is_range

-- whether the second space begins with the form that the product looks for, where it looks for one
abbrev pub may_follow : Product → SpaceForm → SpaceForm → Bool
may_follow Universal s t = true
may_follow CrossSets s t = true
may_follow CrossMaps s t = true
may_follow (Restrict place) (set_of x) t = false
may_follow (Restrict place) (map_of x y) t = is_same_form (form_at place x y) (first_form t)

-- the same of a piece
abbrev pub may_join : Product → SpaceForm → PieceView → Bool
may_join product s piece = may_follow product s piece.space

-- the product puts elements of the two spaces together, in a space that is too wide
pub record IsWide (product : Product) (s t : SpaceForm) : Type 0 where
  pub layout : LayoutView
  pub forms : layout_of product s t ≡ Some layout
  pub wide : IsTooWideSpace layout.space
