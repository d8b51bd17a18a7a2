-- public: the table of kinds: which operands an operation takes, and what it makes of them.
use Rattle.std.specs.Prelude.{Bool, true, false, ◌&&◌, List, [], ◌∷◌, ◌++◌, Option, Some, None, if◌then◌else◌}
use denote.Enum.Bare.{sameb}
use Rattle.isl_tree.specs.contracts.statement.ValueKind.{the_type}
use Rattle.isl_tree.specs.declared.statement.ValueKind.{ValueKind}
use Rattle.isl_tree.specs.declared.statement.ValueKind.TheVariants.{Set, Map, List as Pair, Empty, Truth, Listing, Code, Tree}
use Rattle.isl_tree.specs.declared.statement.Binary.{Binary}
use Rattle.isl_tree.specs.declared.statement.Binary.TheVariants as b
use Rattle.isl_tree.specs.declared.statement.Prefix.{Prefix}
use Rattle.isl_tree.specs.Words.{word_row}

-- `==` on kinds
abbrev pub is_kind : ValueKind → ValueKind → Bool
is_kind = sameb the_type

abbrev pub is_set_or_map : ValueKind → Bool
is_set_or_map Set = true
is_set_or_map Map = true
is_set_or_map Pair = false
is_set_or_map Empty = false
is_set_or_map Truth = false
is_set_or_map Listing = false
is_set_or_map Code = false
is_set_or_map Tree = false

-- what is given may stand where a kind is asked for: `Empty` is a set and a map
abbrev pub fits : ValueKind → ValueKind → Bool
fits given asked = if is_kind given asked then true else (if is_kind given Empty then is_set_or_map asked else false)

-- a set or a map that is made of nothing but empty operands is empty
abbrev pub made : Bool → ValueKind → ValueKind
made all_empty kind = if all_empty && is_set_or_map kind then Empty else kind

-- kinds of two operands, and the kind of what is made of them
abbrev pub Line : Type 0
Line = ValueKind × ValueKind × ValueKind

-- the first line that fits
abbrev pub by_lines : List Line → ValueKind → ValueKind → Option ValueKind
by_lines [] left right = None
by_lines (line ∷ lines) left right =
    if fits left line.0 && fits right line.1 then Some (made (is_kind left Empty && is_kind right Empty) line.2)
    else by_lines lines left right

abbrev pub joined : Binary → ValueKind → ValueKind → Option ValueKind
joined b.Union = by_lines ((Set, Set, Set) ∷ (Map, Map, Map) ∷ [])
joined b.Difference = by_lines ((Set, Set, Set) ∷ (Map, Map, Map) ∷ (Map, Set, Map) ∷ [])
joined b.RangeDifference = by_lines ((Map, Set, Map) ∷ [])
joined b.Intersection = by_lines ((Set, Set, Set) ∷ (Map, Map, Map) ∷ (Map, Set, Map) ∷ [])
joined b.RangeIntersection = by_lines ((Map, Set, Map) ∷ [])
joined b.Gist = by_lines ((Set, Set, Set) ∷ (Map, Map, Map) ∷ [])
joined b.Cross = by_lines ((Set, Set, Set) ∷ (Map, Map, Map) ∷ [])
joined b.Join = by_lines ((Map, Map, Map) ∷ [])
joined b.Universal = by_lines ((Set, Set, Map) ∷ [])
joined b.LexLess = by_lines ((Set, Set, Map) ∷ (Map, Map, Map) ∷ [])
joined b.LexLessEqual = by_lines ((Set, Set, Map) ∷ (Map, Map, Map) ∷ [])
joined b.LexGreater = by_lines ((Set, Set, Map) ∷ (Map, Map, Map) ∷ [])
joined b.LexGreaterEqual = by_lines ((Set, Set, Map) ∷ (Map, Map, Map) ∷ [])
joined b.Equal = by_lines ((Set, Set, Truth) ∷ (Map, Map, Truth) ∷ [])
joined b.ProperSubset = by_lines ((Set, Set, Truth) ∷ (Map, Map, Truth) ∷ [])
joined b.Subset = by_lines ((Set, Set, Truth) ∷ (Map, Map, Truth) ∷ [])
joined b.ProperSuperset = by_lines ((Set, Set, Truth) ∷ (Map, Map, Truth) ∷ [])
joined b.Superset = by_lines ((Set, Set, Truth) ∷ (Map, Map, Truth) ∷ [])

-- a map applied to a set or to a map
abbrev pub applied : ValueKind → ValueKind → Option ValueKind
applied = by_lines ((Map, Set, Set) ∷ (Map, Map, Map) ∷ [])

-- the first line of one operand that fits
abbrev pub by_short_lines : List (ValueKind × ValueKind) → ValueKind → Option ValueKind
by_short_lines [] operand = None
by_short_lines (line ∷ lines) operand =
    if fits operand line.0 then Some (made (is_kind operand Empty) line.1) else by_short_lines lines operand

-- what a word makes of this kind, if it takes it
abbrev pub short_line : ValueKind → Option ValueKind → List (ValueKind × ValueKind)
short_line asked None = []
short_line asked (Some result) = (asked, result) ∷ []

-- by the table of words
abbrev pub prefixed : Prefix → ValueKind → Option ValueKind
prefixed word = by_short_lines (short_line Set (word_row word).of_set ++ short_line Map (word_row word).of_map)

abbrev pub inverse : ValueKind → Option ValueKind
inverse = by_short_lines ((Map, Map) ∷ [])

abbrev pub item : ValueKind → Option ValueKind
item = by_short_lines ((Pair, Map) ∷ [])

-- three maps, and what is made of them
abbrev pub dependence : ValueKind → ValueKind → ValueKind → ValueKind → Option ValueKind
dependence result source sink schedule =
    let all_empty = is_kind source Empty && is_kind sink Empty && is_kind schedule Empty in
    if fits source Map && fits sink Map && fits schedule Map then Some (made all_empty result) else None
