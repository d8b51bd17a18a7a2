-- public: which elements operations on sets and relations select. (the iscc chapter of the barvinok manual)
use Rattle.std.specs.Prelude.{◌≡◌, ◌⊎◌, Bool, true, false, List}
use Rattle.isl_space.specs.Element.{Element}
use Rattle.isl_space.specs.Name.{Name}
use Rattle.isl_space.specs.Valuation.{Valuation}
use Rattle.isl_tree.specs.declared.statement.Binary.{Binary}
use Rattle.isl_tree.specs.declared.statement.Binary.TheVariants as b
use Rattle.isl_tree.specs.declared.statement.Prefix.{Prefix}
use Rattle.isl_tree.specs.declared.statement.Prefix.TheVariants as p
use Rattle.isl_tree.specs.Words.{tells_elements}
use Rattle.isl_relation.specs.Point.{Point, IsPoint, HasPoint, map_element}
use Rattle.isl_relation.specs.Sets.{UniversalHas, CrossSetsHas, IdentityHas, UnwrapHas}
use Rattle.isl_relation.specs.Maps.{DomainHas, RangeHas, DeltasHas, RestrictRangeHas, RemoveRangeHas, ApplyHas, JoinHas}
use Rattle.isl_relation.specs.Pairs.{WrapHas, CrossMapsHas, ZipHas, DomainMapHas, RangeMapHas}
use Rattle.isl_relation.specs.Orders.{ComesAfter, ComesBefore, IsDownTo, IsUpTo, OrderedMapsHas, OrderedSetsHas}
use Rattle.isl_relation.specs.Extremes.{FirstHas, HasFirst}
use Rattle.isl_hull.specs.Hull.{HullHas}

-- ---- operators
-- the operators whose elements are told by those of their operands; tests make no value, and what `%` has outside of the context is not
-- told
abbrev pub is_operation : Binary → Bool
is_operation b.Union = true
is_operation b.Intersection = true
is_operation b.Difference = true
is_operation b.RangeIntersection = true
is_operation b.RangeDifference = true
is_operation b.Cross = true
is_operation b.Join = true
is_operation b.Universal = true
is_operation b.LexLess = true
is_operation b.LexLessEqual = true
is_operation b.LexGreater = true
is_operation b.LexGreaterEqual = true
is_operation b.Gist = false
is_operation b.Equal = false
is_operation b.ProperSubset = false
is_operation b.Subset = false
is_operation b.ProperSuperset = false
is_operation b.Superset = false

-- the element is a pair x → y whose x is in the set
abbrev pub BeginsIn : (Element → Type 0) → Element → Type 0
BeginsIn S element = (x : Point) × (y : Point) × HasPoint S x × IsPoint y × (element ≡ map_element x y)

-- the element is in the operand, or begins in it where that is a set and the element a map's
abbrev pub IsIn : (Element → Type 0) → Element → Type 0
IsIn Right element = Right element ⊎ BeginsIn Right element

-- x → y of two sets with x and y so ordered, or of two maps with an image of x and one of y so ordered
abbrev pub OrderedHas : (Point → Point → Type 0) → (Element → Type 0) → (Element → Type 0) → Element → Type 0
OrderedHas Ordered Left Right element = OrderedSetsHas Ordered Left Right element ⊎ OrderedMapsHas Ordered Left Right element

-- What an operator makes of the elements of its operands. `+`: those of either. `*` and `-`: those of the left one that are in the right
-- one, and that are not; a map's pairs are in a set where their first element is. `->*` and `->-`: the pairs whose second element is in the
-- set, and is not. `cross`: the pairs of both, of two sets or of two maps. `.`: first by the left map, then by the right one. `->`: from
-- each element of the left set to each of the right one. `<<`, `<<=`, `>>`, `>>=`: from x to y, where x, or its image by the left map,
-- comes before y, or the image of that by the right one; is not greater; comes after it; is not less.
abbrev pub OperatorHas : Binary → (Element → Type 0) → (Element → Type 0) → Element → Type 0
OperatorHas b.Union Left Right element = Left element ⊎ Right element
OperatorHas b.Intersection Left Right element = Left element × IsIn Right element
OperatorHas b.Difference Left Right element = Left element × (¬ IsIn Right element)
OperatorHas b.RangeIntersection Left Right element = RestrictRangeHas Left Right element
OperatorHas b.RangeDifference Left Right element = RemoveRangeHas Left Right element
OperatorHas b.Cross Left Right element = CrossSetsHas Left Right element ⊎ CrossMapsHas Left Right element
OperatorHas b.Join Left Right element = JoinHas Left Right element
OperatorHas b.Universal Left Right element = UniversalHas Left Right element
OperatorHas b.Gist Left Right element = ⊥
OperatorHas b.LexLess Left Right element = OrderedHas ComesBefore Left Right element
OperatorHas b.LexLessEqual Left Right element = OrderedHas IsUpTo Left Right element
OperatorHas b.LexGreater Left Right element = OrderedHas ComesAfter Left Right element
OperatorHas b.LexGreaterEqual Left Right element = OrderedHas IsDownTo Left Right element
OperatorHas b.Equal Left Right element = ⊥
OperatorHas b.ProperSubset Left Right element = ⊥
OperatorHas b.Subset Left Right element = ⊥
OperatorHas b.ProperSuperset Left Right element = ⊥
OperatorHas b.Superset Left Right element = ⊥

-- ---- words
-- the words whose elements are told by those of their operand; `sample` chooses, `scan` lists, `codegen` makes loops, and `pip` trees
abbrev pub is_operation_word : Prefix → Bool
is_operation_word word = tells_elements word

-- What a word makes of an operand over these parameters, by the elements that this has at all valuations: `aff` of all of them, the others
-- of those at one valuation what they have there. `coalesce` puts pieces together, and leaves the elements as they are.
abbrev pub WordHas : Prefix → List Name → (Valuation → Element → Type 0) → Valuation → Element → Type 0
WordHas p.Domain names Operand valuation element = DomainHas (Operand valuation) element
WordHas p.Range names Operand valuation element = RangeHas (Operand valuation) element
WordHas p.Deltas names Operand valuation element = DeltasHas (Operand valuation) element
WordHas p.Identity names Operand valuation element = IdentityHas (Operand valuation) element
WordHas p.Wrap names Operand valuation element = WrapHas (Operand valuation) element
WordHas p.Unwrap names Operand valuation element = UnwrapHas (Operand valuation) element
WordHas p.Zip names Operand valuation element = ZipHas (Operand valuation) element
WordHas p.DomainMap names Operand valuation element = DomainMapHas (Operand valuation) element
WordHas p.RangeMap names Operand valuation element = RangeMapHas (Operand valuation) element
WordHas p.LexMin names Operand valuation element = FirstHas ComesBefore (Operand valuation) element
WordHas p.LexMax names Operand valuation element = FirstHas ComesAfter (Operand valuation) element
WordHas p.AffineHull names Operand valuation element = HullHas names Operand valuation element
WordHas p.Coalesce names Operand valuation element = Operand valuation element
WordHas p.Sample names Operand valuation element = ⊥
WordHas p.Scan names Operand valuation element = ⊥
WordHas p.Codegen names Operand valuation element = ⊥
WordHas p.Pip names Operand valuation element = ⊥

-- at some valuation there is no first one, which is to say that not at each there is one
abbrev pub MissesFirst : (Point → Point → Type 0) → (Valuation → Element → Type 0) → Type 0
MissesFirst Ordered Operand = ¬ ((valuation : Valuation) → HasFirst Ordered (Operand valuation))

-- what the word looks for is not there: a least element of each form in which there are some, or a greatest one
abbrev pub WordMisses : Prefix → (Valuation → Element → Type 0) → Type 0
WordMisses p.LexMin Operand = MissesFirst ComesBefore Operand
WordMisses p.LexMax Operand = MissesFirst ComesAfter Operand
WordMisses p.Domain Operand = ⊥
WordMisses p.Range Operand = ⊥
WordMisses p.Deltas Operand = ⊥
WordMisses p.Identity Operand = ⊥
WordMisses p.Wrap Operand = ⊥
WordMisses p.Unwrap Operand = ⊥
WordMisses p.Zip Operand = ⊥
WordMisses p.DomainMap Operand = ⊥
WordMisses p.RangeMap Operand = ⊥
WordMisses p.AffineHull Operand = ⊥
WordMisses p.Coalesce Operand = ⊥
WordMisses p.Sample Operand = ⊥
WordMisses p.Scan Operand = ⊥
WordMisses p.Codegen Operand = ⊥
WordMisses p.Pip Operand = ⊥

-- ---- applications
-- A map applied: to a set, what it maps the set's elements to; to a map, x → z where that maps x to some y, and the first map this y to z.
abbrev pub ApplicationHas : (Element → Type 0) → (Element → Type 0) → Element → Type 0
ApplicationHas M Argument element = ApplyHas M Argument element ⊎ JoinHas Argument M element
