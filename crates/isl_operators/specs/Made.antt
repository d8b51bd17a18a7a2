-- public: which values operations make, what that does to the meter, and why none is made. (the iscc chapter of the barvinok manual)
use Rattle.std.specs.Prelude.{◌≡◌, ◌↔◌, ◌⊎◌, Bool, true, false, List}
use Rattle.isl_meter.specs.Gauge.{Gauge, IsCutBy}
use Rattle.isl_meter.specs.declared.Cut.{Cut}
use Rattle.isl_meter.specs.declared.Cut.TheVariants.{NoMemory}
use Rattle.isl_space.specs.Name.{Name}
use Rattle.isl_space.specs.Names.{joined}
use Rattle.isl_space.specs.Form.{Form}
use Rattle.isl_space.specs.SpaceForm.{set_of, map_of}
use Rattle.isl_space.specs.Valuation.{Valuation}
use Rattle.isl_space.specs.Element.{Element}
use Rattle.isl_union.specs.KeptValue.{KeptValue, Has}
use Rattle.isl_union.specs.Flat.{IsFlatOf}
use Rattle.isl_union.specs.Union.{IsUnionOf}
use Rattle.isl_union.specs.Meet.{IsMeetOf}
use Rattle.isl_union.specs.declared.fault.OpFault.{OpFault}
use Rattle.isl_union.specs.declared.fault.OpFault.TheVariants as op_fault
use Rattle.isl_tree.specs.declared.statement.Binary.{Binary}
use Rattle.isl_tree.specs.declared.statement.Binary.TheVariants as b
use Rattle.isl_tree.specs.declared.statement.Prefix.{Prefix}
use Rattle.isl_tree.specs.declared.statement.Prefix.TheVariants as p
use Rattle.isl_tree.specs.Words.{word_row}
use Rattle.isl_relation.specs.Wide.{IsFormFault, IsLiveIn}
use Rattle.isl_coalesce.specs.Coalesced.{IsCoalesced}
use Rattle.isl_hull.specs.Hull.{IsHullOf}
pub use Rattle.isl_outcome.specs.Why.{IsPaid}
use Rattle.isl_operators.specs.declared.fault.WordFault.{WordFault}
use Rattle.isl_operators.specs.declared.fault.WordFault.TheVariants as word_fault
use Rattle.isl_operators.specs.Operations.{OperatorHas, WordHas, ApplicationHas}

-- ---- values
-- any value over these parameters that has exactly these elements at every valuation
pub record IsOver (names : List Name) (Elements : Valuation → Element → Type 0) (value : KeptValue) : Type 0 where
  pub params : value.params ≡ names
  pub elements : (valuation : Valuation) (element : Element) → Has value valuation element ↔ Elements valuation element

-- some piece is of maps, and some piece of sets
abbrev pub HasMaps : KeptValue → Type 0
HasMaps value = (x : Form) × (y : Form) × IsLiveIn value (map_of x y)

abbrev pub HasSets : KeptValue → Type 0
HasSets value = (x : Form) × IsLiveIn value (set_of x)

-- any value of what an operator makes of two
abbrev pub IsAnyOf : Binary → KeptValue → KeptValue → KeptValue → Type 0
IsAnyOf operator left right value =
    IsOver (joined left.params right.params)
    (λ valuation element. OperatorHas operator (Has left valuation) (Has right valuation) element) value

-- `*`: where no maps meet sets it is what the pieces of the two have in common, one by one
pub record IsIntersectionOf (left right value : KeptValue) : Type 0 where
  pub any : IsAnyOf b.Intersection left right value
  pub pieces : ¬ (HasMaps left × HasSets right) → IsMeetOf left right value

-- the value is what an operator makes of two
abbrev pub IsOperatorOf : Binary → KeptValue → KeptValue → KeptValue → Type 0
IsOperatorOf b.Union left right value = IsUnionOf left right value
IsOperatorOf b.Intersection left right value = IsIntersectionOf left right value
IsOperatorOf b.Difference left right value = IsAnyOf b.Difference left right value
IsOperatorOf b.RangeIntersection left right value = IsAnyOf b.RangeIntersection left right value
IsOperatorOf b.RangeDifference left right value = IsAnyOf b.RangeDifference left right value
IsOperatorOf b.Cross left right value = IsAnyOf b.Cross left right value
IsOperatorOf b.Join left right value = IsAnyOf b.Join left right value
IsOperatorOf b.Universal left right value = IsAnyOf b.Universal left right value
IsOperatorOf b.LexLess left right value = IsAnyOf b.LexLess left right value
IsOperatorOf b.LexLessEqual left right value = IsAnyOf b.LexLessEqual left right value
IsOperatorOf b.LexGreater left right value = IsAnyOf b.LexGreater left right value
IsOperatorOf b.LexGreaterEqual left right value = IsAnyOf b.LexGreaterEqual left right value
IsOperatorOf b.Gist left right value = ⊥
IsOperatorOf b.Equal left right value = ⊥
IsOperatorOf b.ProperSubset left right value = ⊥
IsOperatorOf b.Subset left right value = ⊥
IsOperatorOf b.ProperSuperset left right value = ⊥
IsOperatorOf b.Superset left right value = ⊥

-- any value of what a word makes of one
abbrev pub IsAnyWordOf : Prefix → KeptValue → KeptValue → Type 0
IsAnyWordOf word operand value = IsOver operand.params (WordHas word operand.params (Has operand)) value

-- the pieces of the operand, without its defined columns, are put together until no two of them can be
abbrev pub IsCoalescedFlat : KeptValue → KeptValue → Type 0
IsCoalescedFlat operand value = (flat : KeptValue) × IsFlatOf operand flat × IsCoalesced flat value

-- `coalesce`
pub record IsPutTogether (operand value : KeptValue) : Type 0 where
  pub any : IsAnyWordOf p.Coalesce operand value
  pub coalesced : IsCoalescedFlat operand value

-- the value is what a word makes of one
abbrev pub IsWordOf : Prefix → KeptValue → KeptValue → Type 0
IsWordOf p.Domain operand value = IsAnyWordOf p.Domain operand value
IsWordOf p.Range operand value = IsAnyWordOf p.Range operand value
IsWordOf p.Deltas operand value = IsAnyWordOf p.Deltas operand value
IsWordOf p.Identity operand value = IsAnyWordOf p.Identity operand value
IsWordOf p.Wrap operand value = IsAnyWordOf p.Wrap operand value
IsWordOf p.Unwrap operand value = IsAnyWordOf p.Unwrap operand value
IsWordOf p.Zip operand value = IsAnyWordOf p.Zip operand value
IsWordOf p.DomainMap operand value = IsAnyWordOf p.DomainMap operand value
IsWordOf p.RangeMap operand value = IsAnyWordOf p.RangeMap operand value
IsWordOf p.LexMin operand value = IsAnyWordOf p.LexMin operand value
IsWordOf p.LexMax operand value = IsAnyWordOf p.LexMax operand value
IsWordOf p.AffineHull operand value = IsHullOf operand value
IsWordOf p.Coalesce operand value = IsPutTogether operand value
IsWordOf p.Sample operand value = ⊥
IsWordOf p.Scan operand value = ⊥
IsWordOf p.Codegen operand value = ⊥
IsWordOf p.Pip operand value = ⊥

-- any value of what a map is applied to; the map's parameters come first
abbrev pub IsApplicationOf : KeptValue → KeptValue → KeptValue → Type 0
IsApplicationOf map argument value =
    IsOver (joined map.params argument.params)
    (λ valuation element. ApplicationHas (Has map valuation) (Has argument valuation) element) value

-- the parameters of source, sink and schedule
abbrev pub names_of_three : KeptValue → KeptValue → KeptValue → List Name
names_of_three source sink schedule = joined (joined source.params sink.params) schedule.params

-- any value of what one of `AnyHas`, `LastHas` and `UnsourcedHas` makes of the three
abbrev pub IsDependenceOf : ((Element → Type 0) → (Element → Type 0) → (Element → Type 0) → Element → Type 0)
    → KeptValue → KeptValue → KeptValue → KeptValue → Type 0
IsDependenceOf Depends source sink schedule value =
    IsOver (names_of_three source sink schedule)
    (λ valuation element. Depends (Has source valuation) (Has sink valuation) (Has schedule valuation) element) value

-- ---- units
-- the operators that use units: all but `+`
abbrev pub operator_works : Binary → Bool
operator_works b.Union = false
operator_works b.Intersection = true
operator_works b.Difference = true
operator_works b.RangeIntersection = true
operator_works b.RangeDifference = true
operator_works b.Cross = true
operator_works b.Join = true
operator_works b.Universal = true
operator_works b.LexLess = true
operator_works b.LexLessEqual = true
operator_works b.LexGreater = true
operator_works b.LexGreaterEqual = true
operator_works b.Gist = true
operator_works b.Equal = true
operator_works b.ProperSubset = true
operator_works b.Subset = true
operator_works b.ProperSuperset = true
operator_works b.Superset = true

-- the words that use units: all but those that move columns, or put the same ones side by side
abbrev pub word_works : Prefix → Bool
word_works word = (word_row word).works

-- ---- why none is made
-- where nothing uses units, work is cut for want of memory alone, and the meter is as it was
abbrev pub IsFreeCut : Bool → Gauge → Gauge → Cut → Type 0
IsFreeCut works old new cut = works ≡ false → (cut ≡ NoMemory) × (new ≡ old)

-- Why an operation made no value. Its operands have more parameters than a value may have, or else a space that it forms is too wide, and
-- the meter is as it was; or work was cut, and neither is so, unless memory ended.
abbrev pub IsWhyNone : List Name → Type 0 → Bool → Gauge → Gauge → OpFault → Type 0
IsWhyNone params Wide works old new op_fault.TooWide = IsFormFault params Wide old new op_fault.TooWide
IsWhyNone params Wide works old new (op_fault.Cut cut) =
    IsFormFault params Wide old new (op_fault.Cut cut) × IsFreeCut works old new cut

-- Why a word made none. A space that it forms is too wide, and the meter is as it was; or none is, but what it looks for is not there, and
-- units alone were used; or work was cut, and no space is too wide, unless memory ended.
abbrev pub IsWhyNoWord : Type 0 → Type 0 → Bool → Gauge → Gauge → WordFault → Type 0
IsWhyNoWord Wide Misses works old new word_fault.TooWide = Wide × (new ≡ old)
IsWhyNoWord Wide Misses works old new word_fault.NoMinimum = (¬ Wide) × Misses × IsPaid works old new
IsWhyNoWord Wide Misses works old new (word_fault.Cut cut) =
    ((¬ Wide) ⊎ (cut ≡ NoMemory)) × IsCutBy old new cut × IsFreeCut works old new cut
