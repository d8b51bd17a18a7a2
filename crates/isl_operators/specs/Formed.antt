-- public: the spaces that operations form of those in which their operands have elements, and where one is too wide. (isl manual)
use Rattle.std.specs.Prelude.{◌≡◌, ◌⊎◌}
use Rattle.isl_space.specs.Valuation.{Valuation}
use Rattle.isl_space.specs.Element.{Element}
use Rattle.isl_space.specs.SpaceForm.{SpaceForm, IsTooWideSpace}
use Rattle.isl_tree.specs.declared.statement.Binary.{Binary}
use Rattle.isl_tree.specs.declared.statement.Binary.TheVariants as b
use Rattle.isl_tree.specs.declared.statement.Prefix.{Prefix}
use Rattle.isl_tree.specs.declared.statement.Prefix.TheVariants as p
use Rattle.isl_relation.specs.Formed.{FormsUniversal, FormsCrossSets, FormsCrossMaps, FormsJoin}
use Rattle.isl_relation.specs.Formed.{FormsIdentity, FormsDomainMap, FormsRangeMap, FormsSame, FormsAccess}

-- ---- spaces
-- of two sets of one form, or of two maps to one form
abbrev pub FormsOrdered : SpaceForm → SpaceForm → SpaceForm → Type 0
FormsOrdered s t formed = FormsSame s t formed ⊎ FormsAccess s t formed

-- what an operator forms of a space of the left operand and one of the right; what the others make lies in spaces of their operands
abbrev pub OperatorForms : Binary → SpaceForm → SpaceForm → SpaceForm → Type 0
OperatorForms b.Cross s t formed = FormsCrossSets s t formed ⊎ FormsCrossMaps s t formed
OperatorForms b.Join s t formed = FormsJoin s t formed
OperatorForms b.Universal s t formed = FormsUniversal s t formed
OperatorForms b.Union s t formed = ⊥
OperatorForms b.Intersection s t formed = ⊥
OperatorForms b.Difference s t formed = ⊥
OperatorForms b.RangeIntersection s t formed = ⊥
OperatorForms b.RangeDifference s t formed = ⊥
OperatorForms b.Gist s t formed = ⊥
OperatorForms b.LexLess s t formed = FormsOrdered s t formed
OperatorForms b.LexLessEqual s t formed = FormsOrdered s t formed
OperatorForms b.LexGreater s t formed = FormsOrdered s t formed
OperatorForms b.LexGreaterEqual s t formed = FormsOrdered s t formed
OperatorForms b.Equal s t formed = ⊥
OperatorForms b.ProperSubset s t formed = ⊥
OperatorForms b.Subset s t formed = ⊥
OperatorForms b.ProperSuperset s t formed = ⊥
OperatorForms b.Superset s t formed = ⊥

-- what a word forms of a space of its operand
abbrev pub WordForms : Prefix → SpaceForm → SpaceForm → Type 0
WordForms p.Identity s formed = FormsIdentity s formed
WordForms p.DomainMap s formed = FormsDomainMap s formed
WordForms p.RangeMap s formed = FormsRangeMap s formed
WordForms p.Domain s formed = ⊥
WordForms p.Range s formed = ⊥
WordForms p.Deltas s formed = ⊥
WordForms p.Wrap s formed = ⊥
WordForms p.Unwrap s formed = ⊥
WordForms p.Zip s formed = ⊥
WordForms p.LexMin s formed = ⊥
WordForms p.LexMax s formed = ⊥
WordForms p.AffineHull s formed = ⊥
WordForms p.Coalesce s formed = ⊥
WordForms p.Sample s formed = ⊥
WordForms p.Scan s formed = ⊥
WordForms p.Codegen s formed = ⊥
WordForms p.Pip s formed = ⊥

-- what an application forms of a space of the map that is applied, and one of a map that it is applied to
abbrev pub ApplicationForms : SpaceForm → SpaceForm → SpaceForm → Type 0
ApplicationForms s t formed = FormsJoin t s formed

-- ---- elements
-- at no valuation is there an element in the space
abbrev pub NoneAreIn : (Valuation → Element → Type 0) → SpaceForm → Type 0
NoneAreIn Has space = (valuation : Valuation) (element : Element) → Has valuation element → ¬ (element.space ≡ space)

-- at some valuation there is an element in the space, which is to say that not at each there is none
abbrev pub AreIn : (Valuation → Element → Type 0) → SpaceForm → Type 0
AreIn Has space = ¬ NoneAreIn Has space

-- a space that is formed of one in which there are elements is too wide
abbrev pub FormsWide : (SpaceForm → SpaceForm → Type 0) → (Valuation → Element → Type 0) → Type 0
FormsWide Forms Has = (s : SpaceForm) × (formed : SpaceForm) × AreIn Has s × Forms s formed × IsTooWideSpace formed

-- the same of two
abbrev pub PairsWide : (SpaceForm → SpaceForm → SpaceForm → Type 0) → (Valuation → Element → Type 0) → (Valuation → Element → Type 0)
    → Type 0
PairsWide Forms Left Right =
    (s : SpaceForm) × (t : SpaceForm) × (formed : SpaceForm) × AreIn Left s × AreIn Right t × Forms s t formed × IsTooWideSpace formed
