-- inner: values and pieces of the last sources, and of the sinks without one. (isl manual, dependence analysis)
use Rattle.std.specs.Prelude.{◌≡◌, ◌↔◌, List, All, Any}
use Rattle.isl_meter.specs.Gauge.{Gauge}
use Rattle.isl_space.specs.Element.{Element}
use Rattle.isl_space.specs.Form.{Form}
use Rattle.isl_space.specs.Name.{Name}
use Rattle.isl_space.specs.SpaceForm.{map_of}
use Rattle.isl_space.specs.Valuation.{Valuation}
use Rattle.isl_union.specs.KeptValue.{KeptValue, Has, HasNoDefinitions, IsKeptValue}
use Rattle.isl_piece.specs.Piece.{PieceView}
use Rattle.isl_union.specs.Numbers.{IsWithinLimit}
use Rattle.isl_images.specs.Made.{IsPlain}
use Rattle.isl_relation.specs.Flow.{LastHas, UnsourcedHas}
use Rattle.isl_relation.specs.Point.{map_element}
use Rattle.isl_flow.specs.declared.sources.Flow.{Flow}
use Rattle.isl_precedence.specs.declared.operands.Operands.{Operands}
use Rattle.isl_precedence.specs.declared.precedence.Precedence.{Precedence}
use Rattle.isl_precedence.specs.Later.{ComesLater}
use Rattle.isl_remainder.specs.Made.{AreMade}
use Rattle.isl_precedence.specs.Precedence.{Occurrence, HasAt, HasOccurrence, IsAccessed, IsPlainPrecedence, SourcesIn}
use Rattle.isl_precedence.specs.WideAccess.{IsWideAccess}

-- an element source → sink of the precedences, where none has a source that comes later
pub record ShowsLast (params : List Name) (valuation : Valuation) (element : Element) (found : List Precedence) : Type 0 where
  pub occurrence : Occurrence
  pub at : occurrence.valuation ≡ valuation
  pub has : Any (HasOccurrence params occurrence) found
  pub last : ¬ Any (ComesLater params occurrence) found
  pub is : element ≡ map_element occurrence.source occurrence.sink

-- an element sink → place of the precedences
pub record ShowsSink (params : List Name) (valuation : Valuation) (element : Element) (found : List Precedence) : Type 0 where
  pub occurrence : Occurrence
  pub at : occurrence.valuation ≡ valuation
  pub has : Any (HasOccurrence params occurrence) found
  pub is : element ≡ map_element occurrence.sink occurrence.access

-- the element is one of a map
abbrev pub IsMapElement : Element → Type 0
IsMapElement element = (x : Form) × (y : Form) × (element.space ≡ map_of x y)

-- the piece is one of a map, and has the element
pub record HasMap (params : List Name) (at : Valuation × Element) (piece : PieceView) : Type 0 where
  pub has : HasAt params at piece
  pub map : IsMapElement at.1

-- no source and no sink form a space that is too wide
abbrev pub AreNarrow : List PieceView → List PieceView → Type 0
AreNarrow sources sinks = All (λ source. All (λ sink. ¬ IsWideAccess source.space sink.space) sinks) sources

-- the precedences of the sources and the sinks at the times
abbrev pub AreFound : Gauge → Operands → List Precedence → Type 0
AreFound g operands found =
    AreMade (HasOccurrence operands.params) (IsAccessed g operands.params) IsPlainPrecedence
    ((All IsPlain operands.sources.items × All IsPlain operands.sinks.items) × All IsPlain operands.times.items)
    (SourcesIn operands.params operands.sources.items operands.sinks.items operands.times.items) found

-- a value over the parameters, within the limit, that has just the elements of `Selects`; where `Plain` holds it defines no column
pub record IsValueOf (g : Gauge) (params : List Name) (Plain : Type 0) (Selects : Valuation → Element → Type 0) (value : KeptValue) : Type 0
  where
    pub kept : IsKeptValue value
    pub declared : value.params ≡ params
    pub elements : (valuation : Valuation) (element : Element) → Has value valuation element ↔ Selects valuation element
    pub definitions : Plain → HasNoDefinitions value
    pub numbers : IsWithinLimit g value

-- the last sources of the sinks, and the sinks without one
pub record IsFlowOf (g : Gauge) (params : List Name) (m n t : KeptValue) (flow : Flow) : Type 0 where
  pub last : IsValueOf g params (HasNoDefinitions m × HasNoDefinitions n × HasNoDefinitions t)
      (λ v e. LastHas (Has m v) (Has n v) (Has t v) e) flow.last
  pub unsourced : IsValueOf g params (HasNoDefinitions m × HasNoDefinitions n × HasNoDefinitions t)
      (λ v e. UnsourcedHas (Has m v) (Has n v) (Has t v) e) flow.unsourced
