-- public: accesses of one place at two times, one before the other, and systems over their numbers. (isl manual, dependence analysis)
use Rattle.std.specs.Prelude.{◌≡◌, ℤ, List, [], ◌∷◌, Any}
use Rattle.isl_math.specs.Order.{IsBefore}
use Rattle.isl_meter.specs.Gauge.{Gauge}
use Rattle.isl_space.specs.Element.{Element}
use Rattle.isl_space.specs.Name.{Name}
use Rattle.isl_space.specs.Shape.{form_of}
use Rattle.isl_space.specs.SpaceForm.{map_of, IsWellFormedSpace}
use Rattle.isl_space.specs.Valuation.{Valuation, values_of}
use Rattle.isl_piece.specs.declared.system.System.{System}
use Rattle.isl_piece.specs.Piece.{PieceView}
use Rattle.isl_piece.specs.System.{HoldsSystem, IsSystemWithin, free_columns}
use Rattle.isl_union.specs.Piece.{IsPieceOf}
use Rattle.isl_relation.specs.Point.{Point, IsPoint, Relates, map_element}
use Rattle.isl_images.specs.Made.{elements_of}
use Rattle.isl_blocks.specs.Blocks.{numbers_of, total}
use Rattle.isl_precedence.specs.declared.forms.Forms.{Forms}
use Rattle.isl_precedence.specs.declared.precedence.Precedence.{Precedence}
use Rattle.isl_precedence.specs.Forms.{AreNarrowForms, widths_for}

-- a source and a sink, what both access, and their times
pub record Occurrence : Type 0 where
  pub valuation : Valuation
  pub source : Point
  pub sink : Point
  pub access : Point
  pub time : Point
  pub sink_time : Point

-- the numbers of the parameters, and of each point
abbrev pub blocks_of : List Name → Occurrence → List (List ℤ)
blocks_of params o =
    values_of params o.valuation ∷ o.source.numbers ∷ o.sink.numbers ∷ o.access.numbers ∷ o.time.numbers ∷ o.sink_time.numbers ∷ []

-- the points are of these forms
pub record LiesIn (f : Forms) (o : Occurrence) : Type 0 where
  pub source : o.source.form ≡ form_of f.source.value
  pub sink : o.sink.form ≡ form_of f.sink.value
  pub access : o.access.form ≡ form_of f.access.value
  pub time : o.time.form ≡ form_of f.time.value
  pub sink_time : o.sink_time.form ≡ form_of f.time.value
  pub source_point : IsPoint o.source
  pub sink_point : IsPoint o.sink
  pub access_point : IsPoint o.access
  pub time_point : IsPoint o.time
  pub sink_time_point : IsPoint o.sink_time

-- and the system holds at their numbers
pub record HoldsFor (params : List Name) (f : Forms) (system : System) (o : Occurrence) : Type 0 where
  pub lies : LiesIn f o
  pub holds : HoldsSystem system (numbers_of (blocks_of params o))

abbrev pub HasOccurrence : List Name → Occurrence → Precedence → Type 0
HasOccurrence params o r = HoldsFor params r.forms r.system o

-- the system is one over the blocks, within the limit, and source and sink form a space that a value may have
pub record IsPrecedence (g : Gauge) (params : List Name) (r : Precedence) : Type 0 where
  pub free : free_columns r.system ≡ total (widths_for params r.forms)
  pub within : IsSystemWithin g r.system
  pub narrow : AreNarrowForms r.forms
  pub space : IsWellFormedSpace (map_of (form_of r.forms.source.value) (form_of r.forms.sink.value))

-- and sink and place form one too
pub record IsAccessed (g : Gauge) (params : List Name) (r : Precedence) : Type 0 where
  pub precedence : IsPrecedence g params r
  pub place : IsWellFormedSpace (map_of (form_of r.forms.sink.value) (form_of r.forms.access.value))

abbrev pub IsPlainPrecedence : Precedence → Type 0
IsPlainPrecedence r = r.system.definitions ≡ []

-- the first two pieces have source → access and sink → access, and the other two map these to their times, which are of one form
pub record AreTimed (params : List Name) (m n t u : PieceView) (o : Occurrence) : Type 0 where
  pub source : Relates (elements_of params m o.valuation) o.source o.access
  pub sink : Relates (elements_of params n o.valuation) o.sink o.access
  pub at : Relates (elements_of params t o.valuation) o.source o.time
  pub sink_at : Relates (elements_of params u o.valuation) o.sink o.sink_time
  pub form : o.time.form ≡ o.sink_time.form

-- and the first time comes before the other
pub record AreOrdered (params : List Name) (m n t u : PieceView) (o : Occurrence) : Type 0 where
  pub timed : AreTimed params m n t u o
  pub before : IsBefore o.time.numbers o.sink_time.numbers

-- those of some of the pieces
abbrev pub StopsAt : List Name → PieceView → PieceView → PieceView → List PieceView → Occurrence → Type 0
StopsAt params m n t times o = Any (λ u. AreOrdered params m n t u o) times

abbrev pub StartsAt : List Name → PieceView → PieceView → List PieceView → Occurrence → Type 0
StartsAt params m n times o = Any (λ t. StopsAt params m n t times o) times

abbrev pub SinksIn : List Name → PieceView → List PieceView → List PieceView → Occurrence → Type 0
SinksIn params m sinks times o = Any (λ n. StartsAt params m n times o) sinks

abbrev pub SourcesIn : List Name → List PieceView → List PieceView → List PieceView → Occurrence → Type 0
SourcesIn params sources sinks times o = Any (λ m. SinksIn params m sinks times o) sources

-- an element source → sink of the precedence
pub record Shows (params : List Name) (valuation : Valuation) (element : Element) (r : Precedence) : Type 0 where
  pub occurrence : Occurrence
  pub at : occurrence.valuation ≡ valuation
  pub has : HasOccurrence params occurrence r
  pub is : element ≡ map_element occurrence.source occurrence.sink

-- ---- pieces
-- the piece has the element at the valuation
abbrev pub HasAt : List Name → Valuation × Element → PieceView → Type 0
HasAt params at piece = elements_of params piece at.0 at.1

-- a piece that a value may have, within the limit
pub record IsSound (g : Gauge) (params : List Name) (piece : PieceView) : Type 0 where
  pub sound : IsPieceOf params piece
  pub within : IsSystemWithin g piece.system
