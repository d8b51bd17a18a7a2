-- public: sources that come later than a time, before a sink of the same place. (isl manual, dependence analysis)
use Rattle.std.specs.Prelude.{◌≡◌, ℕ, ℤ, List, [], ◌∷◌, All, Any, length}
use Rattle.isl_meter.specs.Gauge.{Gauge}
use Rattle.isl_space.specs.Element.{Element}
use Rattle.isl_space.specs.Form.{width_of}
use Rattle.isl_space.specs.Name.{Name}
use Rattle.isl_space.specs.Shape.{form_of}
use Rattle.isl_space.specs.Valuation.{Valuation, values_of}
use Rattle.isl_piece.specs.declared.system.System.{System}
use Rattle.isl_piece.specs.System.{HoldsSystem, IsSystemWithin, free_columns}
use Rattle.isl_elim.specs.Elimination.{HoldsAtAny}
use Rattle.isl_relation.specs.Orders.{ComesBefore}
use Rattle.isl_relation.specs.Point.{Point, IsPoint, map_element}
use Rattle.isl_blocks.specs.Blocks.{numbers_of, picked, total, widths_of}
use Rattle.isl_blocks.specs.Cases.{IsBeforeAt}
use Rattle.isl_precedence.specs.declared.forms.Forms.{Forms}
use Rattle.isl_precedence.specs.declared.later.Later.{Later}
use Rattle.isl_precedence.specs.declared.precedence.Precedence.{Precedence}
use Rattle.isl_precedence.specs.Precedence.{Occurrence, HasOccurrence, LiesIn, blocks_of}

-- ---- all but the source
-- the numbers of the parameters, and of each point but the source
abbrev pub later_blocks : List Name → Occurrence → List (List ℤ)
later_blocks params o = values_of params o.valuation ∷ o.sink.numbers ∷ o.access.numbers ∷ o.time.numbers ∷ o.sink_time.numbers ∷ []

-- these points are of the forms
pub record LiesBehind (f : Forms) (o : Occurrence) : Type 0 where
  pub sink : o.sink.form ≡ form_of f.sink.value
  pub access : o.access.form ≡ form_of f.access.value
  pub time : o.time.form ≡ form_of f.time.value
  pub sink_time : o.sink_time.form ≡ form_of f.time.value
  pub sink_point : IsPoint o.sink
  pub access_point : IsPoint o.access
  pub time_point : IsPoint o.time
  pub sink_time_point : IsPoint o.sink_time

-- and one of the systems holds at their numbers
pub record HasLater (params : List Name) (o : Occurrence) (k : Later) : Type 0 where
  pub lies : LiesBehind k.forms o
  pub holds : HoldsAtAny k.systems.items (numbers_of (later_blocks params o))

-- how many columns these blocks have: parameters, sink, access, and two times
abbrev pub later_widths : List Name → Forms → List ℕ
later_widths params f =
    length params ∷ width_of (form_of f.sink.value) ∷ width_of (form_of f.access.value) ∷ width_of (form_of f.time.value)
    ∷ width_of (form_of f.time.value) ∷ []

-- the systems are ones over these blocks, within the limit
pub record IsLater (g : Gauge) (params : List Name) (k : Later) : Type 0 where
  pub free : All (λ s. free_columns s ≡ total (later_widths params k.forms)) k.systems.items
  pub within : All (IsSystemWithin g) k.systems.items

abbrev pub IsPlainLater : Later → Type 0
IsPlainLater k = All (λ s. s.definitions ≡ []) k.systems.items

-- ---- another source
-- the same sink behind another source, at another time
abbrev pub with_source : Occurrence → Point → Point → Occurrence
with_source o x r =
    record { valuation = o.valuation; source = x; sink = o.sink; access = o.access; time = r; sink_time = o.sink_time }

-- the precedence has the same sink behind some source at a later time
pub record ComesLater (params : List Name) (o : Occurrence) (r : Precedence) : Type 0 where
  pub source : Point
  pub time : Point
  pub has : HasOccurrence params (with_source o source time) r
  pub after : ComesBefore o.time time
  pub point : IsPoint o.time

-- the blocks, and behind them those of another source and of its time
abbrev pub wide_blocks : List Name → Occurrence → List ℤ → List ℤ → List (List ℤ)
wide_blocks params o xs rs =
    values_of params o.valuation ∷ o.sink.numbers ∷ o.access.numbers ∷ o.time.numbers ∷ o.sink_time.numbers ∷ xs ∷ rs ∷ []

abbrev pub wide_widths : List Name → Forms → List ℕ
wide_widths params f =
    length params ∷ width_of (form_of f.sink.value) ∷ width_of (form_of f.access.value) ∷ width_of (form_of f.time.value)
    ∷ width_of (form_of f.time.value) ∷ width_of (form_of f.source.value) ∷ width_of (form_of f.time.value) ∷ []

-- where the blocks of a precedence are among these
abbrev pub behind_blocks : List ℕ
behind_blocks = 0 ∷ 5 ∷ 1 ∷ 2 ∷ 6 ∷ 4 ∷ []

-- the system over all of these holds for some source, at a time from which this one first differs at the place, and is less
pub record ComesLaterAt (params : List Name) (f : Forms) (system : System) (i : ℕ) (o : Occurrence) : Type 0 where
  pub lies : LiesBehind f o
  pub source : List ℤ
  pub time : List ℤ
  pub source_long : length source ≡ width_of (form_of f.source.value)
  pub time_long : length time ≡ width_of (form_of f.time.value)
  pub holds : HoldsSystem system (numbers_of (wide_blocks params o source time))
  pub differs : IsBeforeAt i o.time.numbers time

-- ---- precedences
-- sink, access and times are of the same forms
pub record AreAlikeForms (f h : Forms) : Type 0 where
  pub sink : form_of f.sink.value ≡ form_of h.sink.value
  pub access : form_of f.access.value ≡ form_of h.access.value
  pub time : form_of f.time.value ≡ form_of h.time.value

-- where those blocks are among the blocks of a precedence
abbrev pub all_but_source : List ℕ
all_but_source = 0 ∷ 2 ∷ 3 ∷ 4 ∷ 5 ∷ []

-- a system over the blocks of a precedence
pub record IsOver (g : Gauge) (widths : List ℕ) (s : System) : Type 0 where
  pub free : free_columns s ≡ total widths
  pub within : IsSystemWithin g s

-- the system holds at blocks of these widths
pub record HoldsOver (widths : List ℕ) (blocks : List (List ℤ)) (s : System) : Type 0 where
  pub wide : widths_of blocks ≡ widths
  pub holds : HoldsSystem s (numbers_of blocks)

-- the other one holds at the picked blocks
pub record HoldsPicked (widths picks : List ℕ) (blocks : List (List ℤ)) (s : System) : Type 0 where
  pub wide : widths_of blocks ≡ widths
  pub holds : HoldsSystem s (picked picks blocks)

-- the precedence has it, and no source comes later
pub record HasLast (params : List Name) (laters : List Later) (o : Occurrence) (r : Precedence) : Type 0 where
  pub has : HasOccurrence params o r
  pub last : ¬ Any (HasLater params o) laters

-- ---- pieces
-- an element source → sink, at whose numbers, behind which are some of the place and of the times, P holds
pub record ShowsWith (params : List Name) (f : Forms) (P : List ℤ → Type 0) (valuation : Valuation) (element : Element) : Type 0 where
  pub occurrence : Occurrence
  pub at : occurrence.valuation ≡ valuation
  pub lies : LiesIn f occurrence
  pub holds : P (numbers_of (blocks_of params occurrence))
  pub is : element ≡ map_element occurrence.source occurrence.sink

-- an element source → sink of the precedence, where none of the later sources comes
pub record ShowsLeft (params : List Name) (laters : List Later) (valuation : Valuation) (element : Element) (r : Precedence) : Type 0
  where
    pub occurrence : Occurrence
    pub at : occurrence.valuation ≡ valuation
    pub has : HasLast params laters occurrence r
    pub is : element ≡ map_element occurrence.source occurrence.sink
