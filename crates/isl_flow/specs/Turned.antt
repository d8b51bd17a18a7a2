-- inner: precedences with the sink, the place and the source where source, sink and place stand.
use Rattle.std.specs.Prelude.{◌≡◌, ℕ, List, [], ◌∷◌}
use Rattle.isl_space.specs.Shape.{form_of}
use Rattle.isl_precedence.specs.declared.forms.Forms.{Forms}
use Rattle.isl_precedence.specs.Precedence.{Occurrence}

-- the occurrence whose sink, place and source these are
abbrev pub turned_back : Occurrence → Occurrence
turned_back o =
    record { valuation = o.valuation; source = o.access; sink = o.source; access = o.sink; time = o.time; sink_time = o.sink_time }

-- the second forms are those of the sink, the place and the source
pub record AreTurnedForms (f h : Forms) : Type 0 where
  pub source : form_of h.source.value ≡ form_of f.sink.value
  pub sink : form_of h.sink.value ≡ form_of f.access.value
  pub access : form_of h.access.value ≡ form_of f.source.value
  pub time : form_of h.time.value ≡ form_of f.time.value

-- where the blocks of a precedence are among the turned ones
abbrev pub turned_blocks : List ℕ
turned_blocks = 0 ∷ 3 ∷ 1 ∷ 2 ∷ 4 ∷ 5 ∷ []
