-- Items at one of their levels.
use Rattle.std.proofs.Common.{◌≡◌, refl, ap, ◌∙◌, subst, arith, ℕ, ◌+◌, ◌-◌, ◌<◌, ◌≤◌, List, [], ◌∷◌, ◌++◌, length, length-append}
use Rattle.std.proofs.Common.{get_or}
use Rattle.std.specs.Prelude.{map}
use Rattle.std.specs.List.{All}
use Rattle.std.proofs.lemmas.List.{get_or_read, length-map}
use Rattle.std.proofs.lemmas.List.Elements.{All-append, All-weaker}
use Rattle.isl_meter.specs.Gauge.{Gauge, IsCharged}
use Rattle.isl_piece.specs.declared.row.Row.{Row}
use Rattle.isl_piece.specs.Normal.{normal_row, Kept}
use Rattle.isl_piece.specs.Row.{IsRowWithin, IsWellFormed}
use Rattle.isl_piece.specs.System.{widened}
use Rattle.isl_frame.specs.Frame.{own_column}
use Rattle.isl_frame.specs.Needed.{AreRowsOver}
use Rattle.isl_frame.proofs.NeededLaws.{over_later}
use Rattle.isl_bounds.specs.Ends.{AreEnded}
use Rattle.isl_loop.proofs.LimitLaws.{IsLoopOver-same}
use Rattle.isl_bounds.proofs.PrunedLaws.{both_over, groups_later}
use Rattle.isl_nest.specs.declared.around.Around.{Around}
use Rattle.isl_nest.specs.declared.item.Item.{Item}
use Rattle.isl_nest.specs.declared.nested.Nested.{Nested}
use Rattle.isl_nest.specs.declared.place.Place.{Place}
use Rattle.isl_nest.specs.declared.told.Told.{Told}
use Rattle.isl_nest.specs.Around.{IsAroundOver}
use Rattle.isl_nest.specs.Covered.{view_of, IsCover, IsCovered}
use Rattle.isl_nest.specs.Naming.{AreNaming}
use Rattle.isl_nest.specs.Nest.{with_entry, with_loop, IsNestOver}
use Rattle.isl_nest.specs.Places.{AreGuards, IsPlace}
use Rattle.isl_nest.specs.Told.{IsTold}
use Rattle.isl_nest.proofs.AroundLaws.{charged_bits, within_same}
use Rattle.isl_nest.proofs.NamingLaws.{naming_over}
use Rattle.isl_nest.proofs.PlaceLaws.{place_later, place_with_entry, place_with_loop}

-- ---- the limit stays
pub row_same : (g h : Gauge) (r : Row) → h.bits ≡ g.bits → IsRowWithin g r → IsRowWithin h r
row_same g h r same w = record {
  coefs = λ k d l. within_same g h (get_or r.coefs k d) same (w.coefs k d l);
  constant = within_same g h r.constant same w.constant;
  k = within_same g h r.k same w.k;
}

rows_same : (g h : Gauge) (n : ℕ) (rows : List Row) → h.bits ≡ g.bits → AreRowsOver g n rows → AreRowsOver h n rows
rows_same g h n rows same over = record {
  formed = over.formed;
  within = λ k d l. row_same g h (get_or rows k d) same (over.within k d l);
}

-- while units are used
pub covered_later : (g h : Gauge) (item : Item) → IsCharged g h → IsCovered g item → IsCovered h item
covered_later g h item charged is = record {
  is = is.is;
  narrow = is.narrow;
  over = over_later g h (item.params + item.levels) item.rows charged is.over;
  covers = record {
    count = is.covers.count;
    each = λ level low. record {
      over = groups_later g h (item.params + level) (get_or item.covers.items level []) charged (is.covers.each level low).over;
      begun = (is.covers.each level low).begun;
    };
    ended = is.covers.ended;
  };
}

module _ (g : Gauge) (item : Item) (is : IsCovered g item) (columns : ℕ) (low : item.params ≤ columns)
    (room : columns < item.params + item.levels) where
  pub rows_wide : All (λ (r : Row). columns + 1 ≤ length r.coefs) item.rows
  rows_wide = All-weaker (IsWellFormed (item.params + item.levels)) (λ (r : Row). columns + 1 ≤ length r.coefs)
      (λ r f. let w = f.width in omega (arith, w, room)) item.rows is.over.formed

  pub index_low : columns + 1 - item.params < length item.covers.items
  index_low = let count = is.covers.count in omega (arith, count, low, room)

  pub level_cover : (systems : List (List Row)) → systems ≡ get_or item.covers.items (columns + 1 - item.params) []
      → IsCover g (view_of item) (columns + 1) systems
  level_cover systems e =
      let same : item.params + (columns + 1 - item.params) ≡ columns + 1 = omega (arith, low) in
      rw e (subst (λ n. IsCover g (view_of item) n (get_or item.covers.items (columns + 1 - item.params) [])) same
      (is.covers.each (columns + 1 - item.params) (omega (arith, low, room))))

  pub level_ended : (systems : List (List Row)) → systems ≡ get_or item.covers.items (columns + 1 - item.params) []
      → All (AreEnded columns) systems
  level_ended systems e =
      let same : item.params + (columns - item.params) ≡ columns = omega (arith, low) in
      let next : columns - item.params + 1 ≡ columns + 1 - item.params = omega (arith, low) in
      rw e (subst (λ n. All (AreEnded n) (get_or item.covers.items (columns + 1 - item.params) [])) same
      (subst (λ i. All (AreEnded (item.params + (columns - item.params))) (get_or item.covers.items i [])) next
      (is.covers.ended (columns - item.params) (omega (arith, low, room)))))

-- what is known of the next column, behind those of a place
pub record IsLevel (g : Gauge) (item : Item) (place : Place) (own : List Row) (systems : List (List Row)) : Type 0 where
  pub room : length place.frame < item.params + item.levels
  pub naming : AreNaming (length place.frame + 1) (length place.frame + 1) item.rows own
  pub over : AreRowsOver g (length place.frame + 1) own
  pub cover : IsCover g (view_of item) (length place.frame + 1) systems
  pub ended : All (AreEnded (length place.frame)) systems

module _ (g : Gauge) (item : Item) (is : IsCovered g item) (place : Place) (left : ℕ)
    (whole : length place.frame + left ≡ item.params + item.levels) (low : item.params ≤ length place.frame) (some : 0 < left) where
  pub level_is : (columns : ℕ) → columns ≡ length place.frame → (own : List Row) → AreNaming (columns + 1) (columns + 1) item.rows own
      → (cover systems : List (List Row)) → systems ≡ cover → cover ≡ get_or item.covers.items (columns + 1 - item.params) cover
      → IsLevel g item place own systems
  level_is columns same own naming cover systems e read =
      let here = length place.frame in
      let room : here < item.params + item.levels = omega (arith, whole, some) in
      let named : AreNaming (here + 1) (here + 1) item.rows own = subst (λ n. AreNaming (n + 1) (n + 1) item.rows own) same naming in
      let at : cover ≡ get_or item.covers.items (here + 1 - item.params) cover =
      subst (λ n. cover ≡ get_or item.covers.items (n + 1 - item.params) cover) same read in
      let found : systems ≡ get_or item.covers.items (here + 1 - item.params) [] =
      e ∙ get_or_read item.covers.items (here + 1 - item.params) cover (index_low g item is here low room) at [] in record {
        room = room;
        naming = named;
        over = naming_over g (here + 1) (here + 1) (item.params + item.levels) item.rows own (omega (arith, room)) named is.over;
        cover = level_cover g item is here low room systems found;
        ended = level_ended g item is here low room systems found;
      }

  abbrev IsNext : Gauge → Place → Type 0
  IsNext h inner =
      IsCovered h item
      × (IsPlace h inner × ((length inner.frame + (left - 1) ≡ item.params + item.levels) × (item.params ≤ length inner.frame)))

  one_longer : (inner : Place) → length inner.frame ≡ length place.frame + 1
      → (length inner.frame + (left - 1) ≡ item.params + item.levels) × (item.params ≤ length inner.frame)
  one_longer inner long = (omega (arith, long, whole, some), omega (arith, long, low))

  module _ (is_place : IsPlace g place) (h : Gauge) (charged : IsCharged g h) where
    pub told_level : (equality : Row) (own : List Row) (told : Told) → IsTold g place equality own told → (inner : Place)
        → inner ≡ with_entry place told.entry told.rows → IsNext h inner
    told_level equality own told tells inner e = rw e (
      covered_later g h item charged is,
      (
        place_with_entry h place (place_later g h place charged is_place) told.entry told.rows tells.framed
            (row_same g h told.entry (charged_bits g h charged) tells.within)
            (over_later g h place.variables told.rows charged tells.guards.over),
        one_longer (with_entry place told.entry told.rows) (length-append place.frame (told.entry ∷ [])),
      ),
    )

    pub looped_level : 8 ≤ g.bits → (around : Around) → IsAroundOver g place.variables around → (rows : List Row)
        → rows ≡ around.inside ++ around.guards → (inner : Place) → inner ≡ with_loop place rows → IsNext h inner
    looped_level wide around over rows rows_are inner e =
        let columns = place.variables + 1 in
        let bits = charged_bits g h charged in
        let rows_over = both_over g columns around.inside around.guards rows rows_are over.inside over.guards.over in
        rw e (
          covered_later g h item charged is,
          (
            place_with_loop h place (place_later g h place charged is_place) rows (omega (arith, bits, wide))
                (over_later g h columns rows charged rows_over),
            one_longer (with_loop place rows)
                (length-append (map widened place.frame) (own_column place.variables ∷ [])
                ∙ ap (λ n. n + 1) (length-map place.frame widened)),
          ),
        )

-- ---- nests
guards_same : (g h : Gauge) (n : ℕ) (rows : List Row) → h.bits ≡ g.bits → AreGuards g n rows → AreGuards h n rows
guards_same g h n rows same is = record { over = rows_same g h n rows same is.over; normal = is.normal }

pub nest_same : (g h : Gauge) (n m : ℕ) (nested : Nested) → h.bits ≡ g.bits → m ≡ n → IsNestOver g n nested → IsNestOver h m nested
nest_same g h n m nested same e is = rw e (record {
  rows = guards_same g h n nested.rows same is.rows;
  tree = IsLoopOver-same g h n nested.tree same is.tree;
  inside = rows_same g h (n + 1) nested.inside same is.inside;
})

pub behind_over : (g : Gauge) (n : ℕ) (rows : List Row) (nested made : Nested)
    → made ≡ record { rows = rows ++ nested.rows; tree = nested.tree; inside = nested.inside } → AreGuards g n rows → IsNestOver g n nested
    → IsNestOver g n made
behind_over g n rows nested made e guards is = rw e (record {
  rows = record {
    over = both_over g n rows nested.rows (rows ++ nested.rows) refl guards.over is.rows.over;
    normal = All-append (λ r. normal_row r ≡ Kept r) rows nested.rows guards.normal is.rows.normal;
  };
  tree = is.tree;
  inside = is.inside;
})
