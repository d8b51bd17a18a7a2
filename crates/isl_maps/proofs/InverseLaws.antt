-- Values turned round.
use Rattle.std.proofs.Common.{◌≡◌, ◌↔◌, sym, ap, ◌∙◌, arith, subst, ℕ, ◌+◌, ℤ, List, [], ◌++◌, All, length, get_or, map}
use Rattle.std.proofs.lemmas.List.Elements.{All-map}
use Rattle.isl_math.proofs.ListLaws.{Any-unmapped, Any-with}
use Rattle.isl_meter.specs.Gauge.{Gauge}
use Rattle.isl_space.specs.Element.{Element, IsElement}
use Rattle.isl_space.specs.Form.{Form, width_of}
use Rattle.isl_space.specs.Name.{Name}
use Rattle.isl_space.specs.SpaceForm.{SpaceForm, set_of, map_of, coordinates_of, IsWellFormedSpace}
use Rattle.isl_space.specs.Valuation.{Valuation, values_of}
use Rattle.isl_space.proofs.ValuationLaws.{length-values_of}
use Rattle.isl_piece.specs.declared.definition.Definition.{Definition}
use Rattle.isl_piece.specs.declared.system.System.{System}
use Rattle.isl_piece.specs.Meet.{numbers_at}
use Rattle.isl_piece.specs.Piece.{PieceView}
use Rattle.isl_piece.specs.Placed.{placed_system, placing_of, ArePlacesAmong}
use Rattle.isl_piece.specs.System.{HoldsSystem, IsSystemWithin, free_columns}
use Rattle.isl_piece.proofs.MeetLaws.{placed_free, placed_system_within}
use Rattle.isl_union.specs.KeptValue.{KeptPiece, KeptValue, Has, HasElement, HasNoDefinitions, IsKeptPiece, IsKeptValue}
use Rattle.isl_union.specs.KeptValue.{columns_of, piece_system, point_of}
use Rattle.isl_union.specs.Live.{settled}
use Rattle.isl_union.specs.Moved.{moved}
use Rattle.isl_union.specs.Numbers.{HasNumbersUpTo, IsPieceUpTo, IsWithinLimit}
use Rattle.isl_union.specs.Piece.{kept_piece, piece_of, IsPieceOf}
use Rattle.isl_union.proofs.AlignedLaws.{piece_somewhere, Any-mapped}
use Rattle.isl_union.proofs.MovedLaws.{live_there, moved_has, moved_kept, moved_up_to}
use Rattle.isl_union.proofs.SystemLaws.{free_of_piece, view_free, IsFit}
use Rattle.isl_union.proofs.ValueLaws.{value_fit}
use Rattle.isl_maps.specs.Inverse.{inverse_element, inverse_of, inverse_piece, inverse_places, inverse_space}
use Rattle.isl_maps.proofs.InversePlaces.{inverse_apart, inverse_coordinates, inverse_twice, length-inverse_numbers, length-inverse_places}
use Rattle.isl_maps.proofs.InversePlaces.{numbers_turned, turned_pair}

well_formed_turned : (space : SpaceForm) → IsWellFormedSpace space → IsWellFormedSpace (inverse_space space)
well_formed_turned (set_of form) h = h
well_formed_turned (map_of from to) h = record {
  named = (h.named.1, h.named.0);
  narrow = record { coordinates = (let n = h.narrow.coordinates in omega arith); leaves = (let n = h.narrow.leaves in omega arith) };
}

-- a space turned round has as many columns
same_columns : (params : List Name) (space : SpaceForm) → columns_of params space ≡ columns_of params (inverse_space space)
same_columns params space = ap (λ n. length params + n) (sym (inverse_coordinates space))

-- ---- pieces
module _ (g : Gauge) (params : List Name) (piece : KeptPiece) (kept : IsKeptPiece params piece)
    (within : IsSystemWithin g (piece_system params piece)) where
  abbrev p : ℕ
  p = length params

  abbrev columns : ℕ
  columns = columns_of params piece.space

  abbrev places : List ℕ
  places = inverse_places p piece.space

  abbrev own : System
  own = piece_system params piece

  long : length places ≡ free_columns own
  long = length-inverse_places p piece.space ∙ sym (free_of_piece params piece)

  pub turned_kept : IsKeptPiece params (inverse_piece params piece)
  unfolding inverse_piece
  turned_kept =
      moved_kept g columns places own (inverse_apart p piece.space) within long (piece_somewhere params piece kept) params
      (inverse_space piece.space) (same_columns params piece.space) (well_formed_turned piece.space kept.space)

  pub turned_up_to : (b : ℕ) → IsPieceUpTo b piece → IsPieceUpTo b (inverse_piece params piece)
  unfolding inverse_piece
  turned_up_to b h =
      moved_up_to g columns places own (inverse_apart p piece.space) within long (piece_somewhere params piece kept) params
      (inverse_space piece.space) (same_columns params piece.space) b (record { rows = h.rows; definitions = h.definitions })

  -- it has an element exactly where the piece has the element turned round
  pub turned_has : (v : Valuation) (e : Element) → HasElement params v e (inverse_piece params piece)
      ↔ HasElement params v (inverse_element e) piece
  unfolding inverse_piece
  turned_has v e = (
    (λ h.
        let k = has.0 h in
        let same : piece.space ≡ inverse_space e.space = sym (inverse_twice piece.space) ∙ ap inverse_space k.1 in
        record {
          numbers = length-inverse_numbers e.space e.coordinates ∙ k.0 ∙ sym (inverse_coordinates e.space);
          space = same;
          holds = subst (λ xs. HoldsSystem own xs) (point same k.0) k.2;
        }),
    (λ h.
        let wide : length e.coordinates ≡ coordinates_of e.space = sym (length-inverse_numbers e.space e.coordinates) ∙ h.numbers ∙
        inverse_coordinates e.space in
        let same = ap inverse_space h.space ∙ inverse_twice e.space in
        has.1 (wide, same, subst (λ xs. HoldsSystem own xs) (sym (point h.space wide)) h.holds)),
  )
    where
      has : HasElement params v e (moved (inverse_space piece.space) columns places own)
          ↔ (IsElement e × (inverse_space piece.space ≡ e.space) × HoldsSystem own (numbers_at places (point_of params v e)))
      has =
          moved_has g columns places own (inverse_apart p piece.space) within long (piece_somewhere params piece kept) params
          (inverse_space piece.space) (same_columns params piece.space) v e

      point : piece.space ≡ inverse_space e.space → length e.coordinates ≡ coordinates_of e.space
          → numbers_at places (point_of params v e) ≡ point_of params v (inverse_element e)
      point s wide =
          ap (λ (t : SpaceForm). numbers_at (inverse_places p t) (point_of params v e)) s
          ∙ numbers_turned (values_of params v) e.coordinates p e.space (sym (length-values_of params v)) wide

-- it defines no column where the piece defines none
pub turned_plain : (params : List Name) (piece : KeptPiece) → piece.definitions ≡ [] → (inverse_piece params piece).definitions ≡ []
unfolding inverse_piece moved
turned_plain params piece none =
    ap (λ (ds : List Definition). (placing_of (columns_of params piece.space) (inverse_places (length params) piece.space) ds).definitions)
    none

-- ---- what is made of a piece
module _ (g : Gauge) (params : List Name) (p : PieceView) (sound : IsPieceOf params p) (within : IsSystemWithin g p.system) (columns : ℕ)
    (places : List ℕ) (columns_are : columns ≡ free_columns p.system) (places_are : places ≡ inverse_places (length params) p.space) where
  wide : columns ≡ columns_of params p.space
  wide = columns_are ∙ view_free params p sound

  pub made_places : ArePlacesAmong columns places
  made_places = rw (wide, places_are) (inverse_apart (length params) p.space)

  made_long : length places ≡ free_columns p.system
  made_long = ap (length {A = ℕ}) places_are ∙ length-inverse_places (length params) p.space ∙ sym (view_free params p sound)

  module _ (space : SpaceForm) (system : System) (space_is : space ≡ inverse_space p.space)
      (is : system ≡ placed_system columns places p.system) where
    pub made_within : IsSystemWithin g system
    made_within = rw is (placed_system_within g columns places p.system made_places within made_long)

    pub made_free : free_columns system ≡ columns_of params space
    made_free =
        rw is (placed_free g columns places p.system made_places within made_long) ∙ wide ∙ same_columns params p.space
        ∙ ap (columns_of params) (sym space_is)

    pub made_formed : IsWellFormedSpace space
    made_formed = rw space_is (well_formed_turned p.space sound.kept.space)

    -- some numbers make the system hold
    pub made_live : ¬ ((point : List ℤ) → length point ≡ free_columns system → ¬ HoldsSystem system point)
    made_live nowhere =
        live_there g columns places p.system made_places within made_long
        (λ none. sound.kept.live (λ q l. none q (l ∙ sym (view_free params p sound))))
        (λ q l. (rw is at nowhere) q (l ∙ sym (placed_free g columns places p.system made_places within made_long)))

    pub made_turned : settled (piece_of space system) ≡ inverse_piece params (kept_piece p)
    unfolding inverse_piece moved
    made_turned =
        ap (λ (s : System). settled (piece_of space s)) is
        ∙ ap (λ (t : SpaceForm). settled (piece_of t (placed_system columns places p.system))) space_is
        ∙ ap (λ n. settled (piece_of (inverse_space p.space) (placed_system n places p.system))) wide
        ∙ ap (λ ps. settled (piece_of (inverse_space p.space) (placed_system (columns_of params p.space) ps p.system))) places_are

-- ---- values
module _ (g : Gauge) (value : KeptValue) (kept : IsKeptValue value) (fits : IsWithinLimit g value) where
  fit : All (IsFit g value.params) value.pieces
  fit = value_fit g value kept fits

  pub inverse_kept : IsKeptValue (inverse_of value)
  inverse_kept = record {
    params = kept.params;
    pieces = All-map (IsKeptPiece value.params) (inverse_piece value.params) value.pieces (λ k d l.
        let here = fit k d l in turned_kept g value.params (get_or value.pieces k d) here.0 here.1);
  }

  pub inverse_small : (b : ℕ) → HasNumbersUpTo b value → HasNumbersUpTo b (inverse_of value)
  inverse_small b h = All-map (IsPieceUpTo b) (inverse_piece value.params) value.pieces (λ k d l.
      let here = fit k d l in turned_up_to g value.params (get_or value.pieces k d) here.0 here.1 b (h k d l))

  pub inverse_has : (v : Valuation) (e : Element) → Has (inverse_of value) v e ↔ Has value v (inverse_element e)
  inverse_has v e =
      let params = value.params in
      let Turned : KeptPiece → Type 0 = λ q. HasElement params v e (inverse_piece params q) in
      let Own : KeptPiece → Type 0 = HasElement params v (inverse_element e) in (
        (λ h. Any-with Turned (IsFit g params) Own (λ q has k. (turned_has g params q k.0 k.1 v e).0 has) value.pieces fit
            (Any-unmapped (HasElement params v e) (inverse_piece params) value.pieces h)),
        (λ h. Any-mapped (HasElement params v e) (inverse_piece params) value.pieces
            (Any-with Own (IsFit g params) Turned (λ q has k. (turned_has g params q k.0 k.1 v e).1 has) value.pieces fit h)),
      )

  -- in the words of maps
  pub inverse_maps : (v : Valuation) (from to : Form) (x y : List ℤ) → length x ≡ width_of from → length y ≡ width_of to
      → Has (inverse_of value) v (record { space = map_of to from; coordinates = y ++ x }) ↔ Has value v (record {
        space = map_of from to;
        coordinates = x ++ y;
      })
  inverse_maps v from to x y first second =
      let e : Element = record { space = map_of to from; coordinates = y ++ x } in
      let turned : inverse_element e ≡ record { space = map_of from to; coordinates = x ++ y } =
      ap (λ l. let f : Element = record { space = map_of from to; coordinates = l } in f) (turned_pair (width_of to) x y second) in
      subst (λ (f : Element). Has (inverse_of value) v e ↔ Has value v f) turned (inverse_has v e)

pub inverse_plain : (value : KeptValue) → HasNoDefinitions value → HasNoDefinitions (inverse_of value)
inverse_plain value none =
    All-map (λ (q : KeptPiece). q.definitions ≡ []) (inverse_piece value.params) value.pieces
    (λ k d l. turned_plain value.params (get_or value.pieces k d) (none k d l))

-- what is answered
pub made_inverse : (value : KeptValue) (copied params : List Name) (pieces turned : List PieceView) (made : KeptValue)
    → copied ≡ value.params → params ≡ value.params
    → map kept_piece pieces ≡ value.pieces → map kept_piece turned ≡ map (inverse_piece params) (map kept_piece pieces)
    → made ≡ record { params = copied; pieces = map kept_piece turned } → made ≡ inverse_of value
made_inverse value copied params pieces turned made names own is exact made_is =
    let whole : map kept_piece turned ≡ map (inverse_piece value.params) value.pieces =
    exact ∙ ap (λ l. map (inverse_piece l) (map kept_piece pieces)) own ∙ ap (map (inverse_piece value.params)) is in
    let both : record { params = copied; pieces = map kept_piece turned } ≡ record {
      params = value.params;
      pieces = map (inverse_piece value.params) value.pieces;
    } = cc in
    made_is ∙ both
