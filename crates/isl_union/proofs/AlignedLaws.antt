-- Pieces over more parameters.
use Rattle.std.proofs.Common.{◌≡◌, ◌↔◌, refl, sym, ap, ap₂, ◌∙◌, arith, subst, ℕ, ◌+◌, List, [], ◌∷◌, ◌++◌, All, Any}
use Rattle.std.proofs.Common.{Contains, length, map}
use Rattle.std.specs.List.{range_with_len}
use Rattle.std.proofs.lemmas.List.{get_or-map, length-append, length-map}
use Rattle.std.proofs.lemmas.List.Elements.{All-head, All-tail}
use Rattle.std.proofs.lemmas.List.FromFn.{length-range_with_len}
use Rattle.isl_math.proofs.ListLaws.{Any-unmapped, Any-with}
use Rattle.isl_meter.specs.Gauge.{Gauge}
use Rattle.isl_space.specs.Element.{Element, IsElement}
use Rattle.isl_space.specs.Name.{Name}
use Rattle.isl_space.specs.Names.{AreDistinct}
use Rattle.isl_space.specs.SpaceForm.{SpaceForm, coordinates_of}
use Rattle.isl_space.specs.Valuation.{Valuation}
use Rattle.isl_piece.specs.declared.definition.Definition.{Definition}
use Rattle.isl_piece.specs.declared.system.System.{System}
use Rattle.isl_piece.specs.Meet.{numbers_at}
use Rattle.isl_piece.specs.Placed.{ArePlacesAmong, placed_system, placing_of}
use Rattle.isl_piece.specs.Piece.{PieceView}
use Rattle.isl_piece.specs.System.{HoldsSystem, IsSystemWithin, free_columns}
use Rattle.isl_piece.proofs.MeetLaws.{placed_free, placed_system_within}
use Rattle.isl_elim.specs.Sample.{IsNowhere}
use Rattle.isl_union.specs.KeptValue.{KeptPiece, HasElement, IsKeptPiece, columns_of, piece_system, point_of}
use Rattle.isl_union.specs.Live.{settled}
use Rattle.isl_union.specs.Moved.{aligned, column_places, moved, place_in, places_in}
use Rattle.isl_union.specs.Numbers.{IsPieceUpTo}
use Rattle.isl_union.specs.Piece.{kept_piece, piece_of, IsPieceOf}
use Rattle.isl_union.proofs.MovedLaws.{live_there, moved_has, moved_kept, moved_up_to, moved-own}
use Rattle.isl_union.proofs.PlacesLaws.{places_apart, columns_apart, numbers_of_columns, places_of_all, ranges_together}
use Rattle.isl_union.proofs.SystemLaws.{free_of_piece, view_free, IsFit}

pub Any-mapped : {X Y : Type 0} (P : Y → Type 0) (f : X → Y) (xs : List X) → Any (λ x. P (f x)) xs → Any P (map f xs)
Any-mapped P f xs a = (a.0, f a.1, rw (length-map xs f) (a.2), get_or-map f xs a.0 a.1 (f a.1) a.2 ∙ ap f a.3, a.4)

-- the system of a piece that a value may have has a point
pub piece_somewhere : (params : List Name) (piece : KeptPiece) → IsKeptPiece params piece
    → ¬ IsNowhere (free_columns (piece_system params piece)) (HoldsSystem (piece_system params piece))
piece_somewhere params piece kept nowhere = kept.live (λ q l. nowhere q (l ∙ sym (free_of_piece params piece)))

module _ (all names : List Name) (own : AreDistinct names) (there : All (Contains all) names) where
  pub piece_places : (space : SpaceForm) → ArePlacesAmong (columns_of all space) (column_places all names space)
  piece_places space = columns_apart (length all) (coordinates_of space) (places_in all names) (places_apart all names own there)

  pub places_long : (space : SpaceForm) → length (column_places all names space) ≡ columns_of names space
  places_long space =
      length-append (places_in all names) (range_with_len (length all) (coordinates_of space))
      ∙ ap₂ (λ m n. m + n) (length-map names (place_in all)) (length-range_with_len (length all) (coordinates_of space))

  module _ (g : Gauge) (piece : KeptPiece) (kept : IsKeptPiece names piece) (within : IsSystemWithin g (piece_system names piece)) where
    long : length (column_places all names piece.space) ≡ free_columns (piece_system names piece)
    long = places_long piece.space ∙ sym (free_of_piece names piece)

    -- a piece over all parameters is one that a value may have
    pub aligned_kept : IsKeptPiece all (aligned all names piece)
    aligned_kept =
        moved_kept g (columns_of all piece.space) (column_places all names piece.space) (piece_system names piece)
        (piece_places piece.space) within
        long (piece_somewhere names piece kept) all piece.space refl kept.space

    pub aligned_up_to : (b : ℕ) → IsPieceUpTo b piece → IsPieceUpTo b (aligned all names piece)
    aligned_up_to b h =
        moved_up_to g (columns_of all piece.space) (column_places all names piece.space) (piece_system names piece)
        (piece_places piece.space) within
        long (piece_somewhere names piece kept) all piece.space refl b (record { rows = h.rows; definitions = h.definitions })

    -- it defines no column where the piece defines none
    pub aligned_plain : piece.definitions ≡ [] → (aligned all names piece).definitions ≡ []
    unfolding moved
    aligned_plain none =
        ap (λ (ds : List Definition). (placing_of (columns_of all piece.space) (column_places all names piece.space) ds).definitions) none

    -- and has the elements of the piece
    pub aligned_has : (v : Valuation) (e : Element) → HasElement all v e (aligned all names piece) ↔ HasElement names v e piece
    aligned_has v e = (
      (λ h. let k = has.0 h in record {
        numbers = k.0;
        space = k.1;
        holds = subst (λ xs. HoldsSystem (piece_system names piece) xs) (point k.0 k.1) k.2;
      }),
      (λ h. has.1 (h.numbers, h.space, subst (λ xs. HoldsSystem (piece_system names piece) xs) (sym (point h.numbers h.space)) h.holds)),
    )
      where
        has : HasElement all v e (aligned all names piece)
            ↔ (IsElement e × (piece.space ≡ e.space)
            × HoldsSystem (piece_system names piece) (numbers_at (column_places all names piece.space) (point_of all v e)))
        has =
            moved_has g (columns_of all piece.space) (column_places all names piece.space) (piece_system names piece)
            (piece_places piece.space)
            within long (piece_somewhere names piece kept) all piece.space refl v e

        point : length e.coordinates ≡ coordinates_of e.space → piece.space ≡ e.space
            → numbers_at (column_places all names piece.space) (point_of all v e) ≡ point_of names v e
        point n s = numbers_of_columns all names v e.coordinates (coordinates_of piece.space) there (ap coordinates_of s ∙ sym n)

  module _ (g : Gauge) where
    pub aligned_has_any : (v : Valuation) (e : Element) (pieces : List KeptPiece) → All (IsFit g names) pieces
        → Any (HasElement all v e) (map (aligned all names) pieces) ↔ Any (HasElement names v e) pieces
    aligned_has_any v e pieces fit = (
      (λ h. Any-with (λ p. HasElement all v e (aligned all names p)) (IsFit g names) (HasElement names v e)
          (λ p has f. (aligned_has g p f.0 f.1 v e).0 has) pieces fit
          (Any-unmapped (HasElement all v e) (aligned all names) pieces h)),
      (λ h. Any-mapped (HasElement all v e) (aligned all names) pieces
          (Any-with (HasElement names v e) (IsFit g names) (λ p. HasElement all v e (aligned all names p))
          (λ p has f. (aligned_has g p f.0 f.1 v e).1 has) pieces fit h)),
    )

-- ---- what is made of a piece
module _ (g : Gauge) (all names : List Name) (own : AreDistinct names) (there : All (Contains all) names) (p : PieceView)
    (sound : IsPieceOf names p) (within : IsSystemWithin g p.system) (columns : ℕ) (places : List ℕ)
    (columns_are : columns ≡ columns_of all p.space) (places_are : places ≡ column_places all names p.space) where
  pub made_places : ArePlacesAmong columns places
  made_places = rw (columns_are, places_are) (piece_places all names own there p.space)

  made_long : length places ≡ free_columns p.system
  made_long = ap (length {A = ℕ}) places_are ∙ places_long all names own there p.space ∙ sym (view_free names p sound)

  made_somewhere : ¬ IsNowhere (free_columns p.system) (HoldsSystem p.system)
  made_somewhere nowhere = sound.kept.live (λ q l. nowhere q (l ∙ sym (view_free names p sound)))

  module _ (system : System) (is : system ≡ placed_system columns places p.system) where
    pub made_within : IsSystemWithin g system
    made_within = rw is (placed_system_within g columns places p.system made_places within made_long)

    pub made_free : free_columns system ≡ columns_of all p.space
    made_free = rw is (placed_free g columns places p.system made_places within made_long) ∙ columns_are

    pub made_live : ¬ IsNowhere (free_columns system) (HoldsSystem system)
    made_live nowhere = live_there g columns places p.system made_places within made_long made_somewhere
        (λ q l. (rw is at nowhere) q (l ∙ sym (placed_free g columns places p.system made_places within made_long)))

    pub made_aligned : settled (piece_of p.space system) ≡ aligned all names (kept_piece p)
    unfolding moved
    made_aligned =
        ap (λ (s : System). settled (piece_of p.space s)) is
        ∙ ap (λ n. settled (piece_of p.space (placed_system n places p.system))) columns_are
        ∙ ap (λ ps. settled (piece_of p.space (placed_system (columns_of all p.space) ps p.system))) places_are

-- over its own parameters a piece stays
pub aligned-own : (all : List Name) → AreDistinct all → (piece : KeptPiece) → IsKeptPiece all piece → aligned all all piece ≡ piece
aligned-own all distinct piece kept =
    let n = coordinates_of piece.space in
    let from : length all ≡ 0 + length all = omega arith in
    let places : column_places all all piece.space ≡ range_with_len 0 (columns_of all piece.space) =
    ap (λ ps. ps ++ range_with_len (length all) n) (places_of_all all distinct)
    ∙ ap (λ k. range_with_len 0 (length all) ++ range_with_len k n) from ∙ ranges_together 0 (length all) n in
    ap (λ ps. moved piece.space (columns_of all piece.space) ps (piece_system all piece)) places ∙ moved-own all piece kept

pub aligned_pieces-own : (all : List Name) → AreDistinct all → (pieces : List KeptPiece) → All (IsKeptPiece all) pieces
    → map (aligned all all) pieces ≡ pieces
aligned_pieces-own all distinct [] kept = refl
aligned_pieces-own all distinct (piece ∷ pieces) kept =
    ap₂ (λ p ps. p ∷ ps) (aligned-own all distinct piece (All-head (IsKeptPiece all) piece pieces kept))
    (aligned_pieces-own all distinct pieces (All-tail (IsKeptPiece all) piece pieces kept))
