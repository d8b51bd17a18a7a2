-- Values whose rows are difference constraints: their sizes over more parameters, and those of pieces one after another.
use Rattle.std.proofs.Common.{◌≡◌, inl, refl, sym, ap, ap₂, ◌∙◌, arith, subst, ℕ, suc, ◌+◌, ◌*◌, ◌<◌, ◌≤◌, List, [], ◌∷◌, ◌++◌, length}
use Rattle.std.proofs.Common.{All, Contains, get_or, map, IfSome}
use Rattle.std.specs.Prelude.{Option, Some, None}
use Rattle.std.specs.Option.{unwrap_or}
use Rattle.std.proofs.Math.Nat.{mul-le-mul_left, mul-le-mul_right}
use Rattle.std.proofs.lemmas.List.{length-map, map-append}
use Rattle.std.proofs.lemmas.List.Elements.{All-head, All-map, All-nil, All-tail}
use Rattle.isl_math.proofs.ListLaws.{All-unmapped}
use Rattle.isl_meter.specs.Gauge.{Gauge}
use Rattle.isl_space.specs.Name.{Name}
use Rattle.isl_space.specs.Names.{AreDistinct}
use Rattle.isl_space.specs.SpaceForm.{coordinates_of}
use Rattle.isl_piece.specs.declared.definition.Definition.{Definition}
use Rattle.isl_piece.specs.declared.row.Row.{Row}
use Rattle.isl_piece.specs.declared.system.System.{System}
use Rattle.isl_piece.specs.Meet.{placed_row}
use Rattle.isl_piece.specs.Normal.{normal_rows}
use Rattle.isl_piece.specs.Piece.{PieceView}
use Rattle.isl_piece.specs.Placed.{placing_of}
use Rattle.isl_piece.specs.System.{IsSystemWithin}
use Rattle.isl_ledger.specs.Difference.{IsDifferenceRow, IsDifferenceSystem}
use Rattle.isl_ledger.specs.Work.{Size, AreOfSize}
use Rattle.isl_ledger.proofs.DifferenceLaws.{difference_placed}
use Rattle.isl_ledger.proofs.NormalDifferences.{normal_differences}
use Rattle.isl_ledger.proofs.SizeLaws.{of_size_append, of_size_wider}
use Rattle.isl_union.specs.KeptValue.{KeptPiece, KeptValue, columns_of, piece_system, IsKeptPiece, IsKeptValue}
use Rattle.isl_union.specs.Moved.{aligned, aligned_pieces, column_places, moved}
use Rattle.isl_union.specs.Numbers.{IsWithinLimit}
use Rattle.isl_union.specs.Piece.{kept_piece, IsPieceOf}
use Rattle.isl_union.specs.Tame.{size_of, systems_of, IsOfSize}
use Rattle.isl_union.proofs.AlignedLaws.{aligned_kept, aligned_plain, piece_places, places_long}
use Rattle.isl_union.proofs.SystemLaws.{view_is}
use Rattle.isl_union.proofs.ValueLaws.{value_fit}

-- ---- the systems of pieces
systems_are : (params : List Name) (pieces : List PieceView) → All (IsPieceOf params) pieces
    → map (piece_system params) (map kept_piece pieces) ≡ systems_of pieces
systems_are params [] sound = refl
systems_are params (p ∷ pieces) sound =
    ap₂ (λ s ss. s ∷ ss) (sym (view_is params p (All-head (IsPieceOf params) p pieces sound)))
    (systems_are params pieces (All-tail (IsPieceOf params) p pieces sound))

pub pieces_of_size : (params : List Name) (size : Size) (pieces : List PieceView) (kept : List KeptPiece) → All (IsPieceOf params) pieces
    → map kept_piece pieces ≡ kept → AreOfSize size (map (piece_system params) kept) → AreOfSize size (systems_of pieces)
pieces_of_size params size pieces kept sound is h =
    subst (AreOfSize size) (ap (map (piece_system params)) (sym is) ∙ systems_are params pieces sound) h

pub value_of_size : (params : List Name) (size : Size) (pieces : List PieceView) (value : KeptValue) → All (IsPieceOf params) pieces
    → value ≡ record { params = params; pieces = map kept_piece pieces } → AreOfSize size (systems_of pieces)
    → IsOfSize value.params size value
value_of_size params size pieces value sound made h = rw made (subst (AreOfSize size) (sym (systems_are params pieces sound)) h)

-- ---- over more parameters
pub settled_rows : (b : ℕ) (rows : List Row) → All (IsDifferenceRow b) rows → All (IsDifferenceRow b) (unwrap_or (normal_rows rows) [])
settled_rows b rows h = by (normal_rows rows) (normal_differences b rows (λ k d l. inl (h k d l)))
  where
    by : (found : Option (List Row)) → IfSome found (All (IsDifferenceRow b)) → All (IsDifferenceRow b) (unwrap_or found [])
    by None h = All-nil (IsDifferenceRow b)
    by (Some rows) h = h

module _ (all names : List Name) (own : AreDistinct names) (there : All (Contains all) names) (g : Gauge) (piece : KeptPiece)
    (kept : IsKeptPiece names piece) (within : IsSystemWithin g (piece_system names piece)) where
  abbrev places : List ℕ
  places = column_places all names piece.space

  abbrev columns : ℕ
  columns = columns_of all piece.space

  aligned_rows : (b : ℕ) → piece.definitions ≡ [] → All (IsDifferenceRow b) piece.rows → All (IsDifferenceRow b) (aligned all names piece).rows
  unfolding moved
  aligned_rows b none h =
      subst (λ (ds : List Definition). All (IsDifferenceRow b)
      (unwrap_or (normal_rows (map (placed_row (placing_of columns places ds).columns (placing_of columns places ds).places) piece.rows)) []))
      (sym none)
      (settled_rows b (map (placed_row columns places) piece.rows) (All-map (IsDifferenceRow b) (placed_row columns places) piece.rows
      (λ k d l. difference_placed b columns places (get_or piece.rows k d) (wide k d l) (piece_places all names own there piece.space)
      (h k d l))))
    where
      wide : (k : ℕ) (d : Row) → k < length piece.rows → length (get_or piece.rows k d).coefs ≡ length places
      wide k d l =
          let own_width = (kept.rows k d l).width in
          let long = places_long all names own there piece.space in
          let plain = ap (λ (ds : List Definition). length ds) none in
          omega (arith, own_width, long, plain)

  aligned_space : (aligned all names piece).space ≡ piece.space
  unfolding moved
  aligned_space = refl

  aligned_differences : (most bits : ℕ) → IsDifferenceSystem most bits (piece_system all piece)
      → IsDifferenceSystem most bits (piece_system all (aligned all names piece))
  aligned_differences most bits d =
      let none = aligned_plain all names own there g piece kept within d.undefined in
      record {
        narrow =
            let plain = ap (λ (ds : List Definition). length ds) none in
            let before = ap (λ (ds : List Definition). length ds) d.undefined in
            let same = ap coordinates_of aligned_space in
            let wide = d.narrow in
            omega (arith, plain, before, same, wide);
        undefined = none;
        normal = (aligned_kept all names own there g piece kept within).normal;
        rows = aligned_rows bits d.undefined d.rows;
      }

-- the pieces of a value over more parameters have the size that it has over these
pub aligned_of_size : (g : Gauge) (all : List Name) (value : KeptValue) → IsKeptValue value → IsWithinLimit g value
    → All (Contains all) value.params → (size : Size) → IsOfSize all size value
    → AreOfSize size (map (piece_system all) (aligned_pieces all value))
aligned_of_size g all value kept fits there size h =
    let D : System → Type 0 = IsDifferenceSystem size.columns size.bits in
    let pieces = value.pieces in
    let names = value.params in
    record {
      few =
          let few = h.few in
          let own = length-map pieces (piece_system all) in
          let over = length-map pieces (aligned all names) in
          let made = length-map (map (aligned all names) pieces) (piece_system all) in
          omega (arith, few, own, over, made);
      each = All-map D (piece_system all) (map (aligned all names) pieces)
          (All-map (λ p. D (piece_system all p)) (aligned all names) pieces (λ k d l.
          let fit = value_fit g value kept fits k d l in
          aligned_differences all names kept.params.distinct there g (get_or pieces k d) fit.0 fit.1 size.columns size.bits
          (All-unmapped D (piece_system all) pieces h.each k d l)));
    }

-- ---- pieces one after another
pub sizes_append : (p q r c b : ℕ) (kept more pushed : List PieceView) → p + q ≤ r → pushed ≡ kept ++ more
    → AreOfSize (size_of p c b) (systems_of kept) → AreOfSize (size_of q c b) (systems_of more) → AreOfSize (size_of r c b) (systems_of pushed)
sizes_append p q r c b kept more pushed room is h k =
    subst (AreOfSize (size_of r c b)) (sym (ap systems_of is ∙ map-append (λ (x : PieceView). x.system) kept more))
    (of_size_wider (size_of (p + q) c b) (size_of r c b) (systems_of kept ++ systems_of more)
    (record { pieces = room; columns = omega arith; bits = omega arith })
    (of_size_append p q c b (systems_of kept) (systems_of more) h k))

-- one turn more
pub turn_more : (i w : ℕ) → i * w + w ≤ (i + 1) * w
turn_more i w = let e : i + 1 ≡ suc i = omega arith in rw e (omega arith)

pub turn_fits : (i n w : ℕ) → i < n → i * w + w ≤ n * w
turn_fits i n w low =
    let more = turn_more i w in
    let all = mul-le-mul_right {m = i + 1} {n = n} w (omega arith) in
    omega (arith, more, all)

-- at most as many, each of which costs at most as much
pub product_more : (a b c d : ℕ) → a ≤ c → b ≤ d → a * b ≤ c * d
product_more a b c d l m =
    let x = mul-le-mul_right {m = a} {n = c} b l in
    let y = mul-le-mul_left {m = b} {n = d} c m in
    omega (arith, x, y)
