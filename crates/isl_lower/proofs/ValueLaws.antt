-- The rows of plain pieces have the pieces' elements.
use Rattle.std.proofs.Common.{◌≡◌, ◌↔◌, ◌∙◌, inl, inr, refl, sym, ap, ap₂, subst, ℕ, suc, ℤ, ◌+◌, pos, true, List, [], ◌∷◌, ◌++◌}
use Rattle.std.proofs.Common.{length, get_or, map, replicate, Option, Some, None, option_map, MatchOption, IfSome, unsigned_abs, arith}
use Rattle.std.specs.List.{All, Any, filter_map, cons_option, list_all}
use Rattle.std.proofs.lemmas.List.{length-take-le, length-replicate}
use Rattle.std.proofs.lemmas.List.Elements.{All-cons, All-map, All-nil}
use Rattle.isl_math.proofs.ListLaws.{Any-none, Any-first, Any-later, Any-cases}
use Rattle.isl_meter.specs.Gauge.{Gauge, limit_of, IsCutBy}
use Rattle.isl_meter.specs.declared.Cut.{Cut}
use Rattle.isl_meter.specs.declared.Cut.TheVariants.{Overflow, Budget, NoMemory}
use Rattle.isl_meter.proofs.CutLemmas.{IsCharged_refl, IsCutBy-charged, IsCutBy-overflown}
use Rattle.isl_space.specs.Valuation.{Valuation, values_of}
use Rattle.isl_space.specs.Element.{Element, IsElement}
use Rattle.isl_space.specs.SpaceForm.{SpaceForm, coordinates_of}
use Rattle.isl_piece.specs.declared.row.Row.{Row}
use Rattle.isl_piece.specs.declared.system.System.{System}
use Rattle.isl_piece.specs.Piece.{PieceView}
use Rattle.isl_piece.specs.Row.{IsWellFormed, IsRowWithin}
use Rattle.isl_piece.specs.System.{HoldRows, IsSystemWithin, free_columns}
use Rattle.isl_piece.specs.Normal.{normal_rows}
use Rattle.isl_piece.proofs.NormalLaws.{HoldWhere, normal_rows_hold}
use Rattle.isl_union.specs.KeptValue.{KeptPiece, KeptValue, HasElement, HasNoDefinitions, columns_of, piece_system}
use Rattle.isl_union.specs.Live.{normal_of, IsLiveOf}
use Rattle.isl_union.specs.Numbers.{AreWithinLimit, IsPieceUpTo}
use Rattle.isl_union.specs.Piece.{kept_piece, piece_of, IsPieceOf}
use Rattle.isl_union.proofs.LiveLaws.{live_all, normal_within, with_rows}
use Rattle.isl_union.proofs.SystemLaws.{free_of_piece, piece_up_to, view_is}
use Rattle.isl_tree.specs.declared.tree.PieceTree.{PieceTree}
use Rattle.isl_tree.specs.declared.tree.Literal.{Literal}
use Rattle.isl_tree.specs.declared.tree.Entry.{Entry}
use Rattle.isl_tree.specs.Environment.{Environment}
use Rattle.isl_tree.specs.Literal.{piece_entries, space_of_piece, piece_environment, EntriesEqual, PieceHas}
use Rattle.isl_tree.specs.Known.{piece_is_known, literal_is_known}
use Rattle.isl_tree.specs.Plain.{is_plain_piece, is_plain}
use Rattle.isl_plain.specs.Linear.{Place}
use Rattle.isl_plain.specs.Rows.{Written, added, amounts_in, numbers_in, piece_place, piece_width, rows_written, written_piece}
use Rattle.isl_plain.specs.Passes.{FailsBy}
use Rattle.isl_lower.specs.Value.{piece_lowered, value_lowered, HasSameElements, IsLowered}
use Rattle.isl_lower.proofs.WidthLaws.{coordinates_are}
use Rattle.isl_plain.proofs.ModulusLaws.{HasOwnModulus, moduli_are}
use Rattle.isl_plain.proofs.AmountLaws.{length-with_amounts}
use Rattle.isl_plain.proofs.PieceLaws.{points_are}
use Rattle.isl_plain.proofs.TermLaws.{both_true}

-- ---- the rows are rows over the columns
pub added_formed : (n : ℕ) (place : Place) (w : Written) → HasOwnModulus w → IsWellFormed n (added n place w)
added_formed n place w own =
    let numbers = numbers_in n place w in
    let long : length numbers ≡ n + 1 = length-with_amounts (replicate (n + 1) (pos 0)) (amounts_in n place w)
    ∙ length-replicate (n + 1) (pos 0) in
    record { width = length-take-le n numbers (omega (arith, long)); modulus = own }

pub written_formed : (params : List (List ℕ)) (piece : PieceTree) → is_plain_piece piece ≡ true
    → All (IsWellFormed (piece_width params piece)) (rows_written params piece)
written_formed params piece plain =
    let n = piece_width params piece in
    let place = piece_place params piece in
    All-map (IsWellFormed n) (added n place) (written_piece params piece) (λ k d low.
    added_formed n place (get_or (written_piece params piece) k d) (moduli_are params piece plain k d low))

-- ---- a piece has a coordinate for each entry
pub columns_are : (params : List (List ℕ)) (piece : PieceTree) → columns_of params (space_of_piece piece) ≡ piece_width params piece
columns_are params piece = ap (λ (n : ℕ). length params + n) (coordinates_are piece)

-- ---- elements

-- each entry has its coordinate
pub entries_count : (entries : List Entry) (xs : List ℤ) (env : Environment) → EntriesEqual entries xs env → length entries ≡ length xs
entries_count [] [] env equal = refl
entries_count [] (x ∷ xs) env equal = absurd equal
entries_count (entry ∷ entries) [] env equal = absurd equal
entries_count (entry ∷ entries) (x ∷ xs) env equal = ap suc (entries_count entries xs env equal.1)

-- what a piece has is an element: it has as many numbers as its space has coordinates
piece_has_elements : (params : List (List ℕ)) (piece : PieceTree) (valuation : Valuation) (element : Element)
    → PieceHas params valuation element piece → IsElement element
piece_has_elements params piece valuation element has =
    sym (entries_count (piece_entries piece) element.coordinates (piece_environment params piece element.coordinates valuation) has.entries)
    ∙ sym (coordinates_are piece) ∙ ap coordinates_of has.space

module _ (params : List (List ℕ)) (piece : PieceTree) (valuation : Valuation) (element : Element) (plain : is_plain_piece piece ≡ true)
    (known : piece_is_known params piece ≡ true) where
  abbrev point : List ℤ
  point = values_of params valuation ++ element.coordinates

  -- the piece has an element exactly where its space is the element's, and its rows hold there
  holds_where : IsElement element
      → PieceHas params valuation element piece ↔ ((space_of_piece piece ≡ element.space) × HoldRows (rows_written params piece) point)
  holds_where sized =
      let points = points_are params piece (rows_written params piece) plain known refl valuation element.coordinates in
      let long : (space_of_piece piece ≡ element.space) → length (piece_entries piece) ≡ length element.coordinates =
      λ same. sym (coordinates_are piece) ∙ ap coordinates_of same ∙ sym sized in (
        (λ has. (has.space, (points (long has.space)).0 (has.entries, has.body))),
        (λ holds. let parts = (points (long holds.0)).1 holds.1 in record { space = holds.0; entries = parts.0; body = parts.1 }),
      )

  -- what is kept of a piece has its elements
  Keeps : Option (List Row) → Type 0
  Keeps kept =
      MatchOption kept (¬ PieceHas params valuation element piece)
      (λ rows. HasElement params valuation element (record { space = space_of_piece piece; definitions = []; rows = rows })
      ↔ PieceHas params valuation element piece)

  keeps : Keeps (normal_rows (rows_written params piece))
  unfolding Keeps
  keeps =
      let formed = written_formed params piece plain in
      by (normal_rows (rows_written params piece))
      (normal_rows_hold (rows_written params piece) point (λ k d low. (formed k d low).modulus))
    where
      sized : PieceHas params valuation element piece → IsElement element
      sized has = piece_has_elements params piece valuation element has

      by : (kept : Option (List Row)) → HoldWhere kept point (HoldRows (rows_written params piece) point) → Keeps kept
      by None never = λ has. never ((holds_where (sized has)).0 has).1
      by (Some rows) same = (
        (λ has. (holds_where has.numbers).1 (has.space, same.0 has.holds)),
        (λ has. let holds = (holds_where (sized has)).0 has in record { numbers = sized has; space = holds.0; holds = same.1 holds.1 }),
      )

pub pieces_have : (params : List (List ℕ)) (pieces : List PieceTree) (valuation : Valuation) (element : Element)
    → list_all is_plain_piece pieces ≡ true → list_all (piece_is_known params) pieces ≡ true
    → Any (HasElement params valuation element) (filter_map (piece_lowered params) pieces) ↔ Any (PieceHas params valuation element) pieces
unfolding Keeps
pieces_have params [] valuation element plain known =
    ((λ a. absurd (Any-none (HasElement params valuation element) a)), (λ a. absurd (Any-none (PieceHas params valuation element) a)))
pieces_have params (piece ∷ pieces) valuation element plain known =
    let plains = both_true (is_plain_piece piece) (list_all is_plain_piece pieces) plain in
    let knowns = both_true (piece_is_known params piece) (list_all (piece_is_known params) pieces) known in
    by plains.0 knowns.0 (normal_rows (rows_written params piece)) (keeps params piece valuation element plains.0 knowns.0)
    (pieces_have params pieces valuation element plains.1 knowns.1)
  where
    by : (one : is_plain_piece piece ≡ true) (known_one : piece_is_known params piece ≡ true) (kept : Option (List Row))
        → Keeps params piece valuation element one known_one kept
        → Any (HasElement params valuation element) (filter_map (piece_lowered params) pieces) ↔ Any (PieceHas params valuation element)
        pieces
        → Any (HasElement params valuation element)
        (cons_option (option_map (λ rows. record { space = space_of_piece piece; definitions = []; rows = rows }) kept)
        (filter_map (piece_lowered params) pieces))
        ↔ Any (PieceHas params valuation element) (piece ∷ pieces)
    by one known_one None never more = (
      (λ a. Any-later (PieceHas params valuation element) piece pieces (more.0 a)),
      (λ a. elim (Any-cases (PieceHas params valuation element) piece pieces a) [ inl p ↦ absurd (never p) | inr b ↦ more.1 b ]),
    )
    by one known_one (Some rows) same more = (
      (λ a. elim (Any-cases (HasElement params valuation element) _ (filter_map (piece_lowered params) pieces) a) [
        | inl p ↦ Any-first (PieceHas params valuation element) piece pieces (same.0 p)
        | inr b ↦ Any-later (PieceHas params valuation element) piece pieces (more.0 b)
      ]),
      (λ a. elim (Any-cases (PieceHas params valuation element) piece pieces a) [
        | inl p ↦ Any-first (HasElement params valuation element) _ (filter_map (piece_lowered params) pieces) (same.1 p)
        | inr b ↦ Any-later (HasElement params valuation element) _ (filter_map (piece_lowered params) pieces) (more.1 b)
      ]),
    )

-- a plain literal of known names, and its value
pub same_elements : (literal : Literal) → is_plain literal ≡ true → literal_is_known literal ≡ true
    → HasSameElements literal (value_lowered literal)
same_elements literal plain known valuation element = pieces_have literal.params literal.pieces valuation element plain known

-- ---- what the code makes
-- why a row was not made is why work was cut
pub fails_cut : (passes : Type 0) (old new : Gauge) (cut : Cut) → FailsBy passes old new cut → IsCutBy old new cut
fails_cut passes old new Overflow h = IsCutBy-overflown old new h.1
fails_cut passes old new Budget h = absurd h
fails_cut passes old new NoMemory h = IsCutBy-charged old new (IsCharged_refl old new h)

pub ruleset cuts = (fails_cut)

-- the piece with the rows that are written
abbrev pub piece_with_rows : List (List ℕ) → PieceTree → KeptPiece
piece_with_rows params piece = record { space = space_of_piece piece; definitions = []; rows = rows_written params piece }

module _ (params : List (List ℕ)) (piece : PieceTree) (plain : is_plain_piece piece ≡ true) where
  abbrev pub there : KeptPiece
  there = piece_with_rows params piece

  there_columns : piece_width params piece ≡ (piece_system params there).columns
  there_columns = let wide = columns_are params piece in omega (arith, wide)

  -- the columns that are counted
  pub width_made : (space : SpaceForm) (width : ℕ) → space ≡ space_of_piece piece → width ≡ coordinates_of space
      → length params + width ≡ piece_width params piece
  width_made space width same wide =
      let all = ap coordinates_of same in let sized = coordinates_are piece in omega (arith, wide, all, sized)

  -- the system that the rows make
  pub system_made : (rows : List Row) (columns : ℕ) (s : System) → rows ≡ rows_written params piece → columns ≡ piece_width params piece
      → s ≡ record { columns = columns; definitions = []; rows = rows } → s ≡ piece_system params there
  system_made rows columns s is wide made =
      made ∙ ap₂ (λ (n : ℕ) (rs : List Row). let t : System = record { columns = n; definitions = []; rows = rs } in t)
      (wide ∙ there_columns) is

  module _ (space : SpaceForm) (s : System) (same : space ≡ space_of_piece piece) (is : s ≡ piece_system params there) where
    pub made_free : free_columns s ≡ columns_of params space
    made_free = ap free_columns is ∙ free_of_piece params there ∙ ap (columns_of params) (sym same)

    pub made_lowered : (found : Option KeptPiece) → IsLiveOf params (normal_of (piece_of space s)) found
        → IsLiveOf params (piece_lowered params piece) found
    made_lowered found = subst (λ (p : KeptPiece). IsLiveOf params (normal_of p) found) (ap₂ piece_of same is)

  module _ (g : Gauge) (fits : All (IsRowWithin g) (rows_written params piece)) where
    pub there_within : IsSystemWithin g (piece_system params there)
    there_within = record {
      rows = subst (λ (n : ℕ). All (IsWellFormed n) (rows_written params piece)) there_columns (written_formed params piece plain);
      within = fits;
      count = omega arith;
      definitions = tt;
    }

    pub found_within : (found : Option PieceView) → IsLiveOf params (piece_lowered params piece) (option_map kept_piece found)
        → IfSome found (IsPieceOf params) → IfSome found (λ kept. IsSystemWithin g kept.system)
    found_within None live sound = tt
    found_within (Some kept) live sound =
        subst (IsSystemWithin g) (sym (view_is params kept sound)) (normal_within g params there there_within (kept_piece kept) live.0)

-- what is written defines no column
pub written_plain : (params : List (List ℕ)) (pieces : List PieceTree)
    → All (λ piece. piece.definitions ≡ []) (filter_map (piece_lowered params) pieces)
written_plain params [] = All-nil (λ (piece : KeptPiece). piece.definitions ≡ [])
written_plain params (piece ∷ pieces) = by (normal_rows (rows_written params piece)) (written_plain params pieces)
  where
    by : (kept : Option (List Row)) → All (λ (p : KeptPiece). p.definitions ≡ []) (filter_map (piece_lowered params) pieces)
        → All (λ (p : KeptPiece). p.definitions ≡ [])
        (cons_option (option_map (with_rows (piece_with_rows params piece)) kept) (filter_map (piece_lowered params) pieces))
    by None more = more
    by (Some rows) more =
        All-cons (λ (p : KeptPiece). p.definitions ≡ []) (with_rows (piece_with_rows params piece) rows)
        (filter_map (piece_lowered params) pieces) refl more

-- the value of a plain literal defines no column
pub lowered_plain : (literal : Literal) (value : KeptValue) → IsLowered literal value → is_plain literal ≡ true → HasNoDefinitions value
lowered_plain literal value is plain =
    let P : KeptPiece → Type 0 = λ piece. piece.definitions ≡ [] in
    live_all literal.params P P (λ piece none live. none) (value_lowered literal).pieces value.pieces (is.plain plain)
    (written_plain literal.params literal.pieces)

-- ---- the numbers of the value
pub pieces_up_to : (g : Gauge) (params : List (List ℕ)) (made : List PieceView) → All (IsPieceOf params) made → AreWithinLimit g made
    → All (IsPieceUpTo (unsigned_abs (limit_of g))) (map kept_piece made)
pieces_up_to g params made sound within = All-map (IsPieceUpTo (unsigned_abs (limit_of g))) kept_piece made (λ k d low.
    let one = get_or made k d in
    piece_up_to g params (kept_piece one) (subst (IsSystemWithin g) (view_is params one (sound k d low)) (within k d low)))
