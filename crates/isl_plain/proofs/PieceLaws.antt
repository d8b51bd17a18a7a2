-- A plain piece has the points of the rows that it writes.
use Rattle.std.proofs.Common.{◌≡◌, ◌∙◌, refl, sym, ap, subst, ◌↔◌, ℕ, zero, suc, ◌+◌, ◌<◌, ◌≤◌, ℤ, pos, ◌+ℤ◌, true, List, [], ◌∷◌}
use Rattle.std.proofs.Common.{◌++◌, length, get_or, map, take, arith, Result, Ok, Err}
use Rattle.std.specs.Result.{MatchResult, IfOk}
use Rattle.std.proofs.lemmas.Bool.{false≢true, cases_Bool}
use Rattle.std.specs.List.{list_all}
use Rattle.std.specs.Str.{bytes_eq}
use Rattle.std.proofs.lemmas.List.{append_assoc, length-append, length-map}
use mathlib.Core.Logic.{inl, inr}
use Rattle.isl_math.specs.Dot.{dot}
use Rattle.isl_piece.specs.System.{HoldRows}
use Rattle.isl_plain.specs.Points.{HasPoints}
use Rattle.isl_piece.specs.Row.{HoldsValue, HoldsRow, value_at}
use Rattle.isl_piece.specs.declared.row.Row.{Row}
use Rattle.isl_tree.specs.declared.tree.PieceTree.{PieceTree}
use Rattle.isl_tree.specs.Environment.{Environment, value_in}
use Rattle.isl_tree.specs.Literal.{piece_entries, piece_environment, EntriesEqual, BodyHolds}
use Rattle.isl_tree.specs.Known.{entries_are_known, known_behind, body_is_known, piece_is_known}
use Rattle.isl_tree.specs.Plain.{is_plain_entry, body_is_plain, is_plain_piece}
use Rattle.isl_plain.proofs.Columns.{column_of, columns_from, with_columns}
use Rattle.isl_plain.specs.Linear.{Place, row_of}
use Rattle.isl_plain.specs.Rows.{Written, amounts_in, added, piece_width, piece_place, written_entries, written_body, written_piece}
use Rattle.isl_plain.specs.Rows.{rows_written}
use Rattle.isl_plain.proofs.AmountLaws.{total, row_at}
use Rattle.isl_plain.proofs.PlaceLaws.{place_is}
use Rattle.isl_plain.proofs.PlainLaws.{piece_entries_plain}
use Rattle.isl_plain.proofs.TermLaws.{Agrees, both_true}
use Rattle.isl_plain.proofs.AgreeLaws.{StandsAt, agrees_entries, agrees_same, column_here, column_further, among_further}
use Rattle.isl_plain.proofs.EntryLaws.{AllWritten, all_written_append, entries_hold, name_is}
use Rattle.isl_plain.proofs.FormulaLaws.{body_holds}

-- the parameters' numbers at a valuation
abbrev pub params_at : List (List ℕ) → Environment → List ℤ
params_at params env = map (value_in env) params

-- parameters stand for their numbers
agrees_params : (n : ℕ) (xs : List ℤ) (names : List (List ℕ)) (env : Environment) (first : ℕ) → StandsAt xs first (params_at names env)
    → first + length names ≤ n → Agrees names n (column_of n (columns_from first names)) env xs
agrees_params n xs [] env first stands within = record {
  below = λ name among. absurd (false≢true among);
  value = λ name among. absurd (false≢true among);
}
agrees_params n xs (m ∷ names) env first stands within =
    let more = agrees_params n xs names env (first + 1) stands.1 (omega arith) in
    record {
      below = λ name among. elim (cases_Bool (bytes_eq m name)) [
        | inl is ↦ let inside : first < n = omega arith in rw (column_here n m first (columns_from (first + 1) names) name is) inside
        | inr is ↦ rw (column_further n m first (columns_from (first + 1) names) name is)
            (more.below name (among_further m names name is among))
      ];
      value = λ name among. elim (cases_Bool (bytes_eq m name)) [
        | inl is ↦ ap (value_in env) (sym (name_is m name is)) ∙ sym stands.0
            ∙ ap (λ (k : ℕ). get_or xs k (pos 0)) (sym (column_here n m first (columns_from (first + 1) names) name is))
        | inr is ↦ more.value name (among_further m names name is among)
            ∙ ap (λ (k : ℕ). get_or xs k (pos 0)) (sym (column_further n m first (columns_from (first + 1) names) name is))
      ];
    }

-- numbers stand in a list behind those before them
stands_behind : (before ys after : List ℤ) → StandsAt (before ++ (ys ++ after)) (length before) ys
stands_behind before [] after = tt
stands_behind before (y ∷ ys) after =
    let e : before ++ ((y ∷ ys) ++ after) ≡ (before ++ y ∷ []) ++ (ys ++ after) = sym (append_assoc before (y ∷ []) (ys ++ after)) in
    let more = stands_behind (before ++ y ∷ []) ys after in
    let long : length (before ++ y ∷ []) ≡ length before + 1 = length-append before (y ∷ []) in (
      here before y (ys ++ after),
      subst (λ (l : List ℤ). StandsAt l (length before + 1) ys) (sym e)
          (subst (λ (k : ℕ). StandsAt ((before ++ y ∷ []) ++ (ys ++ after)) k ys) long more),
    )
  where
    here : (before : List ℤ) (y : ℤ) (after : List ℤ) → get_or (before ++ (y ∷ after)) (length before) (pos 0) ≡ y
    here [] y after = refl
    here (x ∷ before) y after = here before y after

-- each row holds at the point
abbrev pub AllRows : List Row → List ℤ → Type 0
AllRows [] xs = Unit {0}
AllRows (row ∷ rows) xs = HoldsRow row xs × AllRows rows xs

-- written rows hold where the rows that they add up to do
all_added : (n : ℕ) (place : Place) (xs : List ℤ) (ws : List Written) → n ≡ length xs
    → AllWritten n place (xs ++ pos 1 ∷ []) ws ↔ AllRows (map (added n place) ws) xs
all_added n place xs [] same = (λ h. h, λ h. h)
all_added n place xs (w ∷ ws) same =
    let more = all_added n place xs ws same in
    let amounts = amounts_in n place w in
    let value : value_at (added n place w) xs ≡ total (xs ++ pos 1 ∷ []) amounts = ap
    (λ (k : ℕ). dot (take k (row_of k amounts)) xs +ℤ get_or (row_of k amounts) k (pos 0)) same ∙ row_at xs amounts in (
      λ h. (subst (λ (z : ℤ). HoldsValue w.kind w.modulus z) (sym value) h.0, more.0 h.1),
      λ h.
          (subst (λ (z : ℤ). HoldsValue w.kind w.modulus z) value h.0, more.1 h.1),
    )

last_is : (xs : List ℤ) → get_or (xs ++ pos 1 ∷ []) (length xs) (pos 0) ≡ pos 1
last_is [] = refl
last_is (x ∷ xs) = last_is xs

-- A plain piece of known names holds at a valuation and coordinates exactly where all its rows hold at the parameters' numbers and
-- the coordinates.
pub piece_holds : (params : List (List ℕ)) (piece : PieceTree) (env : Environment) (ys : List ℤ) → is_plain_piece piece ≡ true
    → piece_is_known params piece ≡ true → length (piece_entries piece) ≡ length ys
    → (EntriesEqual (piece_entries piece) ys (piece_environment params piece ys env) × BodyHolds piece.body
    (piece_environment params piece ys env))
    ↔ AllRows (rows_written params piece) (params_at params env ++ ys)
piece_holds params piece env ys plain are_known same =
    let entries = piece_entries piece in
    let ps = params_at params env in
    let point = ps ++ ys in
    let xs = point ++ pos 1 ∷ [] in
    let n = piece_width params piece in
    let place = piece_place params piece in
    let inner = piece_environment params piece ys env in
    let known = known_behind params entries in
    let long_params : length ps ≡ length params = length-map params (value_in env) in
    let long : n ≡ length point = omega (arith, length-append ps ys) in
    let xs_is : xs ≡ ps ++ (ys ++ pos 1 ∷ []) = append_assoc ps ys (pos 1 ∷ []) in
    let first : StandsAt xs 0 ps = subst (λ (l : List ℤ). StandsAt l 0 ps) (sym xs_is) (stands_behind [] ps (ys ++ pos 1 ∷ [])) in
    let second : StandsAt xs (length params) ys = subst (λ (k : ℕ). StandsAt xs k ys) long_params
    (subst (λ (l : List ℤ). StandsAt l (length ps) ys) (sym xs_is) (stands_behind ps ys (pos 1 ∷ []))) in
    let given = agrees_params n xs params env 0 first (omega arith) in
    let entries_plain = piece_entries_plain piece plain in
    let agrees = agrees_same known n (column_of n (with_columns params entries (length params) (columns_from 0 params))) place inner xs
    (λ name. (place_is n params entries name entries_plain).0)
    (agrees_entries n xs entries ys params (columns_from 0 params) env (length params) given second same (omega arith)) in
    let one : get_or xs n (pos 0) ≡ pos 1 = ap (λ (k : ℕ). get_or xs k (pos 0)) long ∙ last_is point in
    let plains = both_true (list_all is_plain_entry entries) (body_is_plain piece.body) plain in
    let knowns = both_true (entries_are_known params entries) (body_is_known known piece.body) are_known in
    let in_entries = entries_hold n xs place inner known agrees one entries ys params env (length params) entries_plain knowns.0
    (λ name among. among) refl second same in
    let in_body = body_holds n xs place inner known agrees one piece.body plains.1 knowns.1 in
    let split = all_written_append n place xs (written_entries params entries (length params)) (written_body n piece.body) in
    let rows = all_added n place point (written_piece params piece) long in (
      λ h. rows.0 (split.1 (in_entries.0 h.0, in_body.0 h.1)),
      λ h. let parts = split.0
          (rows.1 h) in (in_entries.1 parts.0, in_body.1 parts.1),
    )

-- the same of rows by their places
pub all_rows_are : (rows : List Row) (xs : List ℤ) → AllRows rows xs ↔ HoldRows rows xs
all_rows_are rows xs = (there rows, back rows)
  where
    there : (rows : List Row) → AllRows rows xs → HoldRows rows xs
    there [] h k d inside = absurd (omega arith)
    there (row ∷ rows) h zero d inside = h.0
    there (row ∷ rows) h (suc k) d inside = there rows h.1 k d (omega arith)

    back : (rows : List Row) → HoldRows rows xs → AllRows rows xs
    back [] h = tt
    back (row ∷ rows) h = (h 0 row (omega arith), back rows (λ k d inside. h (suc k) d (omega arith)))

-- the points of the rows that a plain piece writes
pub points_are : (params : List (List ℕ)) (piece : PieceTree) (rows : List Row) → is_plain_piece piece ≡ true
    → piece_is_known params piece ≡ true → rows ≡ rows_written params piece → HasPoints params piece rows
unfolding value_in
points_are params piece rows plain are_known is valuation xs same =
    let holds = piece_holds params piece valuation xs plain are_known same in
    let rows_hold = all_rows_are (rows_written params piece) (params_at params valuation ++ xs) in
    let same_rows = ap (λ (l : List Row). HoldRows l (params_at params valuation ++ xs)) is in (
      λ h. subst (λ (l : List Row). HoldRows l (params_at params valuation ++ xs)) (sym is) (rows_hold.0 (holds.0 h)),
      λ h. holds.1
          (rows_hold.1 (subst (λ (l : List Row). HoldRows l (params_at params valuation ++ xs)) is h)),
    )

pub points_result : {E : Type 0} (r : Result (List Row) E) (P : List Row → Type 0) (Q : E → Type 0) (params : List (List ℕ))
    (piece : PieceTree) → is_plain_piece piece ≡ true → piece_is_known params piece ≡ true
    → ((rows : List Row) → P rows → rows ≡ rows_written params piece) → MatchResult r P Q → IfOk r (HasPoints params piece)
points_result (Ok rows) P Q params piece plain are_known is h = points_are params piece rows plain are_known (is rows h)
points_result (Err e) P Q params piece plain are_known is h = tt
