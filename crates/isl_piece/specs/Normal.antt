-- public: the normal form of rows, in which values are kept and printed: the least numbers that say the same of each row, and each bound
-- once. (isl manual, on the constraints of basic sets; congruences after Pugh, the Omega test)
use Rattle.std.specs.Prelude.{◌≡◌, ◌≢◌, All, AllPairs, Bool, true, false, ◌&&◌, ◌||◌, if◌then◌else◌, Option, Some, None, option_map, ℤ, pos, neg_ℤ, ◌*ℤ◌, int_lt, List, [], ◌∷◌, ◌++◌, map, fold}
use Rattle.std.specs.Int.{int_min}
use Rattle.std.specs.Ordering.{int_eq, int_cmp, is_lt}
use Rattle.std.specs.Cmp.Lexicographic.{pointwise, slice_cmp}
use Rattle.isl_math.specs.Divide.{floor_div, floor_mod}
use Rattle.isl_math.specs.Dot.{scaled}
use Rattle.isl_math.specs.Gcd.{content}
use Rattle.isl_math.specs.Order.{sign_of}
use Rattle.isl_piece.specs.Row.{IsContingent}
use Rattle.isl_piece.specs.Numbers.{divided, reduced, opposite, lead, is_multiple}
use Rattle.isl_piece.specs.declared.row.RowKind.{RowKind}
use Rattle.isl_piece.specs.declared.row.RowKind.TheVariants.{Zero, AtLeast, Divides, NotDivides}
use Rattle.isl_piece.specs.declared.row.Row.{Row}
use Rattle.isl_piece.specs.declared.system.System.{System}

-- ---- one row
-- what is left of a row: it holds at every point, at none, or where the kept row does
pub data Verdict : Type 0 where
  Always : Verdict
  Never : Verdict
  Kept : Row → Verdict

-- a form that is 0, with its first number that is not 0 made positive
abbrev pub upright : List ℤ → ℤ → Row
upright cs c = let sign = sign_of (lead cs) in record { kind = Zero; coefs = scaled sign cs; constant = sign *ℤ c; k = pos 1 }

-- a form that is 0 is divided by the content of its columns; where that does not divide the constant, the row never holds
unfoldable pub normal_zero : List ℤ → ℤ → Verdict
normal_zero cs c =
    let g = content cs in
    if int_eq g (pos 0) then (if int_eq c (pos 0) then Always else Never)
    else (if is_multiple g c then Kept (upright (divided g cs) (floor_div c g)) else Never)

-- a form that is at least 0
abbrev pub bound : List ℤ → ℤ → Row
bound cs c = record { kind = AtLeast; coefs = cs; constant = c; k = pos 1 }

-- a form that is at least 0 is divided by the content of its columns, and its constant rounded down
unfoldable pub normal_at_least : List ℤ → ℤ → Verdict
normal_at_least cs c =
    let g = content cs in
    if int_eq g (pos 0) then (if int_lt c (pos 0) then Never else Always)
    else Kept (bound (divided g cs) (floor_div c g))

-- a form that k divides
abbrev pub congruence : List ℤ → ℤ → ℤ → Row
congruence cs c k = record { kind = Divides; coefs = cs; constant = c; k = k }

-- the numbers of a row, the constant last
abbrev pub numbers_of : Row → List ℤ
numbers_of r = r.coefs ++ r.constant ∷ []

-- a congruence with each number's negative in its place
abbrev pub opposite_row : Row → Row
opposite_row r = record { kind = r.kind; coefs = opposite r.k r.coefs; constant = floor_mod (neg_ℤ r.constant) r.k; k = r.k }

-- of a congruence and its opposite the one with the lesser list of numbers
abbrev pub lesser : Row → Row
lesser r = if is_lt (slice_cmp int_cmp (numbers_of (opposite_row r)) (numbers_of r)) then opposite_row r else r

-- a form that k divides has its numbers reduced to 0 .. k - 1, and is divided, with k, by the content of k and the columns; where
-- that does not divide the constant, the row never holds
unfoldable pub normal_divides : List ℤ → ℤ → ℤ → Verdict
normal_divides cs c k =
    let columns = reduced k cs in
    let constant = floor_mod c k in
    let g = content (k ∷ columns) in
    if is_multiple g constant then (
    if int_eq (floor_div k g) (pos 1) then Always
    else Kept (lesser (congruence (divided g columns) (floor_div constant g) (floor_div k g)))
    ) else Never

-- what is left of a congruence, negated
abbrev pub negated : Verdict → Verdict
negated Always = Never
negated Never = Always
negated (Kept r) = Kept (record { kind = NotDivides; coefs = r.coefs; constant = r.constant; k = r.k })

abbrev pub normal_form : RowKind → List ℤ → ℤ → ℤ → Verdict
normal_form Zero cs c k = normal_zero cs c
normal_form AtLeast cs c k = normal_at_least cs c
normal_form Divides cs c k = normal_divides cs c k
normal_form NotDivides cs c k = negated (normal_divides cs c k)

-- the normal form of a row
abbrev pub normal_row : Row → Verdict
normal_row r = normal_form r.kind r.coefs r.constant r.k

-- ---- rows
-- what is left of rows: those that always hold are left out; nothing where one never holds
abbrev pub kept_rows : List Verdict → Option (List Row)
kept_rows [] = Some []
kept_rows (Always ∷ verdicts) = kept_rows verdicts
kept_rows (Never ∷ verdicts) = None
kept_rows (Kept r ∷ verdicts) = option_map (λ rows. r ∷ rows) (kept_rows verdicts)

abbrev pub same_kind : RowKind → RowKind → Bool
same_kind Zero Zero = true
same_kind AtLeast AtLeast = true
same_kind Divides Divides = true
same_kind NotDivides NotDivides = true
same_kind _ _ = false

-- the rows are equal, or both `AtLeast` and different in the constant alone
abbrev pub same_bound : Row → Row → Bool
same_bound a b = same_kind a.kind b.kind && pointwise int_eq a.coefs b.coefs && int_eq a.k b.k && (same_kind a.kind AtLeast || int_eq a.constant b.constant)

-- the first of two rows with the same bound, with the lesser constant
abbrev pub tighter : Row → Row → Row
tighter a b = record { kind = a.kind; coefs = a.coefs; constant = int_min a.constant b.constant; k = a.k }

-- rows and one more: of rows with the same bound one stays, in the place of the first
abbrev pub with_row : List Row → Row → List Row
with_row [] r = r ∷ []
with_row (a ∷ rows) r = if same_bound a r then tighter a r ∷ rows else a ∷ with_row rows r

-- rows with each bound once
abbrev pub merged : List Row → List Row
merged rows = fold with_row [] rows

-- the normal rows of rows; nothing where one of them never holds
abbrev pub normal_rows : List Row → Option (List Row)
normal_rows rows = option_map merged (kept_rows (map normal_row rows))

-- a system with its normal rows, and its definitions as they are
abbrev pub normal_system : System → Option System
normal_system s = option_map (λ rows. record { columns = s.columns; definitions = s.definitions; rows = rows }) (normal_rows s.rows)

-- ---- what normal rows are
-- each row is its own normal row, and holds at some point, but not at all; no two are equal, and no two bound the same form
-- from below; so the rows are their own normal rows
pub record IsNormal (rows : List Row) : Type 0 where
  pub settled : All (λ r. normal_row r ≡ Kept r) rows
  pub contingent : All IsContingent rows
  pub distinct : AllPairs (λ a b. a ≢ b) rows
  pub undominated : AllPairs (λ a b. a.kind ≡ AtLeast → b.kind ≡ AtLeast → a.coefs ≢ b.coefs) rows
  pub itself : normal_rows rows ≡ Some rows
