-- public: proofs that no whole point makes all rows of a system hold and none of its outs: what each step asks, and what it adds.
-- (Farkas' lemma on sums of bounds; Pugh, the Omega test, on the steps of whole numbers)
use Rattle.std.specs.Prelude.{◌≡◌, All, Bool, true, false, ◌&&◌, not, if◌then◌else◌, int_lt, nat_eq, ℕ, ◌+◌, ◌-◌, ℤ, pos, negsuc, neg_ℤ}
use Rattle.std.specs.Prelude.{◌+ℤ◌, ◌-ℤ◌, ◌*ℤ◌, List, [], ◌∷◌, ◌++◌, map, length, replicate, Option, Some, None, slice_get, unsigned_abs}
use Rattle.std.specs.List.{list_all, flat_map, range_with_len}
use Rattle.std.specs.Cmp.Lexicographic.{pointwise}
use Rattle.std.specs.Ordering.{int_eq}
use Rattle.isl_math.specs.Divide.{floor_mod}
use Rattle.isl_math.specs.Dot.{scaled, weighted_sum}
use Rattle.isl_piece.specs.declared.row.RowKind.{RowKind}
use Rattle.isl_piece.specs.declared.row.RowKind.TheVariants.{Zero, AtLeast, Divides, NotDivides}
use Rattle.isl_piece.specs.declared.row.Row.{Row}
use Rattle.isl_piece.specs.Negation.{below, negation_of}
use Rattle.isl_piece.specs.Normal.{Verdict, Always, Never, Kept, normal_row, bound, congruence}
use Rattle.isl_piece.specs.System.{HoldsSystem, widened}
use Rattle.isl_piece.specs.declared.system.System.{System}
use Rattle.isl_refute.specs.declared.tree.Cert.{Cert, False, Add', Tie', Mod', Weaken', Fresh', Split', Residue', Outside', Row_of-Cert}
use Rattle.isl_refute.specs.declared.tree.Cert.{end_of-Cert, more_of-Cert}
use Rattle.isl_refute.specs.declared.tree.Form.{Form}

-- ---- the normal form of one row, which stands even where it is constant
abbrev pub constant_row : RowKind → List ℤ → ℤ → ℤ → Row
constant_row kind cs c k = record { kind = kind; coefs = replicate (length cs) (pos 0); constant = c; k = k }

-- a row that always holds: a bound keeps its constant
abbrev pub always_row : RowKind → List ℤ → ℤ → Row
always_row Zero cs c = constant_row Zero cs (pos 0) (pos 1)
always_row AtLeast cs c = constant_row AtLeast cs c (pos 1)
always_row Divides cs c = constant_row Divides cs (pos 0) (pos 1)
always_row NotDivides cs c = constant_row NotDivides cs (pos 1) (pos 2)

-- a row that never holds
abbrev pub never_row : RowKind → List ℤ → ℤ → Row
never_row Zero cs c = constant_row Zero cs (pos 1) (pos 1)
never_row AtLeast cs c = constant_row AtLeast cs c (pos 1)
never_row Divides cs c = constant_row Divides cs (pos 1) (pos 2)
never_row NotDivides cs c = constant_row NotDivides cs (pos 0) (pos 1)

abbrev pub standing_as : Row → Verdict → Row
standing_as r Always = always_row r.kind r.coefs r.constant
standing_as r Never = never_row r.kind r.coefs r.constant
standing_as r (Kept n) = n

abbrev pub standing_row : Row → Row
standing_row r = standing_as r (normal_row r)

-- the rows with one more, in normal form
abbrev pub and_row : List Row → Row → List Row
and_row rows r = rows ++ standing_row r ∷ []

-- ---- what a step asks of rows, and what it adds: nothing where it asks in vain
abbrev pub with_both : Option Row → Option Row → (Row → Row → Option Row) → Option Row
with_both (Some r) (Some s) f = f r s
with_both (Some r) None f = None
with_both None s f = None

abbrev pub with_one : Option Row → (Row → Option Row) → Option Row
with_one (Some r) f = f r
with_one None f = None

-- the number is 0 at what the row asks for
abbrev pub holds_number : RowKind → ℤ → ℤ → Bool
holds_number Zero k z = int_eq z (pos 0)
holds_number AtLeast k z = not (int_lt z (pos 0))
holds_number Divides k z = int_eq (floor_mod z k) (pos 0)
holds_number NotDivides k z = not (int_eq (floor_mod z k) (pos 0))

-- the row is constant and false
abbrev pub is_false : Row → Bool
is_false r = list_all (λ c. int_eq c (pos 0)) r.coefs && not (holds_number r.kind r.k r.constant)

-- a bound is not turned round, and what is not divided is taken once
abbrev pub is_factor : RowKind → ℤ → Bool
is_factor Zero a = true
is_factor AtLeast a = not (int_lt a (pos 0))
is_factor Divides a = true
is_factor NotDivides a = int_eq a (pos 1)

-- the kind and the modulus of a sum, where rows of these kinds and moduli can be added up
abbrev pub same_modulus : RowKind → ℤ → ℤ → Option (RowKind × ℤ)
same_modulus kind j k = if int_eq j k then Some (kind, j) else None

abbrev pub kind_of_sum : RowKind → ℤ → RowKind → ℤ → Option (RowKind × ℤ)
kind_of_sum Zero j other k = Some (other, k)
kind_of_sum AtLeast j Zero k = Some (AtLeast, j)
kind_of_sum AtLeast j AtLeast k = Some (AtLeast, j)
kind_of_sum AtLeast j Divides k = None
kind_of_sum AtLeast j NotDivides k = None
kind_of_sum Divides j Zero k = Some (Divides, j)
kind_of_sum Divides j AtLeast k = None
kind_of_sum Divides j Divides k = same_modulus Divides j k
kind_of_sum Divides j NotDivides k = same_modulus NotDivides j k
kind_of_sum NotDivides j Zero k = Some (NotDivides, j)
kind_of_sum NotDivides j AtLeast k = None
kind_of_sum NotDivides j Divides k = same_modulus NotDivides j k
kind_of_sum NotDivides j NotDivides k = None

-- a row of this kind and modulus, where there are such
abbrev pub of_kind : Option (RowKind × ℤ) → List ℤ → ℤ → Option Row
of_kind None cs c = None
of_kind (Some both) cs c = Some (record { kind = both.0; coefs = cs; constant = c; k = both.1 })

-- a times a row plus b times another one
abbrev pub sum_row : ℤ → ℤ → Row → Row → Option Row
sum_row a b r s =
    if is_factor r.kind a && is_factor s.kind b
    then of_kind (kind_of_sum r.kind r.k s.kind s.k) (weighted_sum a r.coefs b s.coefs) (a *ℤ r.constant +ℤ b *ℤ s.constant)
    else None

abbrev pub is_equality : RowKind → Bool
is_equality Zero = true
is_equality AtLeast = false
is_equality Divides = false
is_equality NotDivides = false

abbrev pub is_bound : RowKind → Bool
is_bound Zero = false
is_bound AtLeast = true
is_bound Divides = false
is_bound NotDivides = false

abbrev pub is_congruence : RowKind → Bool
is_congruence Zero = false
is_congruence AtLeast = false
is_congruence Divides = true
is_congruence NotDivides = false

abbrev pub equality : List ℤ → ℤ → Row
equality cs c = record { kind = Zero; coefs = cs; constant = c; k = pos 1 }

-- two bounds of which one has the other's negative as its form: that form is 0
abbrev pub tie_row : Row → Row → Option Row
tie_row r s =
    if is_bound r.kind
    && (is_bound s.kind && (pointwise int_eq s.coefs (scaled (negsuc 0) r.coefs) && int_eq s.constant (neg_ℤ r.constant)))
    then Some (equality r.coefs r.constant)
    else None

-- k divides what is 0
abbrev pub mod_row : ℤ → Row → Option Row
mod_row k r = if is_equality r.kind && int_lt (pos 1) k then Some (congruence r.coefs r.constant k) else None

-- k divides what a multiple of k divides
abbrev pub weaken_row : ℤ → Row → Option Row
weaken_row k r =
    if is_congruence r.kind && (int_lt (pos 1) k && int_eq (floor_mod r.k k) (pos 0)) then Some (congruence r.coefs r.constant k) else None

-- what k divides is k times a number, that of a new column
abbrev pub fresh_row : Row → Option Row
fresh_row r = if is_congruence r.kind then Some (equality (r.coefs ++ neg_ℤ r.k ∷ []) r.constant) else None

-- the form has a coefficient for each column
abbrev pub is_over : ℕ → Form → Bool
is_over columns form = nat_eq (length form.coefs) columns

-- k divides the form less a number, for each of the numbers from 0 to k - 1
abbrev pub residue_rows : Form → ℤ → List Row
residue_rows form k = map (λ r. congruence form.coefs (form.constant -ℤ pos r) k) (range_with_len 0 (unsigned_abs k))

-- a row of an out has the coefficient 0 at each column that was added
abbrev pub padded : ℕ → Row → Row
padded columns r = record { kind = r.kind; coefs = r.coefs ++ replicate (columns - length r.coefs) (pos 0); constant = r.constant; k = r.k }

-- the rows of the negation of each row
abbrev pub negations : ℕ → List Row → List Row
negations columns rows = flat_map (λ r. negation_of (padded columns r)) rows

-- ---- proofs
-- where there is a row, the test of it
abbrev pub where_some : {A : Type 0} → Option A → (A → Bool) → Bool
where_some None test = false
where_some (Some x) test = test x

abbrev mutual
  -- the proof refutes these rows over so many columns, outside the outs
  pub refutes : List (List Row) → ℕ → List Row → Cert → Bool
  refutes outs n rows (False i) = where_some (slice_get rows i) (λ r. is_false r)
  refutes outs n rows (Add' i a j b s part) =
      where_some (with_both (slice_get rows i) (slice_get rows j) (sum_row a b)) (λ r. refutes_in outs n (and_row rows r) part)
  refutes outs n rows (Tie' i j s part) =
      where_some (with_both (slice_get rows i) (slice_get rows j) tie_row) (λ r. refutes_in outs n (and_row rows r) part)
  refutes outs n rows (Mod' i k s part) =
      where_some (with_one (slice_get rows i) (mod_row k)) (λ r. refutes_in outs n (and_row rows r) part)
  refutes outs n rows (Weaken' i k s part) =
      where_some (with_one (slice_get rows i) (weaken_row k)) (λ r. refutes_in outs n (and_row rows r) part)
  refutes outs n rows (Fresh' i s part) =
      where_some (with_one (slice_get rows i) fresh_row) (λ r. refutes_in outs (n + 1) (and_row (map widened rows) r) part)
  refutes outs n rows (Split' form s up t down) =
      is_over n form
      && (refutes_in outs n (and_row rows (bound form.coefs form.constant)) up
      && refutes_in outs n (and_row rows (below form.coefs form.constant)) down)
  refutes outs n rows (Residue' form k s parts) =
      is_over n form && (int_lt (pos 1) k && refutes_each outs n rows (residue_rows form k) parts)
  refutes outs n rows (Outside' q s parts) = where_some (slice_get outs q) (λ out. refutes_each outs n rows (negations n out) parts)

  -- a part in a box is a row of one
  pub refutes_in : {m : _} → List (List Row) → ℕ → List Row → Row_of-Cert m → Bool
  refutes_in outs n rows end_of-Cert = false
  refutes_in outs n rows (more_of-Cert cert rest) = refutes outs n rows cert

  -- one part for each of these rows, with that row
  pub refutes_each : {m : _} → List (List Row) → ℕ → List Row → List Row → Row_of-Cert m → Bool
  refutes_each outs n rows [] end_of-Cert = true
  refutes_each outs n rows [] (more_of-Cert cert rest) = false
  refutes_each outs n rows (r ∷ more) end_of-Cert = false
  refutes_each outs n rows (r ∷ more) (more_of-Cert cert rest) = refutes outs n (and_row rows r) cert && refutes_each outs n rows more rest

-- the rows of a system whose columns are all free
abbrev pub rows_of : System → List Row
rows_of s = s.rows

-- no point makes the system hold and none of the outs
abbrev pub HasNoneOutside : System → List System → Type 0
HasNoneOutside system outs =
    (point : List ℤ) → length point ≡ system.columns → HoldsSystem system point → ¬ All (λ out. ¬ HoldsSystem out point) outs
