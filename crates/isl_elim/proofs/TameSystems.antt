-- Systems of difference constraints without some of their columns, or of their rows.
use Rattle.std.proofs.Common.{◌≡◌, inl, inr, sym, ap, ◌∙◌, subst, arith, ℕ, ◌+◌, ◌*◌, ◌-◌, ◌≤◌, List, [], ◌∷◌, ◌++◌, length, map, Option, Some, None, IfSome}
use Rattle.std.specs.Prelude.{◌<◌, IfOk, MatchOption, Result, Ok, Err, option_to_list}
use Rattle.std.specs.List.{All}
use Rattle.std.proofs.Math.Nat.{mul-le-mul_left}
use Rattle.std.proofs.lemmas.List.{append-nil, length-map}
use Rattle.std.proofs.lemmas.List.Elements.{All-nil, All-cons, All-head, All-tail, All-map}
use Rattle.isl_math.proofs.ListLaws.{All-unmapped}
use Rattle.isl_meter.specs.declared.Cut.{Cut}
use Rattle.isl_meter.specs.Gauge.{Gauge}
use Rattle.isl_piece.specs.declared.definition.Definition.{Definition}
use Rattle.isl_piece.specs.declared.row.Row.{Row}
use Rattle.isl_piece.specs.declared.system.System.{System}
use Rattle.isl_piece.specs.Normal.{IsNormal, normal_rows}
use Rattle.isl_piece.specs.System.{IsSystemWithin, free_columns}
use Rattle.isl_redundant.specs.Redundant.{AreSome, IsReduced}
use Rattle.isl_omega.specs.Equality.{HasEquality}
use Rattle.isl_shadows.specs.Exact.{IsExactColumn, exact_rows}
use Rattle.isl_shadows.specs.Solved.{solved_rows}
use Rattle.isl_shadows.specs.Tame.{IsTameColumn}
use Rattle.isl_ledger.specs.Answered.{IsTame}
use Rattle.isl_ledger.proofs.AnsweredLaws.{answered_more}
use Rattle.isl_ledger.proofs.NormalDifferences.{normal_differences}
use Rattle.isl_ledger.specs.Difference.{IsDifferenceRow, IsDifferenceSystem}
use Rattle.isl_ledger.specs.Work.{Size, AreOfSize, HasSize, drop_size}
use Rattle.isl_ledger.proofs.SizeLaws.{one_system}
use Rattle.isl_elim.specs.Dependents.{narrowed, dependents_from, with_dependents, kept_definitions}
use Rattle.isl_elim.specs.Elimination.{without_from, system_of}
use Rattle.isl_elim.specs.Opened.{definition_rows, only_from, opened_rows}
use Rattle.isl_elim.specs.Tame.{AreFewDifferences, IsPlainDifference}
use Rattle.isl_elim.proofs.DifferenceColumns.{AreDifferences, equality_or_none, exact_column, exact_differences, solved_differences, column_tame}
use Rattle.isl_elim.proofs.TameLaws.{square_more, few_none, few_one}

-- ---- rows without some that the others imply
pub some_all : (P : Row → Type 0) (kept rows : List Row) → AreSome kept rows → All P rows → All P kept
some_all P [] rows a h = All-nil P
some_all P (r ∷ kept) [] a h = absurd a
some_all P (r ∷ kept) (s ∷ rows) (inl a) h =
    All-cons P r kept (subst P (sym a.0) (All-head P s rows h)) (some_all P kept rows a.1 (All-tail P s rows h))
some_all P (r ∷ kept) (s ∷ rows) (inr a) h = some_all P (r ∷ kept) rows a (All-tail P s rows h)

pub some_differences : (N : Type 0) (columns bits : ℕ) (rows : List Row) (found : Option (List Row)) → All (IsDifferenceRow bits) rows
    → MatchOption found N (IsReduced columns rows) → IfSome found (All (IsDifferenceRow bits))
some_differences N columns bits rows None h r = tt
some_differences N columns bits rows (Some few) h r = some_all (IsDifferenceRow bits) few rows r.some h

-- ---- systems
pub plain_of_one : (size : Size) (s : System) → HasSize size s → IsPlainDifference s size.bits
plain_of_one size s of = let d = of.rows in record { undefined = d.undefined; rows = d.rows }

-- a system of the rows that are left
pub size_of_few : (size : Size) (s : System) (few : List Row) → AreOfSize size (s ∷ []) → IsReduced s.columns s.rows few
    → AreOfSize size (system_of s.columns s.definitions few ∷ [])
size_of_few size s few of k =
    let d = one_system size s of in
    let t : System = system_of s.columns s.definitions few in
    record {
      few = of.few;
      each = All-cons (IsDifferenceSystem size.columns size.bits) t []
          (record {
            narrow = d.narrow;
            undefined = d.undefined;
            normal = k.normal d.normal;
            rows = some_all (IsDifferenceRow size.bits) few s.rows k.some d.rows;
          }) (All-nil (IsDifferenceSystem size.columns size.bits));
    }

-- no column depends on others where none is defined
pub gone_plain : (s : System) (cols : List ℕ) → s.definitions ≡ [] → with_dependents s cols ≡ cols
gone_plain s cols e = ap (λ (ds : List Definition). cols ++ dependents_from (free_columns s) cols ds) e ∙ append-nil cols

pub kept_plain : (s : System) (cols : List ℕ) → s.definitions ≡ [] → kept_definitions s cols ≡ []
kept_plain s cols e =
    ap (λ (ds : List Definition). map (narrowed (with_dependents s cols)) (without_from (free_columns s) (with_dependents s cols) ds)) e

pub room_left : (size : Size) (s : System) → HasSize size s → size.bits + size.columns ≤ 120 → size.bits + s.columns ≤ 120
room_left size s of room = let n = of.rows.narrow in omega arith

pub units_left : (size : Size) (s : System) (n : ℕ) → HasSize size s
    → n * (s.columns * s.columns) ≤ n * (size.columns * size.columns)
units_left size s n of = mul-le-mul_left n (square_more s.columns size.columns of.rows.narrow)

-- what is left of a system without the columns
pub size_dropped : (size : Size) (s : System) (cols : List ℕ) (left : System) (lists : List (List Row)) (systems : List System)
    → HasSize size s
    → left.definitions ≡ kept_definitions s cols → left.columns ≡ s.columns - length (with_dependents s cols)
    → systems ≡ map (system_of left.columns left.definitions) lists → All (λ t. IsNormal t.rows) systems
    → AreFewDifferences (size.bits + length cols) lists → AreOfSize (drop_size (length cols) size) systems
size_dropped size s cols left lists systems of kept columns is normal few = rw is (record {
  few = let one = of.some in let count = length-map lists (system_of left.columns left.definitions) in let f = few.few in omega arith;
  each = λ k d l. All-map (IsDifferenceSystem (size.columns - length cols) (size.bits + length cols)) (system_of left.columns left.definitions) lists
      (λ i e m. record {
        narrow = let n = of.rows.narrow in let g = ap (λ (xs : List ℕ). length xs) (gone_plain s cols plain) in omega arith;
        undefined = kept ∙ kept_plain s cols plain;
        normal = All-unmapped (λ t. IsNormal t.rows) (system_of left.columns left.definitions) lists (rw is at normal) i e m;
        rows = few.rows i e m;
      }) k d l;
})
  where
    plain : s.definitions ≡ []
    plain = of.rows.undefined

-- ---- one column of a system without definitions
pub plain_free_columns : (s : System) → s.definitions ≡ [] → free_columns s ≡ s.columns
plain_free_columns s e = let n = ap (λ (ds : List Definition). length ds) e in omega arith

pub plain_differences : (g : Gauge) (s : System) (bits : ℕ) → IsSystemWithin g s → IsPlainDifference s bits → IsNormal s.rows
    → AreDifferences g s.columns bits s.rows
plain_differences g s bits w p n = record {
  proper = λ k d l. record { formed = w.rows k d l; within = w.within k d l };
  normal = n;
  differences = p.rows;
}

few_option : (bits : ℕ) (found : Option (List Row)) → IfSome found (All (IsDifferenceRow bits))
    → AreFewDifferences bits (option_to_list found)
few_option bits None h = few_none bits
few_option bits (Some rows) h = few_one bits rows h

pub one_column_tame : {A : Type 0} (items : A → List (List Row)) (g h : Gauge) (bits columns col count : ℕ) (rows : List Row)
    (result : Result A Cut)
    → col < columns → count ≡ 1 → g.bits ≡ 127 → bits + count ≤ 120 → AreDifferences g columns bits rows
    → IsTameColumn g h rows col result
    → (IsExactColumn col rows → ¬ HasEquality col rows → IfOk result (λ a. items a ≡ option_to_list (exact_rows rows col)))
    → (HasEquality col rows → IfOk result (λ a. items a ≡ option_to_list (solved_rows rows col)))
    → IsTame (count * (columns * columns)) g h (λ a. AreFewDifferences (bits + count) (items a)) result
one_column_tame {A = A} items g h bits columns col count rows result inside one full room are p exact solved =
    let column = column_tame g columns bits col rows inside are h result full (omega (arith, room, one)) p in
    let units : count * (columns * columns) ≡ columns * columns = ap (λ n. n * (columns * columns)) one ∙ omega arith in
    record {
      within = answered_more (columns * columns) (count * (columns * columns)) g h result (omega arith) column.within;
      numbers = column.numbers;
      answer = elim (equality_or_none col rows) [
        | inl has ↦ by result (solved_rows rows col) (solved_differences g columns bits col rows inside are) (solved has)
        | inr none ↦ by result (exact_rows rows col) (exact_differences g columns bits col rows inside are)
            (exact (exact_column g columns bits col rows inside are) none)
      ];
    }
  where
    by : (result : Result A Cut) (found : Option (List Row)) → IfSome found (All (IsDifferenceRow (bits + 1)))
        → IfOk result (λ a. items a ≡ option_to_list found) → IfOk result (λ a. AreFewDifferences (bits + count) (items a))
    by (Ok a) found h e = rw (one, e) (few_option (bits + 1) found h)
    by (Err cut) found h e = tt

-- ---- rows with those of the definitions
pub plain_rows : (s : System) → s.definitions ≡ [] → s.rows ++ definition_rows s.columns s.definitions ≡ s.rows
plain_rows s e = ap (λ (ds : List Definition). s.rows ++ definition_rows s.columns ds) e ∙ append-nil s.rows

pub plain_opened : (s : System) (cols : List ℕ) → s.definitions ≡ [] → opened_rows s cols ≡ s.rows
plain_opened s cols e =
    ap (λ (ds : List Definition). s.rows ++ definition_rows s.columns (only_from (free_columns s) cols ds)) e ∙ append-nil s.rows

-- the normal rows of difference constraints
pub normal_found : (bits : ℕ) (rows whole : List Row) (found : Option (List Row)) → All (IsDifferenceRow bits) rows → whole ≡ rows
    → found ≡ normal_rows whole
    → IfSome found (All (IsDifferenceRow bits))
normal_found bits rows whole found h same is = rw (is, same) (normal_differences bits rows (λ k d l. inl (h k d l)))

pub no_definition : (s : System) (i : ℕ) → i < length s.definitions → s.definitions ≡ [] → ⊥
no_definition s i inside e = let n = ap (λ (ds : List Definition). length ds) e in omega arith
