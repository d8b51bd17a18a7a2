-- Rows whose columns are changed by a unimodular map, one step after another.
use Rattle.std.proofs.Common.{◌≡◌, ◌≢◌, ◌↔◌, ◌∙◌, sym, subst, arith, ℕ, ◌<◌, ℤ, pos, ◌+ℤ◌, ◌-ℤ◌, ◌*ℤ◌, List, length, map, get_or, set}
use Rattle.std.proofs.Common.{get_or-set_other}
use Rattle.std.specs.Prelude.{Bool, IsTrue, IfSome, MatchOption, MatchResult, None, Ok, Err, Option, Result, Some}
use Rattle.std.specs.List.{All}
use Rattle.std.proofs.lemmas.List.{length-set}
use Rattle.std.proofs.lemmas.List.Elements.{All-map}
use Rattle.isl_math.specs.Dot.{dot}
use Rattle.isl_math.proofs.DotLaws.{dot-set, dot-set_left}
use Rattle.isl_math.proofs.ListLaws.{All-unmapped}
use Rattle.isl_math.proofs.Ring.{expand, linear}
use Rattle.isl_meter.specs.Gauge.{Gauge, IsCharged, IsCutBy}
use Rattle.isl_meter.specs.declared.Cut.{Cut}
use Rattle.isl_piece.specs.declared.row.Row.{Row}
use Rattle.isl_piece.specs.Normal.{IsNormal}
use Rattle.isl_piece.specs.Row.{HoldsRow, HoldsValue, IsRowWithin, IsWellFormed, coef_at, value_at}
use Rattle.isl_piece.specs.System.{HoldRows}
use Rattle.isl_omega.specs.Column.{IsProper}
use Rattle.isl_presolve.specs.Emptiness.{HoldNowhere}
use Rattle.isl_presolve.specs.Shear.{sheared, AreSheared, IsReduction}

-- ---- one row
-- a point, and one with so many times the number at `to` added to, or taken from, the one at `from`
there : ℕ → ℕ → ℤ → List ℤ → List ℤ
there from to times xs = set xs from (get_or xs from (pos 0) +ℤ times *ℤ get_or xs to (pos 0))

back : ℕ → ℕ → ℤ → List ℤ → List ℤ
back from to times xs = set xs from (get_or xs from (pos 0) -ℤ times *ℤ get_or xs to (pos 0))

length_there : (from to : ℕ) (times : ℤ) (xs : List ℤ) → length (there from to times xs) ≡ length xs
unfolding there
length_there from to times xs = length-set xs from _

length_back : (from to : ℕ) (times : ℤ) (xs : List ℤ) → length (back from to times xs) ≡ length xs
unfolding back
length_back from to times xs = length-set xs from _

value_there : (r : Row) (from to : ℕ) (times : ℤ) (xs : List ℤ) → from < length xs → to < length r.coefs
    → value_at (sheared from to times r) xs ≡ value_at r (there from to times xs)
unfolding there
value_there r from to times xs i j =
    by (coef_at r to) (coef_at r from) (get_or xs to (pos 0)) (get_or xs from (pos 0)) times (dot r.coefs xs) _ _ r.constant
    (dot-set_left r.coefs xs to (coef_at r to +ℤ times *ℤ coef_at r from) j)
    (dot-set r.coefs xs from (get_or xs from (pos 0) +ℤ times *ℤ get_or xs to (pos 0)) i)
  where
    by : (t f y x q d one two c : ℤ) → one ≡ d +ℤ (t +ℤ q *ℤ f -ℤ t) *ℤ y → two ≡ d +ℤ f *ℤ (x +ℤ q *ℤ y -ℤ x) → one +ℤ c ≡ two +ℤ c
    by t f y x q d one two c h k = let a = simp expand at h in let b = simp expand at k in simp expand (omega (arith, linear))

value_back : (r : Row) (from to : ℕ) (times : ℤ) (xs : List ℤ) → from < length xs → to < length r.coefs → from ≢ to
    → value_at (sheared from to times r) (back from to times xs) ≡ value_at r xs
unfolding back
value_back r from to times xs i j n =
    let new = set xs from (get_or xs from (pos 0) -ℤ times *ℤ get_or xs to (pos 0)) in
    by (coef_at r to) (coef_at r from) (get_or xs to (pos 0)) (get_or new to (pos 0)) (get_or xs from (pos 0)) times (dot r.coefs xs) _ _
    r.constant
    (get_or-set_other xs from to _ (pos 0) (λ e. n (sym e)))
    (dot-set_left r.coefs new to (coef_at r to +ℤ times *ℤ coef_at r from) j)
    (dot-set r.coefs xs from (get_or xs from (pos 0) -ℤ times *ℤ get_or xs to (pos 0)) i)
  where
    by : (t f y z x q d one two c : ℤ) → z ≡ y → one ≡ two +ℤ (t +ℤ q *ℤ f -ℤ t) *ℤ z → two ≡ d +ℤ f *ℤ (x -ℤ q *ℤ y -ℤ x)
        → one +ℤ c ≡ d +ℤ c
    by t f y z x q d one two c e h k =
        let a = simp expand at (rw e at h) in let b = simp expand at k in simp expand (omega (arith, linear))

-- ---- all rows
widths : (g : Gauge) (columns : ℕ) (rows : List Row) → All (IsProper g columns) rows → All (λ r. length r.coefs ≡ columns) rows
widths g columns rows p = λ k d i. (p k d i).formed.width

pub nowhere_sheared : (columns from to : ℕ) (times : ℤ) (rows : List Row) → from < columns → to < columns → from ≢ to
    → All (λ r. length r.coefs ≡ columns) rows → HoldNowhere columns (map (sheared from to times) rows) ↔ HoldNowhere columns rows
nowhere_sheared columns from to times rows i j n w = (
  (λ none xs l h. none (back from to times xs) (length_back from to times xs ∙ l)
      (All-map (λ r. HoldsRow r (back from to times xs)) (sheared from to times) rows
      (λ k d m. let r = get_or rows k d in
      subst (HoldsValue r.kind r.k) (sym (value_back r from to times xs (omega arith) (let e = w k d m in omega arith) n)) (h k d m)))),
  (λ none xs l h. none (there from to times xs) (length_there from to times xs ∙ l)
      (λ k d m. let r = get_or rows k d in
      subst (HoldsValue r.kind r.k) (value_there r from to times xs (omega arith) (let e = w k d m in omega arith))
      (All-unmapped (λ r. HoldsRow r xs) (sheared from to times) rows h k d m))),
)

-- ---- one step after another
pub sheared_first : (g : Gauge) (columns : ℕ) (rows : List Row) → All (IsProper g columns) rows → AreSheared g columns rows rows
sheared_first g columns rows p = record { proper = p; nowhere = ((λ h. h), (λ h. h)) }

pub sheared_next : (g : Gauge) (columns from to : ℕ) (times : ℤ) (old now new : List Row) → from < columns → to < columns → from ≢ to
    → AreSheared g columns old now → new ≡ map (sheared from to times) now → All (IsRowWithin g) new → AreSheared g columns old new
sheared_next g columns from to times old now new i j n s e w =
    let both = nowhere_sheared columns from to times now i j n (widths g columns now s.proper) in
    let formed : All (IsWellFormed columns) (map (sheared from to times) now) =
    All-map (IsWellFormed columns) (sheared from to times) now (λ k d m. let f = (s.proper k d m).formed in
    record { width = length-set (get_or now k d).coefs to _ ∙ f.width; modulus = f.modulus }) in
    let made : All (IsWellFormed columns) new = rw e formed in
    record {
      proper = λ k d m. record { formed = made k d m; within = w k d m };
      nowhere = rw e ((λ h. s.nowhere.0 (both.0 h)), (λ h. both.1 (s.nowhere.1 h)));
    }

-- ---- made normal
pub reduction_normal : (g : Gauge) (columns : ℕ) (old short new : List Row) → AreSheared g columns old short
    → ((point : List ℤ) → HoldRows new point ↔ HoldRows short point) → IsNormal new → All (IsWellFormed columns) new
    → All (IsRowWithin g) new
    → IsReduction g columns old new
reduction_normal g columns old short new s same n f w = record {
  are = record {
    proper = λ k d i. record { formed = f k d i; within = w k d i };
    nowhere = (
      (λ none. s.nowhere.0 (λ point l h. none point l ((same point).1 h))),
      (λ none point l h. s.nowhere.1 none point l ((same point).0 h)),
    );
  };
  normal = n;
}

pub reduction_none : (g : Gauge) (columns : ℕ) (old short : List Row) → AreSheared g columns old short
    → ((point : List ℤ) → ¬ HoldRows short point) → HoldNowhere columns old
reduction_none g columns old short s none = s.nowhere.0 (λ point l. none point)

pub reduction_found : (g : Gauge) (columns : ℕ) (old short : List Row) (found : Option (List Row)) → AreSheared g columns old short
    → ((point : List ℤ) → MatchOption found (¬ HoldRows short point) (λ kept. HoldRows kept point ↔ HoldRows short point))
    → IfSome found IsNormal → IfSome found (All (IsWellFormed columns)) → IfSome found (All (IsRowWithin g))
    → MatchOption found (HoldNowhere columns old) (IsReduction g columns old)
reduction_found g columns old short None s p n f w = reduction_none g columns old short s p
reduction_found g columns old short (Some new) s p n f w = reduction_normal g columns old short new s p n f w

pub formed_sheared : (g : Gauge) (columns : ℕ) (old new : List Row) → AreSheared g columns old new → All (IsWellFormed columns) new
formed_sheared g columns old new s = λ k d i. (s.proper k d i).formed

-- ---- emptiness of the reduced rows
pub reduction_after : (g h : Gauge) (columns : ℕ) (old new : List Row) (result : Result Bool Cut) → IsReduction g columns old new
    → MatchResult result (λ empty. (IsTrue empty ↔ HoldNowhere columns new) × IsCharged g h) (IsCutBy g h)
    → MatchResult result (λ empty. (IsTrue empty ↔ HoldNowhere columns old) × IsCharged g h) (IsCutBy g h)
reduction_after g h columns old new (Ok empty) r m =
    (((λ t. r.are.nowhere.0 (m.0.0 t)), (λ none. m.0.1 (r.are.nowhere.1 none))), m.1)
reduction_after g h columns old new (Err cut) r m = m

-- the answer is such rows
pub reduction_some : (g : Gauge) (columns : ℕ) (old new : List Row) (found : Option (List Row)) → found ≡ Some new
    → MatchOption found (HoldNowhere columns old) (IsReduction g columns old) → IsReduction g columns old new
reduction_some g columns old new found e f = rw e at f
