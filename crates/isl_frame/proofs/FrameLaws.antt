-- Frames over one variable more.
use Rattle.std.proofs.Common.{◌≡◌, refl, sym, ap, ◌∙◌, subst, arith, ℕ, zero, suc, ◌+◌, ◌≤◌, ℤ, pos, ◌+ℤ◌, ◌*ℤ◌}
use Rattle.std.proofs.Common.{List, [], ◌∷◌, ◌++◌, length, get_or, map, length-append}
use Rattle.std.specs.Prelude.{replicate}
use Rattle.std.specs.List.{All, remove}
use Rattle.std.proofs.lemmas.List.{length-replicate, map-append}
use Rattle.std.proofs.lemmas.List.Elements.{All-append, All-cons, All-map, All-nil}
use Rattle.isl_math.specs.Divide.{floor_div}
use Rattle.isl_math.specs.Dot.{dot}
use Rattle.isl_math.proofs.DivideLaws.{exact_quotient, one-Divides}
use Rattle.isl_math.proofs.DotLaws.{dot-append, dot-zeros}
use Rattle.isl_math.proofs.ListLaws.{All-parts}
use Rattle.isl_math.proofs.Ring.{linear}
use Rattle.isl_meter.specs.Gauge.{Gauge, IsWithin}
use Rattle.isl_meter.proofs.LimitLemmas.{IsWithin-small}
use Rattle.isl_piece.specs.declared.row.RowKind.TheVariants.{Divides}
use Rattle.isl_piece.specs.declared.row.Row.{Row}
use Rattle.isl_piece.specs.Row.{value_at, HoldsRow, IsRowWithin, IsWellFormed}
use Rattle.isl_piece.specs.System.{HoldRows, widened}
use Rattle.isl_piece.proofs.DefinedLaws.{widened_hold}
use Rattle.isl_frame.proofs.SolvedLaws.{remove_long, without_last}
use Rattle.isl_frame.specs.Frame.{column_at, columns_at, own_column, IsFrame, IsOwnFrame, IsWithVariable}

-- ---- rows that do not name the last variable
value_widened : (r : Row) (point : List ℤ) (x : ℤ) → length r.coefs ≡ length point
    → value_at (widened r) (point ++ x ∷ []) ≡ value_at r point
value_widened r point x e =
    by (dot (r.coefs ++ pos 0 ∷ []) (point ++ x ∷ [])) (dot r.coefs point) x r.constant (dot-append r.coefs (pos 0 ∷ []) point (x ∷ []) e)
  where
    by : (whole first x constant : ℤ) → whole ≡ first +ℤ (pos 0 *ℤ x +ℤ pos 0) → whole +ℤ constant ≡ first +ℤ constant
    by whole first x constant h = omega (arith, linear, h)

pub widened_formed : (variables : ℕ) (r : Row) → IsWellFormed variables r → IsWellFormed (variables + 1) (widened r)
widened_formed variables r h =
    record { width = length-append r.coefs (pos 0 ∷ []) ∙ ap (λ n. n + 1) h.width; modulus = h.modulus }

pub widened_within : (g : Gauge) (r : Row) → IsRowWithin g r → IsWithin g (pos 0) → IsRowWithin g (widened r)
widened_within g r h none = record {
  coefs = All-append (IsWithin g) r.coefs (pos 0 ∷ []) h.coefs (All-cons (IsWithin g) (pos 0) [] none (All-nil (IsWithin g)));
  constant = h.constant;
  k = h.k;
}

-- ---- the last variable
own_formed : (variables : ℕ) → IsWellFormed (variables + 1) (own_column variables)
own_formed variables = record {
  width = length-append (replicate variables (pos 0)) (pos 1 ∷ []) ∙ ap (λ n. n + 1) (length-replicate variables (pos 0));
  modulus = omega (arith, linear);
}

own_value : (variables : ℕ) (point : List ℤ) (x : ℤ) → length point ≡ variables → value_at (own_column variables) (point ++ x ∷ []) ≡ x
own_value variables point x long =
    by (dot (replicate variables (pos 0) ++ pos 1 ∷ []) (point ++ x ∷ [])) (dot (replicate variables (pos 0)) point) x
    (dot-append (replicate variables (pos 0)) (pos 1 ∷ []) point (x ∷ []) (length-replicate variables (pos 0) ∙ sym long))
    (dot-zeros variables point)
  where
    by : (whole first x : ℤ) → whole ≡ first +ℤ (pos 1 *ℤ x +ℤ pos 0) → first ≡ pos 0 → whole +ℤ pos 0 ≡ x
    by whole first x h none = omega (arith, linear, h, none)

own_number : (variables : ℕ) (point : List ℤ) (x : ℤ) → length point ≡ variables → column_at (point ++ x ∷ []) (own_column variables) ≡ x
own_number variables point x long =
    by (value_at (own_column variables) (point ++ x ∷ [])) x (own_value variables point x long)
  where
    by : (z x : ℤ) → z ≡ x → floor_div z (pos 1) ≡ x
    by z x e = let q = exact_quotient (pos 1) z (omega (arith, linear)) (one-Divides z) in omega (arith, linear, q, e)

-- ---- a frame
module _ (variables : ℕ) (frame : List Row) (is : IsFrame variables frame) where
  columns_widened : (point : List ℤ) (x : ℤ) → length point ≡ variables
      → columns_at (map widened frame) (point ++ x ∷ []) ≡ columns_at frame point
  columns_widened point x long = by frame is.formed
    where
      by : (rows : List Row) → All (IsWellFormed variables) rows
          → map (column_at (point ++ x ∷ [])) (map widened rows) ≡ map (column_at point) rows
      by [] formed = refl
      by (r ∷ rows) formed = rw (
        ap (λ z. floor_div z r.k) (value_widened r point x ((formed 0 r (omega arith)).width ∙ sym long)),
        by rows (λ k d l. formed (suc k) d (omega (arith, l))),
      ) refl

  pub with_variable_is : IsWithVariable variables frame (map widened frame ++ own_column variables ∷ [])
  with_variable_is = record {
    framed = record {
      formed = All-append (IsWellFormed (variables + 1)) (map widened frame) (own_column variables ∷ [])
          (All-map (IsWellFormed (variables + 1)) widened frame (λ k d l. widened_formed variables (get_or frame k d) (is.formed k d l)))
          (All-cons (IsWellFormed (variables + 1)) (own_column variables) [] (own_formed variables) (All-nil (IsWellFormed
          (variables + 1))));
      divides = All-append (λ r. r.kind ≡ Divides) (map widened frame) (own_column variables ∷ [])
          (All-map (λ r. r.kind ≡ Divides) widened frame (λ k d l. is.divides k d l))
          (All-cons (λ r. r.kind ≡ Divides) (own_column variables) [] refl (All-nil (λ r. r.kind ≡ Divides)));
    };
    columns = λ point x long.
        map-append (column_at (point ++ x ∷ [])) (map widened frame) (own_column variables ∷ [])
        ∙ ap (λ (xs : List ℤ). xs ++ column_at (point ++ x ∷ []) (own_column variables) ∷ []) (columns_widened point x long)
        ∙ ap (λ z. columns_at frame point ++ z ∷ []) (own_number variables point x long);
    whole = λ point x long.
        let H : Row → Type 0 = λ r. HoldsRow r (point ++ x ∷ []) in
        let wide = widened_hold frame point x (subst (λ n. All (IsWellFormed n) frame) (sym long) is.formed) in (
          (λ h. wide.0 (All-parts H (map widened frame) (own_column variables ∷ []) h).0),
          (λ h. All-append H (map widened frame) (own_column variables ∷ []) (wide.1 h)
              (All-cons H (own_column variables) [] (one-Divides (value_at (own_column variables) (point ++ x ∷ []))) (All-nil H))),
        );
  }

pub variable_within : (g : Gauge) (variables : ℕ) (frame : List Row) → 8 ≤ g.bits → All (IsRowWithin g) frame
    → All (IsRowWithin g) (map widened frame ++ own_column variables ∷ [])
variable_within g variables frame wide within =
    let none : IsWithin g (pos 0) = IsWithin-small g (pos 0) wide (omega arith) in
    let one : IsWithin g (pos 1) = IsWithin-small g (pos 1) wide (omega arith) in
    All-append (IsRowWithin g) (map widened frame) (own_column variables ∷ [])
    (All-map (IsRowWithin g) widened frame (λ k d l. widened_within g (get_or frame k d) (within k d l) none))
    (All-cons (IsRowWithin g) (own_column variables) [] (record {
      coefs = All-append (IsWithin g) (replicate variables (pos 0)) (pos 1 ∷ []) (zeros variables none)
          (All-cons (IsWithin g) (pos 1) [] one (All-nil (IsWithin g)));
      constant = none;
      k = one;
    }) (All-nil (IsRowWithin g)))
  where
    zeros : (n : ℕ) → IsWithin g (pos 0) → All (IsWithin g) (replicate n (pos 0))
    zeros zero none = All-nil (IsWithin g)
    zeros (suc n) none = All-cons (IsWithin g) (pos 0) (replicate n (pos 0)) none (zeros n none)

-- ---- from none on
pub own_more : (variables : ℕ) (frame made : List Row) → IsOwnFrame variables frame → IsWithVariable variables frame made
    → made ≡ map widened frame ++ own_column variables ∷ [] → IsOwnFrame (variables + 1) made
own_more variables frame made own more exact = record {
  framed = more.framed;
  columns = λ point long. at (λ p. columns_at made p ≡ p) point long
      (λ front x e. more.columns front x e ∙ ap (λ (xs : List ℤ). xs ++ x ∷ []) (own.columns front e));
  whole = λ point long. at (HoldRows made) point long (λ front x e. (more.whole front x e).1 (own.whole front e));
  forms = rw exact (All-append (λ r. r.k ≡ pos 1) (map widened frame) (own_column variables ∷ [])
      (All-map (λ r. r.k ≡ pos 1) widened frame (λ k d l. own.forms k d l))
      (All-cons (λ r. r.k ≡ pos 1) (own_column variables) [] refl (All-nil (λ r. r.k ≡ pos 1))));
}
  where
    at : (P : List ℤ → Type 0) (point : List ℤ) → length point ≡ variables + 1
        → ((front : List ℤ) (x : ℤ) → length front ≡ variables → P (front ++ x ∷ [])) → P point
    at P point long each =
        subst P (sym (without_last point variables long))
        (each (remove point variables) (get_or point variables (pos 0)) (remove_long point variables long))
