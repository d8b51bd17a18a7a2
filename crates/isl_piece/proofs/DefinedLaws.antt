-- Full points, and systems with one more definition.
use Rattle.std.proofs.Common.{◌≡◌, ◌↔◌, refl, sym, ap, ◌∙◌, arith, subst, ℕ, zero, suc, ◌+◌, ◌-◌, ◌<◌, ◌≤◌, ℤ, pos, ◌+ℤ◌, ◌*ℤ◌, List, [], ◌∷◌, ◌++◌, length, get_or, map, take, length-append, inl, inr, to_z-of_z}
use Rattle.std.specs.List.{All, Any}
use Rattle.std.proofs.lemmas.List.{length-take-le}
use Rattle.std.proofs.lemmas.List.Elements.{All-map, All-append, All-nil, All-cons}
use Rattle.std.proofs.lemmas.List.Sums.{fold_push, fold_more}
use Rattle.isl_math.specs.Dot.{dot}
use Rattle.isl_math.proofs.DotLaws.{dot-append}
use Rattle.isl_math.proofs.ListLaws.{All-unmapped}
use Rattle.isl_math.proofs.Ring.{linear}
use Rattle.isl_meter.specs.Gauge.{Gauge, IsWithin}
use Rattle.isl_piece.specs.declared.row.Row.{Row}
use Rattle.isl_piece.specs.declared.definition.Definition.{Definition}
use Rattle.isl_piece.specs.declared.system.System.{System}
use Rattle.isl_piece.specs.Definition.{defined_value, with_next, with_defined, IsDefinition, AreDefinitions, DefinitionPassesLimit}
use Rattle.isl_piece.specs.Row.{HoldsRow, HoldsValue, value_at, IsWellFormed, IsRowWithin, FormPassesLimit}
use Rattle.isl_piece.specs.System.{HoldRows, HoldsSystem, free_columns, IsSystemWithin, SystemPassesLimit, widened, with_definition}

-- ---- full points
pub with_defined_push : (definitions : List Definition) (d : Definition) (point : List ℤ) → with_defined (definitions ++ d ∷ []) point ≡ with_next (with_defined definitions point) d
with_defined_push definitions d point = fold_push with_next point definitions d

pub with_defined_more : (definitions : List Definition) (i : ℕ) (d : Definition) (point : List ℤ) → i < length definitions
    → with_defined (take (i + 1) definitions) point ≡ with_next (with_defined (take i definitions) point) (get_or definitions i d)
with_defined_more definitions i d point l = fold_more with_next point definitions i d l

pub length-with_defined : (definitions : List Definition) (point : List ℤ) → length (with_defined definitions point) ≡ length point + length definitions
length-with_defined [] point = omega arith
length-with_defined (d ∷ definitions) point =
    let rest = length-with_defined definitions (with_next point d) in
    let one = length-append point (defined_value d point ∷ []) in
    omega arith

-- ---- definitions over the columns before them
pub definition_at : (g : Gauge) (columns : ℕ) (definitions : List Definition) (i : ℕ) (d : Definition) → AreDefinitions g columns definitions → i < length definitions
    → IsDefinition g (columns + i) (get_or definitions i d)
definition_at g columns [] i d h l = absurd (omega arith)
definition_at g columns (first ∷ definitions) zero d h l = subst (λ n. IsDefinition g n first) (omega arith) h.0
definition_at g columns (first ∷ definitions) (suc i) d h l =
    subst (λ n. IsDefinition g n (get_or definitions i d)) (omega arith) (definition_at g (suc columns) definitions i d h.1 (omega arith))

pub AreDefinitions-push : (g : Gauge) (columns : ℕ) (definitions : List Definition) (d : Definition) → AreDefinitions g columns definitions
    → IsDefinition g (columns + length definitions) d → AreDefinitions g columns (definitions ++ d ∷ [])
AreDefinitions-push g columns [] d h last = (subst (λ n. IsDefinition g n d) (omega arith) last, tt)
AreDefinitions-push g columns (first ∷ definitions) d h last =
    (h.0, AreDefinitions-push g (suc columns) definitions d h.1 (subst (λ n. IsDefinition g n d) (omega arith) last))

-- ---- one more column
value-widened : (r : Row) (xs : List ℤ) (v : ℤ) → length r.coefs ≡ length xs → value_at (widened r) (xs ++ v ∷ []) ≡ value_at r xs
value-widened r xs v e = by (dot (r.coefs ++ pos 0 ∷ []) (xs ++ v ∷ [])) (dot r.coefs xs) (dot-append r.coefs (pos 0 ∷ []) xs (v ∷ []) e)
  where
    by : (z w : ℤ) → z ≡ w +ℤ (pos 0 *ℤ v +ℤ pos 0) → z +ℤ r.constant ≡ w +ℤ r.constant
    by z w f = omega (arith, linear)

-- rows with the coefficient 0 at one more column hold where they did, with any number there
pub widened_hold : (rows : List Row) (xs : List ℤ) (v : ℤ) → All (IsWellFormed (length xs)) rows → HoldRows (map widened rows) (xs ++ v ∷ []) ↔ HoldRows rows xs
widened_hold rows xs v formed = (
  (λ h k d l. subst (HoldsValue (get_or rows k d).kind (get_or rows k d).k) (same k d l) (All-unmapped (λ r. HoldsRow r (xs ++ v ∷ [])) widened rows h k d l)),
  (λ h. All-map (λ r. HoldsRow r (xs ++ v ∷ [])) widened rows (λ k d l. subst (HoldsValue (get_or rows k d).kind (get_or rows k d).k) (sym (same k d l)) (h k d l))),
)
  where
    same : (k : ℕ) (d : Row) → k < length rows → value_at (widened (get_or rows k d)) (xs ++ v ∷ []) ≡ value_at (get_or rows k d) xs
    same k d l = value-widened (get_or rows k d) xs v (formed k d l).width

-- the system with one more definition holds where it did
pub definition_points : (s : System) (d : Definition) (point : List ℤ) → All (IsWellFormed s.columns) s.rows → length point + length s.definitions ≡ s.columns
    → HoldsSystem (with_definition s d) point ↔ HoldsSystem s point
definition_points s d point formed e =
    let full = with_defined s.definitions point in
    let wide : length full ≡ s.columns = length-with_defined s.definitions point ∙ e in
    rw (with_defined_push s.definitions d point) (widened_hold s.rows full (defined_value d full) (rw wide formed))

widened_formed : (columns : ℕ) (r : Row) → IsWellFormed columns r → IsWellFormed (columns + 1) (widened r)
widened_formed columns r h = record { width = length-append r.coefs (pos 0 ∷ []) ∙ ap (λ n. n + 1) h.width; modulus = h.modulus }

widened_within : (g : Gauge) (r : Row) → IsRowWithin g r → IsRowWithin g (widened r)
widened_within g r h = record {
  coefs = All-append (IsWithin g) r.coefs (pos 0 ∷ []) h.coefs (All-cons (IsWithin g) (pos 0) [] zero_within (All-nil (IsWithin g)));
  constant = h.constant;
  k = h.k;
}
  where
    zero_within : IsWithin g (pos 0)
    zero_within = let w = h.constant in omega arith

pub definition_within : (s : System) (d : Definition) (g : Gauge) → IsSystemWithin g s → IsDefinition g s.columns d → IsSystemWithin g (with_definition s d)
definition_within s d g h last =
    let count : length (s.definitions ++ d ∷ []) ≡ length s.definitions + 1 = length-append s.definitions (d ∷ []) in
    let free : s.columns + 1 - length (s.definitions ++ d ∷ []) ≡ free_columns s = let c = h.count in omega arith in
    let whole : free_columns s + length s.definitions ≡ s.columns = let c = h.count in omega arith in
    record {
      rows = All-map (IsWellFormed (s.columns + 1)) widened s.rows (λ k r l. widened_formed s.columns (get_or s.rows k r) (h.rows k r l));
      within = All-map (IsRowWithin g) widened s.rows (λ k r l. widened_within g (get_or s.rows k r) (h.within k r l));
      count = let c = h.count in omega arith;
      definitions = rw free (AreDefinitions-push g (free_columns s) s.definitions d h.definitions (rw whole last));
    }

-- ---- steps of the code
pub definition_here : (g h : Gauge) (definitions : List Definition) (point full : List ℤ) (i : ℕ) (d : Definition) → AreDefinitions g (length point) definitions
    → i < length definitions → d ≡ get_or definitions i d → full ≡ with_defined (take i definitions) point → h ≡ g → IsDefinition h (length full) d
definition_here g h definitions point full i d all l at is same =
    let wide : length full ≡ length point + i = ap length is ∙ length-with_defined (take i definitions) point ∙ ap (λ n. length point + n) (length-take-le i definitions (omega arith)) in
    rw (same, wide) (subst (IsDefinition g (length point + i)) (sym at) (definition_at g (length point) definitions i d all l))

pub definition_passes : (g h : Gauge) (definitions : List Definition) (point full : List ℤ) (i : ℕ) (d : Definition) → i < length definitions → d ≡ get_or definitions i d
    → full ≡ with_defined (take i definitions) point → h ≡ g → FormPassesLimit h d.coefs d.constant full → DefinitionPassesLimit g definitions point
unfolding DefinitionPassesLimit
definition_passes g h definitions point full i d l at is same f = (i, d, l, sym at, rw (← same, ← is) f)

pub passes_at_definition : (g : Gauge) (s : System) (point : List ℤ) → DefinitionPassesLimit g s.definitions point → SystemPassesLimit g s point
unfolding SystemPassesLimit
passes_at_definition g s point h = inl h

pub passes_at_row : (g h : Gauge) (s : System) (point full : List ℤ) → full ≡ with_defined s.definitions point → h ≡ g
    → Any (λ r. FormPassesLimit h r.coefs r.constant full) s.rows → SystemPassesLimit g s point
unfolding SystemPassesLimit
passes_at_row g h s point full is same f = inr (rw (← same, ← is) f)

pub full_formed : (g : Gauge) (s : System) (point full : List ℤ) → IsSystemWithin g s → length point ≡ free_columns s → full ≡ with_defined s.definitions point
    → All (IsWellFormed (length full)) s.rows
full_formed g s point full h e is =
    let wide : length full ≡ s.columns = let c = h.count in let f = ap length is ∙ length-with_defined s.definitions point in omega arith in
    rw wide h.rows

pub ruleset defined_steps = (to_z-of_z, with_defined_more, definition_here, definition_passes, passes_at_definition, passes_at_row, full_formed)
