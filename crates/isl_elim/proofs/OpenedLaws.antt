-- What opened rows say of their system.
use Rattle.std.proofs.Common.{◌≡◌, ◌↔◌, ◌∙◌, refl, sym, ap, subst, [], ◌∷◌, ◌++◌, Bool, true, false, cond, arith, ℕ, suc, ◌+◌, ◌-◌, ◌<◌, ◌≤◌, ℤ, pos, negsuc, neg_ℤ, ◌-ℤ◌, ◌*ℤ◌, ◌<ℤ◌, List, length, length-append, take, get_or, replicate}
use Rattle.std.specs.Prelude.{IsTrue, Result, Ok, Err, IfOk, MatchResult}
use Rattle.std.specs.List.{All}
use Rattle.std.proofs.lemmas.List.{length-take-le, length-map, length-replicate, take_more, take_all, append_assoc, append-nil}
use Rattle.std.proofs.lemmas.List.Elements.{All-take, All-append, All-cons, All-nil, All-map, All-replicate}
use Rattle.isl_math.specs.Dot.{scaled}
use Rattle.isl_math.proofs.Ring.{linear}
use Rattle.isl_meter.proofs.LimitLemmas.{IsWithin-zero}
use Rattle.isl_piece.specs.declared.definition.Definition.{Definition}
use Rattle.isl_piece.specs.Definition.{IsDefinition}
use Rattle.isl_piece.proofs.DefinedLaws.{definition_at}
use Rattle.isl_omega.specs.Column.{IsProper}
use Rattle.isl_meter.specs.Gauge.{Gauge, IsWithin}
use Rattle.isl_meter.specs.declared.Cut.{Cut}
use Rattle.isl_piece.specs.declared.row.Row.{Row}
use Rattle.isl_piece.specs.declared.system.System.{System}
use Rattle.isl_piece.specs.Normal.{IsNormal}
use Rattle.isl_piece.specs.Row.{IsWellFormed, IsRowWithin}
use Rattle.isl_piece.specs.System.{HoldRows, HoldsSystem, IsSystemWithin, free_columns}
use Rattle.isl_presolve.specs.Emptiness.{HoldNowhere}
use Rattle.isl_elim.specs.Opened.{AreOpened, padded, least_row, most_row, definition_rows, only_from}
use Rattle.isl_elim.proofs.DefiningLaws.{definition_rows-append, definition_rows-more, all_opened, all_opened_back}
use Rattle.isl_elim.proofs.OthersLaws.{among}
use Rattle.isl_elim.specs.Sample.{IsSample, IsNowhere}
use Rattle.isl_elim.proofs.ProjectionLaws.{plain_free, plain_holds}

pub opened_nowhere : (g : Gauge) (s : System) (rows : List Row) → AreOpened g s rows → HoldNowhere s.columns rows ↔ IsNowhere (free_columns s) (HoldsSystem s)
opened_nowhere g s rows o = (
  (λ n point l h. let w = o.back point l h in n w.0 w.1 w.2),
  (λ n whole l h. n (take (free_columns s) whole) (length-take-le (free_columns s) whole (omega (arith, l))) (o.forth whole l h)),
)

pub opened_sample : (g : Gauge) (s : System) (rows : List Row) (whole : List ℤ) → AreOpened g s rows → IsSample g s.columns (HoldRows rows) whole → IsSample g (free_columns s) (HoldsSystem s) (take (free_columns s) whole)
opened_sample g s rows whole o p = record {
  width = let l = p.width in length-take-le (free_columns s) whole (omega (arith, l));
  within = All-take (IsWithin g) (free_columns s) whole p.within;
  holds = o.forth whole p.width p.holds;
}

pub plain_nowhere : (s : System) (columns : ℕ) → s.definitions ≡ [] → s.columns ≡ columns → HoldNowhere columns s.rows ↔ IsNowhere (free_columns s) (HoldsSystem s)
plain_nowhere s columns e n = let free = plain_free s e ∙ n in (
  (λ all point l h. all point (l ∙ free) ((plain_holds s point e).0 h)),
  (λ all point l h. all point (l ∙ sym free) ((plain_holds s point e).1 h)),
)

-- an answer for the one is one for the other
pub decided : (A B M : Type 0) (N : Cut → Type 0) (result : Result Bool Cut) → A ↔ B → MatchResult result (λ empty. (IsTrue empty ↔ A) × M) N → IfOk result (λ empty. IsTrue empty ↔ B)
decided A B M N (Ok empty) s r = ((λ t. s.0 (r.0.0 t)), (λ x. r.0.1 (s.1 x)))
decided A B M N (Err cut) s r = tt

pub ruleset opened_steps = (opened_nowhere, opened_sample)

-- ---- the rows of a definition
pub negatives_more : (numbers : List ℤ) (i : ℕ) → i < length numbers → scaled (negsuc 0) (take (i + 1) numbers) ≡ scaled (negsuc 0) (take i numbers) ++ neg_ℤ (get_or numbers i (pos 0)) ∷ []
negatives_more numbers i l = ap (scaled (negsuc 0)) (take_more numbers i (pos 0) l) ∙ append (take i numbers) (get_or numbers i (pos 0))
  where
    append : (xs : List ℤ) (x : ℤ) → scaled (negsuc 0) (xs ++ x ∷ []) ≡ scaled (negsuc 0) xs ++ neg_ℤ x ∷ []
    append [] x = ap (λ (y : ℤ). y ∷ []) (omega (arith, linear))
    append (y ∷ xs) x = ap (λ (ys : List ℤ). (negsuc 0 *ℤ y) ∷ ys) (append xs x)

neg_within : (g : Gauge) (z : ℤ) → IsWithin g z → IsWithin g (neg_ℤ z)
neg_within g z w = omega (arith, linear)

times_within : (g : Gauge) (z : ℤ) → IsWithin g z → IsWithin g (negsuc 0 *ℤ z)
times_within g z w = omega (arith, linear)

one_within : (g : Gauge) (k : ℤ) → pos 0 <ℤ k → IsWithin g k → IsWithin g (pos 1)
one_within g k p w = omega (arith, linear)

padded_within : (g : Gauge) (columns : ℕ) (cs : List ℤ) → All (IsWithin g) cs → All (IsWithin g) (padded columns cs)
padded_within g columns cs a = All-append (IsWithin g) cs (replicate (columns - length cs) (pos 0)) a (All-replicate (IsWithin g) (columns - length cs) (pos 0) (IsWithin-zero g))

padded_width : (columns : ℕ) (cs : List ℤ) → length cs ≤ columns → length (padded columns cs) ≡ columns
padded_width columns cs l =
    let sum = length-append cs (replicate (columns - length cs) (pos 0)) in
    let zeros = length-replicate (columns - length cs) (pos 0) in
    omega (arith, sum, zeros)

pub least_proper : (g : Gauge) (columns : ℕ) (d : Definition) → IsDefinition g (length d.coefs) d → length d.coefs < columns → IsProper g columns (least_row columns d)
least_proper g columns d h l =
    let width = length-append d.coefs (neg_ℤ d.k ∷ []) in
    record {
      formed = record { width = padded_width columns (d.coefs ++ neg_ℤ d.k ∷ []) (omega (arith, width, l)); modulus = refl };
      within = record {
        coefs = padded_within g columns (d.coefs ++ neg_ℤ d.k ∷ []) (All-append (IsWithin g) d.coefs (neg_ℤ d.k ∷ []) h.coefs (All-cons (IsWithin g) (neg_ℤ d.k) [] (neg_within g d.k h.k) (All-nil (IsWithin g))));
        constant = h.constant;
        k = one_within g d.k h.modulus h.k;
      };
    }

pub most_proper : (g : Gauge) (columns : ℕ) (d : Definition) → IsDefinition g (length d.coefs) d → length d.coefs < columns → IsWithin g (d.k -ℤ pos 1 -ℤ d.constant) → IsProper g columns (most_row columns d)
most_proper g columns d h l w =
    let opposite = scaled (negsuc 0) d.coefs in
    let same = length-map d.coefs (λ (z : ℤ). negsuc 0 *ℤ z) in
    let width = length-append opposite (d.k ∷ []) in
    record {
      formed = record { width = padded_width columns (opposite ++ d.k ∷ []) (omega (arith, width, same, l)); modulus = refl };
      within = record {
        coefs = padded_within g columns (opposite ++ d.k ∷ [])
            (All-append (IsWithin g) opposite (d.k ∷ []) (All-map (IsWithin g) (λ (z : ℤ). negsuc 0 *ℤ z) d.coefs (λ i z m. times_within g (get_or d.coefs i z) (h.coefs i z m))) (All-cons (IsWithin g) d.k [] h.k (All-nil (IsWithin g))));
        constant = w;
        k = one_within g d.k h.modulus h.k;
      };
    }

pub definition_proper : (g : Gauge) (columns : ℕ) (d : Definition) (rows : List Row) → IsDefinition g (length d.coefs) d → length d.coefs < columns → IsWithin g (d.k -ℤ pos 1 -ℤ d.constant) → All (IsProper g columns) rows
    → All (IsProper g columns) (rows ++ least_row columns d ∷ most_row columns d ∷ [])
definition_proper g columns d rows h l w a =
    All-append (IsProper g columns) rows (least_row columns d ∷ most_row columns d ∷ []) a
    (All-cons (IsProper g columns) (least_row columns d) (most_row columns d ∷ []) (least_proper g columns d h l)
    (All-cons (IsProper g columns) (most_row columns d) [] (most_proper g columns d h l w) (All-nil (IsProper g columns))))

pub ruleset row_steps = (negatives_more, definition_proper)

-- ---- one definition after another
pub definition_inside : (g : Gauge) (s : System) (i : ℕ) (d : Definition) → IsSystemWithin g s → i < length s.definitions → d ≡ get_or s.definitions i d → IsDefinition g (length d.coefs) d × (length d.coefs < s.columns)
definition_inside g s i d w l at =
    let c = w.count in
    let here : IsDefinition g (free_columns s + i) d = subst (IsDefinition g (free_columns s + i)) (sym at) (definition_at g (free_columns s) s.definitions i d w.definitions l) in
    let width = here.width in
    (rw width here, omega (arith, width, l, c))

only-append : (i : ℕ) (cols : List ℕ) (xs ys : List Definition) → only_from i cols (xs ++ ys) ≡ only_from i cols xs ++ only_from (i + length xs) cols ys
only-append i cols [] ys = ap (λ (j : ℕ). only_from j cols ys) (omega arith)
only-append i cols (x ∷ xs) ys =
    by (among i cols) x (only_from (suc i) cols (xs ++ ys)) (only_from (suc i) cols xs) (only_from (i + suc (length xs)) cols ys)
    (only-append (suc i) cols xs ys ∙ ap (λ (j : ℕ). only_from (suc i) cols xs ++ only_from j cols ys) (omega arith))
  where
    by : (b : Bool) (x : Definition) (u v w : List Definition) → u ≡ v ++ w → cond b (x ∷ u) u ≡ cond b (x ∷ v) v ++ w
    by true x u v w e = ap (λ (zs : List Definition). x ∷ zs) e
    by false x u v w e = e

only_at : (s : System) (cols : List ℕ) (i : ℕ) (d : Definition) → i < length s.definitions
    → only_from (free_columns s) cols (take (i + 1) s.definitions) ≡ only_from (free_columns s) cols (take i s.definitions) ++ only_from (free_columns s + i) cols (get_or s.definitions i d ∷ [])
only_at s cols i d l =
    let n = length-take-le i s.definitions (omega arith) in
    ap (only_from (free_columns s) cols) (take_more s.definitions i d l) ∙ only-append (free_columns s) cols (take i s.definitions) (get_or s.definitions i d ∷ [])
    ∙ ap (λ (k : ℕ). only_from (free_columns s) cols (take i s.definitions) ++ only_from (free_columns s + k) cols (get_or s.definitions i d ∷ [])) n

pub only_more : (s : System) (cols : List ℕ) (i : ℕ) (d : Definition) → i < length s.definitions → among (free_columns s + i) cols ≡ true
    → s.rows ++ definition_rows s.columns (only_from (free_columns s) cols (take (i + 1) s.definitions))
    ≡ (s.rows ++ definition_rows s.columns (only_from (free_columns s) cols (take i s.definitions))) ++ least_row s.columns (get_or s.definitions i d) ∷ most_row s.columns (get_or s.definitions i d) ∷ []
only_more s cols i d l e =
    let one = get_or s.definitions i d in
    let before = only_from (free_columns s) cols (take i s.definitions) in
    let same : only_from (free_columns s) cols (take (i + 1) s.definitions) ≡ before ++ one ∷ [] = only_at s cols i d l ∙ (rw e refl) in
    ap (λ (ds : List Definition). s.rows ++ definition_rows s.columns ds) same
    ∙ ap (λ (more : List Row). s.rows ++ more) (definition_rows-append s.columns before one)
    ∙ sym (append_assoc s.rows (definition_rows s.columns before) (least_row s.columns one ∷ most_row s.columns one ∷ []))

pub only_same : (s : System) (cols : List ℕ) (i : ℕ) (d : Definition) → i < length s.definitions → among (free_columns s + i) cols ≡ false
    → s.rows ++ definition_rows s.columns (only_from (free_columns s) cols (take (i + 1) s.definitions)) ≡ s.rows ++ definition_rows s.columns (only_from (free_columns s) cols (take i s.definitions))
only_same s cols i d l e =
    let before = only_from (free_columns s) cols (take i s.definitions) in
    ap (λ (ds : List Definition). s.rows ++ definition_rows s.columns ds) (only_at s cols i d l ∙ (rw e (append-nil before)))

pub ruleset opening_steps = (row_steps, definition_inside, only_more, only_same)

-- ---- what was opened
pub opened_none : (g : Gauge) (s : System) → IsSystemWithin g s → ((point : List ℤ) → ¬ HoldRows (s.rows ++ definition_rows s.columns s.definitions) point) → IsNowhere (free_columns s) (HoldsSystem s)
opened_none g s w none point l h = let x = all_opened_back g s point w l h in none x.0 x.2

pub opened_some : (g : Gauge) (s : System) (rows : List Row) → IsSystemWithin g s → All (IsWellFormed s.columns) rows → All (IsRowWithin g) rows → IsNormal rows
    → ((point : List ℤ) → HoldRows rows point ↔ HoldRows (s.rows ++ definition_rows s.columns s.definitions) point) → AreOpened g s rows
opened_some g s rows w f i n same = record {
  proper = λ k d m. record { formed = f k d m; within = i k d m };
  normal = n;
  forth = λ whole l h. all_opened g s whole w l ((same whole).0 h);
  back = λ point l h. let x = all_opened_back g s point w l h in (x.0, x.1, (same x.0).1 x.2);
}

pub rows_opened_nowhere : (g : Gauge) (s : System) (rows : List Row) → IsSystemWithin g s
    → rows ≡ s.rows ++ definition_rows s.columns s.definitions → HoldNowhere s.columns rows ↔ IsNowhere (free_columns s) (HoldsSystem s)
rows_opened_nowhere g s rows w e = (
  (λ n point l h. let x = all_opened_back g s point w l h in n x.0 x.1 (subst (λ (r : List Row). HoldRows r x.0) (sym e) x.2)),
  (λ n whole l h. n (take (free_columns s) whole) (length-take-le (free_columns s) whole (omega (arith, l)))
      (all_opened g s whole w l (subst (λ (r : List Row). HoldRows r whole) e h))),
)

-- ---- answers
pub two_pushed : (rows first second : List Row) (a b x y : Row) → first ≡ rows ++ a ∷ [] → second ≡ first ++ b ∷ [] → a ≡ x → b ≡ y → second ≡ rows ++ x ∷ y ∷ []
two_pushed rows first second a b x y e f m n =
    f ∙ ap (λ (r : List Row). r ++ b ∷ []) e ∙ append_assoc rows (a ∷ []) (b ∷ []) ∙ ap (λ (z : Row). rows ++ z ∷ b ∷ []) m ∙ ap (λ (z : Row). rows ++ x ∷ z ∷ []) n

pub opened_step : (s : System) (i : ℕ) (d : Definition) (rows new : List Row) → i < length s.definitions → d ≡ get_or s.definitions i d → rows ≡ s.rows ++ definition_rows s.columns (take i s.definitions)
    → new ≡ rows ++ least_row s.columns d ∷ most_row s.columns d ∷ [] → new ≡ s.rows ++ definition_rows s.columns (take (i + 1) s.definitions)
opened_step s i d rows new l at is e =
    e ∙ ap (λ (r : List Row). r ++ least_row s.columns d ∷ most_row s.columns d ∷ []) is
    ∙ ap (λ (o : Definition). (s.rows ++ definition_rows s.columns (take i s.definitions)) ++ least_row s.columns o ∷ most_row s.columns o ∷ []) at ∙ sym (definition_rows-more s.columns s.rows s.definitions i d l)

pub opened_end : (s : System) (i : ℕ) (rows : List Row) → i ≡ length s.definitions → rows ≡ s.rows ++ definition_rows s.columns (take i s.definitions) → rows ≡ s.rows ++ definition_rows s.columns s.definitions
opened_end s i rows l is = is ∙ ap (λ (ds : List Definition). s.rows ++ definition_rows s.columns ds) (take_all i s.definitions (omega (arith, l)))

pub only_step : (s : System) (cols : List ℕ) (i : ℕ) (d : Definition) (rows new : List Row) → i < length s.definitions → among (free_columns s + i) cols ≡ true → d ≡ get_or s.definitions i d
    → rows ≡ s.rows ++ definition_rows s.columns (only_from (free_columns s) cols (take i s.definitions)) → new ≡ rows ++ least_row s.columns d ∷ most_row s.columns d ∷ []
    → new ≡ s.rows ++ definition_rows s.columns (only_from (free_columns s) cols (take (i + 1) s.definitions))
only_step s cols i d rows new l m at is e =
    e ∙ ap (λ (r : List Row). r ++ least_row s.columns d ∷ most_row s.columns d ∷ []) is
    ∙ ap (λ (o : Definition). (s.rows ++ definition_rows s.columns (only_from (free_columns s) cols (take i s.definitions))) ++ least_row s.columns o ∷ most_row s.columns o ∷ []) at ∙ sym (only_more s cols i d l m)
