-- Systems of what elimination of rows leaves.
use Rattle.std.proofs.Common.{◌≡◌, ◌≢◌, ◌↔◌, inl, inr, refl, sym, ap, subst, ◌∙◌, arith, true, ℕ, ℤ, List, [], ◌∷◌, ◌++◌, ◌+◌, ◌-◌, ◌<◌, ◌≤◌, length, get_or, map, pos, ◌+ℤ◌, ◌≤ℤ◌}
use Rattle.std.specs.Prelude.{Option, Result, Ok, Err, IfOk, MatchResult, AllPairs, option_to_list}
use Rattle.std.proofs.lemmas.List.{append-nil}
use Rattle.std.specs.List.{All, Any, insert, remove}
use Rattle.std.proofs.lemmas.List.Edits.{length-remove, length-insert}
use Rattle.std.proofs.lemmas.List.Elements.{All-nil, All-cons, All-head, All-tail}
use Rattle.isl_meter.specs.Gauge.{Gauge, IsCharged, IsCutBy}
use Rattle.isl_meter.specs.declared.Cut.{Cut}
use Rattle.isl_math.proofs.ListLaws.{Any-unmapped, Any-none, Any-first, Any-later, Any-cases}
use Rattle.isl_piece.specs.declared.row.Row.{Row}
use Rattle.isl_piece.specs.declared.definition.Definition.{Definition}
use Rattle.isl_piece.specs.Definition.{with_defined}
use Rattle.isl_piece.proofs.DefinedLaws.{length-with_defined}
use Rattle.isl_piece.specs.declared.system.System.{System}
use Rattle.isl_piece.specs.Normal.{IsNormal}
use Rattle.isl_piece.specs.System.{HoldRows, HoldsSystem, IsSystemWithin, free_columns}
use Rattle.isl_omega.specs.Column.{IsProper}
use Rattle.isl_shadows.specs.Column.{HoldAtAny, IsProjectionOf}
use Rattle.isl_shadows.specs.Solved.{solved_rows}
use Rattle.isl_shadows.specs.Units.{elimination_units}
use Rattle.isl_omega.specs.Equality.{HasEquality}
use Rattle.isl_shadows.proofs.EliminateLemmas.{most_not_negative}
use Rattle.isl_math.proofs.Ring.{linear}
use Rattle.isl_elim.specs.Dependents.{dependents, with_dependents, kept_definitions}
use Rattle.isl_elim.specs.Elimination.{system_of, HoldsAtAny, HoldsAlong, IsProjection, IsProjectionAlong, AddsAlong, without}
use Rattle.isl_elim.specs.Opened.{definition_rows, opened_rows}
use Rattle.isl_elim.proofs.LeftLaws.{count_left, left_forth, left_back}
use Rattle.isl_elim.proofs.KeptLaws.{only_none}
use Rattle.isl_elim.proofs.EmptinessLaws.{insert-remove}
use Rattle.isl_elim.proofs.OthersLaws.{among, among_at, without_insert, without_none, others_same}

pub any_mapped : {X Y : Type 0} (P : Y → Type 0) (f : X → Y) (xs : List X) → Any (λ x. P (f x)) xs → Any P (map f xs)
any_mapped P f [] a = absurd (Any-none (λ x. P (f x)) a)
any_mapped P f (x ∷ xs) a = elim (Any-cases (λ x. P (f x)) x xs a) [ inl h ↦ Any-first P (f x) (map f xs) h | inr h ↦ Any-later P (f x) (map f xs) (any_mapped P f xs h) ]

pub all_mapped : {X Y : Type 0} (P : Y → Type 0) (f : X → Y) (xs : List X) → All (λ x. P (f x)) xs → All P (map f xs)
all_mapped P f [] a = All-nil P
all_mapped P f (x ∷ xs) a = All-cons P (f x) (map f xs) (All-head (λ x. P (f x)) x xs a) (all_mapped P f xs (All-tail (λ x. P (f x)) x xs a))

-- the systems hold where the rows do at the full point
pub systems_hold : (columns : ℕ) (definitions : List Definition) (lists : List (List Row)) (point : List ℤ) → HoldsAtAny (map (system_of columns definitions) lists) point ↔ HoldAtAny lists (with_defined definitions point)
systems_hold columns definitions lists point = (
  (λ h. Any-unmapped (λ s. HoldsSystem s point) (system_of columns definitions) lists h),
  (λ h. any_mapped (λ s. HoldsSystem s point) (system_of columns definitions) lists h),
)

-- a system without definitions holds where its rows do
pub plain_holds : (s : System) (point : List ℤ) → s.definitions ≡ [] → HoldsSystem s point ↔ HoldRows s.rows point
plain_holds s point e = ((λ h. rw e at h), (λ h. rw e h))

pub plain_free : (s : System) → s.definitions ≡ [] → free_columns s ≡ s.columns
plain_free s e = let n = ap (λ (ds : List Definition). length ds) e in omega (arith, n)

-- ---- several columns
one_among : (col : ℕ) → among col (col ∷ []) ≡ true
one_among col = among_at (col ∷ []) 0 (omega arith)

one_without : (col : ℕ) (point : List ℤ) (x : ℤ) → col ≤ length point → without (col ∷ []) (insert point col x) ≡ point
one_without col point x i = without_insert (col ∷ []) col point x (one_among col) i ∙ ap (λ (cs : List ℕ). without cs point) (others_same col col [] refl) ∙ without_none 0 point

one_back : (columns col : ℕ) (P : List ℤ → Type 0) (point : List ℤ) → col < columns → HoldsAlong columns (col ∷ []) P point → (x : ℤ) × P (insert point col x)
one_back columns col P point i h =
    let whole = h.0 in
    let full = h.1 in
    let again = insert-remove whole col (omega (arith, full, i)) in
    let short = length-remove whole col (omega (arith, full, i)) in
    let rest = one_without col (remove whole col) (get_or whole col (pos 0)) (omega (arith, short, full, i)) in
    let at : point ≡ remove whole col = sym h.2 ∙ ap (without (col ∷ [])) (sym again) ∙ rest in
    let back : insert point col (get_or whole col (pos 0)) ≡ whole = ap (λ (xs : List ℤ). insert xs col (get_or whole col (pos 0))) at ∙ again in
    (get_or whole col (pos 0), rw back h.3)

pub along_one : (s : System) (col : ℕ) (systems : List System) → col < free_columns s → IsProjectionAlong s (col ∷ []) systems → IsProjection s col systems
along_one s col systems i p = record {
  columns = p.columns;
  points = λ point l. let same = p.points point l in (
    (λ h. one_back (free_columns s) col (HoldsSystem s) point i (same.0 h)),
    (λ x.
        let long = length-insert point col x.0 (omega (arith, l, i)) in
        same.1 (insert point col x.0, omega (arith, long, l, i), one_without col point x.0 (omega (arith, l, i)), x.1)),
  );
}

-- the rows without one column
pub adds_one : (g : Gauge) (columns col : ℕ) (rows : List Row) (lists : List (List Row)) → col < columns → IsProjectionOf columns rows col lists → All (All (IsProper g (columns - 1))) lists → All IsNormal lists
    → AddsAlong g columns (col ∷ []) (HoldRows rows) [] lists
adds_one g columns col rows lists i p f n = record {
  added = lists;
  pushed = refl;
  proper = f;
  normal = n;
  points = λ point l. let same = p point l in (
    (λ h. let x = same.0 h in
        let long = length-insert point col x.0 (omega (arith, l, i)) in
        (insert point col x.0, omega (arith, long, l, i), one_without col point x.0 (omega (arith, l, i)), x.1)),
    (λ h. same.1 (one_back columns col (HoldRows rows) point i h)),
  );
}

pub lists_one : (g : Gauge) (s : System) (gone : List ℕ) (col : ℕ) (lists : List (List Row)) → gone ≡ col ∷ [] → col < free_columns s → IsProjectionOf s.columns s.rows col lists → All (All (IsProper g (s.columns - 1))) lists → All IsNormal lists
    → AddsAlong g s.columns gone (HoldRows (opened_rows s gone)) [] lists
lists_one g s gone col lists e i p f n =
    let same : s.rows ≡ opened_rows s (col ∷ []) = sym (ap (λ (ds : List Definition). s.rows ++ definition_rows s.columns ds) (only_none (free_columns s) col s.definitions i) ∙ append-nil s.rows) in
    rw e (rw same at (adds_one g s.columns col s.rows lists (omega (arith, i)) p f n))

-- the answer for the rows is that for the system
pub answer_one : {A : Type 0} (items : A → List (List Row)) (g h : Gauge) (s : System) (gone : List ℕ) (col : ℕ) (result : Result A Cut) → gone ≡ col ∷ [] → col < free_columns s
    → IfOk result (λ a. IsProjectionOf s.columns s.rows col (items a)) → IfOk result (λ a. All (All (IsProper g (s.columns - 1))) (items a)) → IfOk result (λ a. All IsNormal (items a)) → MatchResult result (λ _. IsCharged g h) (IsCutBy g h)
    → MatchResult result (λ a. AddsAlong g s.columns gone (HoldRows (opened_rows s gone)) [] (items a) × IsCharged g h) (IsCutBy g h)
answer_one items g h s gone col (Ok a) e i p f n m = (lists_one g s gone col (items a) e i p f n, m)
answer_one items g h s gone col (Err cut) e i p f n m = m

-- what holds of the rows that solving for a column leaves, said of the column by another name
pub solved_same : {A : Type 0} (items : A → List (List Row)) (rows : List Row) (i j : ℕ) (result : Result A Cut) → i ≡ j
    → (HasEquality i rows → IfOk result (λ a. items a ≡ option_to_list (solved_rows rows i)))
    → HasEquality j rows → IfOk result (λ a. items a ≡ option_to_list (solved_rows rows j))
solved_same items rows i j result e h =
    subst (λ (c : ℕ). HasEquality c rows → IfOk result (λ a. items a ≡ option_to_list (solved_rows rows c))) e h

-- ---- the systems that are left
pub record AreLeft (g : Gauge) (s : System) (cols : List ℕ) (systems : List System) : Type 0 where
  pub projection : IsProjectionAlong s cols systems
  pub within : All (IsSystemWithin g) systems
  pub normal : All (λ t. IsNormal t.rows) systems
  pub definitions : All (λ t. t.definitions ≡ kept_definitions s cols) systems

pub systems_left : (g : Gauge) (s : System) (cols : List ℕ) (left : System) (lists : List (List Row)) (systems : List System) → IsSystemWithin g s → AllPairs (λ a b. a ≢ b) cols → All (λ c. c < free_columns s) cols
    → left.definitions ≡ kept_definitions s cols → left.columns ≡ s.columns - length (with_dependents s cols) → IsSystemWithin g left
    → AddsAlong g s.columns (with_dependents s cols) (HoldRows (opened_rows s (with_dependents s cols))) [] lists → systems ≡ map (system_of left.columns left.definitions) lists → AreLeft g s cols systems
systems_left g s cols left lists systems w d i k c v a is = rw is (record {
  projection = record {
    columns = all_mapped (λ t. free_columns t ≡ free_columns s - length cols) (system_of left.columns left.definitions) lists (λ n z l. omega (arith, count.0, same, c));
    points = λ point l.
        let full = length-with_defined left.definitions point in
        let hold = systems_hold left.columns left.definitions lists point in
        let added = a.points (with_defined left.definitions point) (omega (arith, full, l, same, count.0, count.1)) in (
          (λ h. left_forth g s cols w d i point l (rw k at (added.0 (rw whole at (hold.0 h))))),
          (λ h. hold.1 (rw whole (added.1 (rw k (left_back g s cols w d i point l h))))),
        );
  };
  within = all_mapped (IsSystemWithin g) (system_of left.columns left.definitions) lists (λ n z l. record {
    rows = λ m r o. rw c ((proper n z l m r o).formed);
    within = λ m r o. (proper n z l m r o).within;
    count = v.count;
    definitions = v.definitions;
  });
  normal = all_mapped (λ t. IsNormal t.rows) (system_of left.columns left.definitions) lists (rw whole a.normal);
  definitions = all_mapped (λ t. t.definitions ≡ kept_definitions s cols) (system_of left.columns left.definitions) lists (λ n z l. k);
})
  where
    whole : lists ≡ a.added
    whole = a.pushed

    proper : All (λ rows. All (IsProper g (s.columns - length (with_dependents s cols))) rows) lists
    proper = rw whole a.proper

    count : ((free_columns s - length cols) + length (kept_definitions s cols) ≡ s.columns - length (with_dependents s cols)) × (length cols ≤ free_columns s)
    count = count_left g s cols w d i

    same : length left.definitions ≡ length (kept_definitions s cols)
    same = ap (λ (ds : List Definition). length ds) k

pub list_of_one : (xs : List ℕ) → length xs ≡ 1 → xs ≡ get_or xs 0 0 ∷ []
list_of_one [] e = absurd (omega (arith, e))
list_of_one (x ∷ []) e = refl
list_of_one (x ∷ y ∷ xs) e = absurd (omega (arith, e))

pub if_ok : {A E : Type 0} (P Q : A → Type 0) (r : Result A E) → ((a : A) → P a → Q a) → IfOk r P → IfOk r Q
if_ok P Q (Ok a) f h = f a h
if_ok P Q (Err e) f h = h

-- ---- one column, on which no definition depends
pub gone_one : (s : System) (cols : List ℕ) (col : ℕ) → cols ≡ col ∷ [] → dependents s cols ≡ [] → with_dependents s cols ≡ col ∷ []
gone_one s cols col e none = ap (λ (more : List ℕ). cols ++ more) none ∙ append-nil cols ∙ e

pub low_one : (s : System) (cols : List ℕ) (col : ℕ) → cols ≡ col ∷ [] → All (λ c. c < free_columns s) cols → col < free_columns s
low_one s cols col e a = All-head (λ c. c < free_columns s) col [] (rw e at a)

pub left_of_one : (s : System) (cols : List ℕ) (col : ℕ) (found : Option (List Row)) (left : System) (lists : List (List Row)) (systems : List System) → with_dependents s cols ≡ col ∷ [] → left.definitions ≡ kept_definitions s cols
    → left.columns ≡ s.columns - length (with_dependents s cols) → systems ≡ map (system_of left.columns left.definitions) lists → lists ≡ option_to_list found
    → systems ≡ map (system_of (s.columns - 1) (kept_definitions s cols)) (option_to_list found)
left_of_one s cols col found left lists systems one k c is e =
    let n = ap (λ (cs : List ℕ). length cs) one in
    let columns : left.columns ≡ s.columns - 1 = omega (arith, c, n) in
    is ∙ ap (λ (m : ℕ). map (system_of m left.definitions) lists) columns ∙ ap (λ (ds : List Definition). map (system_of (s.columns - 1) ds) lists) k ∙ ap (λ (xs : List (List Row)). map (system_of (s.columns - 1) (kept_definitions s cols)) xs) e

pub none_spent : (g : Gauge) (s : System) (col : ℕ) → IsSystemWithin g s → pos g.units ≤ℤ (pos g.units +ℤ elimination_units s.rows col)
none_spent g s col w =
    let most = most_not_negative g s.columns s.rows col (λ k d i. record { formed = w.rows k d i; within = w.within k d i }) in
    omega (arith, linear)

pub ruleset projection_steps = (plain_free, plain_holds, gone_one, low_one, none_spent)
