-- The cases of towers, gathered.
use Rattle.std.proofs.Common.{◌≡◌, ◌⊎◌, ◌↔◌, inl, inr, refl, sym, ap, ◌∙◌, subst, arith, ℕ, zero, suc, ◌+◌, ◌<◌, ◌≤◌, ◌^◌, ℤ, List, [], ◌∷◌, ◌++◌, length, get_or, take}
use Rattle.std.specs.List.{All, AllZip, Any}
use Rattle.std.proofs.lemmas.List.{length-append, take_all, take_more}
use Rattle.std.proofs.lemmas.List.Elements.{All-append, All-nil, All-push, All-weaker}
use Rattle.isl_math.proofs.ListLaws.{All-zipped, AllZip-more, Any-first, Any-left, Any-none, Any-one, Any-parts, Any-right}
use Rattle.isl_meter.specs.Gauge.{Gauge}
use Rattle.isl_piece.specs.declared.definition.Definition.{Definition}
use Rattle.isl_piece.specs.declared.system.System.{System}
use Rattle.isl_piece.specs.Definition.{with_defined}
use Rattle.isl_piece.specs.System.{HoldRows, HoldsSystem, IsSystemWithin, free_columns}
use Rattle.isl_piece.proofs.FormedLaws.{system_within_kept}
use Rattle.isl_elim.specs.Elimination.{HoldsAtAny}
use Rattle.isl_tower.specs.Tower.{IsTowerOf}
use Rattle.isl_greatest_law.specs.Case.{CaseView, HoldsCase}
use Rattle.isl_greatest.specs.Problem.{ProblemView, IsCaseOf, IsCaseWithin, IsProblem}
use Rattle.isl_greatest.proofs.KeptLaws.{case_kept}
use Rattle.isl_pip_law.specs.Levels.{AreCasesAt}
use Rattle.isl_pip_law.proofs.LevelLaws.{level_of}
use Rattle.isl_pip.specs.Levels.{AreCasesOf, AreCasesOn, AreLevelsOf, ArePlainOver, AreTowersOf}

abbrev pub IsPlain : System → Type 0
IsPlain s = s.definitions ≡ []

-- one element more
pub more_is : {X : Type 0} (xs : List X) (i : ℕ) (x : X) → i < length xs → x ≡ get_or xs i x → take (i + 1) xs ≡ take i xs ++ x ∷ []
more_is {X = X} xs i x inside is = take_more xs i x inside ∙ ap (λ (y : X). take i xs ++ y ∷ []) (sym is)

pub one_of : {X : Type 0} (P : X → Type 0) (xs : List X) (i : ℕ) (x : X) → i < length xs → x ≡ get_or xs i x → All P xs → P x
one_of P xs i x inside is all = subst P (sym is) (all i x inside)

-- ---- later meters
pub systems_kept : (g h : Gauge) → h.bits ≡ g.bits → (systems : List System) → All (IsSystemWithin h) systems → All (IsSystemWithin g) systems
systems_kept g h same systems = All-weaker (IsSystemWithin h) (IsSystemWithin g) (λ s. system_within_kept g h s same) systems

pub levels_kept : (g h : Gauge) → h.bits ≡ g.bits → (levels : List (List System)) → All (All (IsSystemWithin h)) levels
    → All (All (IsSystemWithin g)) levels
levels_kept g h same levels = All-weaker (All (IsSystemWithin h)) (All (IsSystemWithin g)) (systems_kept g h same) levels

pub plain_over_kept : (g h : Gauge) → h.bits ≡ g.bits → (n : ℕ) (systems : List System) → ArePlainOver h n systems → ArePlainOver g n systems
plain_over_kept g h same n systems are = record { within = systems_kept g h same systems are.within; plain = are.plain; columns = are.columns }

-- ---- towers
pub towers_none : (g : Gauge) (front : ℕ) (systems : List System) (towers : List (List (List System))) → towers ≡ []
    → AreTowersOf g front (take 0 systems) towers
towers_none g front systems towers is = subst (AreTowersOf g front []) (sym is) (record {
  towers = tt;
  within = All-nil (All (All (IsSystemWithin g)));
  plain = All-nil (All (All IsPlain));
})

pub towers_more : (g : Gauge) (front : ℕ) (systems : List System) (i : ℕ) (s : System) (towers all : List (List (List System)))
    (levels : List (List System)) → i < length systems → s ≡ get_or systems i s → all ≡ towers ++ levels ∷ []
    → AreTowersOf g front (take i systems) towers → IsTowerOf s front levels → All (All (IsSystemWithin g)) levels → All (All IsPlain) levels
    → AreTowersOf g front (take (i + 1) systems) all
towers_more g front systems i s towers all levels inside read is so_far tower within plain =
    subst (λ (ss : List System). AreTowersOf g front ss all) (sym (more_is systems i s inside read))
    (subst (AreTowersOf g front (take i systems ++ s ∷ [])) (sym is) (record {
      towers = AllZip-more (λ t ls. IsTowerOf t front ls) (take i systems) towers s levels so_far.towers tower;
      within = All-push (All (All (IsSystemWithin g))) towers levels so_far.within within;
      plain = All-push (All (All IsPlain)) towers levels so_far.plain plain;
    }))

pub towers_all : (g : Gauge) (front : ℕ) (systems : List System) (i : ℕ) (towers : List (List (List System))) → length systems ≤ i
    → AreTowersOf g front (take i systems) towers → AreTowersOf g front systems towers
towers_all g front systems i towers end = subst (λ (ss : List System). AreTowersOf g front ss towers) (take_all i systems end)

-- ---- cases
abbrev Holds : List ℤ → CaseView → Type 0
Holds point c = HoldsCase c point

abbrev At : List ℤ → System → Type 0
At point s = HoldsSystem s point

pub cases_none : (g : Gauge) (n : ℕ) (systems : List System) (cases : List CaseView) → cases ≡ [] → AreCasesOf g n (take 0 systems) cases
cases_none g n systems cases is = subst (AreCasesOf g n []) (sym is) (record {
  within = All-nil (IsCaseWithin g n);
  points = λ point. ((λ h. absurd (Any-none (Holds point) h)), (λ h. absurd (Any-none (At point) h)));
})

holds_plain : (s : System) (point : List ℤ) → s.definitions ≡ [] → HoldsSystem s point ↔ HoldRows s.rows point
holds_plain s point plain =
    let same : with_defined s.definitions point ≡ point = ap (λ (ds : List Definition). with_defined ds point) plain in
    (subst (HoldRows s.rows) same, subst (HoldRows s.rows) (sym same))

pub cases_more : (g : Gauge) (n : ℕ) (systems : List System) (i : ℕ) (s : System) (cases all : List CaseView) (c : CaseView)
    → i < length systems → s ≡ get_or systems i s → all ≡ cases ++ c ∷ [] → AreCasesOf g n (take i systems) cases → IsCaseOf g n s c
    → s.definitions ≡ [] → AreCasesOf g n (take (i + 1) systems) all
cases_more g n systems i s cases all c inside read is so_far one plain =
    subst (λ (ss : List System). AreCasesOf g n ss all) (sym (more_is systems i s inside read))
    (subst (AreCasesOf g n (take i systems ++ s ∷ [])) (sym is) (record {
      within = All-push (IsCaseWithin g n) cases c so_far.within one.within;
      points = λ point.
          let old = so_far.points point in
          let own = holds_plain s point plain in (
            (λ h. elim (Any-parts (Holds point) cases (c ∷ []) h) [
              | inl x ↦ Any-left (At point) (take i systems) (s ∷ []) (old.0 x)
              | inr y ↦ Any-right (At point) (take i systems) (s ∷ [])
                  (Any-first (At point) s [] (own.1 (one.back point (Any-one (Holds point) c y))))
            ]),
            (λ h. elim (Any-parts (At point) (take i systems) (s ∷ []) h) [
              | inl x ↦ Any-left (Holds point) cases (c ∷ []) (old.1 x)
              | inr y ↦ Any-right (Holds point) cases (c ∷ [])
                  (Any-first (Holds point) c [] (one.points point (own.0 (Any-one (At point) s y))))
            ]),
          );
    }))

pub cases_all : (g : Gauge) (n : ℕ) (systems : List System) (i : ℕ) (cases : List CaseView) → length systems ≤ i
    → AreCasesOf g n (take i systems) cases → AreCasesOf g n systems cases
cases_all g n systems i cases end = subst (λ (ss : List System). AreCasesOf g n ss cases) (take_all i systems end)

-- ---- cases of towers
abbrev On : ℕ → List ℤ → List (List System) → Type 0
On height point levels = HoldsAtAny (get_or levels height []) point

pub on_none : (g : Gauge) (n height : ℕ) (towers : List (List (List System))) (cases : List CaseView) → cases ≡ []
    → AreCasesOn g n height (take 0 towers) cases
on_none g n height towers cases is = subst (AreCasesOn g n height []) (sym is) (record {
  within = All-nil (IsCaseWithin g n);
  points = λ point. ((λ h. absurd (Any-none (Holds point) h)), (λ h. absurd (Any-none (On height point) h)));
})

pub on_more : (g : Gauge) (n height : ℕ) (towers : List (List (List System))) (i : ℕ) (levels : List (List System))
    (systems : List System) (cases more all : List CaseView) → i < length towers → levels ≡ get_or towers i levels
    → systems ≡ get_or levels height [] → all ≡ cases ++ more → AreCasesOn g n height (take i towers) cases → AreCasesOf g n systems more
    → AreCasesOn g n height (take (i + 1) towers) all
on_more g n height towers i levels systems cases more all inside read own is so_far new =
    subst (λ (ts : List (List (List System))). AreCasesOn g n height ts all) (sym (more_is towers i levels inside read))
    (subst (AreCasesOn g n height (take i towers ++ levels ∷ [])) (sym is) (record {
      within = All-append (IsCaseWithin g n) cases more so_far.within new.within;
      points = λ point.
          let old = so_far.points point in
          let here = new.points point in (
            (λ h. elim (Any-parts (Holds point) cases more h) [
              | inl x ↦ Any-left (On height point) (take i towers) (levels ∷ []) (old.0 x)
              | inr y ↦ Any-right (On height point) (take i towers) (levels ∷ [])
                  (Any-first (On height point) levels [] (subst (λ (ss : List System). HoldsAtAny ss point) own (here.0 y)))
            ]),
            (λ h. elim (Any-parts (On height point) (take i towers) (levels ∷ []) h) [
              | inl x ↦ Any-left (Holds point) cases more (old.1 x)
              | inr y ↦ Any-right (Holds point) cases more
                  (here.1 (subst (λ (ss : List System). HoldsAtAny ss point) (sym own) (Any-one (On height point) levels y)))
            ]),
          );
    }))

pub on_all : (g : Gauge) (n height : ℕ) (towers : List (List (List System))) (i : ℕ) (cases : List CaseView) → length towers ≤ i
    → AreCasesOn g n height (take i towers) cases → AreCasesOn g n height towers cases
on_all g n height towers i cases end = subst (λ (ts : List (List (List System))). AreCasesOn g n height ts cases) (take_all i towers end)

-- ---- levels
push_low : {X : Type 0} (xs : List X) (x : X) (i : ℕ) (d : X) → i < length xs → get_or (xs ++ x ∷ []) i d ≡ get_or xs i d
push_low [] x i d l = absurd (omega (arith, l))
push_low (y ∷ xs) x zero d l = refl
push_low (y ∷ xs) x (suc i) d l = push_low xs x i d (omega (arith, l))

push_last : {X : Type 0} (xs : List X) (x d : X) → get_or (xs ++ x ∷ []) (length xs) d ≡ x
push_last [] x d = refl
push_last (y ∷ xs) x d = push_last xs x d

pub levels_none : (g : Gauge) (front : ℕ) (towers : List (List (List System))) (levels : List (List CaseView)) → levels ≡ []
    → AreLevelsOf g front towers levels × (length levels ≡ 0)
levels_none g front towers levels is = (
  (λ depth low. absurd (let l = ap length is in omega (arith, l, low))),
  ap length is,
)

pub levels_more : (g : Gauge) (front : ℕ) (towers : List (List (List System))) (levels all : List (List CaseView)) (cases : List CaseView)
    (depth : ℕ) → all ≡ levels ++ cases ∷ [] → AreLevelsOf g front towers levels × (length levels ≡ depth)
    → AreCasesOn g (front + depth) (depth + 1) towers cases → AreLevelsOf g front towers all × (length all ≡ depth + 1)
levels_more g front towers levels all cases depth is so_far new = (
  (λ d low. by d (split d low)),
  (let l = ap length is ∙ length-append levels (cases ∷ []) in let e = so_far.1 in omega (arith, l, e)),
)
  where
    split : (d : ℕ) → d < length all → (d < length levels) ⊎ (d ≡ length levels)
    split d low = let l = ap length is ∙ length-append levels (cases ∷ []) in grind (arith, l, low)

    by : (d : ℕ) → (d < length levels) ⊎ (d ≡ length levels) → AreCasesOn g (front + d) (d + 1) towers (get_or all d [])
    by d (inl before) =
        subst (AreCasesOn g (front + d) (d + 1) towers)
        (sym (ap (λ (ls : List (List CaseView)). get_or ls d []) is ∙ push_low levels cases d [] before)) (so_far.0 d before)
    by d (inr here) =
        let last : get_or all d [] ≡ cases =
        ap (λ (ls : List (List CaseView)). get_or ls d []) is ∙ ap (λ k. get_or (levels ++ cases ∷ []) k []) here ∙ push_last levels cases [] in
        subst (AreCasesOn g (front + d) (d + 1) towers) (sym last)
        (subst (λ k. AreCasesOn g (front + k) (k + 1) towers cases) (sym (here ∙ so_far.1)) new)

-- the same under another meter
pub levels_later : (g h : Gauge) → h.bits ≡ g.bits → (front : ℕ) (towers : List (List (List System))) (levels : List (List CaseView))
    → AreLevelsOf h front towers levels → AreLevelsOf g front towers levels
levels_later g h same front towers levels told depth low =
    let own = told depth low in
    record {
      within = λ k d inside. case_kept h g (sym same) (front + depth) (get_or (get_or levels depth []) k d) (own.within k d inside);
      points = own.points;
    }

-- ---- the problem
module _ (g : Gauge) (front width : ℕ) (systems : List System) (towers : List (List (List System))) (are : AreTowersOf g front systems towers)
    (over : ArePlainOver g (front + width) systems) where
  pub heights : All (λ levels. length levels ≡ width + 1) towers
  heights =
      All-zipped (λ s levels. IsTowerOf s front levels) (λ s. free_columns s ≡ front + width) (λ levels. length levels ≡ width + 1)
      (λ s levels tower free. let c = tower.count in omega (arith, c, free)) systems towers are.towers over.columns

  -- the systems of a height
  pub plain_on : (depth : ℕ) → depth < width → All (λ levels. ArePlainOver g (front + depth + 1) (get_or levels (depth + 1) [])) towers
  plain_on depth low = λ k d inside.
      let levels = get_or towers k d in
      let high = heights k d inside in
      let here : depth + 1 < length levels = omega (arith, high, low) in
      record {
        within = are.within k d inside (depth + 1) [] here;
        plain = are.plain k d inside (depth + 1) [] here;
        columns = columns_on k d inside;
      }
    where
      columns_on : All (λ levels. All (λ s. free_columns s ≡ front + depth + 1) (get_or levels (depth + 1) [])) towers
      columns_on =
          All-zipped (λ s levels. IsTowerOf s front levels) (λ s. free_columns s ≡ front + width)
          (λ levels. All (λ s. free_columns s ≡ front + depth + 1) (get_or levels (depth + 1) []))
          (λ s levels tower free.
          let c = tower.count in
          let here : depth + 1 < length levels = omega (arith, c, free, low) in
          All-weaker (λ t. free_columns t ≡ front + (depth + 1)) (λ t. free_columns t ≡ front + depth + 1) (λ t e. omega (arith, e))
          (get_or levels (depth + 1) []) (tower.projections (depth + 1) here).columns)
          systems towers are.towers over.columns

  pub problem_made : (levels : List (List CaseView)) → AreLevelsOf g front towers levels → length levels ≡ width → 0 < width
      → front + width + 1 < 2 ^ 64 → IsProblem g (record { front = front; systems = systems; levels = levels })
  problem_made levels told count some fits = record {
    cases = λ depth low. (told depth low).within;
    points = λ v us long low.
        level_of front (length levels) systems towers are.towers
        (subst (λ w. All (λ s. free_columns s ≡ front + w) systems) (sym count) over.columns) v us (get_or levels (length us) []) long low
        (told (length us) low).points;
    some = subst (λ w. 0 < w) (sym count) some;
    fits = omega (arith, fits, count);
  }
