-- Cases that stand for the systems of towers tell where lists go on.
use Rattle.std.proofs.Common.{◌≡◌, ◌⊎◌, ◌↔◌, refl, sym, ap, ◌∙◌, subst, arith, ℕ, ◌+◌, ◌<◌, ◌≤◌, ℤ, List, [], ◌∷◌, ◌++◌, length, get_or}
use Rattle.std.specs.List.{All, AllZip, Any}
use Rattle.std.proofs.lemmas.List.{append_assoc, length-append}
use Rattle.isl_math.proofs.ListLaws.{AllZip-with, Any-element, Any-contains, Any-zipped}
use Rattle.isl_piece.specs.declared.system.System.{System}
use Rattle.isl_piece.specs.System.{HoldsSystem, free_columns}
use Rattle.isl_elim.specs.Elimination.{HoldsAtAny}
use Rattle.isl_tower.specs.Tower.{BeginsPoint, IsProjectionOnto, IsTowerOf}
use Rattle.isl_greatest_law.specs.Case.{At, CaseView, HoldsCase, InSome}
use Rattle.isl_greatest_law.specs.Front.{Begins}
use Rattle.isl_greatest_law.specs.Stage.{IsLevel}
use Rattle.isl_pip_law.specs.Levels.{AreBehind, AreCasesAt}

-- the same lists of towers and of systems, the other way round
turned : {A B : Type 0} (R : A → B → Type 0) (xs : List A) (ys : List B) → AllZip R xs ys → AllZip (λ b a. R a b) ys xs
turned R [] [] z = z
turned R [] (y ∷ ys) z = absurd z
turned R (x ∷ xs) [] z = absurd z
turned R (x ∷ xs) (y ∷ ys) z = (z.0, turned R xs ys z.1)

module _ (front width : ℕ) (systems : List System) (towers : List (List (List System)))
    (are : AllZip (λ s levels. IsTowerOf s front levels) systems towers) (columns : All (λ s. free_columns s ≡ front + width) systems) where
  both : AllZip (λ s levels. IsTowerOf s front levels × (free_columns s ≡ front + width)) systems towers
  both = AllZip-with (λ s levels. IsTowerOf s front levels) (λ s. free_columns s ≡ front + width) systems towers are columns

  module _ (v us : List ℤ) (z : ℤ) (long : length v ≡ front) (low : length us < width) where
    abbrev point : List ℤ
    point = (v ++ us) ++ z ∷ []

    point_long : length point ≡ front + (length us + 1)
    point_long =
        let a = length-append (v ++ us) (z ∷ []) in
        let b = length-append v us in
        omega (arith, a, b, long)

    level_inside : (s : System) (levels : List (List System)) → IsTowerOf s front levels → free_columns s ≡ front + width → length us + 1 < length levels
    level_inside s levels tower free = let c = tower.count in omega (arith, c, free, low)

    begins_from : (s : System) (levels : List (List System)) → IsTowerOf s front levels × (free_columns s ≡ front + width)
        → HoldsAtAny (get_or levels (length us + 1) []) point → BeginsPoint s point
    begins_from s levels both' h =
        ((both'.0.projections (length us + 1) (level_inside s levels both'.0 both'.1)).points point point_long).0 h

    begins_to : (s : System) (levels : List (List System)) → IsTowerOf s front levels × (free_columns s ≡ front + width)
        → BeginsPoint s point → HoldsAtAny (get_or levels (length us + 1) []) point
    begins_to s levels both' h =
        ((both'.0.projections (length us + 1) (level_inside s levels both'.0 both'.1)).points point point_long).1 h

    regroup : (rest : List ℤ) → point ++ rest ≡ v ++ ((us ++ z ∷ []) ++ rest)
    regroup rest = ap (λ l. l ++ rest) (append_assoc v us (z ∷ [])) ∙ append_assoc v (us ++ z ∷ []) rest

    goes_on : Any (λ s. (BeginsPoint s point) × (free_columns s ≡ front + width)) systems → Begins (AreBehind width systems v) (us ++ z ∷ [])
    goes_on some =
        let found = Any-element (λ s. (BeginsPoint s point) × (free_columns s ≡ front + width)) systems some in
        let begun = found.2.0 in
        let a = length-append (us ++ z ∷ []) begun.0 in
        let b = length-append us (z ∷ []) in
        let c = begun.1 in
        let d = found.2.1 in
        let e = point_long in (
          begun.0,
          (
            omega (arith, a, b, c, d, e),
            Any-contains (λ s. HoldsSystem s (v ++ ((us ++ z ∷ []) ++ begun.0))) systems found.0 found.1
                (subst (HoldsSystem found.0) (regroup begun.0) begun.2),
          ),
        )

    comes_from : Begins (AreBehind width systems v) (us ++ z ∷ []) → Any (λ s. (free_columns s ≡ front + width) → BeginsPoint s point) systems
    comes_from begun =
        let rest = begun.0 in
        let found = Any-element (λ s. HoldsSystem s (v ++ ((us ++ z ∷ []) ++ rest))) systems begun.1.1 in
        let a = length-append (us ++ z ∷ []) rest in
        let b = length-append us (z ∷ []) in
        let c = begun.1.0 in
        let e = point_long in
        Any-contains (λ s. (free_columns s ≡ front + width) → BeginsPoint s point) systems found.0 found.1
        (λ free. (rest, omega (arith, a, b, c, e, free), subst (HoldsSystem found.0) (sym (regroup rest)) found.2))

  -- some case at the height behind so many numbers holds exactly where lists go on
  pub level_of : (v us : List ℤ) (cases : List CaseView) → length v ≡ front → length us < width → AreCasesAt (length us + 1) towers cases
      → IsLevel (AreBehind width systems v) v us cases
  level_of v us cases long low told z =
      let p = told ((v ++ us) ++ z ∷ []) in (
        (λ h. goes_on v us z long low
            (Any-zipped (λ levels s. IsTowerOf s front levels × (free_columns s ≡ front + width)) (λ levels. HoldsAtAny (get_or levels (length us + 1) []) ((v ++ us) ++ z ∷ []))
            (λ s. (BeginsPoint s ((v ++ us) ++ z ∷ [])) × (free_columns s ≡ front + width))
            (λ levels s t h'. (begins_from v us z long low s levels t h', t.1)) towers systems
            (turned (λ s levels. IsTowerOf s front levels × (free_columns s ≡ front + width)) systems towers both) (p.0 h))),
        (λ begun. p.1
            (Any-zipped (λ s levels. IsTowerOf s front levels × (free_columns s ≡ front + width)) (λ s. (free_columns s ≡ front + width) → BeginsPoint s ((v ++ us) ++ z ∷ []))
            (λ levels. HoldsAtAny (get_or levels (length us + 1) []) ((v ++ us) ++ z ∷ []))
            (λ s levels t h'. begins_to v us z long low s levels t (h' t.1)) systems towers both (comes_from v us z long low begun))),
      )
