-- Of systems those that hold somewhere, one after another.
use Rattle.std.proofs.Common.{◌≡◌, ◌↔◌, ◌∙◌, ◌≤◌, ◌<◌, ◌+◌, inl, inr, sym, subst, arith, ℕ, ℤ, List, [], ◌∷◌, ◌++◌}
use Rattle.std.proofs.Common.{length, take, get_or}
use Rattle.std.proofs.Common.{All, Contains, length-append}
use Rattle.std.proofs.lemmas.List.{take_all, take_more}
use Rattle.std.proofs.lemmas.List.Elements.{All-contains, All-nil, All-push, All-weaker}
use Rattle.std.proofs.lemmas.List.Elements.{Contains-append_left, Contains-push}
use Rattle.std.proofs.lemmas.List.Quantifiers.{Any-push}
use Rattle.std.specs.Prelude.{Any}
use Rattle.isl_difference.specs.Difference.{IsCovered}
use Rattle.isl_math.proofs.ListLaws.{All-parts, Any-contains, Any-element, Any-left, Any-one, Any-parts}
use Rattle.isl_piece.specs.declared.system.System.{System}
use Rattle.isl_piece.specs.System.{HoldsSystem, free_columns}
use Rattle.isl_ledger.specs.Difference.{IsDifferenceSystem}
use Rattle.isl_ledger.specs.Work.{HasSize}
use Rattle.isl_ledger.proofs.SizeLaws.{differences_of}
use Rattle.isl_difference.proofs.TameLaws.{few_differences}
use Rattle.isl_difference.specs.Tame.{HasFewDifferences}
use Rattle.isl_cert.specs.Living.{AreLiving, HasPoint, IsPutLiving}

-- ---- systems
pub none_living : AreLiving [] []
none_living = record { among = All-nil (Contains []); few = omega arith; each = All-nil HasPoint; points = λ point wide any. any }

-- one more
module _ (systems old : List System) (s : System) (are : AreLiving systems old) where
  more_among : All (Contains (systems ++ s ∷ [])) old
  more_among =
      All-weaker (Contains systems) (Contains (systems ++ s ∷ [])) (λ x in_it. Contains-append_left systems (s ∷ []) x in_it) old are.among

  more_few : length old + 1 ≤ length (systems ++ s ∷ [])
  more_few = let few = are.few in let long = length-append systems (s ∷ []) in omega (arith, few, long)

  wide_last : (point : List ℤ) → All (λ t. free_columns t ≡ length point) (systems ++ s ∷ []) → length point ≡ free_columns s
  wide_last point wide =
      sym (All-contains (λ t. free_columns t ≡ length point) (systems ++ s ∷ []) s wide (Contains-push systems s))

  wide_first : (point : List ℤ) → All (λ t. free_columns t ≡ length point) (systems ++ s ∷ [])
      → All (λ t. free_columns t ≡ length point) systems
  wide_first point wide = (All-parts (λ t. free_columns t ≡ length point) systems (s ∷ []) wide).0

  living_more : (new : List System) → IsPutLiving s old new → AreLiving (systems ++ s ∷ []) new
  living_more new (inl dead) = subst (AreLiving (systems ++ s ∷ [])) (sym dead.1) (record {
    among = more_among;
    few = let few = more_few in omega (arith, few);
    each = are.each;
    points = λ point wide any. elim (Any-parts (λ t. HoldsSystem t point) systems (s ∷ []) any) [
      | inl before ↦ are.points point (wide_first point wide) before
      | inr last ↦ absurd (dead.0 point (wide_last point wide) (Any-one (λ t. HoldsSystem t point) s last))
    ];
  })
  living_more new (inr live) = subst (AreLiving (systems ++ s ∷ [])) (sym live.1) (record {
    among = All-push (Contains (systems ++ s ∷ [])) old s more_among (Contains-push systems s);
    few = let few = more_few in let long = length-append old (s ∷ []) in omega (arith, few, long);
    each = All-push HasPoint old s are.each live.0;
    points = λ point wide any. elim (Any-parts (λ t. HoldsSystem t point) systems (s ∷ []) any) [
      | inl before ↦ Any-left (λ t. HoldsSystem t point) old (s ∷ []) (are.points point (wide_first point wide) before)
      | inr last ↦ Any-push (λ t. HoldsSystem t point) old s (Any-one (λ t. HoldsSystem t point) s last)
    ];
  })

-- the next of a list
pub living_next : (systems old new : List System) (i : ℕ) (s : System) → i < length systems → s ≡ get_or systems i s
    → AreLiving (take i systems) old → IsPutLiving s old new → AreLiving (take (i + 1) systems) new
living_next systems old new i s low is are put =
    subst (λ (l : List System). AreLiving l new) (sym (take_more systems i s low))
    (subst (λ (t : System). AreLiving (take i systems ++ t ∷ []) new) is (living_more (take i systems) old s are new put))

pub all_living : (systems living : List System) (i : ℕ) → length systems ≤ i → AreLiving (take i systems) living → AreLiving systems living
all_living systems living i end are = subst (λ (l : List System). AreLiving l living) (take_all i systems end) are

-- ---- sizes
pub one_sized : (columns bits : ℕ) (s : System) → IsDifferenceSystem columns bits s
    → HasSize (record { pieces = 1; columns = columns; bits = bits }) s
one_sized columns bits s d = record { some = omega arith; rows = differences_of columns bits s d }

-- ---- what is covered
pub of_living : (P : System → Type 0) (systems living : List System) → AreLiving systems living → All P systems → All P living
of_living P systems living are all =
    All-weaker (Contains systems) P (λ x in_it. All-contains P systems x all in_it) living are.among

pub few_living : (columns bits : ℕ) (systems living : List System) → AreLiving systems living
    → All (IsDifferenceSystem columns bits) systems → All (HasFewDifferences columns bits) living
few_living columns bits systems living are all =
    All-weaker (IsDifferenceSystem columns bits) (HasFewDifferences columns bits) (λ s d. few_differences columns bits s d) living
    (of_living (IsDifferenceSystem columns bits) systems living are all)

any_living : (P : System → Type 0) (systems living : List System) → AreLiving systems living → Any P living → Any P systems
any_living P systems living are any =
    let it = Any-element P living any in
    Any-contains P systems it.0 (All-contains (Contains systems) living it.0 are.among it.1) it.2

pub covered_living : (system : System) (outs living : List System) → AreLiving outs living
    → All (λ out. free_columns out ≡ free_columns system) outs → IsCovered system living ↔ IsCovered system outs
covered_living system outs living are free = (
  (λ covered point wide holds. any_living (λ s. HoldsSystem s point) outs living are (covered point wide holds)),
  (λ covered point wide holds. are.points point (λ k d low. free k d low ∙ sym wide) (covered point wide holds)),
)
