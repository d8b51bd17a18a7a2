-- Answers of tests over lists.
use Rattle.std.proofs.Common.{◌≡◌, ◌↔◌, inl, inr, refl, sym, subst, arith, ℕ, ◌+◌, ◌-◌, ◌<◌, ◌≤◌, Bool, true, false, List, [], ◌∷◌}
use Rattle.std.proofs.Common.{length, get_or, take}
use Rattle.std.specs.Prelude.{IsTrue, Result, Ok, Err, IfOk}
use Rattle.std.specs.List.{All}
use Rattle.std.proofs.lemmas.List.{take_all}
use Rattle.std.proofs.lemmas.List.Elements.{All-more}
use Rattle.std.proofs.lemmas.List.Elements.{All-cons, All-head, All-nil}
use Rattle.isl_meter.specs.declared.Cut.{Cut}
use Rattle.isl_piece.specs.declared.row.Row.{Row}
use Rattle.isl_piece.specs.declared.system.System.{System}
use Rattle.isl_piece.specs.System.{HoldsSystem, free_columns}
use Rattle.isl_elim.specs.Sample.{IsNowhere}
use Rattle.isl_blocks.specs.declared.cases.Direction.{Direction}
use Rattle.isl_extremes.specs.declared.systems.Order.{Order}
use Rattle.isl_extremes.specs.Systems.{AreAnswered, HasEnd, IsClosedOn, IsEnded, NeverFalls}

pub not_true : (b : Bool) → b ≡ false → ¬ IsTrue b
not_true b e t = grind arith

pub all_true : {X : Type 0} (P : X → Type 0) (xs : List X) (i : ℕ) → length xs ≤ i → All P (take i xs) → IsTrue true ↔ All P xs
all_true P xs i end all = ((λ t. subst (All P) (take_all i xs end) all), (λ a. refl))

pub one_false : {X : Type 0} (P : X → Type 0) (xs : List X) (i : ℕ) (x : X) → i < length xs → x ≡ get_or xs i x → ¬ P x
    → IsTrue false ↔ All P xs
one_false P xs i x l is n = ((λ t. absurd (not_true false refl t)), (λ a. absurd (n (subst P (sym is) (a i x l)))))

module _ (order : Order) (at : ℕ) (systems : List System) (i : ℕ) where
  pub ended_more : (s : System) (answer : Bool) → i < length systems → s ≡ get_or systems i s → All (IsEnded order at) (take i systems)
      → AreAnswered order at (s ∷ []) answer → IsTrue answer → All (IsEnded order at) (take (i + 1) systems)
  ended_more s answer l is so_far told holds =
      All-more (IsEnded order at) systems i s l so_far (subst (IsEnded order at) is (All-head (IsEnded order at) s [] (told.ended holds)))

  pub ended_all : length systems ≤ i → All (IsEnded order at) (take i systems) → AreAnswered order at systems true
  ended_all end all = record {
    ended = λ t. subst (All (IsEnded order at)) (take_all i systems end) all;
    falls = λ n. absurd (n refl);
  }

  pub ended_not : (s : System) (answer : Bool) → i < length systems → s ≡ get_or systems i s → AreAnswered order at (s ∷ []) answer
      → ¬ IsTrue answer → AreAnswered order at systems false
  ended_not s answer l is told fails = record {
    ended = λ t. absurd (not_true false refl t);
    falls = λ n all. told.falls fails
        (All-cons (NeverFalls order at) s [] (subst (NeverFalls order at) (sym is) (all i s l)) (All-nil (NeverFalls order at)));
  }

-- a system whose last column has no end on the side
pub closed_or_empty : (d : Direction) (s : System) (col : ℕ) (rows : List Row) (ended : Bool) → ended ≡ false → col ≡ free_columns s - 1
    → rows ≡ s.rows → (IsTrue ended ↔ HasEnd d col rows) → (result : Result Bool Cut)
    → IfOk result (λ empty. IsTrue empty ↔ IsNowhere (free_columns s) (HoldsSystem s))
    → IfOk result (λ closed. IsTrue closed ↔ IsClosedOn d s)
closed_or_empty d s col rows ended is last all told (Ok empty) exact = (
  (λ t. inr (exact.0 t)),
  (λ closed. elim closed [
    | inl end ↦ absurd (not_true ended is (told.1 (subst (λ n. HasEnd d n rows) (sym last)
        (subst (HasEnd d (free_columns s - 1)) (sym all) end))))
    | inr nowhere ↦ exact.1 nowhere
  ]),
)
closed_or_empty d s col rows ended is last all told (Err cut) exact = tt
