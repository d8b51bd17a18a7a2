-- The tree of a problem is that of its systems.
use Rattle.std.proofs.Common.{◌≡◌, ◌↔◌, sym, ◌∙◌, subst, ℕ, ℤ, neg_ℤ, List, ◌++◌, length, map, Option, Some, None}
use Rattle.std.specs.Prelude.{option_map}
use Rattle.isl_meter.specs.Gauge.{Gauge}
use Rattle.isl_piece.specs.declared.system.System.{System}
use Rattle.isl_elim.specs.Elimination.{HoldsAtAny}
use Rattle.isl_quast.specs.declared.tree.Quast.{Quast}
use Rattle.isl_quast.specs.Tree.{quast_at, HasWidth, IsQuastOver}
use Rattle.isl_greatest_law.specs.Front.{GivesGreatest}
use Rattle.isl_greatest.specs.Problem.{ProblemView, IsListOf}
use Rattle.isl_greatest.specs.Search.{AllHaveGreatest, HasGreatest, IsTreeWithin}
use Rattle.isl_pip_law.specs.Levels.{AreBehind}
use Rattle.isl_pip.specs.Greatest.{HaveGreatest, IsGreatestTree}
use Rattle.isl_pip.specs.Levels.{IsProblemOf}

pub gives_same : (P Q : List ℤ → Type 0) → ((us : List ℤ) → P us ↔ Q us) → (r : Option (List ℤ)) → GivesGreatest P r → GivesGreatest Q r
gives_same P Q same None none = λ ys is. none ys ((same ys).1 is)
gives_same P Q same (Some ys) most = ((same ys).0 most.0, λ zs is. most.1 zs ((same zs).1 is))

pub has_same : (P Q : List ℤ → Type 0) → ((us : List ℤ) → P us ↔ Q us) → HasGreatest P → HasGreatest Q
has_same P Q same has us is =
    let most = has us ((same us).1 is) in
    (most.0, ((same most.0).0 most.1.0, λ zs is'. most.1.1 zs ((same zs).1 is')))

module _ (front width : ℕ) (systems : List System) (p : ProblemView) (is : IsProblemOf front width systems p) where
  lists_are : (v us : List ℤ) → IsListOf p v us ↔ AreBehind width systems v us
  lists_are v us = (
    (λ h. (h.0 ∙ is.width, subst (λ (ss : List System). HoldsAtAny ss (v ++ us)) is.systems h.1)),
    (λ h. (h.0 ∙ sym is.width, subst (λ (ss : List System). HoldsAtAny ss (v ++ us)) (sym is.systems) h.1)),
  )

  pub tree_of_problem : (g : Gauge) (tree : Quast) → IsTreeWithin g p (λ _. Unit {0}) tree → IsGreatestTree g front width systems tree
  tree_of_problem g tree made = record {
    gives = λ v long.
        gives_same (IsListOf p v) (AreBehind width systems v) (lists_are v) (option_map (map neg_ℤ) (quast_at tree v))
        (made.gives v (long ∙ sym is.front) tt);
    over = subst (λ n. IsQuastOver g n tree) is.front made.over;
    width = subst (λ w. HasWidth w tree) is.width made.width;
  }

  pub have_of_problem : HaveGreatest front width systems → AllHaveGreatest p
  have_of_problem have v long =
      has_same (AreBehind width systems v) (IsListOf p v) (λ us. let b = lists_are v us in (b.1, b.0)) (have v (long ∙ is.front))
