-- Of the same elements the same is formed, and operations on them end alike.
use Rattle.std.proofs.Common.{◌↔◌, List, []}
use Rattle.isl_space.specs.Name.{Name}
use Rattle.isl_space.specs.SpaceForm.{SpaceForm}
use Rattle.isl_tree.specs.declared.statement.Prefix.{Prefix as Word}
use Rattle.isl_kinds.specs.Typed.{joined_names}
use Rattle.isl_operators.specs.Formed.{AreIn, FormsWide, PairsWide}
use Rattle.isl_relation.specs.Formed.{FormsAccess}
use Rattle.isl_values.specs.Ends.{DependenceEnds, PairEnds, WordEnds}
use Rattle.isl_outcome.proofs.FirstLaws.{EndAlike}
use Rattle.isl_outcome.proofs.FirstLaws.{operation_alike}
use Rattle.isl_values.proofs.SameLaws.{same_misses, turned_same}
use Rattle.isl_values.proofs.SameLaws.{AreSame, Selection}

are_in : (P Q : Selection) → AreSame P Q → (s : SpaceForm) → AreIn P s → AreIn Q s
are_in P Q same s some = λ none. some (λ v x has is. none v x ((same v x).0 has) is)

pub forms_wide : (Forms : SpaceForm → SpaceForm → Type 0) (P Q : Selection) → AreSame P Q → FormsWide Forms P ↔ FormsWide Forms Q
forms_wide Forms P Q same = (
  (λ h. (h.0, h.1, are_in P Q same h.0 h.2, h.3, h.4)),
  (λ h. (h.0, h.1, are_in Q P (turned_same P Q same) h.0 h.2, h.3, h.4)),
)

pairs_from : (Forms : SpaceForm → SpaceForm → SpaceForm → Type 0) (P Q R S : Selection) → AreSame P Q → AreSame R S
    → PairsWide Forms P R → PairsWide Forms Q S
pairs_from Forms P Q R S left right h = (h.0, h.1, h.2, are_in P Q left h.0 h.3, are_in R S right h.1 h.4, h.5, h.6)

pub pairs_wide : (Forms : SpaceForm → SpaceForm → SpaceForm → Type 0) (P Q R S : Selection) → AreSame P Q → AreSame R S
    → PairsWide Forms P R ↔ PairsWide Forms Q S
pairs_wide Forms P Q R S left right = (
  pairs_from Forms P Q R S left right,
  pairs_from Forms Q P S R (turned_same P Q left) (turned_same R S right),
)

pub pair_alike : (Forms : SpaceForm → SpaceForm → SpaceForm → Type 0) (names others : List Name) (P Q R S : Selection) → AreSame P Q
    → AreSame R S → EndAlike (PairEnds Forms names others P R) (PairEnds Forms names others Q S)
pair_alike Forms names others P Q R S left right =
    operation_alike (joined_names names others) _ _ _ _ (pairs_wide Forms P Q R S left right) ((λ h. h), (λ h. h))

pub word_alike : (word : Word) (P Q : Selection) → AreSame P Q → EndAlike (WordEnds word P) (WordEnds word Q)
word_alike word P Q same = operation_alike [] _ _ _ _ (forms_wide _ P Q same) (same_misses word P Q same)

pub dependence_alike : (names : List Name) (P Q R S : Selection) → AreSame P Q → AreSame R S
    → EndAlike (DependenceEnds names P R) (DependenceEnds names Q S)
dependence_alike names P Q R S source sink =
    operation_alike names _ _ _ _ (pairs_wide FormsAccess P Q R S source sink) ((λ h. h), (λ h. h))
