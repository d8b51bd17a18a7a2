-- public: when a formula holds (isl manual, "Sets and relations": Presburger formulas).
use Rattle.std.specs.Prelude.{◌≡◌, ◌≢◌, ◌≤ℤ◌, ◌<ℤ◌, ◌⊎◌, ℤ, List, [], ◌∷◌, Option, Some, None}
use Rattle.isl_tree.specs.declared.tree.Binder.{Binder}
use Rattle.isl_tree.specs.declared.tree.Compare.{Compare}
use Rattle.isl_tree.specs.declared.tree.Compare.TheVariants.{Equal, Less, LessEqual, Greater, GreaterEqual, Differs}
use Rattle.isl_tree.specs.declared.tree.Formula.{Formula, Implies', Or', And', Not', True, False, Exists', Chain, Row_of-Formula}
use Rattle.isl_tree.specs.declared.tree.Formula.{end_of-Formula, more_of-Formula}
use Rattle.isl_tree.specs.Environment.{Environment}
use Rattle.isl_tree.specs.Term.{Term, term_value}

-- one side of a comparison
abbrev pub Side : Type 0
Side = List Term

-- how a side of a chain stands to the one before it, and that side
abbrev pub Link : Type 0
Link = Compare × Side

-- what a comparison says of two numbers
abbrev pub Compares : Compare → ℤ → ℤ → Type 0
Compares Equal a b = a ≡ b
Compares Less a b = a <ℤ b
Compares LessEqual a b = a ≤ℤ b
Compares Greater a b = b <ℤ a
Compares GreaterEqual a b = b ≤ℤ a
Compares Differs a b = a ≢ b

-- a term stands so to each of the terms
abbrev pub ComparesToAll : Compare → Term → Side → Environment → Type 0
ComparesToAll c left [] env = Unit {0}
ComparesToAll c left (right ∷ rights) env = Compares c (term_value left env) (term_value right env) × ComparesToAll c left rights env

-- each of the terms on the left stands so to each on the right
abbrev pub SidesCompare : Compare → Side → Side → Environment → Type 0
SidesCompare c [] rights env = Unit {0}
SidesCompare c (left ∷ lefts) rights env = ComparesToAll c left rights env × SidesCompare c lefts rights env

-- each side of a chain stands to the next as the sign between them says
abbrev pub ChainHolds : Side → List Link → Environment → Type 0
ChainHolds side [] env = Unit {0}
ChainHolds side (link ∷ links) env = SidesCompare link.0 side link.1 env × ChainHolds link.1 links env

-- some number is bound, or the term's where one is given
abbrev pub BindsOne : Option Term → (ℤ → Type 0) → Environment → Type 0
BindsOne None holds env = (z : ℤ) × holds z
BindsOne (Some term) holds env = holds (term_value term env)

-- there is a whole number for each bound name, and a name with a term stands for the term's, which knows the names before it
abbrev pub Binds : List Binder → (Environment → Type 0) → Environment → Type 0
Binds [] holds env = holds env
Binds (binder ∷ binders) holds env = BindsOne binder.value (λ z. Binds binders holds ((binder.name, z) ∷ env)) env

abbrev mutual
  pub FormulaHolds : Formula → Environment → Type 0
  FormulaHolds (Implies' s row) env = RowImplies row env
  FormulaHolds (Or' s row) env = SomeHold row env
  FormulaHolds (And' s row) env = AllHold row env
  FormulaHolds (Not' s row) env = AllHold row env → ⊥
  FormulaHolds True env = Unit {0}
  FormulaHolds False env = ⊥
  FormulaHolds (Exists' binders s row) env = Binds binders (λ inner. AllHold row inner) env
  FormulaHolds (Chain first links) env = ChainHolds first links env

  pub SomeHold : {m : _} → Row_of-Formula m → Environment → Type 0
  SomeHold end_of-Formula env = ⊥
  SomeHold (more_of-Formula f rest) env = FormulaHolds f env ⊎ SomeHold rest env

  pub AllHold : {m : _} → Row_of-Formula m → Environment → Type 0
  AllHold end_of-Formula env = Unit {0}
  AllHold (more_of-Formula f rest) env = FormulaHolds f env × AllHold rest env

  -- a implies b is (not a) or b, and a row of them goes from the left
  pub RowImplies : {m : _} → Row_of-Formula m → Environment → Type 0
  RowImplies end_of-Formula env = Unit {0}
  RowImplies (more_of-Formula f rest) env = ImpliesRest (FormulaHolds f env) rest env

  pub ImpliesRest : {m : _} → Type 0 → Row_of-Formula m → Environment → Type 0
  ImpliesRest former end_of-Formula env = former
  ImpliesRest former (more_of-Formula f rest) env = ImpliesRest ((former → ⊥) ⊎ FormulaHolds f env) rest env
