-- Names among the joined names of three lists.
use Rattle.std.proofs.Common.{subst, List, All, Contains, get_or}
use Rattle.isl_space.specs.Name.{Name}
use Rattle.isl_space.specs.Names.{IsParameterList, joined}
use Rattle.isl_union.proofs.ValueLaws.{first_in, second_in}

through_all : (xs ys zs : List Name) → All (Contains ys) xs → All (Contains zs) ys → All (Contains zs) xs
through_all xs ys zs p q = λ k d l.
    let c = p k d l in
    subst (Contains zs) c.2 (q c.0 (get_or xs k d) c.1)

module _ (a b t : List Name) where
  pub first_of_three : All (Contains (joined (joined a b) t)) a
  first_of_three = through_all a (joined a b) (joined (joined a b) t) (first_in a b) (first_in (joined a b) t)

  pub second_of_three : IsParameterList a → IsParameterList b → All (Contains (joined (joined a b) t)) b
  second_of_three p q = through_all b (joined a b) (joined (joined a b) t) (second_in a b p q) (first_in (joined a b) t)
