-- public: lists put in order.
use Rattle.std.specs.Prelude.{Bool, List, [], ◌∷◌, if◌then◌else◌}

-- x put into a list that is in order, behind those that stand before it
abbrev pub placed : {X : Type 0} → (X → X → Bool) → X → List X → List X
placed before x [] = x ∷ []
placed before x (y ∷ ys) = if before y x then y ∷ placed before x ys else x ∷ y ∷ ys

-- the list in order; where neither of two stands before the other, the first stays first
abbrev pub in_order : {X : Type 0} → (X → X → Bool) → List X → List X
in_order before [] = []
in_order before (x ∷ xs) = placed before x (in_order before xs)
