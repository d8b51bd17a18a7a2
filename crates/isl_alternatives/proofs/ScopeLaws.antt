-- Scopes below binders: their names, and the numbers that these stand for.
use Rattle.std.proofs.Common.{◌≡◌, refl, sym, ap, ap₂, ◌∙◌, subst, arith, ℕ, suc, ◌+◌, ◌-◌, ◌<◌, ◌≤◌, ℤ, pos, Bool, true, false, ◌||◌, List, [], ◌∷◌, ◌++◌, length, length-append, get_or, Option, Some, None}
use Rattle.std.specs.Prelude.{IfSome, is_some, if◌then◌else◌, slice_index_or}
use Rattle.std.specs.Str.{bytes_eq}
use Rattle.std.proofs.lemmas.List.{get_or_append_left, get_or-append_right, append_assoc}
use Rattle.isl_affine.specs.Scope.{Scope, IsNumbered, KnowsAll, column_of, is_named, latest}
use Rattle.isl_affine.proofs.ScopeLaws.{knows_push, numbered_push}
use Rattle.isl_tree.specs.declared.tree.Binder.{Binder}
use Rattle.isl_tree.specs.Environment.{Environment, value_in}
use Rattle.isl_tree.specs.Literal.{is_among}
use Rattle.isl_tree.specs.Known.{known_below}
use Rattle.isl_alternatives.specs.Restricted.{env_below, scope_below}

pub knows_below : (bs : List Binder) (scope : Scope) (known : List (List ℕ)) → KnowsAll scope known
    → KnowsAll (scope_below bs scope) (known_below known bs)
knows_below [] scope known all = all
knows_below (b ∷ bs) scope known all = knows_below bs (scope ++ Some b.name ∷ []) (b.name ∷ known) (knows_push scope b.name known all)

-- ---- below binders
pub length_below : (bs : List Binder) (scope : Scope) → length (scope_below bs scope) ≡ length scope + length bs
length_below [] scope = omega arith
length_below (b ∷ bs) scope =
    let rest = length_below bs (scope ++ Some b.name ∷ []) in
    let one = length-append scope (Some b.name ∷ []) in
    omega arith

-- the numbers behind those of a point are those of the binders
pub numbered_below : (bs : List Binder) (scope : Scope) (point zs behind : List ℤ) (env : Environment) → length point ≡ length scope
    → length zs ≡ length bs → IsNumbered scope (point ++ (zs ++ behind)) env
    → IsNumbered (scope_below bs scope) (point ++ (zs ++ behind)) (env_below bs zs env)
numbered_below [] scope point [] behind env l m n = n
numbered_below [] scope point (z ∷ zs) behind env l m n = absurd (omega (arith, m))
numbered_below (b ∷ bs) scope point [] behind env l m n = absurd (omega (arith, m))
numbered_below (b ∷ bs) scope point (z ∷ zs) behind env l m n =
    let whole = point ++ (z ∷ (zs ++ behind)) in
    let joined : (point ++ z ∷ []) ++ (zs ++ behind) ≡ whole = append_assoc point (z ∷ []) (zs ++ behind) in
    let at : length scope - length point ≡ 0 = omega (arith, l) in
    let here : slice_index_or whole (length scope) (pos 0) ≡ z =
    get_or-append_right point (z ∷ (zs ++ behind)) (length point) (length scope) (pos 0) refl (omega (arith, l))
    ∙ ap (λ (k : ℕ). get_or (z ∷ (zs ++ behind)) k (pos 0)) at in
    let pushed = numbered_push scope b.name whole env z here n in
    let one = length-append scope (Some b.name ∷ []) in
    let more = length-append point (z ∷ []) in
    subst (λ (xs : List ℤ). IsNumbered (scope_below bs (scope ++ Some b.name ∷ [])) xs (env_below bs zs ((b.name, z) ∷ env))) joined
    (numbered_below bs (scope ++ Some b.name ∷ []) (point ++ z ∷ []) zs behind ((b.name, z) ∷ env) (omega (arith, l, one, more)) (omega (arith, m))
    (subst (λ (xs : List ℤ). IsNumbered (scope ++ Some b.name ∷ []) xs ((b.name, z) ∷ env)) (sym joined) pushed))

-- a point with numbers behind it
pub numbered_longer : (scope : Scope) (point behind : List ℤ) (env : Environment) → ((name : List ℕ) → IfSome (column_of scope name) (λ at. at < length point))
    → IsNumbered scope point env → IsNumbered scope (point ++ behind) env
numbered_longer scope point behind env inside n = record { value = λ name. by name (column_of scope name) (inside name) (n.value name) }
  where
    by : (name : List ℕ) (c : Option ℕ) → IfSome c (λ at. at < length point) → IfSome c (λ at. value_in env name ≡ slice_index_or point at (pos 0))
        → IfSome c (λ at. value_in env name ≡ slice_index_or (point ++ behind) at (pos 0))
    by name None l e = tt
    by name (Some at) l e = e ∙ sym (get_or_append_left point behind (pos 0) at l)
