-- What the names of the columns of a piece stand for.
use Rattle.std.proofs.Common.{◌≡◌, ◌∙◌, ◌↔◌, inl, inr, refl, sym, ap, subst, ℕ, suc, ◌+◌, ◌<◌, ◌≤◌, ℤ, pos, Bool, true, false, List, [], ◌∷◌, ◌++◌}
use Rattle.std.proofs.Common.{length, map, get_or, arith, Option, Some, None}
use Rattle.std.specs.Prelude.{◌||◌, ◌&&◌, is_some, IfSome, if◌then◌else◌}
use Rattle.std.specs.Str.{bytes_eq}
use Rattle.std.specs.List.{list_all}
use Rattle.std.proofs.lemmas.Bool.{false≢true, cases_Bool, cond-true, cond-false}
use Rattle.std.proofs.lemmas.List.{append_assoc, append-nil, length-append, length-map}
use Rattle.std.proofs.lemmas.Slice.Eq.{bytes_eq-Decides}
use Rattle.isl_space.specs.Valuation.{Valuation, value_at, values_of}
use Rattle.isl_tree.specs.declared.tree.Entry.{Entry}
use Rattle.isl_tree.specs.declared.tree.Entry.TheVariants.{Plain, Named}
use Rattle.isl_tree.specs.declared.tree.PieceTree.{PieceTree}
use Rattle.isl_tree.specs.Environment.{Environment, value_in}
use Rattle.isl_tree.specs.Literal.{is_among, lone_name, unless_known, new_name, known_after, with_new, with_coordinates, piece_entries}
use Rattle.isl_tree.specs.Literal.{piece_environment}
use Rattle.isl_tree.specs.Known.{known_behind}
use Rattle.isl_affine.specs.Scope.{Scope, is_named, latest, column_from, column_of, IsNumbered, KnowsAll}
use Rattle.isl_affine.proofs.ScopeLaws.{column_push, numbered_push, knows_push}
use Rattle.isl_lower.specs.Names.{unless_named, new_in, names_behind, parameter_names, piece_names}

-- these numbers stand in the point, one after the other from a column on
abbrev pub Stands : List ℤ → ℕ → List ℤ → Type 0
Stands point first [] = Unit {0}
Stands point first (x ∷ xs) = (get_or point first (pos 0) ≡ x) × Stands point (first + 1) xs

-- numbers stand in a list behind those before them
pub stands_behind : (before xs after : List ℤ) → Stands (before ++ (xs ++ after)) (length before) xs
stands_behind before [] after = tt
stands_behind before (x ∷ xs) after =
    let e : before ++ ((x ∷ xs) ++ after) ≡ (before ++ x ∷ []) ++ (xs ++ after) = sym (append_assoc before (x ∷ []) (xs ++ after)) in
    let more = stands_behind (before ++ x ∷ []) xs after in
    let long : length (before ++ x ∷ []) ≡ length before + 1 = length-append before (x ∷ []) in (
      here before x (xs ++ after),
      subst (λ (l : List ℤ). Stands l (length before + 1) xs) (sym e)
          (subst (λ (k : ℕ). Stands ((before ++ x ∷ []) ++ (xs ++ after)) k xs) long more),
    )
  where
    here : (before : List ℤ) (x : ℤ) (after : List ℤ) → get_or (before ++ (x ∷ after)) (length before) (pos 0) ≡ x
    here [] x after = refl
    here (y ∷ before) x after = here before x after

-- ---- one column more
module _ (scope : Scope) where
  -- a column without a name
  column_unnamed : (name : List ℕ) → column_of (scope ++ None ∷ []) name ≡ column_of scope name
  column_unnamed name = column_push scope None name

  numbered_after : (found : Option (List ℕ)) (point : List ℤ) (env : Environment) (x : ℤ) → get_or point (length scope) (pos 0) ≡ x
      → IsNumbered scope point env → IsNumbered (scope ++ found ∷ []) point (with_new found x env)
  numbered_after None point env x stands numbered = record {
    value = λ name.
        subst (λ (o : Option ℕ). IfSome o (λ at. value_in env name ≡ get_or point at (pos 0))) (sym (column_unnamed name))
        (numbered.value name);
  }
  numbered_after (Some name) point env x stands numbered = numbered_push scope name point env x stands numbered

  knows_after : (found : Option (List ℕ)) (known : List (List ℕ)) → KnowsAll scope known
      → KnowsAll (scope ++ found ∷ []) (known_after known found)
  knows_after None known knows name = knows name ∙ sym (ap (λ (o : Option ℕ). is_some o) (column_unnamed name))
  knows_after (Some name) known knows other = knows_push scope name known knows other

  -- a name that the environment has already
  numbered_known : (name : List ℕ) (point : List ℤ) (env : Environment) → get_or point (length scope) (pos 0) ≡ value_in env name
      → IsNumbered scope point env → IsNumbered (scope ++ Some name ∷ []) point env
  numbered_known name point env stands numbered = record { value = λ other. by other (bytes_eq name other) refl }
    where
      by : (other : List ℕ) (b : Bool) → bytes_eq name other ≡ b
          → IfSome (column_of (scope ++ Some name ∷ []) other) (λ at. value_in env other ≡ get_or point at (pos 0))
      by other true e =
          let at : column_of (scope ++ Some name ∷ []) other ≡ Some (length scope) =
          column_push scope (Some name) other ∙ ap (latest (column_of scope other)) (cond-true _ _ _ e) in
          let same : name ≡ other = (bytes_eq-Decides name other).0 e in
          subst (λ (o : Option ℕ). IfSome o (λ at. value_in env other ≡ get_or point at (pos 0))) (sym at) (ap (value_in env) (sym same) ∙ sym stands)
      by other false e =
          let at : column_of (scope ++ Some name ∷ []) other ≡ column_of scope other =
          column_push scope (Some name) other ∙ ap (latest (column_of scope other)) (cond-false _ _ _ e) in
          subst (λ (o : Option ℕ). IfSome o (λ at. value_in env other ≡ get_or point at (pos 0))) (sym at) (numbered.value other)

-- the name that an entry brings in is the same, whether it is asked of columns or of known names
new_same : (scope : Scope) (known : List (List ℕ)) (entry : Entry) → KnowsAll scope known → new_in scope entry ≡ new_name known entry
new_same scope known (Named name term) knows = refl
new_same scope known (Plain term) knows = by (lone_name term)
  where
    by : (o : Option (List ℕ)) → unless_named scope o ≡ unless_known known o
    by None = refl
    by (Some name) = ap (λ (b : Bool). if b then None else Some name) (sym (knows name))

-- ---- along entries
pub knows_behind : (entries : List Entry) (scope : Scope) (known : List (List ℕ)) → KnowsAll scope known
    → KnowsAll (names_behind scope entries) (known_behind known entries)
knows_behind [] scope known knows = knows
knows_behind (entry ∷ entries) scope known knows =
    knows_behind entries (scope ++ new_in scope entry ∷ []) (known_after known (new_name known entry))
    (subst (λ (o : Option (List ℕ)). KnowsAll (scope ++ new_in scope entry ∷ []) (known_after known o)) (new_same scope known entry knows)
    (knows_after scope (new_in scope entry) known knows))

pub numbered_behind : (entries : List Entry) (xs : List ℤ) (scope : Scope) (known : List (List ℕ)) (point : List ℤ) (env : Environment)
    → KnowsAll scope known → IsNumbered scope point env → Stands point (length scope) xs → length entries ≡ length xs
    → IsNumbered (names_behind scope entries) point (with_coordinates known entries xs env)
numbered_behind [] [] scope known point env knows numbered stands same = numbered
numbered_behind [] (x ∷ xs) scope known point env knows numbered stands same = absurd (omega arith)
numbered_behind (entry ∷ entries) [] scope known point env knows numbered stands same = absurd (omega arith)
numbered_behind (entry ∷ entries) (x ∷ xs) scope known point env knows numbered stands same =
    let found = new_in scope entry in
    let after = scope ++ found ∷ [] in
    let is : found ≡ new_name known entry = new_same scope known entry knows in
    let long : length after ≡ length scope + 1 = length-append scope (found ∷ []) in
    numbered_behind entries xs after (known_after known (new_name known entry)) point (with_new (new_name known entry) x env)
    (subst (λ (o : Option (List ℕ)). KnowsAll after (known_after known o)) is (knows_after scope found known knows))
    (subst (λ (o : Option (List ℕ)). IsNumbered after point (with_new o x env)) is (numbered_after scope found point env x stands.0 numbered))
    (subst (λ (k : ℕ). Stands point k xs) (sym long) stands.1) (omega arith)

-- ---- the parameters
pub numbered_parameters : (names : List (List ℕ)) (scope : Scope) (point : List ℤ) (env : Environment) → IsNumbered scope point env
    → Stands point (length scope) (map (value_in env) names) → IsNumbered (scope ++ parameter_names names) point env
numbered_parameters [] scope point env numbered stands =
    subst (λ (s : Scope). IsNumbered s point env) (sym (append-nil scope)) numbered
numbered_parameters (name ∷ names) scope point env numbered stands =
    let after = scope ++ Some name ∷ [] in
    let long : length after ≡ length scope + 1 = length-append scope (Some name ∷ []) in
    subst (λ (s : Scope). IsNumbered s point env) (append_assoc scope (Some name ∷ []) (parameter_names names))
    (numbered_parameters names after point env (numbered_known scope name point env stands.0 numbered)
    (subst (λ (k : ℕ). Stands point k (map (value_in env) names)) (sym long) stands.1))

some_latest : (a b : Option ℕ) → is_some (latest a b) ≡ (is_some a || is_some b)
some_latest None None = refl
some_latest None (Some n) = refl
some_latest (Some m) None = refl
some_latest (Some m) (Some n) = refl

some_here : (b : Bool) (n : ℕ) → is_some (if b then Some n else None) ≡ b
some_here true n = refl
some_here false n = refl

pub knows_parameters : (names : List (List ℕ)) → KnowsAll (parameter_names names) names
knows_parameters names other = from names 0
  where
    from : (ns : List (List ℕ)) (first : ℕ) → is_among ns other ≡ is_some (column_from first (parameter_names ns) other)
    from [] first = refl
    from (n ∷ ns) first =
        ap (λ (b : Bool). bytes_eq n other || b) (from ns (suc first))
        ∙ ap (λ (b : Bool). b || is_some (column_from (suc first) (parameter_names ns) other)) (sym (some_here (bytes_eq n other) first))
        ∙ sym (some_latest (if bytes_eq n other then Some first else None) (column_from (suc first) (parameter_names ns) other))

-- ---- a piece
module _ (params : List (List ℕ)) (piece : PieceTree) where
  pub piece_knows : KnowsAll (piece_names params piece) (known_behind params (piece_entries piece))
  piece_knows = knows_behind (piece_entries piece) (parameter_names params) params (knows_parameters params)

  -- at a valuation and coordinates the names of the columns stand for the numbers of the columns
  pub piece_numbered : (valuation : Valuation) (xs : List ℤ) → length (piece_entries piece) ≡ length xs
      → IsNumbered (piece_names params piece) (values_of params valuation ++ xs) (piece_environment params piece xs valuation)
  unfolding value_in
  piece_numbered valuation xs same =
      let ps = values_of params valuation in
      let long : length ps ≡ length params = length-map params (value_at valuation) in
      let given : length (parameter_names params) ≡ length params = length-map params (λ (n : List ℕ). Some n) in
      let all : ps ++ (xs ++ []) ≡ ps ++ xs = ap (λ (l : List ℤ). ps ++ l) (append-nil xs) in
      numbered_behind (piece_entries piece) xs (parameter_names params) params (ps ++ xs) valuation (knows_parameters params)
      (numbered_parameters params [] (ps ++ xs) valuation (record { value = λ name. tt }) (stands_behind [] ps xs))
      (subst (λ (k : ℕ). Stands (ps ++ xs) k xs) (long ∙ sym given)
      (subst (λ (l : List ℤ). Stands l (length ps) xs) all (stands_behind ps xs []))) same

  pub coordinates_stand : (valuation : Valuation) (xs : List ℤ) → Stands (values_of params valuation ++ xs) (length params) xs
  coordinates_stand valuation xs =
      let ps = values_of params valuation in
      let long : length ps ≡ length params = length-map params (value_at valuation) in
      let all : ps ++ (xs ++ []) ≡ ps ++ xs = ap (λ (l : List ℤ). ps ++ l) (append-nil xs) in
      subst (λ (k : ℕ). Stands (ps ++ xs) k xs) long (subst (λ (l : List ℤ). Stands l (length ps) xs) all (stands_behind ps xs []))
