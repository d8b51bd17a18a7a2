-- The column of a name.
use Rattle.std.proofs.Common.{◌≡◌, ◌∙◌, refl, sym, ap, subst, ℕ, suc, ◌+◌, ◌<◌, ℤ, pos, Bool, true, false, ◌||◌, List, [], ◌∷◌, ◌++◌, length}
use Rattle.std.proofs.Common.{take, get_or, arith, Option, None, Some}
use Rattle.std.specs.Prelude.{if◌then◌else◌, is_some, IfSome}
use Rattle.std.specs.Str.{bytes_eq}
use Rattle.std.proofs.lemmas.Bool.{cond-true, cond-false}
use Rattle.std.proofs.lemmas.List.{take_more, length-take-le}
use Rattle.isl_tree.specs.Environment.{Environment, value_in}
use Rattle.isl_tree.specs.Literal.{is_among}
use Rattle.isl_tree.specs.Term.{Term}
use Rattle.isl_tree.specs.Known.{term_is_known}
use Rattle.isl_affine.specs.Scope.{Scope, is_named, latest, column_from, column_of, IsNumbered, KnowsAll, IsTermKnown}

latest_right : (a b c : Option ℕ) → latest (latest a b) c ≡ latest a (latest b c)
latest_right a b None = refl
latest_right a b (Some at) = refl

latest_none : (o : Option ℕ) → latest None o ≡ o
latest_none None = refl
latest_none (Some at) = refl

column_push_from : (first : ℕ) (scope : Scope) (entry : Option (List ℕ)) (name : List ℕ)
    → column_from first (scope ++ entry ∷ []) name ≡ latest (column_from first scope name) (if is_named name entry then Some (first + length scope) else None)
column_push_from first [] entry name =
    let e : first ≡ first + 0 = omega arith in
    sym (latest_none (if is_named name entry then Some first else None))
    ∙ ap (λ (n : ℕ). latest None (if is_named name entry then Some n else None)) e
column_push_from first (x ∷ scope) entry name =
    let e : suc first + length scope ≡ first + length (x ∷ scope) = omega arith in
    ap (latest (if is_named name x then Some first else None)) (column_push_from (suc first) scope entry name)
    ∙ sym (latest_right (if is_named name x then Some first else None) (column_from (suc first) scope name)
    (if is_named name entry then Some (suc first + length scope) else None))
    ∙ ap (λ (n : ℕ). latest (column_from first (x ∷ scope) name) (if is_named name entry then Some n else None)) e

-- the column of a name behind one more entry
pub column_push : (scope : Scope) (entry : Option (List ℕ)) (name : List ℕ)
    → column_of (scope ++ entry ∷ []) name ≡ latest (column_of scope name) (if is_named name entry then Some (length scope) else None)
column_push scope entry name =
    let e : 0 + length scope ≡ length scope = omega arith in
    column_push_from 0 scope entry name
    ∙ ap (λ (n : ℕ). latest (column_of scope name) (if is_named name entry then Some n else None)) e

column_take : (scope : Scope) (name : List ℕ) (i : ℕ) (entry : Option (List ℕ)) → i < length scope → entry ≡ get_or scope i entry
    → column_of (take (i + 1) scope) name ≡ latest (column_of (take i scope) name) (if is_named name entry then Some i else None)
column_take scope name i entry inside is =
    let whole : take (i + 1) scope ≡ take i scope ++ entry ∷ [] =
    take_more scope i entry inside ∙ sym (ap (λ (e : Option (List ℕ)). take i scope ++ e ∷ []) is) in
    let long : length (take i scope) ≡ i = length-take-le i scope (omega arith) in
    ap (λ (s : Scope). column_of s name) whole ∙ column_push (take i scope) entry name
    ∙ ap (λ (n : ℕ). latest (column_of (take i scope) name) (if is_named name entry then Some n else None)) long

pub column_here : (scope : Scope) (name : List ℕ) (i : ℕ) (entry : Option (List ℕ)) → i < length scope → entry ≡ get_or scope i entry
    → is_named name entry ≡ true → Some i ≡ column_of (take (i + 1) scope) name
column_here scope name i entry inside is named =
    sym (column_take scope name i entry inside is ∙ ap (latest (column_of (take i scope) name)) (cond-true _ _ _ named))

pub column_other : (scope : Scope) (name : List ℕ) (i : ℕ) (entry : Option (List ℕ)) (found : Option ℕ) → i < length scope
    → entry ≡ get_or scope i entry → is_named name entry ≡ false → found ≡ column_of (take i scope) name
    → found ≡ column_of (take (i + 1) scope) name
column_other scope name i entry found inside is named before =
    before ∙ sym (column_take scope name i entry inside is ∙ ap (latest (column_of (take i scope) name)) (cond-false _ _ _ named))

pub ruleset columns = (column_here, column_other)

column_inside_from : (first : ℕ) (scope : Scope) (name : List ℕ) → IfSome (column_from first scope name) (λ at. at < first + length scope)
column_inside_from first [] name = tt
column_inside_from first (x ∷ scope) name =
    later (is_named name x) (column_from (suc first) scope name) (column_inside_from (suc first) scope name)
  where
    here : (b : Bool) → IfSome (if b then Some first else None) (λ at. at < first + length (x ∷ scope))
    here true = omega arith
    here false = tt

    later : (b : Bool) (o : Option ℕ) → IfSome o (λ at. at < suc first + length scope)
        → IfSome (latest (if b then Some first else None) o) (λ at. at < first + length (x ∷ scope))
    later b None h = here b
    later b (Some at) h = omega arith

-- a name's column is one of the scope
pub column_inside : (scope : Scope) (name : List ℕ) → IfSome (column_of scope name) (λ at. at < length scope)
column_inside scope name = by (column_of scope name) (column_inside_from 0 scope name)
  where
    by : (o : Option ℕ) → IfSome o (λ at. at < 0 + length scope) → IfSome o (λ at. at < length scope)
    by None h = tt
    by (Some at) h = omega arith

-- ---- one more name
pub numbered_push : (scope : Scope) (name : List ℕ) (point : List ℤ) (env : Environment) (z : ℤ)
    → get_or point (length scope) (pos 0) ≡ z → IsNumbered scope point env → IsNumbered (scope ++ Some name ∷ []) point ((name, z) ∷ env)
unfolding value_in
numbered_push scope name point env z is numbered = record { value = λ other. by other (bytes_eq name other) refl }
  where
    further : {v w : ℤ} (o : Option ℕ) → v ≡ w → IfSome o (λ at. w ≡ get_or point at (pos 0)) → IfSome o (λ at. v ≡ get_or point at (pos 0))
    further None e h = tt
    further (Some at) e h = e ∙ h

    by : (other : List ℕ) (b : Bool) → bytes_eq name other ≡ b
        → IfSome (column_of (scope ++ Some name ∷ []) other) (λ at. value_in ((name, z) ∷ env) other ≡ get_or point at (pos 0))
    by other true e =
        let at : column_of (scope ++ Some name ∷ []) other ≡ Some (length scope) =
        column_push scope (Some name) other ∙ ap (latest (column_of scope other)) (cond-true _ _ _ e) in
        subst (λ (o : Option ℕ). IfSome o (λ at. value_in ((name, z) ∷ env) other ≡ get_or point at (pos 0))) (sym at)
        (cond-true _ _ _ e ∙ sym is)
    by other false e =
        let at : column_of (scope ++ Some name ∷ []) other ≡ column_of scope other =
        column_push scope (Some name) other ∙ ap (latest (column_of scope other)) (cond-false _ _ _ e) in
        let value : value_in ((name, z) ∷ env) other ≡ value_in env other = cond-false _ _ _ e in
        subst (λ (o : Option ℕ). IfSome o (λ at. value_in ((name, z) ∷ env) other ≡ get_or point at (pos 0))) (sym at)
        (further (column_of scope other) value (numbered.value other))

known_latest : (o : Option ℕ) (n : ℕ) → is_some (latest o (Some n)) ≡ true
known_latest o n = refl

pub knows_push : (scope : Scope) (name : List ℕ) (known : List (List ℕ)) → KnowsAll scope known → KnowsAll (scope ++ Some name ∷ []) (name ∷ known)
knows_push scope name known knows other = by (bytes_eq name other) refl
  where
    by : (b : Bool) → bytes_eq name other ≡ b → is_among (name ∷ known) other ≡ is_some (column_of (scope ++ Some name ∷ []) other)
    by true e =
        ap (λ (b : Bool). b || is_among known other) e
        ∙ sym (ap (λ (o : Option ℕ). is_some o) (column_push scope (Some name) other ∙ ap (latest (column_of scope other)) (cond-true _ _ _ e)))
    by false e =
        ap (λ (b : Bool). b || is_among known other) e ∙ knows other
        ∙ sym (ap (λ (o : Option ℕ). is_some o) (column_push scope (Some name) other ∙ ap (latest (column_of scope other)) (cond-false _ _ _ e)))

pub term_known : (scope : Scope) (known : List (List ℕ)) (term : Term) → KnowsAll scope known → term_is_known known term ≡ true
    → IsTermKnown scope term
term_known scope known term knows is = (known, knows, is)
