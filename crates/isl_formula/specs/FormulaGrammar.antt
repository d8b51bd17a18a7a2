-- public: the grammar of formulas. (isl manual, the notation of sets and relations: Presburger formulas)
use Rattle.std.specs.Prelude.{◌≡◌, ℕ, zero, suc, Bool, true, false, List, [], ◌∷◌, ◌++◌, Option, Some, None}
use Rattle.isl_token.specs.TokenView.{Token}
use Rattle.isl_token.specs.declared.token.Kind.{Kind}
use Rattle.isl_token.specs.declared.token.Kind.TheVariants as k
use Rattle.isl_token.specs.Token.{kind_of}
use Rattle.isl_token.specs.Spelling.{Grammar, ◌>>=◌, ◌>>◌, ◌∪◌, pure, word, name, many, separated}
use Rattle.isl_tree.specs.declared.tree.Signed.{Signed}
use Rattle.isl_tree.specs.declared.tree.Compare.{Compare}
use Rattle.isl_tree.specs.declared.tree.Binder.{Binder}
use Rattle.isl_tree.specs.declared.tree.Formula.{Formula}
use Rattle.isl_tree.specs.declared.tree.Formula.TheVariants as f
use Rattle.isl_formula.specs.Chain.{compare_of}
use Rattle.isl_formula.specs.TermGrammar.{term}

-- "=" | "<" | "<=" | ">" | ">=" | "!="
abbrev pub comparison : Grammar Compare
comparison = λ c ts. (t : Token) × (ts ≡ t ∷ []) × (compare_of (kind_of t) ≡ Some c)

module _ (term : Grammar (List Signed)) where
  -- term {"," term}
  abbrev pub side : Grammar (List (List Signed))
  side = separated k.Comma term

  abbrev pub link : Grammar (Compare × List (List Signed))
  link = do
    c ← comparison
    right ← side
    pure (c, right)

  -- side compare side {compare side}
  abbrev pub chain : Grammar Formula
  chain = do
    first ← side
    second ← link
    links ← many link
    pure (f.Chain first (second ∷ links))

  -- ["=" term]
  abbrev pub value : Grammar (Option (List Signed))
  value = ((word k.Equal >> term) >>= λ t. pure (Some t)) ∪ pure None

  -- name ["=" term]
  abbrev pub binder : Grammar Binder
  binder = do
    bound ← name
    held ← value
    pure (record { name = bound; value = held })

  -- binder {"," binder}
  abbrev pub binders : Grammar (List Binder)
  binders = separated k.Comma binder

-- An `exists` without brackets takes all that follows, so it is the last item of each row that it stands in.
-- The grammars of items come in two: `false` for texts that do not end in such an `exists`, `true` for all.
module _ (sep : Kind) (make : List Formula → Formula) (item : Bool → Grammar Formula) where
  -- item sep {item sep} item
  abbrev pub several : Bool → Grammar Formula
  several last = do
    first ← item false
    middle ← many (word sep >> item false)
    final ← word sep >> item last
    pure (make (first ∷ (middle ++ final ∷ [])))

  -- item {sep item}
  abbrev pub rows : Bool → Grammar Formula
  rows last = item last ∪ several last

module _ (unary : Bool → Grammar Formula) where
  -- unary {"and" unary}
  abbrev pub conj : Bool → Grammar Formula
  conj = rows k.And f.And unary

  -- conj {"or" conj}
  abbrev pub disj : Bool → Grammar Formula
  disj = rows k.Or f.Or conj

  -- disj {"implies" disj}
  abbrev pub formula_with : Bool → Grammar Formula
  formula_with = rows k.Implies f.Implies disj

module _ (term : Grammar (List Signed)) (nested : Bool → Grammar Formula) where
  -- "not" unary
  abbrev pub negated : Bool → Grammar Formula
  negated last = do
    word k.Not
    inner ← nested last
    pure (f.Not inner)

  -- "(" formula ")"
  abbrev pub group : Grammar Formula
  group = do
    word k.Open
    inner ← formula_with nested true
    word k.Close
    pure inner

  -- binders ":" formula
  abbrev pub bound : Grammar Formula
  bound = do
    names ← binders term
    word k.Colon
    inner ← formula_with nested true
    pure (f.Exists names inner)

  -- "exists" binders ":" formula
  abbrev pub exists : Grammar Formula
  exists = word k.Exists >> bound

  -- "exists" "(" binders ":" formula ")"
  abbrev pub exists_in_brackets : Grammar Formula
  exists_in_brackets = do
    word k.Exists
    word k.Open
    whole ← bound
    word k.Close
    pure whole

  -- "true" | "false"
  abbrev pub truth : Grammar Formula
  truth = (word k.True >> pure f.True) ∪ (word k.False >> pure f.False)

  -- "not" unary | "(" formula ")" | "true" | "false" | chain | "exists" "(" binders ":" formula ")"
  abbrev pub closed : Bool → Grammar Formula
  closed last = negated last ∪ group ∪ truth ∪ chain term ∪ exists_in_brackets

  abbrev pub unary_level : Bool → Grammar Formula
  unary_level false = closed false
  unary_level true = closed true ∪ exists

-- nested less deep than the number
unfoldable pub unary : ℕ → Bool → Grammar Formula
unary zero last = λ _ _. ⊥
unary (suc n) last = unary_level (term (suc n)) (unary n) last

abbrev pub formula : ℕ → Grammar Formula
formula n = formula_with (unary n) true
