-- public: grammars over token lists: which tokens spell which values. Grammars are put together as their notation is written.
use Rattle.std.specs.Prelude.{◌≡◌, ◌≢◌, ℕ, ℤ, pos, List, [], ◌∷◌, ◌++◌, Result, Ok, Err, ◌⊎◌}
use Rattle.isl_token.specs.declared.fault.Fault.{Fault}
use Rattle.isl_token.specs.declared.fault.Fault.TheVariants.{NoMemory}
use Rattle.isl_token.specs.TokenView.{Token}
use Rattle.isl_token.specs.TokenView as token
use Rattle.isl_token.specs.declared.token.Kind.{Kind}
use Rattle.isl_token.specs.declared.token.Kind.TheVariants as kind
use Rattle.isl_token.specs.Token.{Text, kind_of}
use Rattle.isl_token.specs.Number.{number_of}

abbrev pub Grammar : Type 0 → Type 1
Grammar A = A → List Token → Type 0

-- no token, which spells a
abbrev pub pure : {A : Type 0} → A → Grammar A
pure a = λ b ts. (b ≡ a) × (ts ≡ [])

abbrev pub nothing : Grammar (Unit {0})
nothing = λ _ ts. ts ≡ []

-- one after the other
infixl 10 ◌>>=◌
abbrev pub ◌>>=◌ : {A B : Type 0} → Grammar A → (A → Grammar B) → Grammar B
L >>= M = λ b ts. (a : _) × (us : List Token) × (vs : List Token) × (ts ≡ us ++ vs) × L a us × M a b vs

infixl 10 ◌>>◌
abbrev pub ◌>>◌ : {A B : Type 0} → Grammar A → Grammar B → Grammar B
L >> M = L >>= (λ _. M)

-- either
infixr 8 ◌∪◌
abbrev pub ◌∪◌ : {A : Type 0} → Grammar A → Grammar A → Grammar A
L ∪ M = λ a ts. L a ts ⊎ M a ts

-- one token of this kind
abbrev pub word : Kind → Grammar (Unit {0})
word k = λ _ ts. (t : Token) × (ts ≡ t ∷ []) × (kind_of t ≡ k)

-- an identifier
abbrev pub name : Grammar Text
name = λ n ts. (ts ≡ token.Word n ∷ []) × (kind_of (token.Word n) ≡ kind.Name)

abbrev pub number : Grammar ℤ
number = λ z ts. (digits : Text) × (ts ≡ token.Number digits ∷ []) × (z ≡ number_of digits)

-- a number that is not 0
abbrev pub positive : Grammar ℤ
positive = λ z ts. number z ts × (z ≢ pos 0)

-- any number of these
abbrev pub many : {A : Type 0} → Grammar A → Grammar (List A)
many L [] ts = ts ≡ []
many L (x ∷ xs) ts = (us : List Token) × (vs : List Token) × (ts ≡ us ++ vs) × L x us × many L xs vs

-- item {sign item}
abbrev pub separated : {A : Type 0} → Kind → Grammar A → Grammar (List A)
separated sign item = do
  first ← item
  others ← many (word sign >> item)
  pure (first ∷ others)

-- the tokens spell a, with brackets nested to some depth
pub record Spells {A : Type 0} (L : ℕ → Grammar A) (a : A) (ts : List Token) : Type 0 where
  pub depth : ℕ
  pub spelled : L depth a ts

-- each list of tokens spells at most one value
abbrev pub SpellsOne : {A : Type 0} → (ℕ → Grammar A) → Type 0
SpellsOne L = (ts : List Token) (a b : _) → Spells L a ts → Spells L b ts → a ≡ b

-- the answer is this value, unless memory failed
abbrev pub Gives : {A : Type 0} → Result A Fault → A → Type 0
Gives r a = (r ≡ Ok a) ⊎ (r ≡ Err NoMemory)
