-- The tokens of printed values are nested less deep than the limit, where no name counts for the depth.
use Rattle.std.proofs.Common.{◌≡◌, ◌≤◌, ◌+◌, ◌-◌, ℕ, Bool, false, List, [], ◌∷◌, ◌++◌, Some, None, ap, ap₂, sym, subst, refl, arith}
use Rattle.std.specs.Prelude.{codes, ◌||◌, nat_lt}
use Rattle.std.specs.List.{list_any, AllByRecursion}
use Rattle.std.proofs.lemmas.Bool.{le-ltb}
use Rattle.std.proofs.lemmas.List.Elements.{recursion_from_All}
use Rattle.isl_space.specs.Name.{Name, IsLiteralName}
use Rattle.isl_space.specs.Form.{Form, leaf, pair, IsNamed}
use Rattle.isl_space.specs.SpaceForm.{SpaceForm, set_of, map_of, IsNamedSpace}
use Rattle.isl_union.specs.KeptValue.{KeptPiece, KeptValue, IsKeptPiece}
use Rattle.isl_print.specs.Naming.{coordinate_names}
use Rattle.isl_row_text.proofs.LiteralNameLaws.{coordinates_named}
use Rattle.isl_token.specs.TokenView.{Token}
use Rattle.isl_token.specs.declared.token.Kind.{Kind}
use Rattle.isl_token.specs.Token.{word_kind, sign_kind}
use Rattle.isl_token.specs.Depth.{stacking_words, step_by, step, start, depths}
use Rattle.isl_union.specs.Numbers.{HasNumbersUpTo}
use Rattle.isl_round_trip.specs.Accepted.{IsQuiet, IsQuietForm, IsQuietSpace, HasQuietNames}
use Rattle.isl_round_trip.specs.RoundTrip.{IsWritableValue}
use Rattle.isl_round_trip.proofs.TokenLaws.{Tokens, sign, word, number}
use Rattle.isl_round_trip.proofs.TermSpelled.{name_kind}
use Rattle.isl_round_trip.proofs.ValueTokenLaws.{printed_tokens}
use Rattle.isl_round_trip.proofs.QuietNames.{coordinates_quiet}
use Rattle.isl_round_trip.proofs.PrintedTokens.{Stands, Encloses, IsCalmForm, IsCalmSpace, HasCalmNames, printed_outside}

-- the places of a text, whose type has a name in its own crate alone
abbrev type_of : {A : Type 0} → A → Type 0
type_of {A} a = A

abbrev pub Place : Type 0
Place = type_of start

-- so many brackets, and no word
abbrev pub at : ℕ → Place
at depth = record { brackets = depth; words = 0 }

pub either_false : (a b : Bool) → a ≡ false → b ≡ false → (a || b) ≡ false
either_false a b p q = rw (p, q) refl

-- the tokens lead from one place to another, none of them deeper than the limit
abbrev pub Leads : Place → Tokens → Place → Type 0
Leads p [] q = p ≡ q
Leads p (t ∷ ts) q = ((step p t).brackets + (step p t).words ≤ 200) × Leads (step p t) ts q

leads-append : (p q r : Place) (xs ys : Tokens) → Leads p xs q → Leads q ys r → Leads p (xs ++ ys) r
leads-append p q r [] ys a b = subst (λ (x : Place). Leads x ys r) (sym a) b
leads-append p q r (t ∷ xs) ys a b = (a.0, leads-append (step p t) q r xs ys a.1 b)

pub not_deep : (p q : Place) (ts : Tokens) → Leads p ts q → list_any (nat_lt 200) (depths p ts) ≡ false
not_deep p q [] a = refl
not_deep p q (t ∷ ts) a = either_false (nat_lt 200 ((step p t).brackets + (step p t).words)) (list_any (nat_lt 200) (depths (step p t) ts)) (le-ltb 200 _ a.0) (not_deep (step p t) q ts a.1)

-- one token
one_leads : (p : Place) (t : Token) (d : ℕ) → d ≤ 200 → step p t ≡ at d → Leads p (t ∷ []) (at d)
one_leads p t d low is = (subst (λ (q : Place). q.brackets + q.words ≤ 200) (sym is) (omega (arith, low)), is)

-- a name of a literal that adds no depth
abbrev pub IsCalm : Name → Type 0
IsCalm name = IsLiteralName name × IsQuiet name

-- with so many brackets open, tokens that open no more
abbrev Level : ℕ → Tokens → Type 0
Level d ts = Leads (at d) ts (at d)

name_level : (d : ℕ) → d ≤ 100 → (name : Name) → IsCalm name → Level d (word name ∷ [])
name_level d low name calm = one_leads (at d) (word name) d (omega (arith, low)) (ap₂ (λ (q : Bool) (kind : Kind). step_by (at d) q kind) calm.1 (name_kind name calm.0))

level : (limit d : ℕ) → d ≤ 100 → Stands limit IsCalm (Level d)
unfolding sign_kind word_kind stacking_words
level limit d low = let small : d ≤ 200 = omega (arith, low) in record {
  none = refl;
  both = leads-append (at d) (at d) (at d);
  plus = one_leads (at d) (sign (codes "+")) d small refl;
  comma = one_leads (at d) (sign (codes ",")) d small refl;
  equal = one_leads (at d) (sign (codes "=")) d small refl;
  at_least = one_leads (at d) (sign (codes ">=")) d small refl;
  colon = one_leads (at d) (sign (codes ":")) d small refl;
  semicolon = one_leads (at d) (sign (codes ";")) d small refl;
  arrow = one_leads (at d) (sign (codes "->")) d small refl;
  conjunction = one_leads (at d) (word (codes "and")) d small refl;
  differs = one_leads (at d) (sign (codes "!=")) d small refl;
  remainder = one_leads (at d) (word (codes "mod")) d small refl;
  names = name_level d low;
  numbers = λ n few. one_leads (at d) (number n) d small refl;
}

-- ---- brackets
-- between what opens a bracket and what closes it
enclosed : (d : ℕ) (first last : Token) (ts : Tokens) → Leads (at d) (first ∷ []) (at (d + 1)) → Leads (at (d + 1)) (last ∷ []) (at d)
    → Level (d + 1) ts → Level d (first ∷ (ts ++ last ∷ []))
enclosed d first last ts opens closes inside =
    leads-append (at d) (at (d + 1)) (at d) (first ∷ []) (ts ++ last ∷ []) opens
    (leads-append (at (d + 1)) (at (d + 1)) (at d) ts (last ∷ []) inside closes)

in_squares : (d : ℕ) → d ≤ 98 → (ts : Tokens) → Level (d + 1) ts → Level d (sign (codes "[") ∷ (ts ++ sign (codes "]") ∷ []))
unfolding sign_kind
in_squares d low ts inside =
    let back : d + 1 - 1 ≡ d = omega arith in
    enclosed d (sign (codes "[")) (sign (codes "]")) ts (one_leads (at d) (sign (codes "[")) (d + 1) (omega (arith, low)) refl)
    (one_leads (at (d + 1)) (sign (codes "]")) d (omega (arith, low)) (ap at back)) inside

in_rounds : (d : ℕ) → d ≤ 98 → (ts : Tokens) → Level (d + 1) ts → Level d (sign (codes "(") ∷ (ts ++ sign (codes ")") ∷ []))
unfolding sign_kind
in_rounds d low ts inside =
    let back : d + 1 - 1 ≡ d = omega arith in
    enclosed d (sign (codes "(")) (sign (codes ")")) ts (one_leads (at d) (sign (codes "(")) (d + 1) (omega (arith, low)) refl)
    (one_leads (at (d + 1)) (sign (codes ")")) d (omega (arith, low)) (ap at back)) inside

in_braces : (ts : Tokens) → Level 1 ts → Level 0 (sign (codes "{") ∷ (ts ++ sign (codes "}") ∷ []))
unfolding sign_kind
in_braces ts inside =
    leads-append (at 0) (at 1) (at 0) (sign (codes "{") ∷ []) (ts ++ sign (codes "}") ∷ []) (one_leads (at 0) (sign (codes "{")) 1 (omega arith) refl)
    (leads-append (at 1) (at 1) (at 0) ts (sign (codes "}") ∷ []) inside (one_leads (at 1) (sign (codes "}")) 0 (omega arith) refl))

levels : Encloses Level
levels = record { squares = in_squares; rounds = in_rounds; braces = in_braces }

-- ---- values
calm_form : (form : Form) → IsNamed form → IsQuietForm form → IsCalmForm IsCalm form
calm_form (leaf None width) named quiet = tt
calm_form (leaf (Some name) width) named quiet = (named, quiet)
calm_form (pair left right) named quiet = (calm_form left named.0 quiet.0, calm_form right named.1 quiet.1)

calm_space : (space : SpaceForm) → IsNamedSpace space → IsQuietSpace space → IsCalmSpace IsCalm space
calm_space (set_of form) named quiet = calm_form form named quiet
calm_space (map_of from to) named quiet = (calm_form from named.0 quiet.0, calm_form to named.1 quiet.1)

calm_names : (names : List Name) → AllByRecursion IsLiteralName names → AllByRecursion IsQuiet names → AllByRecursion IsCalm names
calm_names [] named quiet = tt
calm_names (name ∷ names) named quiet = ((named.0, quiet.0), calm_names names named.1 quiet.1)

piece_calm : (params : List Name) (piece : KeptPiece) → IsKeptPiece params piece → IsQuietSpace piece.space → HasCalmNames IsCalm params piece
piece_calm params piece kept quiet =
    let few = kept.space.narrow.coordinates in
    let names = coordinate_names params piece.space in
    record {
      titles = calm_space piece.space kept.space.named quiet;
      coordinates = calm_names names (recursion_from_All IsLiteralName names (coordinates_named params piece.space (omega (arith, few)))) (coordinates_quiet params piece.space (omega (arith, few)));
    }

pub printed_leads : (limit : ℕ) (value : KeptValue) → IsWritableValue value → HasNumbersUpTo limit value → HasQuietNames value → Leads (at 0) (printed_tokens value) (at 0)
printed_leads limit value writable numbers quiet =
    printed_outside limit IsCalm Level (level limit) levels value writable.kept numbers
    (λ i d low. (writable.kept.params.named i d low, quiet.params i d low)) (λ i d low. piece_calm value.params _ (writable.kept.pieces i d low) (quiet.spaces i d low))
