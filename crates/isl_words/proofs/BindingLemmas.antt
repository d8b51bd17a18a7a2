-- Bindings, one after the other.
use Rattle.std.proofs.Common.{◌≡◌, ◌≢◌, ◌∙◌, ℕ, ℤ, ◌+◌, ◌<◌, ◌≤◌, Bool, true, false, ◌||◌, List, [], ◌∷◌, ◌++◌, Option, Some, None}
use Rattle.std.proofs.Common.{length, get_or, drop, map, refl, sym, ap, ap₂, subst, arith}
use Rattle.std.specs.Prelude.{if◌then◌else◌, option_map, option_and_then, unsigned_abs}
use Rattle.std.specs.List.{All, position_or_len, before_first, after_first, slice_split}
use Rattle.std.specs.Borrow.{Bor}
use Rattle.std.specs.Str.{bytes_eq}
use Rattle.std.proofs.lemmas.Bool.{false≢true}
use Rattle.std.proofs.lemmas.List.{append-nil, append_assoc, drop_more, drop_all}
use Rattle.std.proofs.lemmas.List.Elements.{All-cons, All-nil}
use Rattle.std.proofs.lemmas.List.Folds.{list_any_at}
use Rattle.std.proofs.lemmas.List.Quantifiers.{all_pairs_push}
use Rattle.std.proofs.lemmas.Slice.Eq.{bytes_eq-Decides}
use Rattle.isl_space.specs.Name.{Name, IsIdentifier, is_identifier}
use Rattle.isl_space.specs.Names.{AreDistinct, is_among}
use Rattle.isl_space.proofs.NamesLaws.{absent_before}
use Rattle.isl_words.specs.Number.{whole}
use Rattle.isl_words.specs.Binding.{is_equals, is_comma, binding, AreBindings}
use Rattle.isl_words.specs.Adding.{is_given, added, all_added}
use Rattle.isl_words.specs.Taken.{AreGiven}
use Rattle.isl_words.proofs.NumberLemmas.{some_same, whole_small}

abbrev Binding : Type 0
Binding = Name × ℤ

abbrev names_of : List Binding → List Name
names_of = map (λ given. given.0)

-- ---- one part

-- without `=` there is no number
pub no_equals : (limit : ℕ) (part : List ℕ) → position_or_len is_equals part ≡ length part → None ≡ binding limit part
no_equals limit part absent = by_test (is_identifier (before_first is_equals part))
  where
    nothing : after_first is_equals part ≡ []
    nothing = drop_all (position_or_len is_equals part + 1) part (omega arith)

    named_with : ℤ → Binding
    named_with z = (before_first is_equals part, z)

    by_test : (named : Bool) → None ≡ (if named then option_map named_with (whole limit (after_first is_equals part)) else None)
    by_test true = rw nothing refl
    by_test false = refl

-- what a binding is
pub binding_is : (limit : ℕ) (part : List ℕ) (given : Binding) → binding limit part ≡ Some given
    → IsIdentifier given.0 × (unsigned_abs given.1 ≤ limit)
binding_is limit part given is =
    by_test (is_identifier (before_first is_equals part)) (whole limit (after_first is_equals part)) refl refl is
  where
    by_test : (named : Bool) (z : Option ℤ) → is_identifier (before_first is_equals part) ≡ named
        → whole limit (after_first is_equals part) ≡ z
        → (if named then option_map (λ y. (before_first is_equals part, y)) z else None) ≡ Some given
        → IsIdentifier given.0 × (unsigned_abs given.1 ≤ limit)
    by_test false z named value is = absurd (cc)
    by_test true None named value is = absurd (cc)
    by_test true (Some z) named value is =
        let same = some_same (before_first is_equals part, z) given is in
        subst (λ (g : Binding). IsIdentifier g.0
        × (unsigned_abs g.1 ≤ limit)) same (named, whole_small limit (after_first is_equals part) z value)

-- ---- names

given_among : (found : List Binding) (name : Name) → is_given found name ≡ is_among (names_of found) name
given_among [] name = refl
given_among (given ∷ found) name = ap (λ b. bytes_eq name given.0 || b) (given_among found name)

names_append : (found at : List Binding) → names_of (found ++ at) ≡ names_of found ++ names_of at
names_append [] at = refl
names_append (given ∷ found) at = ap (λ l. given.0 ∷ l) (names_append found at)

distinct_push : (found : List Binding) (given : Binding) → is_given found given.0 ≡ false → AreDistinct (names_of found)
    → AreDistinct (names_of (found ++ given ∷ []))
distinct_push found given fresh distinct =
    subst AreDistinct (sym (names_append found (given ∷ [])))
    (all_pairs_push (λ a b. a ≢ b) (names_of found) given.0 distinct (λ k d within same. false≢true
    (sym fresh ∙
    (given_among found given.0 ∙ list_any_at (bytes_eq given.0) (names_of found) k d within ((bytes_eq-Decides _ _).1 (sym same))))))

fresh_next : (found : List Binding) (given : Binding) (at : List Binding) → AreDistinct (names_of (found ++ given ∷ at))
    → is_given found given.0 ≡ false
fresh_next found given at distinct =
    given_among found given.0
    ∙ absent_before (names_of found) given.0 (names_of at) (subst AreDistinct (names_append found (given ∷ at)) distinct)

-- ---- all parts

-- parts that are bindings of distinct names are taken
pub adding_all : (limit : ℕ) (found : List Binding) (parts : List (List ℕ)) (at : List Binding)
    → map (binding limit) parts ≡ map (λ given. Some given) at
    → AreDistinct (names_of (found ++ at)) → all_added limit found parts ≡ Some (found ++ at)
unfolding all_added
adding_all limit found [] [] are distinct = ap (λ l. Some l) (sym (append-nil found))
adding_all limit found [] (given ∷ at) are distinct = absurd (cc)
adding_all limit found (part ∷ parts) [] are distinct = absurd (cc)
adding_all limit found (part ∷ parts) (given ∷ at) are distinct =
    let first : binding limit part ≡ Some given = cc in
    let rest : map (binding limit) parts ≡ map (λ g. Some g) at = cc in
    let fresh = fresh_next found given at distinct in
    let seam : (found ++ given ∷ []) ++ at ≡ found ++ given ∷ at = append_assoc found (given ∷ []) at in
    rw (first, fresh)
    (adding_all limit (found ++ given ∷ []) parts at rest (subst (λ (l : List Binding). AreDistinct (names_of l)) (sym seam) distinct)
    ∙ ap (λ l. Some l) seam)

abbrev AddedAre : ℕ → List Binding → List (List ℕ) → List Binding → Type 0
AddedAre limit found parts all = (at : List Binding) × (all ≡ found ++ at) × (map (binding limit) parts ≡ map (λ given. Some given) at)
    × AreDistinct (names_of all)

module _ (limit : ℕ) (found : List Binding) (part : List ℕ) (parts : List (List ℕ)) (all : List Binding)
    (distinct : AreDistinct (names_of found))
    (later : (next : List Binding) → all_added limit next parts ≡ Some all → AreDistinct (names_of next)
    → AddedAre limit next parts all) where
  one_more : (given : Binding) (old : Bool) → binding limit part ≡ Some given → is_given found given.0 ≡ old
      → option_and_then (λ more. all_added limit more parts) (if old then None else Some (found ++ given ∷ [])) ≡ Some all
      → AddedAre limit found (part ∷ parts) all
  one_more given true first old is = absurd (cc)
  one_more given false first old is =
      let more = later (found ++ given ∷ []) is (distinct_push found given old distinct) in
      (given ∷ more.0, more.1 ∙ append_assoc found (given ∷ []) more.0, ap₂ (λ x xs. x ∷ xs) first more.2, more.3)

  next_part : (b : Option Binding) → binding limit part ≡ b
      → option_and_then (λ more. all_added limit more parts) (added found b) ≡ Some all → AddedAre limit found (part ∷ parts) all
  next_part None first is = absurd (cc)
  next_part (Some given) first is = one_more given (is_given found given.0) first refl is

-- what is taken are the bindings of all parts, and no name stands twice
pub all_added_are : (limit : ℕ) (found : List Binding) (parts : List (List ℕ)) (all : List Binding)
    → all_added limit found parts ≡ Some all → AreDistinct (names_of found)
    → AddedAre limit found parts all
unfolding all_added
all_added_are limit found [] all is distinct =
    let same = some_same found all is in
    ([], sym same ∙ sym (append-nil found), refl, subst (λ (l : List Binding). AreDistinct (names_of l)) same distinct)
all_added_are limit found (part ∷ parts) all is distinct =
    next_part limit found part parts all distinct (λ next more apart. all_added_are limit next parts all more apart)
    (binding limit part) refl is

-- ---- a text

pub bindings_added : (limit : ℕ) (text : List ℕ) (at : List Binding) → AreBindings limit text at
    → all_added limit [] (slice_split is_comma text) ≡ Some at
bindings_added limit text at are = adding_all limit [] (slice_split is_comma text) at are.each are.distinct

pub added_bindings : (limit : ℕ) (text : List ℕ) (at : List Binding) → all_added limit [] (slice_split is_comma text) ≡ Some at
    → AreBindings limit text at
added_bindings limit text at is =
    let are = all_added_are limit [] (slice_split is_comma text) at is (λ i j d before within. absurd (omega arith)) in
    record { each = are.2 ∙ ap (map (λ given. Some given)) (sym are.1); distinct = are.3 }

-- names may stand in a literal, and numbers are within the limit
pub bindings_are : (limit : ℕ) (parts : List (List ℕ)) (at : List Binding) → map (binding limit) parts ≡ map (λ given. Some given) at
    → All (λ given. IsIdentifier given.0) at × All (λ given. unsigned_abs given.1 ≤ limit) at
bindings_are limit [] [] are = (All-nil (λ given. IsIdentifier given.0), All-nil (λ given. unsigned_abs given.1 ≤ limit))
bindings_are limit [] (given ∷ at) are = absurd (cc)
bindings_are limit (part ∷ parts) [] are = absurd (cc)
bindings_are limit (part ∷ parts) (given ∷ at) are =
    let first : binding limit part ≡ Some given = cc in
    let rest : map (binding limit) parts ≡ map (λ g. Some g) at = cc in
    let here = binding_is limit part given first in
    let more = bindings_are limit parts at rest in
    (All-cons (λ g. IsIdentifier g.0) given at here.0 more.0, All-cons (λ g. unsigned_abs g.1 ≤ limit) given at here.1 more.1)

-- ---- a loop over the parts

module _ (limit : ℕ) (found : List Binding) (parts : List (Bor (List ℕ))) (i : ℕ) (p : Bor (List ℕ)) where
  all_more : i < length parts
      → all_added limit found (map (λ q. q.now) (drop i parts))
      ≡ option_and_then (λ more. all_added limit more (map (λ q. q.now) (drop (i + 1) parts)))
      (added found (binding limit (get_or parts i p).now))
  unfolding all_added
  all_more l = ap (λ (ps : List (Bor (List ℕ))). all_added limit found (map (λ q. q.now) ps)) (drop_more parts i p l)

  pub all_with : (next : List Binding) → i < length parts → added found (binding limit (get_or parts i p).now) ≡ Some next
      → all_added limit next (map (λ q. q.now) (drop (i + 1) parts)) ≡ all_added limit found (map (λ q. q.now) (drop i parts))
  all_with next l is = sym (all_more l ∙ ap (option_and_then (λ more. all_added limit more (map (λ q. q.now) (drop (i + 1) parts)))) is)

  pub all_without : i < length parts → added found (binding limit (get_or parts i p).now) ≡ None
      → None ≡ all_added limit found (map (λ q. q.now) (drop i parts))
  all_without l is = sym (all_more l ∙ ap (option_and_then (λ more. all_added limit more (map (λ q. q.now) (drop (i + 1) parts)))) is)

pub all_end : (limit : ℕ) (found : List Binding) (parts : List (Bor (List ℕ))) (i : ℕ) → length parts ≤ i
    → Some found ≡ all_added limit found (map (λ q. q.now) (drop i parts))
unfolding all_added
all_end limit found parts i l = sym (ap (λ (ps : List (Bor (List ℕ))). all_added limit found (map (λ q. q.now) ps)) (drop_all i parts l))

-- ---- the value of an option

pub read_given : (limit : ℕ) (given : Option (List ℕ)) (text : List ℕ) (at : List Binding) → given ≡ Some text
    → Some at ≡ all_added limit [] (slice_split is_comma text)
    → AreGiven limit given at
read_given limit given text at is added = subst (λ (g : Option (List ℕ)). AreGiven limit g at) (sym is)
    (added_bindings limit text at (sym added))

pub none_given : (limit : ℕ) (given : Option (List ℕ)) (text : List ℕ) → given ≡ Some text
    → None ≡ all_added limit [] (slice_split is_comma text)
    → (at : List Binding) → AreGiven limit given at → ⊥
none_given limit given text is none at are =
    let added = bindings_added limit text at (subst (λ (g : Option (List ℕ)). AreGiven limit g at) is are) in
    absurd (cc)
