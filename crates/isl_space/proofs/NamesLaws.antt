-- Lists of distinct names.
use Rattle.std.proofs.Common.{◌≡◌, ◌≢◌, ◌<◌, ◌≤◌, ◌+◌, ◌∙◌, ◌⊎◌, inl, inr, ℕ, suc, zero, Bool, true, false, not, ◌||◌, List, [], ◌∷◌, ◌++◌}
use Rattle.std.proofs.Common.{Option, Some, None, All, Contains, MatchOption, is_some, position, if◌then◌else◌, length, get_or, take, drop}
use Rattle.std.proofs.Common.{filter, slice_get, slice_index, arith, ap, sym, subst, refl, append_assoc, length-append}
use Rattle.std.specs.Str.{bytes_eq}
use Rattle.std.proofs.Math.Bool.{or-false}
use Rattle.std.proofs.lemmas.Bool.{false_from_ne_true, false≢true, cases_Bool, cases_lt, not-true}
use Rattle.std.proofs.lemmas.List.{append-nil, get_or_append_left, get_or_at, take_at, take_more, drop_more, take-append-drop}
use Rattle.std.proofs.lemmas.List.{get_or_default}
use Rattle.std.proofs.lemmas.List.Elements.{All-weaker, All-head, All-tail, All-append, All-filter, All-contains_itself}
use Rattle.std.proofs.lemmas.List.Elements.{Contains-append_left, Contains-append_right, Contains-get_or, filter-append, filter_passes}
use Rattle.std.proofs.lemmas.List.Folds.{list_any_none, list_any_at, Any-from_list_any, list_any-append}
use Rattle.std.proofs.lemmas.List.Kept.{AllPairs-filter}
use Rattle.std.proofs.lemmas.List.Quantifiers.{position-Some}
use Rattle.std.proofs.lemmas.Slice.Eq.{bytes_eq-Decides}
use Rattle.std.proofs.lemmas.Option.{slice_get-get_or}
use Rattle.indexmap.specs.IndexSet.{insert_key}
use Rattle.isl_space.specs.Limits.{most_parameters}
use Rattle.isl_space.specs.Name.{Name, IsLiteralName}
use Rattle.isl_space.specs.Names.{AreDistinct, IsParameterList, ArePlaces, Joins, is_among, joined}
use Rattle.isl_space.proofs.DistinctLaws.{distinct-append, distinct_from, distinct_at, apart_from_all}

-- a name that differs from each of a list is not among them
pub absent : (names : List Name) (n : Name) → All (λ m. n ≢ m) names → is_among names n ≡ false
absent names n differs =
    list_any_none (bytes_eq n) names
    (All-weaker (λ m. n ≢ m) (λ m. bytes_eq n m ≡ false) (λ m other. false_from_ne_true _ (λ e. other ((bytes_eq-Decides n m).0 e))) names
    differs)

-- of distinct names, one is not among those before it
pub absent_before : (names : List Name) (n : Name) (rest : List Name) → AreDistinct (names ++ n ∷ rest) → is_among names n ≡ false
absent_before names n rest distinct =
    absent names n
    (λ i d within same.
    let later : length names < length (names ++ n ∷ rest) = rw length-append (omega arith) in
    distinct i (length names) d within later
    (get_or_append_left names (n ∷ rest) d i within ∙ sym same ∙ sym (get_or_at names n rest d (length names) refl)))

-- a set of the names so far that takes the next one too
pub inserted : (names done rest : List Name) (n : Name) → AreDistinct names → done ++ n ∷ rest ≡ names
    → insert_key bytes_eq done n ++ rest ≡ names
inserted names done rest n distinct is =
    let fresh : is_among done n ≡ false = absent_before done n rest (subst AreDistinct (sym is) distinct) in
    rw fresh (append_assoc done (n ∷ []) rest ∙ is)

-- of distinct names, the one at a place is not among those before it
absent_in_front : (names : List Name) (i : ℕ) (n : Name) → AreDistinct names → i < length names → n ≡ get_or names i n
    → is_among (take i names) n ≡ false
absent_in_front names i n distinct within is =
    let split : take i names ++ n ∷ drop (i + 1) names ≡ names =
    ap (λ m. take i names ++ m ∷ drop (i + 1) names) is
    ∙ (sym (ap (λ l. take i names ++ l) (drop_more names i n within)) ∙ take-append-drop i names) in
    absent_before (take i names) n (drop (i + 1) names) (subst AreDistinct (sym split) distinct)

-- the names up to a place are those before it and the one there
take_next : (names : List Name) (i : ℕ) (n : Name) → i < length names → n ≡ get_or names i n → take (i + 1) names ≡ take i names ++ n ∷ []
take_next names i n within is = take_more names i n within ∙ sym (ap (λ m. take i names ++ m ∷ []) is)

-- a set takes a name that it has not behind the others
insert_key_is : (names : List Name) (n : Name) → insert_key bytes_eq names n ≡ names ++ (if is_among names n then [] else n ∷ [])
insert_key_is names n = by_test (is_among names n) refl
  where
    by_test : (b : Bool) → b ≡ is_among names n → (if b then names else names ++ n ∷ []) ≡ names ++ (if b then [] else n ∷ [])
    by_test true is = sym (append-nil names)
    by_test false is = refl

-- the set that has the names before a place has those up to it when it takes the one there
pub inserted_more : (names done : List Name) (i : ℕ) (n : Name) → AreDistinct names → i < length names → n ≡ get_or names i n
    → done ≡ take i names → insert_key bytes_eq done n ≡ take (i + 1) names
inserted_more names done i n distinct within is before =
    let fresh : is_among done n ≡ false = rw before (absent_in_front names i n distinct within is) in
    rw fresh (ap (λ l. l ++ n ∷ []) before ∙ sym (take_next names i n within is))

pub ruleset inserting = (inserted, inserted_more)

-- what stands in a list stands in a longer one
slice_get-append : {X : Type 0} (xs ys : List X) (i : ℕ) (x : X) → slice_get xs i ≡ Some x → slice_get (xs ++ ys) i ≡ Some x
slice_get-append [] ys i x is = cc
slice_get-append (y ∷ xs) ys zero x is = is
slice_get-append (y ∷ xs) ys (suc i) x is = slice_get-append xs ys i x is

slice_get_last : {X : Type 0} (xs : List X) (x : X) → slice_get (xs ++ x ∷ []) (length xs) ≡ Some x
slice_get_last [] x = refl
slice_get_last (y ∷ xs) x = slice_get_last xs x

-- the others so far are joined to the names before, and have their places
pub record JoinsFront (before others now : List Name) (places : List ℕ) : Type 0 where
  pub names : now ≡ joined before others
  pub are : ArePlaces now others places

-- a name that is not among some is not among those of them that pass a test
is_among-filter : (test : Name → Bool) (names : List Name) (n : Name) → is_among names n ≡ false → is_among (filter test names) n ≡ false
is_among-filter test names n fresh =
    list_any_none (bytes_eq n) (filter test names)
    (All-filter test (λ m. bytes_eq n m ≡ false) names
    (λ i d within. false_from_ne_true _ (λ same. false≢true (sym fresh ∙ list_any_at (bytes_eq n) names i d within same))))

-- a name that is none of the others goes behind them where the first list lacks it
joined_push : (before others : List Name) (n : Name) → is_among others n ≡ false
    → insert_key bytes_eq (joined before others) n ≡ joined before (others ++ n ∷ [])
joined_push before others n fresh =
    insert_key_is (joined before others) n
    ∙ (ap (λ b. joined before others ++ (if b then [] else n ∷ [])) among
    ∙ (append_assoc before (filter is_new others) (if is_among before n then [] else n ∷ [])
    ∙ ap (λ l. before ++ l) (ap (λ l. filter is_new others ++ l) (by_test (is_among before n) refl)
    ∙ sym (filter-append is_new others (n ∷ [])))))
  where
    is_new : Name → Bool
    is_new m = not (is_among before m)

    among : is_among (joined before others) n ≡ is_among before n
    among =
        list_any-append (bytes_eq n) before (filter is_new others)
        ∙ (ap (λ b. is_among before n || b) (is_among-filter is_new others n fresh) ∙ or-false (is_among before n))

    by_test : (b : Bool) → is_among before n ≡ b → (if b then [] else n ∷ []) ≡ filter is_new (n ∷ [])
    by_test true is = rw is refl
    by_test false is = rw is refl

-- places in a list are places in a longer one
places_longer : (all more others : List Name) (places : List ℕ) → ArePlaces all others places → ArePlaces (all ++ more) others places
places_longer all more others places are = record {
  count = are.count;
  at = λ i within.
      let here = slice_get-get_or others i [] within in
      slice_get-append all more (slice_index places i) (get_or others i []) (are.at i within ∙ here) ∙ sym here;
}

-- a place more, of a name more
places_push : (all others : List Name) (n : Name) (places : List ℕ) (at : ℕ) → ArePlaces all others places → slice_get all at ≡ Some n
    → ArePlaces all (others ++ n ∷ []) (places ++ at ∷ [])
places_push all others n places at are is = record {
  count = rw (length-append places (at ∷ []), length-append others (n ∷ [])) (ap (λ k. k + 1) are.count);
  at = λ i within. by_place i (cases_lt i (length others)) within;
}
  where
    by_place : (i : ℕ) → (i < length others) ⊎ (length others ≤ i) → i < length (others ++ n ∷ [])
        → slice_get all (slice_index (places ++ at ∷ []) i) ≡ slice_get (others ++ n ∷ []) i
    by_place i (inl before) within =
        let here = slice_get-get_or others i [] before in
        let there : i < length places = omega (arith, are.count) in
        ap (λ k. slice_get all k) (get_or_append_left places (at ∷ []) 0 i there)
        ∙ (are.at i before ∙ (here ∙ sym (slice_get-append others (n ∷ []) i _ here)))
    by_place i (inr after) within =
        let last : i ≡ length others = omega (arith, length-append others (n ∷ [])) in
        rw last (ap (λ k. slice_get all k) (get_or_at places at [] 0 (length others) are.count) ∙ (is ∙ sym (slice_get_last others n)))

-- one more of the others is joined
join_push : (before others now next : List Name) (places : List ℕ) (n k : Name) (at : ℕ) → is_among others n ≡ false
    → JoinsFront before others now places → next ≡ insert_key bytes_eq now n → slice_get next at ≡ Some k → bytes_eq n k ≡ true
    → JoinsFront before (others ++ n ∷ []) next (places ++ at ∷ [])
join_push before others now next places n k at fresh joins is found same = record {
  names = is ∙ (ap (λ l. insert_key bytes_eq l n) joins.names ∙ joined_push before others n fresh);
  are =
      let here : slice_get next at ≡ Some n = found ∙ ap (λ m. Some m) (sym ((bytes_eq-Decides n k).0 same)) in
      let longer : next ≡ now ++ (if is_among now n then [] else n ∷ []) = is ∙ insert_key_is now n in
      places_push next others n places at (subst (λ (l : List Name). ArePlaces l others places) (sym longer)
      (places_longer now _ others places joins.are)) here;
}

pub join_next : (before others now next : List Name) (places pushed : List ℕ) (i : ℕ) (m n k : Name) (at : ℕ) → AreDistinct others
    → i < length others → m ≡ get_or others i m → n ≡ m → JoinsFront before (take i others) now places → next ≡ insert_key bytes_eq now n
    → slice_get next at ≡ Some k → bytes_eq n k ≡ true → pushed ≡ places ++ at ∷ [] → JoinsFront before (take (i + 1) others) next pushed
join_next before others now next places pushed i m n k at distinct within is copy joins inserts found same pushes =
    let here : n ≡ get_or others i n = copy ∙ (is ∙ get_or_default others i m n within) in
    rw (take_next others i n within here, pushes)
    (join_push before (take i others) now next places n k at (absent_in_front others i n distinct within here) joins inserts found same)

-- where a look-up of a name finds it, and that one that finds nothing had nothing to find
pub found_there : (names : List Name) (n : Name) (place : Option ℕ) → place ≡ position (bytes_eq n) names → is_some place ≡ is_among names n
    → MatchOption place (¬ (Contains names n)) (λ at. slice_get names at ≡ Some n)
found_there names n None is found =
    λ here. false≢true (found ∙ list_any_at (bytes_eq n) names here.0 n here.1 ((bytes_eq-Decides n _).1 (sym here.2)))
found_there names n (Some at) is found =
    let there = position-Some (bytes_eq n) names at n (sym is) in
    slice_get-get_or names at n there.0 ∙ ap (λ m. Some m) (sym ((bytes_eq-Decides n _).0 there.1))

-- names of which none is among the first ones may stand behind them
distinct_append : (names more : List Name) → AreDistinct names → AreDistinct more → All (λ n. is_among names n ≡ false) more
    → AreDistinct (names ++ more)
distinct_append names more first second fresh =
    distinct_at (names ++ more) (distinct-append names more (distinct_from names first) (distinct_from more second)
    (apart_from_all names more fresh))

pub joined_distinct : (names others : List Name) → AreDistinct names → AreDistinct others → AreDistinct (joined names others)
joined_distinct names others first second =
    distinct_append names (filter (λ n. not (is_among names n)) others) first
    (AllPairs-filter (λ a b. a ≢ b) (λ n. not (is_among names n)) others second)
    (All-weaker (λ n. not (is_among names n) ≡ true) (λ n. is_among names n ≡ false) (λ n new. not-true _ new)
    _ (filter_passes (λ n. not (is_among names n)) others))

-- a name that is among some is one of them
pub Contains-is_among : (names : List Name) (n : Name) → is_among names n ≡ true → Contains names n
Contains-is_among names n here =
    let found = Any-from_list_any (bytes_eq n) names here in
    let same : n ≡ found.1 = (bytes_eq-Decides n found.1).0 found.4 in
    (found.0, found.2, get_or_default names found.0 n found.1 found.2 ∙ (found.3 ∙ sym same))

-- what passes a test is among what a filter by it keeps
filter_keeps : (test : Name → Bool) (names : List Name) (k : ℕ) (n : Name) → k < length names → get_or names k n ≡ n → test n ≡ true
    → Contains (filter test names) n
filter_keeps test [] k n within is passes = absurd (omega arith)
filter_keeps test (m ∷ names) zero n within is passes = rw (ap test is ∙ passes) (0, omega arith, is)
filter_keeps test (m ∷ names) (suc k) n within is passes =
    by_test (test m) (filter_keeps test names k n (omega arith) is passes)
  where
    by_test : (b : Bool) → Contains (filter test names) n → Contains (if b then m ∷ filter test names else filter test names) n
    by_test true rest = (suc rest.0, omega arith, rest.2)
    by_test false rest = rest

-- the joined list is what it is called
pub joins : (names others all : List Name) → AreDistinct names → AreDistinct others → all ≡ joined names others → Joins names others all
joins names others all first second is = record {
  first = rw is (take_at names _ (length names) refl);
  second = subst (λ (l : List Name). All (Contains l) others) (sym is)
      (λ i d within. there _ (Contains-get_or others i d within) (cases_Bool (is_among names (get_or others i d))));
  only = subst (λ (l : List Name). All (λ n. Contains names n ⊎ Contains others n) l) (sym is)
      (All-append (λ n. Contains names n ⊎ Contains others n) names _
      (All-weaker (Contains names) (λ n. Contains names n ⊎ Contains others n) (λ n here. inl here) names (All-contains_itself names))
      (All-filter _ (λ n. Contains names n ⊎ Contains others n) others
      (All-weaker (Contains others) (λ n. Contains names n ⊎ Contains others n) (λ n here. inr here) others
      (All-contains_itself others))));
  distinct = subst AreDistinct (sym is) (joined_distinct names others first second);
}
  where
    there : (n : Name) → Contains others n → (is_among names n ≡ true) ⊎ (is_among names n ≡ false) → Contains (joined names others) n
    there n here (inl old) = Contains-append_left names _ n (Contains-is_among names n old)
    there n here (inr new) =
        Contains-append_right names _ n (filter_keeps (λ m. not (is_among names m)) others here.0 n here.1 here.2 (ap not new))

-- where the second list has nothing new, the first stays as it is
pub joined-nothing_new : (names others : List Name) → All (λ n. is_among names n ≡ true) others → joined names others ≡ names
joined-nothing_new names others old = ap (λ l. names ++ l) (none others old) ∙ append-nil names
  where
    none : (more : List Name) → All (λ n. is_among names n ≡ true) more → filter (λ n. not (is_among names n)) more ≡ []
    none [] all = refl
    none (n ∷ more) all =
        let here : is_among names n ≡ true = All-head (λ m. is_among names m ≡ true) n more all in
        rw here (none more (All-tail (λ m. is_among names m ≡ true) n more all))

pub joined-nil : (names : List Name) → joined names [] ≡ names
joined-nil names = append-nil names

pub nil-joined : (names : List Name) → joined [] names ≡ names
nil-joined [] = refl
nil-joined (n ∷ names) = ap (λ l. n ∷ l) (nil-joined names)

pub joined-self : (names : List Name) → joined names names ≡ names
joined-self names =
    joined-nothing_new names names (λ i d within. list_any_at (bytes_eq (get_or names i d)) names i d within
    ((bytes_eq-Decides (get_or names i d) (get_or names i d)).1 refl))

-- a joined list that is not too long may be declared
pub joined_parameters : (names others all : List Name) → IsParameterList names → IsParameterList others → all ≡ joined names others
    → length all ≤ most_parameters → IsParameterList all
joined_parameters names others all first second is few = record {
  distinct = subst AreDistinct (sym is) (joined_distinct names others first.distinct second.distinct);
  named = subst (λ (l : List Name). All IsLiteralName l) (sym is)
      (All-append IsLiteralName names _ first.named (All-filter _ IsLiteralName others second.named));
  few = few;
}

pub parameters_join : (names others all : List Name) → IsParameterList names → IsParameterList others → all ≡ joined names others
    → Joins names others all
parameters_join names others all first second is = joins names others all first.distinct second.distinct is
