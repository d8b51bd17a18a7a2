-- Lists that have the same names, and lists in which no name stands twice.
use Rattle.std.proofs.Common.{◌≡◌, ◌<◌, ◌≤◌, ◌+◌, ℕ, Bool, true, false, not, List, [], ◌∷◌, ◌++◌, Option, Some, None, refl, sym, ap, ◌∙◌}
use Rattle.std.proofs.Common.{length, get_or, take, drop, subst}
use Rattle.std.specs.Prelude.{◌&&◌, ◌||◌, if◌then◌else◌}
use Rattle.std.specs.List.{list_any, list_all}
use Rattle.std.specs.Str.{bytes_eq}
use Rattle.std.proofs.Math.Bool.{or-false}
use Rattle.std.proofs.lemmas.Bool.{false≢true, not-true}
use Rattle.std.proofs.lemmas.List.{append_assoc, append-nil, take_more, drop_more, take-append-drop, drop_all}
use Rattle.std.proofs.lemmas.List.Folds.{list_any-append}
use Rattle.std.proofs.lemmas.Slice.Eq.{bytes_eq-Decides}
use Rattle.indexmap.specs.IndexSet.{insert_key}
use Rattle.isl_token.specs.Token.{Text}
use Rattle.isl_tree.specs.declared.tree.Entry.{Entry}
use Rattle.isl_tree.specs.declared.tree.Entry.TheVariants.{Plain, Named}
use Rattle.isl_tree.specs.declared.tree.PieceTree.{PieceTree}
use Rattle.isl_tree.specs.Literal.{is_among, piece_entries}
use Rattle.isl_text.specs.Formed.{are_distinct, is_new, with_name, known_behind, names_are_new, standing_name, is_named, has_named}
use Rattle.isl_text.specs.Formed.{HaveSameNames, GoesAlong, piece_is_formed}

or-true : (b : Bool) → (b || true) ≡ true
or-true true = refl
or-true false = refl

and-false : (b : Bool) → (b && false) ≡ false
and-false true = refl
and-false false = refl

not-false : (b : Bool) → not b ≡ false → b ≡ true
not-false true is = refl
not-false false is = sym is

bytes_eq-turned : (a b : Text) → bytes_eq a b ≡ bytes_eq b a
bytes_eq-turned a b = by (bytes_eq a b) refl (bytes_eq b a) refl
  where
    by : (p : Bool) → bytes_eq a b ≡ p → (q : Bool) → bytes_eq b a ≡ q → p ≡ q
    by true one true other = refl
    by false one false other = refl
    by true one false other = absurd (false≢true (sym other ∙ (bytes_eq-Decides b a).1 (sym ((bytes_eq-Decides a b).0 one))))
    by false one true other = absurd (false≢true (sym one ∙ (bytes_eq-Decides a b).1 (sym ((bytes_eq-Decides b a).0 other))))

-- a set looks for a name from the other side
pub among_turned : (names : List Text) (name : Text) → list_any (bytes_eq name) names ≡ is_among names name
among_turned [] name = refl
among_turned (n ∷ names) name =
    ap (λ b. b || list_any (bytes_eq name) names) (bytes_eq-turned name n) ∙ ap (λ b. bytes_eq n name || b) (among_turned names name)

among-append : (names others : List Text) (name : Text) → is_among (names ++ others) name ≡ (is_among names name || is_among others name)
among-append names others name = list_any-append (λ n. bytes_eq n name) names others

-- ---- lists with the same names

pub same_names-refl : (names : List Text) → HaveSameNames names names
same_names-refl names name = refl

pub same_names-trans : (a b c : List Text) → HaveSameNames a b → HaveSameNames b c → HaveSameNames a c
same_names-trans a b c one two name = one name ∙ two name

same_names-left : (before a b : List Text) → HaveSameNames a b → HaveSameNames (before ++ a) (before ++ b)
same_names-left before a b same name =
    among-append before a name ∙ ap (λ q. is_among before name || q) (same name) ∙ sym (among-append before b name)

same_names-right : (a b after : List Text) → HaveSameNames a b → HaveSameNames (a ++ after) (b ++ after)
same_names-right a b after same name =
    among-append a after name ∙ ap (λ q. q || is_among after name) (same name) ∙ sym (among-append b after name)

with_name-same : (a b : List Text) (name : Option Text) → HaveSameNames a b → HaveSameNames (with_name a name) (with_name b name)
with_name-same a b None same = same
with_name-same a b (Some name) same = same_names-right a b (name ∷ []) same

is_new-same : (a b : List Text) (entry : Entry) → HaveSameNames a b → is_new a entry ≡ is_new b entry
is_new-same a b (Plain term) same = refl
is_new-same a b (Named name term) same = ap not (same name)

pub names_are_new-same : (a b : List Text) (entries : List Entry) → HaveSameNames a b → names_are_new a entries ≡ names_are_new b entries
names_are_new-same a b [] same = refl
names_are_new-same a b (entry ∷ entries) same =
    ap (λ q. q && names_are_new (with_name a (standing_name entry)) entries) (is_new-same a b entry same)
    ∙ ap (λ q. is_new b entry && q)
    (names_are_new-same (with_name a (standing_name entry)) (with_name b (standing_name entry)) entries
    (with_name-same a b (standing_name entry) same))

pub known_behind-same : (a b : List Text) (entries : List Entry) → HaveSameNames a b
    → HaveSameNames (known_behind a entries) (known_behind b entries)
known_behind-same a b [] same = same
known_behind-same a b (entry ∷ entries) same =
    known_behind-same (with_name a (standing_name entry)) (with_name b (standing_name entry)) entries
    (with_name-same a b (standing_name entry) same)

-- ---- sets of names

-- a set takes a name
pub inserted_same : (names : List Text) (name : Text) → HaveSameNames (insert_key bytes_eq names name) (names ++ name ∷ [])
inserted_same names name = by (list_any (bytes_eq name) names) refl
  where
    by : (b : Bool) → list_any (bytes_eq name) names ≡ b → HaveSameNames (if b then names else names ++ name ∷ []) (names ++ name ∷ [])
    by false is other = refl
    by true is other = by_other (bytes_eq name other) refl
      where
        by_other : (q : Bool) → bytes_eq name other ≡ q → is_among names other ≡ is_among (names ++ name ∷ []) other
        by_other true same =
            let one : is_among names other ≡ true =
            ap (is_among names) (sym ((bytes_eq-Decides name other).0 same)) ∙ sym (among_turned names name) ∙ is in
            one ∙ sym (among-append names (name ∷ []) other ∙ ap (λ q. q || (bytes_eq name other || false)) one)
        by_other false differs =
            sym (among-append names (name ∷ []) other ∙ ap (λ q. is_among names other || (q || false)) differs
            ∙ or-false (is_among names other))

pub learned : (own more : List Text) (standing : Option Text) (name copy : Text) → standing ≡ Some name → copy ≡ name
    → more ≡ insert_key bytes_eq own copy → HaveSameNames more (with_name own standing)
learned own more standing name copy is same takes =
    let taken : more ≡ insert_key bytes_eq own name = takes ∙ ap (insert_key bytes_eq own) same in
    rw (is, taken) (inserted_same own name)

pub nothing_learned : (own : List Text) (standing : Option Text) → standing ≡ None → HaveSameNames own (with_name own standing)
nothing_learned own standing is = rw is (same_names-refl own)

pub ruleset learning = (learned, nothing_learned)

-- one more name is put into a set
pub set_more : (names before pushed : List Text) (i : ℕ) (name copy : Text) → i < length names → name ≡ get_or names i name → copy ≡ name
    → pushed ≡ insert_key bytes_eq before copy → HaveSameNames before (take i names) → HaveSameNames pushed (take (i + 1) names)
set_more names before pushed i name copy low at same takes so_far =
    let taken : pushed ≡ insert_key bytes_eq before name = takes ∙ ap (insert_key bytes_eq before) same in
    let next : take i names ++ name ∷ [] ≡ take (i + 1) names =
    ap (λ n. take i names ++ n ∷ []) at ∙ sym (take_more names i name low) in
    subst (λ (l : List Text). HaveSameNames pushed l) next
    (subst (λ (l : List Text). HaveSameNames l (take i names ++ name ∷ [])) (sym taken)
    (same_names-trans (insert_key bytes_eq before name) (before ++ name ∷ []) (take i names ++ name ∷ []) (inserted_same before name)
    (same_names-right before (take i names) (name ∷ []) so_far)))

-- ---- along entries

with_name-left : (before own : List Text) (name : Option Text)
    → HaveSameNames (before ++ with_name own name) (with_name (before ++ own) name)
with_name-left before own None = same_names-refl (before ++ own)
with_name-left before own (Some name) =
    subst (λ (l : List Text). HaveSameNames (before ++ (own ++ name ∷ [])) l) (sym (append_assoc before own (name ∷ [])))
    (same_names-refl (before ++ (own ++ name ∷ [])))

-- what is asked of all entries is asked of the rest, behind the names so far
pub record IsAlong (params start own : List Text) (entries rest : List Entry) : Type 0 where
  pub same : names_are_new (params ++ start) entries ≡ names_are_new (params ++ own) rest
  pub behind : HaveSameNames (known_behind (params ++ own) rest) (known_behind (params ++ start) entries)

pub along_start : (params start : List Text) (entries : List Entry) → IsAlong params start start entries entries
along_start params start entries = record { same = refl; behind = same_names-refl (known_behind (params ++ start) entries) }

module _ (params start own : List Text) (entries : List Entry) (i : ℕ) (entry : Entry) (low : i < length entries)
    (at : entry ≡ get_or entries i entry)
    (along : IsAlong params start own entries (drop i entries)) where
  rest_is : drop i entries ≡ entry ∷ drop (i + 1) entries
  rest_is = drop_more entries i entry low ∙ ap (λ e. e ∷ drop (i + 1) entries) (sym at)

  pub along_more : (more : List Text) → is_new (params ++ own) entry ≡ true → HaveSameNames more (with_name own (standing_name entry))
      → IsAlong params start more entries (drop (i + 1) entries)
  along_more more new learns =
      let next : HaveSameNames (params ++ more) (with_name (params ++ own) (standing_name entry)) =
      same_names-trans (params ++ more) (params ++ with_name own (standing_name entry)) (with_name (params ++ own) (standing_name entry))
      (same_names-left params more (with_name own (standing_name entry)) learns) (with_name-left params own (standing_name entry)) in
      let rest = drop (i + 1) entries in
      record {
        same = along.same ∙ ap (names_are_new (params ++ own)) rest_is
            ∙ ap (λ q. q && names_are_new (with_name (params ++ own) (standing_name entry)) rest) new
            ∙ sym (names_are_new-same (params ++ more) (with_name (params ++ own) (standing_name entry)) rest next);
        behind =
            same_names-trans (known_behind (params ++ more) rest) (known_behind (params ++ own) (drop i entries))
            (known_behind (params ++ start) entries)
            (subst (λ (l : List Entry). HaveSameNames (known_behind (params ++ more) rest) (known_behind (params ++ own) l)) (sym rest_is)
            (known_behind-same (params ++ more) (with_name (params ++ own) (standing_name entry)) rest next))
            along.behind;
      }

  pub along_stops : (behind : List Text) → is_new (params ++ own) entry ≡ false → GoesAlong false (params ++ start) behind entries
  along_stops behind old = record {
    are_new = sym (along.same ∙ ap (names_are_new (params ++ own)) rest_is
        ∙ ap (λ q. q && names_are_new (with_name (params ++ own) (standing_name entry)) (drop (i + 1) entries)) old);
    become_known = λ e. absurd (false≢true e);
  }

pub along_ends : (params start own : List Text) (entries : List Entry) (i : ℕ) → length entries ≤ i
    → IsAlong params start own entries (drop i entries)
    → GoesAlong true (params ++ start) (params ++ own) entries
along_ends params start own entries i over along =
    let none : drop i entries ≡ [] = drop_all i entries over in
    record {
      are_new = sym (along.same ∙ ap (names_are_new (params ++ own)) none);
      become_known = λ e. subst (λ (l : List Entry). HaveSameNames (known_behind (params ++ own) l)
          (known_behind (params ++ start) entries)) none along.behind;
    }

-- ---- pieces

-- a piece is looked at behind the set of parameters
pub piece_is : (set params own behind : List Text) (piece : PieceTree) (new : Bool) → HaveSameNames set params → own ≡ []
    → GoesAlong new (set ++ own) behind (piece_entries piece) → new ≡ piece_is_formed params piece
piece_is set params own behind piece new same none goes =
    goes.are_new ∙ ap (λ l. names_are_new (set ++ l) (piece_entries piece)) none
    ∙ ap (λ l. names_are_new l (piece_entries piece)) (append-nil set) ∙ names_are_new-same set params (piece_entries piece) same

module _ (params : List Text) (pieces : List PieceTree) (i : ℕ) (piece : PieceTree) (low : i < length pieces)
    (at : piece ≡ get_or pieces i piece)
    (so_far : list_all (piece_is_formed params) pieces ≡ list_all (piece_is_formed params) (drop i pieces)) where
  behind_it : list_all (piece_is_formed params) pieces
      ≡ (piece_is_formed params piece && list_all (piece_is_formed params) (drop (i + 1) pieces))
  behind_it = so_far ∙ ap (list_all (piece_is_formed params)) (drop_more pieces i piece low ∙ ap (λ p. p ∷ drop (i + 1) pieces) (sym at))

  pub pieces_stop : (new : Bool) → new ≡ false → new ≡ piece_is_formed params piece → false ≡ list_all (piece_is_formed params) pieces
  pieces_stop new old is = sym (behind_it ∙ ap (λ b. b && list_all (piece_is_formed params) (drop (i + 1) pieces)) (sym is ∙ old))

  pub pieces_more : (new : Bool) → new ≡ true → new ≡ piece_is_formed params piece
      → list_all (piece_is_formed params) pieces ≡ list_all (piece_is_formed params) (drop (i + 1) pieces)
  pieces_more new yes' is = behind_it ∙ ap (λ b. b && list_all (piece_is_formed params) (drop (i + 1) pieces)) (sym is ∙ yes')

-- where no name stands before `=` there is nothing to be new
none_new : (known : List Text) (entries : List Entry) → list_any is_named entries ≡ false → names_are_new known entries ≡ true
none_new known [] none = refl
none_new known (Plain term ∷ entries) none = none_new (with_name known (standing_name (Plain term))) entries none
none_new known (Named name term ∷ entries) none = absurd (false≢true (sym none))

pub none_named : (params : List Text) (pieces : List PieceTree) → list_any has_named pieces ≡ false
    → list_all (piece_is_formed params) pieces ≡ true
none_named params [] none = refl
none_named params (piece ∷ pieces) none = by (has_named piece) refl (none_named params pieces) none
  where
    by : (p : Bool) → has_named piece ≡ p → (list_any has_named pieces ≡ false → list_all (piece_is_formed params) pieces ≡ true)
        → (p || list_any has_named pieces) ≡ false → (piece_is_formed params piece && list_all (piece_is_formed params) pieces) ≡ true
    by false one others none =
        ap (λ b. b && list_all (piece_is_formed params) pieces) (none_new params (piece_entries piece) one) ∙ others none
    by true one others none = absurd (false≢true (sym none))

-- ---- names that stand twice

distinct_push : (names : List Text) (name : Text) → are_distinct names ≡ true → is_among names name ≡ false
    → are_distinct (names ++ name ∷ []) ≡ true
distinct_push [] name distinct fresh = refl
distinct_push (n ∷ names) name distinct fresh =
    by (is_among names n) refl (bytes_eq n name) refl (distinct_push names name) distinct fresh
  where
    by : (p : Bool) → is_among names n ≡ p → (q : Bool) → bytes_eq n name ≡ q
        → (are_distinct names ≡ true → is_among names name ≡ false → are_distinct (names ++ name ∷ []) ≡ true)
        → (not p && are_distinct names) ≡ true → (q || is_among names name) ≡ false
        → (not (is_among (names ++ name ∷ []) n) && are_distinct (names ++ name ∷ [])) ≡ true
    by false one false other again distinct fresh =
        let not_there : is_among (names ++ name ∷ []) n ≡ false =
        among-append names (name ∷ []) n ∙ ap (λ b. b || (bytes_eq name n || false)) one
        ∙ ap (λ b. b || false) (bytes_eq-turned name n ∙ other) in
        ap (λ b. not b && are_distinct (names ++ name ∷ [])) not_there ∙ again distinct fresh
    by true one q other again distinct fresh = absurd (false≢true distinct)
    by false one true other again distinct fresh = absurd (false≢true (sym fresh))

distinct_fails : (names rest : List Text) (name : Text) → is_among names name ≡ true → are_distinct (names ++ name ∷ rest) ≡ false
distinct_fails [] rest name there = absurd (false≢true there)
distinct_fails (n ∷ names) rest name there = by (bytes_eq n name) refl (distinct_fails names rest name) there
  where
    by : (q : Bool) → bytes_eq n name ≡ q → (is_among names name ≡ true → are_distinct (names ++ name ∷ rest) ≡ false)
        → (q || is_among names name) ≡ true
        → (not (is_among (names ++ name ∷ rest) n) && are_distinct (names ++ name ∷ rest)) ≡ false
    by true here again there =
        let found : is_among (names ++ name ∷ rest) n ≡ true =
        among-append names (name ∷ rest) n ∙ ap (λ b. is_among names n || (b || is_among rest n)) (bytes_eq-turned name n ∙ here)
        ∙ or-true (is_among names n) in
        ap (λ b. not b && are_distinct (names ++ name ∷ rest)) found
    by false here again there =
        ap (λ b. not (is_among (names ++ name ∷ rest) n) && b) (again there) ∙ and-false (not (is_among (names ++ name ∷ rest) n))

module _ (names before pushed : List Text) (i : ℕ) (name copy : Text) (low : i < length names) (at : name ≡ get_or names i name)
    (same : copy ≡ name)
    (is : before ≡ take i names) where
  -- a name that the set has not is put behind the others
  pub distinct_more : are_distinct before ≡ true → not (list_any (bytes_eq copy) before) ≡ true → pushed ≡ insert_key bytes_eq before copy
      → (pushed ≡ take (i + 1) names) × (are_distinct pushed ≡ true)
  distinct_more distinct new takes =
      let fresh : list_any (bytes_eq copy) before ≡ false = not-true _ new in
      let longer : pushed ≡ before ++ copy ∷ [] = takes ∙ ap (λ b. if b then before else before ++ copy ∷ []) fresh in (
        longer ∙ ap (λ l. l ++ copy ∷ []) is ∙ ap (λ n. take i names ++ n ∷ []) (same ∙ at) ∙ sym (take_more names i name low),
        ap are_distinct longer ∙ distinct_push before copy distinct (sym (among_turned before copy) ∙ fresh),
      )

  -- one that it has stands twice
  pub stands_twice : not (list_any (bytes_eq copy) before) ≡ false → are_distinct names ≡ false
  stands_twice old =
      let there : list_any (bytes_eq copy) before ≡ true = not-false _ old in
      let split : take i names ++ copy ∷ drop (i + 1) names ≡ names =
      ap (λ n. take i names ++ n ∷ drop (i + 1) names) (same ∙ at) ∙ ap (λ l. take i names ++ l) (sym (drop_more names i name low))
      ∙ take-append-drop i names in
      ap are_distinct (sym split)
      ∙ distinct_fails (take i names) (drop (i + 1) names) copy
      (ap (λ l. is_among l copy) (sym is) ∙ sym (among_turned before copy) ∙ there)
