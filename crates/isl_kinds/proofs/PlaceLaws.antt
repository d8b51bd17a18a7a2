-- Which names are known at a place: those that stand before it.
use Rattle.std.proofs.Common.{◌≡◌, ◌∙◌, Bool, true, false, ◌||◌, List, [], ◌∷◌, ◌++◌, Option, Some, None, refl, sym, ap, ap₂, subst}
use Rattle.std.proofs.Common.{if◌then◌else◌}
use Rattle.std.specs.List.{list_any}
use Rattle.std.specs.Str.{bytes_eq}
use Rattle.std.proofs.lemmas.List.{append-nil}
use Rattle.std.proofs.lemmas.List.Folds.{list_any-append}
use Rattle.std.proofs.lemmas.Slice.Eq.{bytes_eq-Decides}
use Rattle.isl_space.specs.Name.{Name}
use Rattle.isl_tree.specs.declared.tree.Binder.{Binder}
use Rattle.isl_tree.specs.declared.tree.Entry.{Entry}
use Rattle.isl_tree.specs.declared.tree.Entry.TheVariants.{Plain, Named}
use Rattle.isl_tree.specs.declared.tree.Tuple.{Tuple, Pair}
use Rattle.isl_tree.specs.declared.tree.Tuple.TheBlock.{hidden-the_row-Tuple-0}
use Rattle.isl_tree.specs.Literal.{is_among, lone_name, unless_known, new_name, known_after, entries_of}
use Rattle.isl_tree.specs.Known.{known_behind, known_below}
use Rattle.isl_kinds.specs.Place.{is_name, stands_at}

-- ---- tuples

pub entries_of-Pair : (a b : Tuple) → entries_of (Pair a b) ≡ entries_of a ++ entries_of b
unfolding hidden-the_row-Tuple-0 denote.Hole.Carrier.hidden
entries_of-Pair a b = ap₂ (λ xs ys. xs ++ ys) (append-nil (entries_of a)) (append-nil (entries_of b))

pub at-Pair : (test : Entry → Bool) (x a b : Tuple) (p q : Bool) → x ≡ Pair a b → p ≡ list_any test (entries_of a)
    → q ≡ list_any test (entries_of b) → (p || q) ≡ list_any test (entries_of x)
at-Pair test x a b p q is first second =
    ap₂ (λ (r s : Bool). r || s) first second
    ∙ sym (ap (λ t. list_any test (entries_of t)) is ∙ ap (list_any test) (entries_of-Pair a b)
    ∙ list_any-append test (entries_of a) (entries_of b))

pub ruleset tuples = (at-Pair)

-- ---- names before a place

or_second : (a b c : Bool) → (a || (b || c)) ≡ ((b || a) || c)
or_second true true c = refl
or_second true false c = refl
or_second false true c = refl
or_second false false c = refl

same_known : (known : List Name) (m n : Name) → m ≡ n → is_among known m ≡ true → is_among known n ≡ true
same_known known m n same there = subst (λ (k : Name). is_among known k ≡ true) same there

-- a name that is known already brings in nothing
known_again : (known : List Name) (m n : Name) (b : Bool) → b ≡ bytes_eq m n → is_among known m ≡ true
    → is_among known n ≡ (b || is_among known n)
known_again known m n true is there = same_known known m n ((bytes_eq-Decides m n).0 (sym is)) there
known_again known m n false is there = refl

unless_known_is : (known : List Name) (name : Name) (m : Option Name)
    → is_among (known_after known (unless_known known m)) name ≡ (is_name name m || is_among known name)
unless_known_is known name None = refl
unless_known_is known name (Some m) = by_test (is_among known m) refl
  where
    by_test : (b : Bool) → b ≡ is_among known m
        → is_among (known_after known (if b then None else Some m)) name ≡ (bytes_eq m name || is_among known name)
    by_test true is = known_again known m name (bytes_eq m name) refl (sym is)
    by_test false is = refl

pub after_is : (known : List Name) (name : Name) (entry : Entry)
    → is_among (known_after known (new_name known entry)) name ≡ (stands_at name entry || is_among known name)
after_is known name (Plain term) = unless_known_is known name (lone_name term)
after_is known name (Named m term) = refl

pub behind_is : (known : List Name) (name : Name) (entries : List Entry)
    → is_among (known_behind known entries) name ≡ (list_any (stands_at name) entries || is_among known name)
behind_is known name [] = refl
behind_is known name (entry ∷ entries) =
    behind_is (known_after known (new_name known entry)) name entries
    ∙ ap (λ (b : Bool). list_any (stands_at name) entries || b) (after_is known name entry)
    ∙ or_second (list_any (stands_at name) entries) (stands_at name entry) (is_among known name)

pub below_is : (known : List Name) (name : Name) (binders : List Binder)
    → is_among (known_below known binders) name ≡ (list_any (λ (b : Binder). bytes_eq b.name name) binders || is_among known name)
below_is known name [] = refl
below_is known name (binder ∷ binders) =
    below_is (binder.name ∷ known) name binders
    ∙ or_second (list_any (λ (b : Binder). bytes_eq b.name name) binders) (bytes_eq binder.name name) (is_among known name)

pub ruleset places = (behind_is, below_is)
