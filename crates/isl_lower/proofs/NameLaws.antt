-- The names of the columns of a piece, and what they stand for.
use Rattle.std.proofs.Common.{◌≡◌, ◌∙◌, inl, inr, refl, sym, ap, subst, ℕ, suc, ◌+◌, ◌<◌, ◌≤◌, ℤ, pos, Bool, true, false, is_some, List, [], ◌∷◌, ◌++◌}
use Rattle.std.proofs.Common.{length, map, take, drop, get_or, arith, Option, Some, None, IfSome, if◌then◌else◌, Result, Ok, Err}
use Rattle.std.specs.Prelude.{OnOk}
use Rattle.std.specs.Str.{bytes_eq}
use Rattle.std.specs.List.{list_all}
use Rattle.std.proofs.lemmas.Bool.{false≢true, cases_Bool, cond-true, cond-false}
use Rattle.std.proofs.lemmas.List.{append_assoc, append-nil, length-append, drop_more, drop_all}
use Rattle.isl_tree.specs.declared.tree.Entry.{Entry}
use Rattle.isl_tree.specs.declared.tree.Entry.TheVariants.{Plain, Named}
use Rattle.isl_tree.specs.declared.tree.Tuple.{Tuple}
use Rattle.isl_tree.specs.declared.tree.Tuple.TheVariants.{Leaf, Pair}
use Rattle.isl_tree.specs.declared.tree.Tuple.TheBlock.{hidden-the_row-Tuple-0}
use Rattle.isl_tree.specs.declared.tree.PieceTree.{PieceTree}
use Rattle.isl_tree.specs.Literal.{entries_of, second_entries, piece_entries}
use Rattle.isl_affine.specs.Scope.{Scope}
use Rattle.isl_lower.specs.Names.{new_in, names_behind, parameter_names, piece_names}

-- ---- the entries of a tuple
pub entries-Pair : (a b : Tuple) → entries_of (Pair a b) ≡ entries_of a ++ entries_of b
unfolding hidden-the_row-Tuple-0 denote.Hole.Carrier.hidden
entries-Pair a b = simp append-nil

pub entries_at : (t a b : Tuple) → t ≡ Pair a b → entries_of t ≡ entries_of a ++ entries_of b
entries_at t a b is = ap entries_of is ∙ entries-Pair a b

-- ---- names along entries
names_append : (scope : Scope) (es fs : List Entry) → names_behind scope (es ++ fs) ≡ names_behind (names_behind scope es) fs
names_append scope [] fs = refl
names_append scope (e ∷ es) fs = names_append (scope ++ new_in scope e ∷ []) es fs

-- a loop's step
pub names_next : (entries : List Entry) (i : ℕ) (entry : Entry) (start before after : Scope) → i < length entries
    → entry ≡ get_or entries i entry → after ≡ before ++ new_in before entry ∷ []
    → names_behind start entries ≡ names_behind before (drop i entries) → names_behind start entries ≡ names_behind after (drop (i + 1) entries)
names_next entries i entry start before after low at is so_far =
    so_far ∙ ap (names_behind before) (drop_more entries i entry low ∙ ap (λ (e : Entry). e ∷ drop (i + 1) entries) (sym at))
    ∙ ap (λ (s : Scope). names_behind s (drop (i + 1) entries)) (sym is)

pub names_end : (entries : List Entry) (i : ℕ) (start after : Scope) → length entries ≤ i
    → names_behind start entries ≡ names_behind after (drop i entries) → after ≡ names_behind start entries
names_end entries i start after over so_far = sym (so_far ∙ ap (names_behind after) (drop_all i entries over))

pub leaf_names : (t : Tuple) (title : Option (List ℕ)) (es : List Entry) (old new : Scope) → t ≡ Leaf title es → new ≡ names_behind old es
    → new ≡ names_behind old (entries_of t)
leaf_names t title es old new is made = made ∙ sym (ap (λ (x : Tuple). names_behind old (entries_of x)) is)

pub pair_names : (t a b u v : Tuple) (old mid new : Scope) → t ≡ Pair a b → u ≡ a → v ≡ b → mid ≡ names_behind old (entries_of u)
    → new ≡ names_behind mid (entries_of v) → new ≡ names_behind old (entries_of t)
pair_names t a b u v old mid new is left right first second =
    second ∙ rw (right, first, left) (sym (ap (names_behind old) (entries_at t a b is) ∙ names_append old (entries_of a) (entries_of b)))

pub pair_pushed : {E : Type 0} (t a b u v : Tuple) (old mid new : Scope) (r : Result (Unit {0}) E) → t ≡ Pair a b → u ≡ a → v ≡ b
    → mid ≡ names_behind old (entries_of u) → OnOk r (new ≡ names_behind mid (entries_of v))
    → OnOk r (new ≡ names_behind old (entries_of t))
pair_pushed t a b u v old mid new (Ok x) is left right first second = pair_names t a b u v old mid new is left right first second
pair_pushed t a b u v old mid new (Err e) is left right first second = tt

pub ruleset tuples = (leaf_names, pair_names)

pub both_names : (params : List (List ℕ)) (piece : PieceTree) (start mid new : Scope) → start ≡ parameter_names params
    → mid ≡ names_behind start (entries_of piece.first) → new ≡ names_behind mid (second_entries piece.second) → new ≡ piece_names params piece
both_names params piece start mid new given first second =
    second ∙ rw (first, given) (sym (names_append (parameter_names params) (entries_of piece.first) (second_entries piece.second)))

pub ruleset pieces = (both_names)

names_length : (scope : Scope) (es : List Entry) → length (names_behind scope es) ≡ length scope + length es
names_length scope [] = omega arith
names_length scope (e ∷ es) =
    let more = names_length (scope ++ new_in scope e ∷ []) es in
    let long : length (scope ++ new_in scope e ∷ []) ≡ length scope + 1 = length-append scope (new_in scope e ∷ []) in
    omega (arith, more, long)

pub piece_names_length : (params : List (List ℕ)) (piece : PieceTree)
    → length (piece_names params piece) ≡ length params + length (piece_entries piece)
piece_names_length params piece =
    let long = names_length (parameter_names params) (piece_entries piece) in
    let given = length-parameters params in
    omega (arith, long, given)
  where
    length-parameters : (names : List (List ℕ)) → length (parameter_names names) ≡ length names
    length-parameters [] = refl
    length-parameters (name ∷ names) = ap suc (length-parameters names)
