-- Going along the entries of a tuple.
use Rattle.std.proofs.Common.{◌≡◌, Bool, true, false, List, [], ◌∷◌, ◌++◌, Option, Some, None, Result, Ok, Err, refl, sym, ap, subst, ◌∙◌}
use Rattle.std.specs.Prelude.{◌&&◌, ◌||◌, IfOk}
use Rattle.std.specs.List.{list_any}
use Rattle.std.proofs.lemmas.List.{append-nil}
use Rattle.std.proofs.lemmas.List.Folds.{list_any-append}
use Rattle.std.proofs.lemmas.Bool.{false≢true}
use Rattle.isl_token.specs.Token.{Text}
use Rattle.isl_tree.specs.declared.tree.Entry.{Entry}
use Rattle.isl_tree.specs.declared.tree.Tuple.{Tuple}
use Rattle.isl_tree.specs.declared.tree.Tuple.TheVariants.{Leaf, Pair}
use Rattle.isl_tree.specs.declared.tree.Tuple.TheBlock.{hidden-the_row-Tuple-0}
use Rattle.isl_tree.specs.declared.tree.PieceTree.{PieceTree}
use Rattle.isl_tree.specs.Literal.{entries_of, piece_entries}
use Rattle.isl_text.specs.Formed.{standing_name, is_new, with_name, known_behind, names_are_new, is_named, has_named, HaveSameNames}
use Rattle.isl_text.specs.Formed.{GoesAlong}
use Rattle.isl_text.proofs.SameNames.{same_names-refl, same_names-trans, names_are_new-same, known_behind-same}

pub entries-Pair : (a b : Tuple) → entries_of (Pair a b) ≡ entries_of a ++ entries_of b
unfolding hidden-the_row-Tuple-0 denote.Hole.Carrier.hidden
entries-Pair a b = simp append-nil

known_behind-append : (known : List Text) (es fs : List Entry) → known_behind known (es ++ fs) ≡ known_behind (known_behind known es) fs
known_behind-append known [] fs = refl
known_behind-append known (e ∷ es) fs = known_behind-append (with_name known (standing_name e)) es fs

and_assoc : (a b c : Bool) → ((a && b) && c) ≡ (a && (b && c))
and_assoc true b c = refl
and_assoc false b c = refl

names_are_new-append : (known : List Text) (es fs : List Entry)
    → names_are_new known (es ++ fs) ≡ (names_are_new known es && names_are_new (known_behind known es) fs)
names_are_new-append known [] fs = refl
names_are_new-append known (e ∷ es) fs =
    ap (λ b. is_new known e && b) (names_are_new-append (with_name known (standing_name e)) es fs) ∙ sym (and_assoc (is_new known e) _ _)

module _ (known mid behind : List Text) (es fs all : List Entry) (is : all ≡ es ++ fs) where
  goes_on : (new : Bool) → GoesAlong true known mid es → GoesAlong new mid behind fs → GoesAlong new known behind all
  goes_on new first second =
      let mid_is : HaveSameNames mid (known_behind known es) = first.become_known refl in
      record {
        are_new = second.are_new ∙ names_are_new-same mid (known_behind known es) fs mid_is
            ∙ ap (λ b. b && names_are_new (known_behind known es) fs) first.are_new ∙ sym (names_are_new-append known es fs)
            ∙ ap (names_are_new known) (sym is);
        become_known = λ e.
            subst (λ (l : List Text). HaveSameNames behind l) (sym (ap (known_behind known) is ∙ known_behind-append known es fs))
            (same_names-trans behind (known_behind mid fs) (known_behind (known_behind known es) fs) (second.become_known e)
            (known_behind-same mid (known_behind known es) fs mid_is));
      }

  stops : GoesAlong false known mid es → GoesAlong false known behind all
  stops first = record {
    are_new = ap (λ b. b && names_are_new (known_behind known es) fs) first.are_new ∙ sym (names_are_new-append known es fs)
        ∙ ap (names_are_new known) (sym is);
    become_known = λ e. absurd (false≢true e);
  }

entries_at : (t a b : Tuple) → t ≡ Pair a b → entries_of t ≡ entries_of a ++ entries_of b
entries_at t a b is = ap entries_of is ∙ entries-Pair a b

module _ (t a b : Tuple) (is : t ≡ Pair a b) (known mid behind : List Text) where
  pub pair_goes_on : {E : Type 0} (p : Bool) (u w : Tuple) (r : Result Bool E) → p ≡ true → u ≡ a → w ≡ b
      → GoesAlong p known mid (entries_of u) → IfOk r (λ new. GoesAlong new mid behind (entries_of w))
      → IfOk r (λ new. GoesAlong new known behind (entries_of t))
  pair_goes_on p u w (Ok new) yes' left right first second =
      goes_on known mid behind (entries_of u) (entries_of w) (entries_of t) (entries_at t a b is ∙ rw (left, right) refl) new
      (subst (λ (q : Bool). GoesAlong q known mid (entries_of u)) yes' first) second
  pair_goes_on p u w (Err e) yes' left right first second = tt

  pub pair_stops : GoesAlong false known mid (entries_of a) → GoesAlong false known behind (entries_of t)
  pair_stops = stops known mid behind (entries_of a) (entries_of b) (entries_of t) (entries_at t a b is)

pub leaf_goes : (t : Tuple) (title : Option Text) (es : List Entry) (known behind : List Text) (new : Bool) → t ≡ Leaf title es
    → GoesAlong new known behind es → GoesAlong new known behind (entries_of t)
leaf_goes t title es known behind new is goes = subst (λ (x : Tuple). GoesAlong new known behind (entries_of x)) (sym is) goes

-- ---- the two tuples of a piece

entries_of_set : (piece : PieceTree) → piece.second ≡ None → piece_entries piece ≡ entries_of piece.first ++ []
entries_of_set piece is = rw is refl

entries_of_map : (piece : PieceTree) (t : Tuple) → piece.second ≡ Some t → piece_entries piece ≡ entries_of piece.first ++ entries_of t
entries_of_map piece t is = rw is refl

module _ (piece : PieceTree) (known mid behind : List Text) where
  pub set_goes_on : piece.second ≡ None → GoesAlong true known mid (entries_of piece.first) → GoesAlong true known mid (piece_entries piece)
  set_goes_on is first =
      goes_on known mid mid (entries_of piece.first) [] (piece_entries piece) (entries_of_set piece is) true first
      (record { are_new = refl; become_known = λ e. same_names-refl mid })

  pub map_goes_on : {E : Type 0} (t : Tuple) (p : Bool) (r : Result Bool E) → piece.second ≡ Some t → p ≡ true
      → GoesAlong p known mid (entries_of piece.first) → IfOk r (λ new. GoesAlong new mid behind (entries_of t))
      → IfOk r (λ new. GoesAlong new known behind (piece_entries piece))
  map_goes_on t p (Ok new) is yes' first second =
      goes_on known mid behind (entries_of piece.first) (entries_of t) (piece_entries piece) (entries_of_map piece t is) new
      (subst (λ (q : Bool). GoesAlong q known mid (entries_of piece.first)) yes' first) second
  map_goes_on t p (Err e) is yes' first second = tt

  pub piece_stops : GoesAlong false known mid (entries_of piece.first) → GoesAlong false known mid (piece_entries piece)
  piece_stops first = by_second piece.second refl
    where
      by_second : (o : Option Tuple) → piece.second ≡ o → GoesAlong false known mid (piece_entries piece)
      by_second None is = stops known mid mid (entries_of piece.first) [] (piece_entries piece) (entries_of_set piece is) first
      by_second (Some t) is =
          stops known mid mid (entries_of piece.first) (entries_of t) (piece_entries piece) (entries_of_map piece t is) first

pub ruleset along = (pair_goes_on, pair_stops, leaf_goes, set_goes_on, map_goes_on, piece_stops)

-- ---- whether a name stands before `=`

pub named-Pair : (t a b : Tuple) (p q : Bool) → t ≡ Pair a b → p ≡ list_any is_named (entries_of a) → q ≡ list_any is_named (entries_of b)
    → (p || q) ≡ list_any is_named (entries_of t)
named-Pair t a b p q is one two =
    rw (one, two) (sym (ap (list_any is_named) (entries_at t a b is) ∙ list_any-append is_named (entries_of a) (entries_of b)))

pub named-Leaf : (t : Tuple) (title : Option Text) (es : List Entry) (p : Bool) → t ≡ Leaf title es → p ≡ list_any is_named es
    → p ≡ list_any is_named (entries_of t)
named-Leaf t title es p is one = one ∙ sym (ap (λ x. list_any is_named (entries_of x)) is)

pub named-map : (piece : PieceTree) (t : Tuple) (p q : Bool) → piece.second ≡ Some t → p ≡ list_any is_named (entries_of piece.first)
    → q ≡ list_any is_named (entries_of t) → (p || q) ≡ has_named piece
named-map piece t p q is one two =
    rw (one, two) (sym (ap (list_any is_named) (entries_of_map piece t is)
    ∙ list_any-append is_named (entries_of piece.first) (entries_of t)))

pub named-set : (piece : PieceTree) (p : Bool) → piece.second ≡ None → p ≡ list_any is_named (entries_of piece.first) → p ≡ has_named piece
named-set piece p is one = one ∙ sym (ap (list_any is_named) (entries_of_set piece is ∙ append-nil (entries_of piece.first)))

pub ruleset named = (named-Pair, named-Leaf, named-map, named-set)
