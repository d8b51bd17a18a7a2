-- Plain formulas and tuples, at the constructors of the code.
use mathlib.Core.Former.{Count}
use Rattle.std.proofs.Common.{◌≡◌, ◌∙◌, refl, sym, ap, ap₂, Bool, true, false, ◌&&◌, List, [], ◌∷◌, ◌++◌, None, Some}
use Rattle.std.specs.List.{list_all}
use Rattle.std.proofs.lemmas.Bool.{false≢true}
use Rattle.std.proofs.lemmas.List.{append-nil}
use Rattle.std.proofs.lemmas.List.Folds.{list_all-append}
use Rattle.isl_tree.specs.declared.tree.Factor.{Name, Inner', Floor', Ceil'}
use Rattle.isl_tree.specs.declared.tree.Signed.{Signed'}
use Rattle.isl_tree.specs.declared.tree.Product.{Product', None', Some'}
use Rattle.isl_tree.specs.declared.tree.Formula.{Formula, And, Row_of-Formula, end_of-Formula, more_of-Formula, items-the_row-Formula}
use Rattle.isl_tree.specs.declared.tree.Formula.{items_hidden-the_row-Formula-0}
use Rattle.isl_tree.specs.declared.tree.Formula.TheBlock.{hidden-the_row-Formula-0}
use Rattle.isl_tree.specs.declared.tree.Entry.{Entry}
use Rattle.isl_tree.specs.declared.tree.Tuple.{Tuple, Pair}
use Rattle.isl_tree.specs.declared.tree.PieceTree.{PieceTree}
use Rattle.isl_tree.specs.Term.{Term}
use Rattle.isl_tree.specs.Literal.{entries_of, second_entries, piece_entries}
use Rattle.isl_tree.specs.Plain.{lone_remainder, is_linear, is_plain_entry, is_plain_chain, are_plain_chains}
use Rattle.isl_tree.specs.Plain.{is_plain_formula, is_plain_tuple, body_is_plain, is_plain_piece}
use Rattle.isl_plain.proofs.TermLaws.{both_true}
use Rattle.isl_plain.proofs.TupleLaws.{entries_of-Pair}

chains_are : (m : Count) (row : Row_of-Formula m) → are_plain_chains row ≡ list_all is_plain_chain (items-the_row-Formula m row)
chains_are m end_of-Formula = refl
chains_are m (more_of-Formula f row) = ap (λ (b : Bool). is_plain_chain f && b) (chains_are _ row)

plain-And : (fs : List Formula) → is_plain_formula (And fs) ≡ list_all is_plain_chain fs
plain-And fs = chains_are _ (hidden-the_row-Formula-0 fs) ∙ ap (list_all is_plain_chain) (items_hidden-the_row-Formula-0 fs)

pub plain_and : (f : Formula) (fs : List Formula) (b : Bool) → f ≡ And fs → b ≡ list_all is_plain_chain fs → b ≡ is_plain_formula f
plain_and f fs b is e = e ∙ sym (ap is_plain_formula is ∙ plain-And fs)

-- ---- the entries of plain tuples
pub all_of_both : (xs ys : List Entry) → list_all is_plain_entry xs ≡ true → list_all is_plain_entry ys ≡ true
    → list_all is_plain_entry (xs ++ ys) ≡ true
all_of_both [] ys first second = second
all_of_both (x ∷ xs) ys first second =
    let both = both_true (is_plain_entry x) (list_all is_plain_entry xs) first in rw both.0 (all_of_both xs ys both.1 second)

pub plain_pair : (x a b : Tuple) (p q : Bool) → x ≡ Pair a b → p ≡ is_plain_tuple a → q ≡ is_plain_tuple b → (p && q) ≡ is_plain_tuple x
plain_pair x a b p q is first second =
    ap₂ (λ (r s : Bool). r && s) first second
    ∙ sym (ap is_plain_tuple is ∙ ap (list_all is_plain_entry) (entries_of-Pair a b)
    ∙ list_all-append is_plain_entry (entries_of a) (entries_of b))

pub plain_set : (piece : PieceTree) (p q : Bool) → piece.second ≡ None → p ≡ is_plain_tuple piece.first → q ≡ body_is_plain piece.body
    → (p && q) ≡ is_plain_piece piece
plain_set piece p q none first body =
    let alone : piece_entries piece ≡ entries_of piece.first =
    ap (λ o. entries_of piece.first ++ second_entries o) none ∙ append-nil (entries_of piece.first) in
    ap₂ (λ (r s : Bool). r && s) first body ∙ sym (ap (λ es. list_all is_plain_entry es && body_is_plain piece.body) alone)

pub plain_map : (piece : PieceTree) (t : Tuple) (p q r : Bool) → piece.second ≡ Some t → p ≡ is_plain_tuple piece.first
    → q ≡ is_plain_tuple t → r ≡ body_is_plain piece.body → ((p && q) && r) ≡ is_plain_piece piece
plain_map piece t p q r some first second body =
    let both : list_all is_plain_entry (piece_entries piece) ≡ (is_plain_tuple piece.first && is_plain_tuple t) =
    ap (λ o. list_all is_plain_entry (entries_of piece.first ++ second_entries o)) some
    ∙ list_all-append is_plain_entry (entries_of piece.first) (entries_of t) in
    ap₂ (λ (a b : Bool). a && b) (ap₂ (λ (a b : Bool). a && b) first second) body
    ∙ sym (ap (λ (b : Bool). b && body_is_plain piece.body) both)

pub ruleset plain_pieces = (plain_set, plain_map)

pub piece_entries_plain : (piece : PieceTree) → is_plain_piece piece ≡ true → list_all is_plain_entry (piece_entries piece) ≡ true
piece_entries_plain piece plain = (both_true (list_all is_plain_entry (piece_entries piece)) (body_is_plain piece.body) plain).0

-- ---- a linear term is no remainder
pub linear_no_remainder : (term : Term) → is_linear term ≡ true → lone_remainder term ≡ None
linear_no_remainder [] linear = refl
linear_no_remainder (Signed' true product ∷ parts) linear = refl
linear_no_remainder (Signed' false (Product' (m ∷ ms) inner) ∷ parts) linear = refl
linear_no_remainder (Signed' false (Product' [] None') ∷ parts) linear = refl
linear_no_remainder (Signed' false (Product' [] (Some' factor (k ∷ ks))) ∷ parts) linear = absurd (false≢true linear)
linear_no_remainder (Signed' false (Product' [] (Some' (Name m) [])) ∷ []) linear = refl
linear_no_remainder (Signed' false (Product' [] (Some' (Name m) [])) ∷ (part ∷ parts)) linear = refl
linear_no_remainder (Signed' false (Product' [] (Some' (Inner' s row) [])) ∷ []) linear = refl
linear_no_remainder (Signed' false (Product' [] (Some' (Inner' s row) [])) ∷ (part ∷ parts)) linear = refl
linear_no_remainder (Signed' false (Product' [] (Some' (Floor' s row k) [])) ∷ parts) linear = absurd (false≢true linear)
linear_no_remainder (Signed' false (Product' [] (Some' (Ceil' s row k) [])) ∷ parts) linear = absurd (false≢true linear)
