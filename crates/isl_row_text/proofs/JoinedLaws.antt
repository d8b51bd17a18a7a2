-- Texts, written one after the other.
use Rattle.std.proofs.Common.{◌≡◌, ◌<◌, ◌≤◌, ◌+◌, ◌∙◌, ℕ, List, ◌∷◌, ◌++◌, length, get_or, drop, map, ap, sym}
use Rattle.std.proofs.lemmas.List.{append_assoc, append-nil, drop_more, drop_all}
use Rattle.isl_space.specs.Name.{Name}
use Rattle.isl_row_text.specs.Joined.{Text, each_after}

-- a loop's step: a separator and a text
pub each_more : {A : Type 0} (f : A → Text) (separator : Text) (xs : List A) (i : ℕ) (x : A) (before between after whole : Text)
    → i < length xs → x ≡ get_or xs i x
    → between ≡ before ++ separator → after ≡ between ++ f x
    → before ++ each_after separator (map f (drop i xs)) ≡ whole → after ++ each_after separator (map f (drop (i + 1) xs)) ≡ whole
each_more f separator xs i x before between after whole low at parted more so_far =
    let rest = each_after separator (map f (drop (i + 1) xs)) in
    let here : drop i xs ≡ x ∷ drop (i + 1) xs = drop_more xs i x low ∙ ap (λ y. y ∷ drop (i + 1) xs) (sym at) in
    ap (λ t. t ++ rest) (more ∙ ap (λ t. t ++ f x) parted ∙ append_assoc before separator (f x))
    ∙ append_assoc before (separator ++ f x) rest
    ∙ ap (λ l. before ++ each_after separator (map f l)) (sym here) ∙ so_far

pub each_end : {A : Type 0} (f : A → Text) (separator : Text) (xs : List A) (i : ℕ) (before whole : Text) → length xs ≤ i
    → before ++ each_after separator (map f (drop i xs)) ≡ whole → before ≡ whole
each_end f separator xs i before whole over so_far =
    sym (ap (λ l. before ++ each_after separator (map f l)) (drop_all i xs over) ∙ append-nil before) ∙ so_far

-- the same of names
pub names_more : (separator : Text) (names : List Name) (i : ℕ) (name : Name) (before between after whole : Text) → i < length names
    → name ≡ get_or names i name
    → between ≡ before ++ separator → after ≡ between ++ name
    → before ++ each_after separator (drop i names) ≡ whole → after ++ each_after separator (drop (i + 1) names) ≡ whole
names_more separator names i name before between after whole low at parted more so_far =
    let rest = each_after separator (drop (i + 1) names) in
    let here : drop i names ≡ name ∷ drop (i + 1) names = drop_more names i name low ∙ ap (λ y. y ∷ drop (i + 1) names) (sym at) in
    ap (λ t. t ++ rest) (more ∙ ap (λ t. t ++ name) parted ∙ append_assoc before separator name)
    ∙ append_assoc before (separator ++ name) rest
    ∙ ap (λ l. before ++ each_after separator l) (sym here) ∙ so_far

pub names_end : (separator : Text) (names : List Name) (i : ℕ) (before whole : Text) → length names ≤ i
    → before ++ each_after separator (drop i names) ≡ whole → before ≡ whole
names_end separator names i before whole over so_far =
    sym (ap (λ l. before ++ each_after separator l) (drop_all i names over) ∙ append-nil before) ∙ so_far

pub ruleset each_steps = (each_more, each_end)

pub ruleset names_steps = (names_more, names_end)
