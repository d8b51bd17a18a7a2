-- Texts, written one after the other.
use Rattle.std.proofs.Common.{◌≡◌, ◌<◌, ◌≤◌, ◌+◌, ◌∙◌, ℕ, Bool, true, false, List, [], ◌∷◌, ◌++◌, length, get_or, drop, map, ap, sym, refl}
use Rattle.std.specs.Prelude.{codes}
use Rattle.std.proofs.lemmas.List.{append_assoc, drop_all, drop_more}
use Rattle.isl_print.specs.Joined.{Text, each_after}
use Rattle.isl_print.specs.Printed.{pieces_text}
use Rattle.isl_scan.specs.Rest.{lead_text, rest_text}

-- ---- a listing
after_first : (texts : List Text) → rest_text false texts ≡ each_after (codes "; ") texts
after_first [] = refl
after_first (text ∷ texts) = refl

-- a loop's step over the points of a group: what stands before an element, and its text
pub point_more : {A : Type 0} (f : A → Text) (xs : List A) (others : List Text) (i : ℕ) (x : A) (is_first : Bool)
    (before between after whole : Text) → i < length xs → x ≡ get_or xs i x
    → between ≡ before ++ lead_text is_first → after ≡ between ++ f x
    → before ++ rest_text is_first (map f (drop i xs) ++ others) ≡ whole
    → after ++ rest_text false (map f (drop (i + 1) xs) ++ others) ≡ whole
point_more f xs others i x is_first before between after whole low at parted more so_far =
    let texts = map f (drop (i + 1) xs) ++ others in
    let here : drop i xs ≡ x ∷ drop (i + 1) xs = drop_more xs i x low ∙ ap (λ y. y ∷ drop (i + 1) xs) (sym at) in
    ap (λ t. after ++ t) (after_first texts)
    ∙ ap (λ t. t ++ each_after (codes "; ") texts) (more ∙ ap (λ t. t ++ f x) parted ∙ append_assoc before (lead_text is_first) (f x))
    ∙ append_assoc before (lead_text is_first ++ f x) (each_after (codes "; ") texts)
    ∙ ap (λ l. before ++ rest_text is_first (map f l ++ others)) (sym here) ∙ so_far

pub point_end : {A : Type 0} (f : A → Text) (xs : List A) (others : List Text) (i : ℕ) (is_first : Bool) (before whole : Text)
    → length xs ≤ i → before ++ rest_text is_first (map f (drop i xs) ++ others) ≡ whole → before ++ rest_text is_first others ≡ whole
point_end f xs others i is_first before whole over so_far =
    sym (ap (λ l. before ++ rest_text is_first (map f l ++ others)) (drop_all i xs over)) ∙ so_far

pub ruleset group_steps = (point_more, point_end)

-- the braces
pub braced : (texts : List Text) → (codes "{" ++ rest_text true texts) ++ codes " }" ≡ pieces_text texts
braced [] = refl
braced (text ∷ texts) = simp append_assoc
