-- Pieces and values as text.
use Rattle.std.proofs.Common.{◌≡◌, ◌<◌, ◌≤◌, ◌+◌, ◌-◌, ◌∙◌, ℕ, zero, suc, List, [], ◌∷◌, ◌++◌, length, get_or, take, drop, map, ap, sym}
use Rattle.std.proofs.Common.{subst, refl, arith, All, Bool, true, false}
use Rattle.std.specs.Prelude.{codes, if◌then◌else◌}
use Rattle.std.specs.List.{AllByRecursion}
use Rattle.std.proofs.lemmas.List.{append_assoc, drop-map, length-append, length-drop, length-take, map-id, take_all, take-map}
use Rattle.std.proofs.Math.Seq.{drop-append_seam}
use Rattle.std.proofs.lemmas.List.Elements.{All-from_recursion, recursion_from_All}
use Rattle.isl_space.specs.Name.{Name}
use Rattle.isl_space.specs.Form.{width_of}
use Rattle.isl_space.specs.SpaceForm.{SpaceForm, set_of, map_of, coordinates_of}
use Rattle.isl_piece.specs.declared.row.Row.{Row}
use Rattle.isl_union.specs.KeptValue.{KeptPiece, KeptValue, columns_of}
use Rattle.isl_row_text.specs.Joined.{Text, each_after}
use Rattle.isl_row_text.specs.Naming.{numbered, coordinate_names, column_names}
use Rattle.isl_row_text.specs.Ordered.{placed, in_order}
use Rattle.isl_row_text.specs.RowOrder.{row_before}
use Rattle.isl_row_text.specs.RowText.{row_text, conjunction_text, rows_text}
use Rattle.isl_row_text.proofs.NamingLaws.{length-numbered}
use Rattle.isl_print.specs.PieceOrder.{piece_before}
use Rattle.isl_print.specs.Printed.{piece_text, pieces_text, params_text, printed}
use Rattle.isl_print.specs.Tuple.{tuples_text}

-- ---- how many names there are
pub length-coordinate_names : (params : List Name) (space : SpaceForm) → length (coordinate_names params space) ≡ coordinates_of space
length-coordinate_names params (set_of form) = length-numbered params (codes "i") 0 (width_of form)
length-coordinate_names params (map_of from to) =
    let a = length-numbered params (codes "i") 0 (width_of from) in
    let b = length-numbered params (codes "o") 0 (width_of to) in
    omega (arith, length-append (numbered params (codes "i") 0 (width_of from)) (numbered params (codes "o") 0 (width_of to)))

pub length-column_names : (params : List Name) (space : SpaceForm) → length (column_names params space) ≡ columns_of params space
length-column_names params space = omega (arith, length-append params (coordinate_names params space), length-coordinate_names params space)

-- behind those of the parameters
pub names_enough : (params names : List Name) (space : SpaceForm) (count : ℕ) → names ≡ column_names params space → count ≡ length params
    → coordinates_of space ≤ length (take (length names - count) (drop count names))
names_enough params names space count is counted =
    let len : length names ≡ columns_of params space = ap length is ∙ length-column_names params space in
    omega (arith, length-take (length names - count) (drop count names), length-drop count names)

-- ---- what holds of all elements holds of them in order
all_placed : {X : Type 0} (before : X → X → Bool) (P : X → Type 0) (x : X) (l : List X) → P x → AllByRecursion P l
    → AllByRecursion P (placed before x l)
all_placed before P x [] p all = (p, tt)
all_placed before P x (y ∷ l) p all = by (before y x) (all_placed before P x l p all.1)
  where
    by : (b : Bool) → AllByRecursion P (placed before x l) → AllByRecursion P (if b then y ∷ placed before x l else x ∷ y ∷ l)
    by true again = (all.0, again)
    by false again = (p, all)

recursion-in_order : {X : Type 0} (before : X → X → Bool) (P : X → Type 0) (xs : List X) → AllByRecursion P xs
    → AllByRecursion P (in_order before xs)
recursion-in_order before P [] all = tt
recursion-in_order before P (x ∷ xs) all = all_placed before P x (in_order before xs) all.0 (recursion-in_order before P xs all.1)

pub All-in_order : {X : Type 0} (before : X → X → Bool) (P : X → Type 0) (xs : List X) → All P xs → All P (in_order before xs)
All-in_order before P xs all = All-from_recursion P (in_order before xs) (recursion-in_order before P xs (recursion_from_All P xs all))

all_map_back : {X Y : Type 0} (f : X → Y) (P : Y → Type 0) (xs : List X) → AllByRecursion P (map f xs) → AllByRecursion (λ x. P (f x)) xs
all_map_back f P [] all = tt
all_map_back f P (x ∷ xs) all = (all.0, all_map_back f P xs all.1)

pub All-map_back : {X Y : Type 0} (f : X → Y) (P : Y → Type 0) (xs : List X) (ys : List Y) → map f xs ≡ ys → All P ys
    → All (λ x. P (f x)) xs
All-map_back f P xs ys is all =
    All-from_recursion (λ x. P (f x)) xs (all_map_back f P xs (recursion_from_All P (map f xs) (subst (All P) (sym is) all)))

-- what is read of elements, and then its text
map_map : {A X Y : Type 0} (g : X → Y) (f : A → X) (l : List A) → map g (map f l) ≡ map (λ a. g (f a)) l
map_map g f [] = refl
map_map g f (a ∷ l) = ap (λ m. g (f a) ∷ m) (map_map g f l)

-- the texts of rows in order
pub row_texts : {A : Type 0} (f : A → Row) (names : List Name) (rows : List Row) (ordered : List A)
    → map f ordered ≡ in_order row_before rows
    → map (λ a. row_text names (f a)) ordered ≡ map (row_text names) (in_order row_before rows)
row_texts f names rows ordered is = sym (map_map (row_text names) f ordered) ∙ ap (map (row_text names)) is

-- the texts of pieces in order
pub piece_texts : {A : Type 0} (f : A → KeptPiece) (params : List Name) (pieces : List KeptPiece) (ordered : List A)
    → map f ordered ≡ in_order piece_before pieces
    → map (λ a. piece_text params (f a)) ordered ≡ map (piece_text params) (in_order piece_before pieces)
piece_texts f params pieces ordered is = sym (map_map (piece_text params) f ordered) ∙ ap (map (piece_text params)) is

-- ---- what is written, part after part
pub coordinates_shown : (params names : List Name) (space : SpaceForm) (count : ℕ) → names ≡ column_names params space
    → count ≡ length params
    → take (length names - count) (drop count names) ≡ coordinate_names params space
coordinates_shown params names space count is counted =
    let rest : drop count names ≡ coordinate_names params space = ap (λ n. drop n names) counted ∙ ap (drop (length params)) is ∙ drop-append_seam params (coordinate_names params space) in
    let long : length (drop count names) ≤ length names - count = omega (arith, length-drop count names) in
    take_all (length names - count) (drop count names) long ∙ rest

pub piece_written : {A : Type 0} (f : A → Row) (params names : List Name) (piece : KeptPiece) (count : ℕ) (ordered : List A) (old between new : Text)
    → names ≡ column_names params piece.space → count ≡ length params → map f ordered ≡ in_order row_before piece.rows
    → between ≡ old ++ tuples_text piece.space (take (length names - count) (drop count names)) → new ≡ between ++ conjunction_text (map (λ a. row_text names (f a)) ordered)
    → new ≡ old ++ piece_text params piece
piece_written f params names piece count ordered old between new is counted sorted tuples rows =
    let texts : map (λ a. row_text names (f a)) ordered ≡ map (row_text (column_names params piece.space)) (in_order row_before piece.rows) =
    row_texts f names piece.rows ordered sorted ∙ ap (λ ns. map (row_text ns) (in_order row_before piece.rows)) is in
    let shown = coordinates_shown params names piece.space count is counted in
    rows
    ∙ ap (λ t. t ++ conjunction_text (map (λ a. row_text names (f a)) ordered)) (tuples ∙ ap (λ ns. old ++ tuples_text piece.space ns) shown)
    ∙ ap (λ ts. old ++ tuples_text piece.space (coordinate_names params piece.space) ++ conjunction_text ts) texts
    ∙ append_assoc old (tuples_text piece.space (coordinate_names params piece.space)) (rows_text (column_names params piece.space) piece.rows)

pub pieces_written : {A : Type 0} (f : A → Text) (xs : List A) (first : A) (old opened one rest new : Text) → 0 < length xs
    → first ≡ get_or xs 0 first
    → opened ≡ old ++ codes "{ " → one ≡ opened ++ f first → rest ≡ one ++ each_after (codes "; ") (map f (drop 1 xs)) → new ≡ rest ++ codes " }"
    → new ≡ old ++ pieces_text (map f xs)
pieces_written f [] first old opened one rest new some is a b c d = absurd (omega (arith, some))
pieces_written f (x ∷ xs) first old opened one rest new some is a b c d =
    let others = each_after (codes "; ") (map f xs) in
    d ∙ ap (λ t. t ++ codes " }") (c ∙ ap (λ t. t ++ others) (b ∙ ap (λ t. t ++ f first) a)
    ∙ append_assoc (old ++ codes "{ ") (f first) others ∙ append_assoc old (codes "{ ") (f first ++ others))
    ∙ append_assoc old (codes "{ " ++ (f first ++ others)) (codes " }") ∙ ap (λ y. old ++ (codes "{ " ++ (f y ++ others) ++ codes " }")) is

pub value_written : {A : Type 0} (f : A → KeptPiece) (value : KeptValue) (ordered : List A) (params : List Name) (old between new : Text)
    → params ≡ value.params
    → map f ordered ≡ in_order piece_before value.pieces → between ≡ old ++ params_text params → new ≡ between ++ pieces_text (map (λ a. piece_text params (f a)) ordered)
    → new ≡ old ++ printed value
value_written f value ordered params old between new is sorted names pieces =
    pieces ∙ ap (λ t. t ++ pieces_text (map (λ a. piece_text params (f a)) ordered)) names
    ∙ append_assoc old (params_text params) (pieces_text (map (λ a. piece_text params (f a)) ordered))
    ∙ ap (λ ts. old ++ (params_text params ++ pieces_text ts)) (piece_texts f params value.pieces ordered sorted)
    ∙ ap (λ ns. old ++ (params_text ns ++ pieces_text (map (piece_text ns) (in_order piece_before value.pieces)))) is

-- the text of some of the entries of a tuple
pub ruleset tuple_steps = (take-map, drop-map)

-- names are their own text
pub ruleset name_steps = (map-id)
