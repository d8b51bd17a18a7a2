-- What all tokens of a printed value have, where its signs, its names and its numbers have it.
use Rattle.std.proofs.Common.{◌≤◌, ◌+◌, ℕ, zero, suc, ℤ, pos, negsuc, Bool, true, false, List, [], ◌∷◌, ◌++◌, Option, Some, None, IfSome, All, map, take, drop, ap, sym, subst, ◌≡◌, ◌∙◌, arith}
use Rattle.std.specs.Prelude.{codes, if◌then◌else◌, ◌==◌, unsigned_abs}
use Rattle.std.specs.List.{AllByRecursion}
use Rattle.std.proofs.lemmas.Fmt.{decimal_digit}
use Rattle.std.proofs.lemmas.List.{append_assoc}
use Rattle.std.proofs.lemmas.List.Elements.{recursion_from_All}
use Rattle.isl_space.specs.Name.{Name}
use Rattle.isl_space.specs.Form.{Form, leaf, pair, width_of, leaves_of}
use Rattle.isl_space.specs.Limits.{most_leaves}
use Rattle.isl_space.specs.SpaceForm.{SpaceForm, set_of, map_of, space_leaves_of}
use Rattle.isl_piece.specs.declared.row.RowKind.{RowKind}
use Rattle.isl_piece.specs.declared.row.RowKind.TheVariants.{Zero, AtLeast, Divides, NotDivides}
use Rattle.isl_piece.specs.declared.row.Row.{Row}
use Rattle.isl_piece.specs.Row.{IsRowUpTo}
use Rattle.isl_union.specs.KeptValue.{KeptPiece, KeptValue, IsKeptValue}
use Rattle.isl_row_text.specs.declared.sum.Side.{Side}
use Rattle.isl_row_text.specs.declared.sum.Side.TheVariants.{Left, Right}
use Rattle.isl_print.specs.Joined.{Text}
use Rattle.isl_print.specs.Naming.{coordinate_names, column_names}
use Rattle.isl_print.specs.Ordered.{in_order}
use Rattle.isl_print.specs.PieceOrder.{piece_before}
use Rattle.isl_print.specs.RowOrder.{row_before}
use Rattle.isl_print.specs.Sum.{share, terms_of}
use Rattle.isl_print.proofs.TextLaws.{All-in_order}
use Rattle.isl_token.specs.TokenView as token
use Rattle.isl_union.specs.Numbers.{HasNumbersUpTo}
use Rattle.isl_round_trip.proofs.TokenLaws.{Tokens, sign, word, number, each_tokens, joined_tokens, term_tokens, constant_tokens, sum_tokens, side_tokens, relation_tokens, remainder_tokens, compared_tokens, kind_tokens, row_tokens, conjunction_tokens, name_tokens, names_tokens, tuple_tokens, tuples_tokens}
use Rattle.isl_round_trip.proofs.ValueTokenLaws.{piece_tokens, params_tokens, pieces_tokens, printed_tokens}

-- these stand at some place of a text, one behind another: signs, names and numbers up to the limit
pub record Stands (limit : ℕ) (IsCalm : Name → Type 0) (Level : Tokens → Type 0) : Type 0 where
  pub none : Level []
  pub both : (xs ys : Tokens) → Level xs → Level ys → Level (xs ++ ys)
  pub plus : Level (sign (codes "+") ∷ [])
  pub comma : Level (sign (codes ",") ∷ [])
  pub equal : Level (sign (codes "=") ∷ [])
  pub at_least : Level (sign (codes ">=") ∷ [])
  pub colon : Level (sign (codes ":") ∷ [])
  pub semicolon : Level (sign (codes ";") ∷ [])
  pub arrow : Level (sign (codes "->") ∷ [])
  pub conjunction : Level (word (codes "and") ∷ [])
  pub differs : Level (sign (codes "!=") ∷ [])
  pub remainder : Level (word (codes "mod") ∷ [])
  pub names : (name : Name) → IsCalm name → Level (word name ∷ [])
  pub numbers : (n : ℕ) → n ≤ limit → Level (number n ∷ [])

-- with so many brackets open, what stands in one more
pub record Encloses (Level : ℕ → Tokens → Type 0) : Type 0 where
  pub squares : (depth : ℕ) → depth ≤ 98 → (ts : Tokens) → Level (depth + 1) ts → Level depth (sign (codes "[") ∷ (ts ++ sign (codes "]") ∷ []))
  pub rounds : (depth : ℕ) → depth ≤ 98 → (ts : Tokens) → Level (depth + 1) ts → Level depth (sign (codes "(") ∷ (ts ++ sign (codes ")") ∷ []))
  pub braces : (ts : Tokens) → Level 1 ts → Level 0 (sign (codes "{") ∷ (ts ++ sign (codes "}") ∷ []))

-- ---- names
abbrev pub IsCalmForm : (Name → Type 0) → Form → Type 0
IsCalmForm IsCalm (leaf name width) = IfSome name IsCalm
IsCalmForm IsCalm (pair left right) = IsCalmForm IsCalm left × IsCalmForm IsCalm right

abbrev pub IsCalmSpace : (Name → Type 0) → SpaceForm → Type 0
IsCalmSpace IsCalm (set_of form) = IsCalmForm IsCalm form
IsCalmSpace IsCalm (map_of from to) = IsCalmForm IsCalm from × IsCalmForm IsCalm to

-- the names of the tuples and those of the coordinates
pub record HasCalmNames (IsCalm : Name → Type 0) (params : List Name) (piece : KeptPiece) : Type 0 where
  pub titles : IsCalmSpace IsCalm piece.space
  pub coordinates : AllByRecursion IsCalm (coordinate_names params piece.space)

-- a form has a leaf
leaves_some : (form : Form) → 1 ≤ leaves_of form
leaves_some (leaf name width) = omega arith
leaves_some (pair left right) = let some = leaves_some left in omega (arith, some)

module _ (limit : ℕ) (IsCalm : Name → Type 0) where
  calm-append : (xs ys : List Name) → AllByRecursion IsCalm xs → AllByRecursion IsCalm ys → AllByRecursion IsCalm (xs ++ ys)
  calm-append [] ys a b = b
  calm-append (x ∷ xs) ys a b = (a.0, calm-append xs ys a.1 b)

  calm_take : (n : ℕ) (names : List Name) → AllByRecursion IsCalm names → AllByRecursion IsCalm (take n names)
  calm_take zero names all = tt
  calm_take (suc n) [] all = tt
  calm_take (suc n) (name ∷ names) all = (all.0, calm_take n names all.1)

  calm_drop : (n : ℕ) (names : List Name) → AllByRecursion IsCalm names → AllByRecursion IsCalm (drop n names)
  calm_drop zero names all = all
  calm_drop (suc n) [] all = tt
  calm_drop (suc n) (name ∷ names) all = calm_drop n names all.1

  -- a row whose numbers are up to the limit
  record IsSmallRow (row : Row) : Type 0 where
    coefs : AllByRecursion (λ z. unsigned_abs z ≤ limit) row.coefs
    constant : unsigned_abs row.constant ≤ limit
    modulus : unsigned_abs row.k ≤ limit

  small_rows : (rows : List Row) → AllByRecursion (IsRowUpTo limit) rows → AllByRecursion IsSmallRow rows
  small_rows [] small = tt
  small_rows (row ∷ rows) small = (
    record { coefs = recursion_from_All (λ z. unsigned_abs z ≤ limit) row.coefs small.0.coefs; constant = small.0.constant; modulus = small.0.k },
    small_rows rows small.1,
  )

  share_small : (side : Side) (z : ℤ) → unsigned_abs z ≤ limit → share side z ≤ limit
  share_small Left (pos n) small = small
  share_small Left (negsuc n) small = omega arith
  share_small Right (pos n) small = omega arith
  share_small Right (negsuc n) small = small

  -- ---- at one place
  module _ (Level : Tokens → Type 0) (stands : Stands limit IsCalm Level) where
    zero_level : Level (token.Number (codes "0") ∷ [])
    zero_level = subst (λ (ds : Text). Level (token.Number ds ∷ [])) (decimal_digit 0 (omega arith)) (stands.numbers 0 (omega arith))

    each_level : (separator : Tokens) (tss : List Tokens) → Level separator → AllByRecursion Level tss → Level (each_tokens separator tss)
    each_level separator [] between all = stands.none
    each_level separator (ts ∷ tss) between all = stands.both (separator ++ ts) (each_tokens separator tss) (stands.both separator ts between all.0) (each_level separator tss between all.1)

    joined_level : (separator : Tokens) (tss : List Tokens) → Level separator → AllByRecursion Level tss → Level (joined_tokens separator tss)
    joined_level separator [] between all = stands.none
    joined_level separator (ts ∷ tss) between all = stands.both ts (each_tokens separator tss) all.0 (each_level separator tss between all.1)

    all_level-append : (xs ys : List Tokens) → AllByRecursion Level xs → AllByRecursion Level ys → AllByRecursion Level (xs ++ ys)
    all_level-append [] ys a b = b
    all_level-append (x ∷ xs) ys a b = (a.0, all_level-append xs ys a.1 b)

    -- sums
    term_level : (n : ℕ) (name : Name) → n ≤ limit → IsCalm name → Level (term_tokens (n, name))
    term_level n name small calm = by (n == 1)
      where
        by : (q : Bool) → Level (if q then word name ∷ [] else number n ∷ word name ∷ [])
        by true = stands.names name calm
        by false = stands.both (number n ∷ []) (word name ∷ []) (stands.numbers n small) (stands.names name calm)

    terms_level : (side : Side) (names : List Name) (numbers : List ℤ) → AllByRecursion IsCalm names → AllByRecursion (λ z. unsigned_abs z ≤ limit) numbers → AllByRecursion Level (map term_tokens (terms_of side names numbers))
    terms_level side [] [] a b = tt
    terms_level side [] (z ∷ zs) a b = tt
    terms_level side (name ∷ names) [] a b = tt
    terms_level side (name ∷ names) (z ∷ zs) a b = by (share side z == 0) (terms_level side names zs a.1 b.1)
      where
        by : (q : Bool) → AllByRecursion Level (map term_tokens (terms_of side names zs)) → AllByRecursion Level (map term_tokens (if q then terms_of side names zs else (share side z, name) ∷ terms_of side names zs))
        by true again = again
        by false again = (term_level (share side z) name (share_small side z b.0) a.0, again)

    constant_level : (c : ℕ) → c ≤ limit → AllByRecursion Level (constant_tokens c)
    constant_level c small = by (c == 0)
      where
        by : (q : Bool) → AllByRecursion Level (if q then [] else (number c ∷ []) ∷ [])
        by true = tt
        by false = (stands.numbers c small, tt)

    sum_level : (tss : List Tokens) → AllByRecursion Level tss → Level (sum_tokens tss)
    sum_level [] all = zero_level
    sum_level (ts ∷ tss) all = joined_level (sign (codes "+") ∷ []) (ts ∷ tss) stands.plus all

    side_level : (side : Side) (names : List Name) (numbers : List ℤ) (constant : ℤ) → AllByRecursion IsCalm names → AllByRecursion (λ z. unsigned_abs z ≤ limit) numbers → unsigned_abs constant ≤ limit
        → Level (side_tokens side names numbers constant)
    side_level side names numbers constant a b c =
        sum_level (map term_tokens (terms_of side names numbers) ++ constant_tokens (share side constant))
        (all_level-append (map term_tokens (terms_of side names numbers)) (constant_tokens (share side constant)) (terms_level side names numbers a b) (constant_level (share side constant) (share_small side constant c)))

    -- rows
    relation_level : (relation : Text) (names : List Name) (row : Row) → Level (sign relation ∷ []) → AllByRecursion IsCalm names → IsSmallRow row → Level (relation_tokens relation names row)
    relation_level relation names row between calm small =
        let left = side_tokens Left names row.coefs row.constant in
        let right = side_tokens Right names row.coefs row.constant in
        stands.both (left ++ sign relation ∷ []) right
        (stands.both left (sign relation ∷ []) (side_level Left names row.coefs row.constant calm small.coefs small.constant) between)
        (side_level Right names row.coefs row.constant calm small.coefs small.constant)

    conjunction_level : (tss : List Tokens) → AllByRecursion Level tss → Level (conjunction_tokens tss)
    conjunction_level [] all = stands.none
    conjunction_level (ts ∷ tss) all =
        stands.both (sign (codes ":") ∷ []) (joined_tokens (word (codes "and") ∷ []) (ts ∷ tss)) stands.colon (joined_level (word (codes "and") ∷ []) (ts ∷ tss) stands.conjunction all)

    -- names in a row
    each_name_level : (names : List Name) → AllByRecursion IsCalm names → AllByRecursion Level (map (λ name. word name ∷ []) names)
    each_name_level [] all = tt
    each_name_level (name ∷ names) all = (stands.names name all.0, each_name_level names all.1)

    names_level : (names : List Name) → AllByRecursion IsCalm names → Level (names_tokens names)
    names_level names all = joined_level (sign (codes ",") ∷ []) (map (λ name. word name ∷ []) names) stands.comma (each_name_level names all)

    title_level : (title : Option Name) → IfSome title IsCalm → Level (name_tokens title)
    title_level None calm = stands.none
    title_level (Some name) calm = stands.names name calm

  -- ---- in brackets
  -- what is asked of a piece
  record IsCalmPiece (params : List Name) (piece : KeptPiece) : Type 0 where
    numbers : All (IsRowUpTo limit) piece.rows
    leaves : space_leaves_of piece.space ≤ most_leaves
    names : HasCalmNames IsCalm params piece

  module _ (Level : ℕ → Tokens → Type 0) (stands : (depth : ℕ) → depth ≤ 100 → Stands limit IsCalm (Level depth)) (encloses : Encloses Level) where
    outside : Stands limit IsCalm (Level 0)
    outside = stands 0 (omega arith)

    inside : Stands limit IsCalm (Level 1)
    inside = stands 1 (omega arith)

    -- rows
    compared_inside : (relation : Text) (names : List Name) (row : Row) → Level 1 (sign relation ∷ []) → AllByRecursion IsCalm names → IsSmallRow row
        → Level 1 (compared_tokens relation names row)
    compared_inside relation names row between calm small =
        let side = side_tokens Left names row.coefs row.constant in
        let close = sign (codes ")") ∷ [] in
        let modulo = word (codes "mod") ∷ [] in
        let zero = token.Number (codes "0") ∷ [] in
        let enclosed = encloses.rounds 1 (omega arith) side (side_level (Level 2) (stands 2 (omega arith)) Left names row.coefs row.constant calm small.coefs small.constant) in
        let begun = inside.both (sign (codes "(") ∷ (side ++ close)) modulo enclosed inside.remainder in
        let grouped : sign (codes "(") ∷ ((side ++ close) ++ modulo) ≡ sign (codes "(") ∷ (side ++ (sign (codes ")") ∷ modulo)) =
        ap (λ l. sign (codes "(") ∷ l) (append_assoc side close modulo) in
        inside.both (remainder_tokens names row) (sign relation ∷ zero)
        (inside.both (sign (codes "(") ∷ (side ++ (sign (codes ")") ∷ modulo))) (number (unsigned_abs row.k) ∷ []) (subst (Level 1) grouped begun)
        (inside.numbers (unsigned_abs row.k) small.modulus))
        (inside.both (sign relation ∷ []) zero between (zero_level (Level 1) inside))

    row_inside : (names : List Name) (row : Row) (kind : RowKind) → AllByRecursion IsCalm names → IsSmallRow row → Level 1 (kind_tokens kind names row)
    row_inside names row Zero calm small = relation_level (Level 1) inside (codes "=") names row inside.equal calm small
    row_inside names row AtLeast calm small = relation_level (Level 1) inside (codes ">=") names row inside.at_least calm small
    row_inside names row Divides calm small = compared_inside (codes "=") names row inside.equal calm small
    row_inside names row NotDivides calm small = compared_inside (codes "!=") names row inside.differs calm small

    rows_inside : (names : List Name) (rows : List Row) → AllByRecursion IsCalm names → AllByRecursion IsSmallRow rows → AllByRecursion (Level 1) (map (row_tokens names) rows)
    rows_inside names [] calm all = tt
    rows_inside names (row ∷ rows) calm all = (row_inside names row row.kind calm all.0, rows_inside names rows calm all.1)

    -- tuples
    tuple_inside : (form : Form) (names : List Name) (depth : ℕ) → depth + leaves_of form ≤ 98 → IsCalmForm IsCalm form → AllByRecursion IsCalm names → Level depth (tuple_tokens form names)
    tuple_inside (leaf title width) names depth low calm all =
        let here = stands depth (omega (arith, low)) in
        let inner = names_tokens (take width names) in
        let close = sign (codes "]") ∷ [] in
        let grouped : name_tokens title ++ sign (codes "[") ∷ [] ++ inner ++ close ≡ name_tokens title ++ (sign (codes "[") ∷ (inner ++ close)) =
        ap (λ l. l ++ close) (append_assoc (name_tokens title) (sign (codes "[") ∷ []) inner) ∙ append_assoc (name_tokens title) (sign (codes "[") ∷ inner) close in
        subst (Level depth) (sym grouped)
        (here.both (name_tokens title) (sign (codes "[") ∷ (inner ++ close)) (title_level (Level depth) here title calm)
        (encloses.squares depth (omega (arith, low)) inner (names_level (Level (depth + 1)) (stands (depth + 1) (omega (arith, low))) (take width names) (calm_take width names all))))
    tuple_inside (pair left right) names depth low calm all =
        let below = stands (depth + 1) (omega (arith, low, leaves_some left, leaves_some right)) in
        let rest = drop (width_of left) names in
        let first = tuple_inside left names (depth + 1) (omega (arith, low, leaves_some right)) calm.0 all in
        let second = tuple_inside right rest (depth + 1) (omega (arith, low, leaves_some left)) calm.1 (calm_drop (width_of left) names all) in
        encloses.squares depth (omega (arith, low)) (tuple_tokens left names ++ sign (codes "->") ∷ [] ++ tuple_tokens right rest)
        (below.both (tuple_tokens left names ++ sign (codes "->") ∷ []) (tuple_tokens right rest)
        (below.both (tuple_tokens left names) (sign (codes "->") ∷ []) first below.arrow) second)

    tuples_inside : (space : SpaceForm) (names : List Name) → space_leaves_of space ≤ most_leaves → IsCalmSpace IsCalm space → AllByRecursion IsCalm names → Level 1 (tuples_tokens space names)
    tuples_inside (set_of form) names few calm all = tuple_inside form names 1 (omega (arith, few)) calm all
    tuples_inside (map_of from to) names few calm all =
        let rest = drop (width_of from) names in
        inside.both (tuple_tokens from names ++ sign (codes "->") ∷ []) (tuple_tokens to rest)
        (inside.both (tuple_tokens from names) (sign (codes "->") ∷ []) (tuple_inside from names 1 (omega (arith, few)) calm.0 all) inside.arrow)
        (tuple_inside to rest 1 (omega (arith, few)) calm.1 (calm_drop (width_of from) names all))

    -- pieces
    piece_inside : (params : List Name) (piece : KeptPiece) → AllByRecursion IsCalm params → IsCalmPiece params piece → Level 1 (piece_tokens params piece)
    piece_inside params piece declared calm =
        let coordinates = coordinate_names params piece.space in
        let columns = column_names params piece.space in
        let rows = in_order row_before piece.rows in
        let small = small_rows rows (recursion_from_All (IsRowUpTo limit) rows (All-in_order row_before (IsRowUpTo limit) piece.rows calm.numbers)) in
        inside.both (tuples_tokens piece.space coordinates) (conjunction_tokens (map (row_tokens columns) rows))
        (tuples_inside piece.space coordinates calm.leaves calm.names.titles calm.names.coordinates)
        (conjunction_level (Level 1) inside (map (row_tokens columns) rows) (rows_inside columns rows (calm-append params coordinates declared calm.names.coordinates) small))

    pieces_inside : (params : List Name) (pieces : List KeptPiece) → AllByRecursion IsCalm params → AllByRecursion (IsCalmPiece params) pieces → AllByRecursion (Level 1) (map (piece_tokens params) pieces)
    pieces_inside params [] declared all = tt
    pieces_inside params (piece ∷ pieces) declared all = (piece_inside params piece declared all.0, pieces_inside params pieces declared all.1)

    braces_outside : (tss : List Tokens) → AllByRecursion (Level 1) tss → Level 0 (pieces_tokens tss)
    braces_outside [] all = encloses.braces [] inside.none
    braces_outside (ts ∷ tss) all = encloses.braces (joined_tokens (sign (codes ";") ∷ []) (ts ∷ tss)) (joined_level (Level 1) inside (sign (codes ";") ∷ []) (ts ∷ tss) inside.semicolon all)

    -- the declared names
    params_outside : (names : List Name) → AllByRecursion IsCalm names → Level 0 (params_tokens names)
    params_outside [] calm = outside.none
    params_outside (name ∷ names) calm =
        let inner = names_tokens (name ∷ names) in
        let arrow = sign (codes "->") ∷ [] in
        let grouped : sign (codes "[") ∷ (inner ++ (sign (codes "]") ∷ arrow)) ≡ (sign (codes "[") ∷ (inner ++ sign (codes "]") ∷ [])) ++ arrow =
        ap (λ l. sign (codes "[") ∷ l) (sym (append_assoc inner (sign (codes "]") ∷ []) arrow)) in
        subst (Level 0) (sym grouped)
        (outside.both (sign (codes "[") ∷ (inner ++ sign (codes "]") ∷ [])) arrow (encloses.squares 0 (omega arith) inner (names_level (Level 1) inside (name ∷ names) calm)) outside.arrow)

    pub printed_outside : (value : KeptValue) → IsKeptValue value → HasNumbersUpTo limit value → All IsCalm value.params → All (HasCalmNames IsCalm value.params) value.pieces → Level 0 (printed_tokens value)
    printed_outside value kept numbers params names =
        let pieces = in_order piece_before value.pieces in
        let declared = recursion_from_All IsCalm value.params params in
        let calm : All (IsCalmPiece value.params) value.pieces =
        λ i d low. record { numbers = (numbers i d low).rows; leaves = (kept.pieces i d low).space.narrow.leaves; names = names i d low } in
        let each = recursion_from_All (IsCalmPiece value.params) pieces (All-in_order piece_before (IsCalmPiece value.params) value.pieces calm) in
        outside.both (params_tokens value.params) (pieces_tokens (map (piece_tokens value.params) pieces)) (params_outside value.params declared)
        (braces_outside (map (piece_tokens value.params) pieces) (pieces_inside value.params pieces declared each))
