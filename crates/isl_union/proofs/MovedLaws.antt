-- Systems whose columns stand at other places hold where they did, and pieces of them are pieces again.
use Rattle.std.proofs.Common.{◌≡◌, ◌≢◌, ◌↔◌, refl, sym, ap, ap₂, ◌∙◌, arith, subst, ℕ, zero, suc, ◌+◌, ◌<◌, ◌≤◌, ℤ, pos, List, []}
use Rattle.std.proofs.Common.{◌∷◌, ◌++◌, All, length, get_or, set, map, take, replicate, length-append}
use Rattle.std.proofs.Common.{length-set, get_or-set_other}
use Rattle.std.specs.List.{range_with_len}
use Rattle.std.proofs.lemmas.List.{append-nil, get_or-set_same, length-replicate, take_all, take_more}
use Rattle.std.proofs.lemmas.List.FromFn.{length-range_with_len}
use Rattle.std.proofs.lemmas.List.Elements.{All-head, All-tail}
use Rattle.isl_meter.specs.Gauge.{Gauge}
use Rattle.isl_space.specs.Element.{Element, IsElement}
use Rattle.isl_space.specs.Name.{Name}
use Rattle.isl_space.specs.SpaceForm.{SpaceForm, coordinates_of, IsWellFormedSpace}
use Rattle.isl_space.specs.Valuation.{Valuation, values_of}
use Rattle.isl_space.proofs.ValuationLaws.{length-values_of}
use Rattle.isl_piece.specs.declared.definition.Definition.{Definition}
use Rattle.isl_piece.specs.declared.row.Row.{Row}
use Rattle.isl_piece.specs.declared.system.System.{System}
use Rattle.isl_piece.specs.Formed.{AreWellFormedDefinitions, IsSystemUpTo}
use Rattle.isl_piece.specs.Meet.{put_at, placed, placed_row, placed_definition, numbers_at}
use Rattle.isl_piece.specs.Placed.{ArePlacesAmong, placed_system, placing_of}
use Rattle.isl_piece.specs.Row.{IsWellFormed}
use Rattle.isl_piece.specs.System.{HoldsSystem, IsSystemWithin, free_columns}
use Rattle.isl_piece.proofs.MeetLaws.{placed_free, placed_points, placed_system_within, placed_up_to, placing_more}
use Rattle.isl_piece.proofs.PlacedLaws.{AreApart, length-placed, numbers_at-first, first_apart, first_inside, first_push}
use Rattle.isl_elim.specs.Sample.{IsNowhere}
use Rattle.isl_union.specs.KeptValue.{KeptPiece, HasElement, IsKeptPiece, IsLive, columns_of, piece_system, point_of}
use Rattle.isl_union.specs.Live.{settled}
use Rattle.isl_union.specs.Moved.{moved}
use Rattle.isl_union.specs.Numbers.{IsPieceUpTo}
use Rattle.isl_union.specs.Piece.{piece_of}
use Rattle.isl_union.proofs.LiveLaws.{settled-own, settled_has, settled_kept, settled_up_to}
use Rattle.isl_union.proofs.SystemLaws.{columns_from, point_long, system_is}

-- ---- numbers that are put at places are found there
tail_apart : (place : ℕ) (places : List ℕ) → AreApart (place ∷ places) → AreApart places
tail_apart place places h i j d l k = h (suc i) (suc j) d (omega arith) (omega arith)

-- a place that is none of these keeps its number
put_at-other : (all : List ℤ) (places : List ℕ) (xs : List ℤ) (q : ℕ) → All (λ p. q ≢ p) places → get_or (put_at all places xs) q (pos 0)
    ≡ get_or all q (pos 0)
put_at-other all [] xs q other = refl
put_at-other all (place ∷ places) [] q other = refl
put_at-other all (place ∷ places) (x ∷ xs) q other =
    put_at-other (set all place x) places xs q (All-tail (λ p. q ≢ p) place places other)
    ∙ get_or-set_other all place q x (pos 0) (All-head (λ p. q ≢ p) place places other)

put_at-found : (all : List ℤ) (places : List ℕ) (xs : List ℤ) → length xs ≡ length places → AreApart places
    → All (λ p. p < length all) places
    → numbers_at places (put_at all places xs) ≡ xs
put_at-found all [] [] e apart low = refl
put_at-found all [] (x ∷ xs) e apart low = absurd (omega arith)
put_at-found all (place ∷ places) [] e apart low = absurd (omega arith)
put_at-found all (place ∷ places) (x ∷ xs) e apart low =
    let first : get_or (put_at (set all place x) places xs) place (pos 0) ≡ x =
    put_at-other (set all place x) places xs place (λ k d l. apart 0 (suc k) d (omega arith) (omega arith))
    ∙ get_or-set_same all place x (pos 0) (All-head (λ p. p < length all) place places low) in
    let inside : All (λ p. p < length (set all place x)) places =
    rw (length-set all place x) (All-tail (λ p. p < length all) place places low) in
    rw first (ap (λ l. x ∷ l) (put_at-found (set all place x) places xs (omega arith) (tail_apart place places apart) inside))

placed-found : (columns : ℕ) (places : List ℕ) (xs : List ℤ) → length xs ≡ length places → ArePlacesAmong columns places
    → numbers_at places (placed columns places xs) ≡ xs
placed-found columns places xs e are = put_at-found (replicate columns (pos 0)) places xs e are.apart (rw (length-replicate columns (pos 0))
    are.inside)

-- ---- systems at other places
module _ (g : Gauge) (columns : ℕ) (places : List ℕ) (s : System) (are : ArePlacesAmong columns places) (within : IsSystemWithin g s)
    (long : length places ≡ free_columns s) (live : ¬ IsNowhere (free_columns s) (HoldsSystem s)) where
  -- a system that has a point has one at other places
  pub live_there : ¬ IsNowhere columns (HoldsSystem (placed_system columns places s))
  live_there nowhere = live (λ point l h.
      let q = placed columns places point in
      let wide = length-placed columns places point in
      let found : numbers_at places q ≡ point = placed-found columns places point (l ∙ sym long) are in
      nowhere q wide ((placed_points g columns places s are within long q wide).1 (subst (λ xs. HoldsSystem s xs) (sym found) h)))

  module _ (params : List Name) (space : SpaceForm) (at : columns ≡ columns_of params space) where
    abbrev there : KeptPiece
    there = piece_of space (placed_system columns places s)

    there_columns : (placed_system columns places s).columns ≡ length (placed_system columns places s).definitions + columns_of params space
    there_columns = columns_from g params space (placed_system columns places s) (placed_system_within g columns places s are within long)
        (placed_free g columns places s are within long ∙ at)

    there_within : IsSystemWithin g (piece_system params there)
    there_within = subst (IsSystemWithin g) (system_is params space (placed_system columns places s) there_columns)
        (placed_system_within g columns places s are within long)

    there_live : IsLive params there
    there_live nowhere = live_there (λ q l. nowhere q (l ∙ at))

    pub moved_kept : IsWellFormedSpace space → IsKeptPiece params (moved space columns places s)
    unfolding moved
    moved_kept formed = settled_kept g params there there_within there_live formed

    pub moved_up_to : (b : ℕ) → IsSystemUpTo b s → IsPieceUpTo b (moved space columns places s)
    unfolding moved
    moved_up_to b h =
        let u = placed_up_to b columns places s h in
        settled_up_to g params there there_within there_live b (record { rows = u.rows; definitions = u.definitions })

    -- the elements are those whose numbers at the places make the system hold
    pub moved_has : (v : Valuation) (e : Element)
        → HasElement params v e (moved space columns places s)
        ↔ (IsElement e × (space ≡ e.space) × HoldsSystem s (numbers_at places (point_of params v e)))
    unfolding moved
    moved_has v e =
        let own = settled_has g params there there_within there_live v e in (
          (λ h.
              let k = own.0 h in
              let long_enough : length (point_of params v e) ≡ columns = point_long params v e there k ∙ sym at in
              (k.numbers, k.space, (placed_points g columns places s are within long (point_of params v e) long_enough).0 k.holds)),
          (λ k. own.1 (record {
            numbers = k.0;
            space = k.1;
            holds = (placed_points g columns places s are within long (point_of params v e) (wide k.0 k.1)).1 k.2;
          })),
        )
      where
        wide : IsElement e → space ≡ e.space → length (point_of params v e) ≡ columns
        wide numbers same =
            let whole = length-append (values_of params v) e.coordinates in
            let front = length-values_of params v in
            let is = ap coordinates_of same in
            omega (arith, whole, front, is, at, numbers)

-- ---- systems at their own places
placed-own : (n : ℕ) (cs : List ℤ) → length cs ≡ n → placed n (range_with_len 0 n) cs ≡ cs
placed-own n cs e =
    let made = placed n (range_with_len 0 n) cs in
    let long : length made ≡ n = length-placed n (range_with_len 0 n) cs in
    let are : ArePlacesAmong n (range_with_len 0 n) = record { inside = first_inside n n (omega arith); apart = first_apart n } in
    let whole : numbers_at (range_with_len 0 n) made ≡ made =
    ap (λ k. numbers_at (range_with_len 0 k) made) (sym long) ∙ ap (numbers_at (range_with_len 0 (length made))) (sym (append-nil made)) ∙
    numbers_at-first made [] in
    sym whole ∙ placed-found n (range_with_len 0 n) cs (e ∙ sym (length-range_with_len 0 n)) are

placed_rows-own : (n : ℕ) (rows : List Row) → All (IsWellFormed n) rows → map (placed_row n (range_with_len 0 n)) rows ≡ rows
placed_rows-own n [] formed = refl
placed_rows-own n (r ∷ rows) formed =
    let here : placed_row n (range_with_len 0 n) r ≡ r =
    ap (λ cs. let s : Row = record {
      kind = r.kind;
      coefs = cs;
      constant = r.constant;
      k = r.k;
    } in s) (placed-own n r.coefs (All-head (IsWellFormed n) r rows formed).width) in
    ap₂ (λ s rest. s ∷ rest) here (placed_rows-own n rows (All-tail (IsWellFormed n) r rows formed))

definition-own : (n : ℕ) (d : Definition) → length d.coefs ≡ n → placed_definition n (range_with_len 0 n) d ≡ d
definition-own n d e = ap (λ cs. let f : Definition = record { coefs = cs; constant = d.constant; k = d.k } in f) (placed-own n d.coefs e)

formed_at : (n : ℕ) (definitions : List Definition) (i : ℕ) (d : Definition) → AreWellFormedDefinitions n definitions
    → i < length definitions
    → length (get_or definitions i d).coefs ≡ n + i
formed_at n [] i d h l = absurd (omega arith)
formed_at n (first ∷ definitions) zero d h l = let w = h.0.width in omega (arith, w)
formed_at n (first ∷ definitions) (suc i) d h l = let w = formed_at (suc n) definitions i d h.1 (omega arith) in omega (arith, w)

-- columns that stand at their own places leave those behind them at theirs
record AreOwn (n : ℕ) (all : List Definition) (i : ℕ) : Type 0 where
  columns : (placing_of n (range_with_len 0 n) (take i all)).columns ≡ n + i
  definitions : (placing_of n (range_with_len 0 n) (take i all)).definitions ≡ take i all
  places : (placing_of n (range_with_len 0 n) (take i all)).places ≡ range_with_len 0 (n + i)

one_own : (n c : ℕ) (places : List ℕ) (d : Definition) → c ≡ n → places ≡ range_with_len 0 n → length d.coefs ≡ n
    → placed_definition c places d ≡ d
one_own n c places d e f w = rw (e, f) (definition-own n d w)

placing-own : (n : ℕ) (definitions : List Definition) → AreWellFormedDefinitions n definitions → (i : ℕ) → i ≤ length definitions
    → AreOwn n definitions i
placing-own n definitions h zero l =
    let none : n ≡ n + 0 = omega arith in
    record { columns = none; definitions = refl; places = ap (range_with_len 0) none }
placing-own n definitions h (suc i) l =
    let d : Definition = record { coefs = []; constant = pos 0; k = pos 1 } in
    let one = get_or definitions i d in
    let before = placing_of n (range_with_len 0 n) (take i definitions) in
    let so_far = placing-own n definitions h i (omega arith) in
    let low : i < length definitions = omega arith in
    let next : n + i + 1 ≡ n + suc i = omega arith in
    let count : i + 1 ≡ suc i = omega arith in
    let stays : placed_definition before.columns before.places one ≡ one =
    one_own (n + i) before.columns before.places one so_far.columns so_far.places (formed_at n definitions i d h low) in
    let whole : AreOwn n definitions (i + 1) = record {
      columns = rw (placing_more n (range_with_len 0 n) definitions i d low) (ap (λ c. c + 1) so_far.columns ∙ omega arith);
      definitions = rw (placing_more n (range_with_len 0 n) definitions i d low)
          (ap₂ (λ ds x. ds ++ x ∷ []) so_far.definitions stays ∙ sym (take_more definitions i d low));
      places = rw (placing_more n (range_with_len 0 n) definitions i d low)
          (ap₂ (λ ps c. ps ++ c ∷ []) so_far.places so_far.columns ∙ sym (first_push (n + i)) ∙ ap (range_with_len 0) (omega arith));
    } in
    subst (AreOwn n definitions) count whole

same_piece : (space : SpaceForm) (rows : List Row) (a b : ℕ) (c d : List Definition) (p q : List ℕ) → a ≡ b → c ≡ d → p ≡ q
    → (let m : KeptPiece = record { space = space; definitions = c; rows = map (placed_row a p) rows } in m)
    ≡ record { space = space; definitions = d; rows = map (placed_row b q) rows }
same_piece space rows a b c d p q e f h = rw (e, f, h) refl

-- a piece whose columns stay is itself
pub moved-own : (params : List Name) (piece : KeptPiece) → IsKeptPiece params piece
    → moved piece.space (columns_of params piece.space) (range_with_len 0 (columns_of params piece.space)) (piece_system params piece)
    ≡ piece
unfolding moved
moved-own params piece kept =
    let n = columns_of params piece.space in
    let all = n + length piece.definitions in
    let own : AreOwn n piece.definitions (length piece.definitions) =
    placing-own n piece.definitions kept.definitions (length piece.definitions) (omega arith) in
    let every : take (length piece.definitions) piece.definitions ≡ piece.definitions =
    take_all (length piece.definitions) piece.definitions (omega arith) in
    let columns : (placing_of n (range_with_len 0 n) piece.definitions).columns ≡ all =
    ap (λ ds. (placing_of n (range_with_len 0 n) ds).columns) (sym every) ∙ own.columns in
    let definitions : (placing_of n (range_with_len 0 n) piece.definitions).definitions ≡ piece.definitions =
    ap (λ ds. (placing_of n (range_with_len 0 n) ds).definitions) (sym every) ∙ own.definitions ∙ every in
    let places : (placing_of n (range_with_len 0 n) piece.definitions).places ≡ range_with_len 0 all =
    ap (λ ds. (placing_of n (range_with_len 0 n) ds).places) (sym every) ∙ own.places in
    let wide : All (IsWellFormed all) piece.rows = let same : length piece.definitions + n ≡ all = omega arith in
    subst (λ k. All (IsWellFormed k) piece.rows) same kept.rows in
    let stays : piece_of piece.space (placed_system n (range_with_len 0 n) (piece_system params piece)) ≡ piece =
    same_piece piece.space piece.rows (placing_of n (range_with_len 0 n) piece.definitions).columns all
    (placing_of n (range_with_len 0 n) piece.definitions).definitions piece.definitions
    (placing_of n (range_with_len 0 n) piece.definitions).places (range_with_len 0 all) columns definitions places
    ∙ ap (λ rows. let p : KeptPiece = record { space = piece.space; definitions = piece.definitions; rows = rows } in p)
    (placed_rows-own all piece.rows wide) in
    ap settled stays ∙ settled-own piece kept.normal
