-- Systems with copies of some of their columns.
use Rattle.std.proofs.Common.{◌≡◌, ◌≢◌, ◌↔◌, refl, sym, ap, ap₂, ◌∙◌, arith, subst, ℕ, zero, suc, ◌+◌, ◌-◌, ◌^◌, ◌<◌, ◌≤◌, ℤ}
use Rattle.std.proofs.Common.{pos, negsuc, ◌+ℤ◌, ◌*ℤ◌, List, [], ◌∷◌, ◌++◌}
use Rattle.std.proofs.Common.{All, append_assoc, get_or, length, length-append, map, take, unsigned_abs}
use Rattle.std.specs.List.{range_with_len}
use Rattle.std.proofs.lemmas.List.{append-nil, get_or_append_left, get_or-append-add, get_or-map}
use Rattle.std.proofs.lemmas.List.{length-map, ext_get_or, map-append, take_all}
use Rattle.std.proofs.lemmas.List.Elements.{All-append, All-cons, All-map, All-nil, All-weaker}
use Rattle.std.proofs.lemmas.List.FromFn.{length-range_with_len, get_or-range_with_len}
use Rattle.isl_math.specs.Dot.{dot}
use Rattle.isl_math.proofs.ListLaws.{All-parts, All-unmapped}
use Rattle.isl_math.proofs.Ring.{linear}
use Rattle.isl_meter.specs.Gauge.{Gauge, limit_of}
use Rattle.isl_piece.specs.declared.definition.Definition.{Definition}
use Rattle.isl_piece.specs.declared.row.Row.{Row}
use Rattle.isl_piece.specs.declared.system.System.{System}
use Rattle.isl_piece.specs.Definition.{defined_value, with_defined, with_next}
use Rattle.isl_piece.specs.Formed.{IsSystemUpTo}
use Rattle.isl_piece.specs.Meet.{numbers_at}
use Rattle.isl_piece.specs.Placed.{ArePlacesAmong, placed_system, placing_of}
use Rattle.isl_piece.specs.Row.{HoldsRow, IsRowUpTo, IsRowWithin, IsWellFormed}
use Rattle.isl_piece.specs.System.{HoldRows, HoldsSystem, IsSystemWithin, free_columns}
use Rattle.isl_piece.proofs.RowMagnitudes.{within_limit}
use Rattle.isl_piece.proofs.MeetLaws.{placed_free, placed_points, placed_system_within, placed_up_to, placing_more}
use Rattle.isl_piece.proofs.PlacedLaws.{AreApart, first_apart, first_inside, first_push}
use Rattle.isl_piece.proofs.PlacedLaws.{length-placed, numbers_at-first, placed_dot, placed-all}
use Rattle.isl_elim.specs.Sample.{IsNowhere}
use Rattle.isl_maps.specs.Copied.{copied_system, equal_row, equal_rows, with_equal_rows}

-- ---- one row
two_apart : (a b : ℕ) → a ≢ b → AreApart (a ∷ b ∷ [])
two_apart a b n zero zero d l w e = absurd (omega arith)
two_apart a b n zero (suc zero) d l w e = n e
two_apart a b n zero (suc (suc j)) d l w e = absurd (omega arith)
two_apart a b n (suc i) zero d l w e = absurd (omega arith)
two_apart a b n (suc i) (suc zero) d l w e = absurd (omega arith)
two_apart a b n (suc i) (suc (suc j)) d l w e = absurd (omega arith)

equal_value : (columns a b : ℕ) (q : List ℤ) → a ≢ b → a < columns → b < columns
    → dot (equal_row columns a b).coefs q ≡ pos 1 *ℤ get_or q a (pos 0) +ℤ (negsuc 0 *ℤ get_or q b (pos 0) +ℤ pos 0)
equal_value columns a b q n low high =
    placed_dot columns (a ∷ b ∷ []) (pos 1 ∷ negsuc 0 ∷ []) q refl (two_apart a b n)
    (All-cons (λ p. p < columns) a (b ∷ []) low (All-cons (λ p. p < columns) b [] high (All-nil (λ p. p < columns))))

equal_holds : (columns a b : ℕ) (q : List ℤ) → a ≢ b → a < columns → b < columns
    → HoldsRow (equal_row columns a b) q ↔ (get_or q b (pos 0) ≡ get_or q a (pos 0))
equal_holds columns a b q n low high =
    by (dot (equal_row columns a b).coefs q) (get_or q a (pos 0)) (get_or q b (pos 0)) (equal_value columns a b q n low high)
  where
    by : (z x y : ℤ) → z ≡ pos 1 *ℤ x +ℤ (negsuc 0 *ℤ y +ℤ pos 0) → (z +ℤ pos 0 ≡ pos 0) ↔ (y ≡ x)
    by z x y e = ((λ h. omega (arith, linear)), (λ h. omega (arith, linear)))

-- ---- rows
module _ (columns first second count : ℕ) (order : first + count ≤ second) (within : second + count ≤ columns) where
  abbrev at : ℕ → Row
  at i = equal_row columns (first + i) (second + i)

  abbrev two : ℕ → List ℕ
  two i = (first + i) ∷ (second + i) ∷ []

  place : (k d : ℕ) → k < count → get_or (range_with_len 0 count) k d ≡ k
  place k d l = get_or-range_with_len 0 count k d l ∙ omega arith

  equal_hold : (q : List ℤ)
      → HoldRows (equal_rows columns first second count) q
      ↔ ((i : ℕ) → i < count → get_or q (second + i) (pos 0) ≡ get_or q (first + i) (pos 0))
  equal_hold q =
      let long = length-range_with_len 0 count in (
        (λ h i l.
            let here = All-unmapped (λ r. HoldsRow r q) at (range_with_len 0 count) h i 0 (omega arith) in
            (one i l).0 (subst (λ k. HoldsRow (at k) q) (place i 0 l) here)),
        (λ h. All-map (λ r. HoldsRow r q) at (range_with_len 0 count) (λ k d l.
            let low : k < count = omega arith in
            subst (λ i. HoldsRow (at i) q) (sym (place k d low)) ((one k low).1 (h k low)))),
      )
    where
      one : (i : ℕ) → i < count → HoldsRow (at i) q ↔ (get_or q (second + i) (pos 0) ≡ get_or q (first + i) (pos 0))
      one i l = equal_holds columns (first + i) (second + i) q (λ e. omega arith) (omega arith) (omega arith)

  equal_formed : All (IsWellFormed columns) (equal_rows columns first second count)
  equal_formed = All-map (IsWellFormed columns) at (range_with_len 0 count) (λ k d l. record {
    width = length-placed columns (two (get_or (range_with_len 0 count) k d))
        (pos 1 ∷ negsuc 0 ∷ []);
    modulus = refl;
  })

  equal_up_to : (most : ℕ) → 1 ≤ most → All (IsRowUpTo most) (equal_rows columns first second count)
  equal_up_to most h = All-map (IsRowUpTo most) at (range_with_len 0 count) (λ k d l. record {
    coefs = let P : ℤ → Type 0 = λ c. unsigned_abs c ≤ most in
        placed-all P columns (two (get_or (range_with_len 0 count) k d))
        (pos 1 ∷ negsuc 0 ∷ []) (omega arith) (All-cons P (pos 1) (negsuc 0 ∷ []) h (All-cons P (negsuc 0) [] h (All-nil P)));
    constant = omega arith;
    k = h;
  })

-- ---- systems
-- the numbers of the defined columns stand behind those of the free ones
record Extends (definitions : List Definition) (xs : List ℤ) : Type 0 where
  rest : List ℤ
  is : with_defined definitions xs ≡ xs ++ rest

extends : (definitions : List Definition) (xs : List ℤ) → Extends definitions xs
extends [] xs = record { rest = []; is = sym (append-nil xs) }
extends (d ∷ definitions) xs =
    let later = extends definitions (with_next xs d) in
    record { rest = defined_value d xs ∷ later.rest; is = later.is ∙ append_assoc xs (defined_value d xs ∷ []) later.rest }

-- numbers behind others are those that stand there from a place on
same_numbers : (q c full : List ℤ) (first count : ℕ) → length c ≡ count → first + count ≤ length q
    → ((i : ℕ) → i < length q + count → get_or full i (pos 0) ≡ get_or (q ++ c) i (pos 0))
    → ((i : ℕ) → i < count → get_or full (length q + i) (pos 0) ≡ get_or full (first + i) (pos 0))
    ↔ (c ≡ numbers_at (range_with_len first count) q)
same_numbers q c full first count wide inside is = (
  (λ h. ext_get_or (pos 0) c (numbers_at (range_with_len first count) q) (wide ∙ sym long) (λ i l.
      let low : i < count = omega arith in
      sym (behind i low) ∙ h i low ∙ front i low ∙ sym (there i low))),
  (λ e i l. behind i l ∙ ap (λ xs. get_or xs i (pos 0)) e ∙ there i l ∙ sym (front i l)),
)
  where
    long : length (numbers_at (range_with_len first count) q) ≡ count
    long = length-map (range_with_len first count) (λ p. get_or q p (pos 0)) ∙ length-range_with_len first count

    behind : (i : ℕ) → i < count → get_or full (length q + i) (pos 0) ≡ get_or c i (pos 0)
    behind i l = is (length q + i) (omega arith) ∙ get_or-append-add q c i (pos 0)

    front : (i : ℕ) → i < count → get_or full (first + i) (pos 0) ≡ get_or q (first + i) (pos 0)
    front i l = is (first + i) (omega arith) ∙ get_or_append_left q c (pos 0) (first + i) (omega arith)

    there : (i : ℕ) → i < count → get_or (numbers_at (range_with_len first count) q) i (pos 0) ≡ get_or q (first + i) (pos 0)
    there i l =
        get_or-map (λ p. get_or q p (pos 0)) (range_with_len first count) i 0 (pos 0) (rw (length-range_with_len first count) l)
        ∙ ap (λ p. get_or q p (pos 0)) (get_or-range_with_len first count i 0 l)

module _ (g : Gauge) (first count : ℕ) (s : System) (within : IsSystemWithin g s) (inside : first + count ≤ free_columns s) where
  abbrev free : ℕ
  free = free_columns s

  abbrev places : List ℕ
  places = range_with_len 0 free

  abbrev wider : System
  wider = placed_system (free + count) places s

  are : ArePlacesAmong (free + count) places
  are = record { inside = first_inside free (free + count) (omega arith); apart = first_apart free }

  long : length places ≡ free
  long = length-range_with_len 0 free

  wider_within : IsSystemWithin g wider
  wider_within = placed_system_within g (free + count) places s are within long

  wider_free : free_columns wider ≡ free + count
  wider_free = placed_free g (free + count) places s are within long

  room : free + count ≤ wider.columns
  room = let c = wider_within.count in let f = wider_free in omega (arith, c, f)

  -- it holds where the system does, and the copies are the numbers that they copy
  pub copied_points : (q c : List ℤ) → length q ≡ free → length c ≡ count
      → HoldsSystem (copied_system first count s) (q ++ c) ↔ (HoldsSystem s q × (c ≡ numbers_at (range_with_len first count) q))
  unfolding copied_system
  copied_points q c wide more =
      let full = with_defined wider.definitions (q ++ c) in
      let P = λ (r : Row). HoldsRow r full in
      let own = placed_points g (free + count) places s are within long (q ++ c) (length-append q c ∙ omega arith) in
      let at_first : numbers_at places (q ++ c) ≡ q =
      ap (λ n. numbers_at (range_with_len 0 n) (q ++ c)) (sym wide) ∙ numbers_at-first q c in
      let rows = equal_hold wider.columns first free count inside room full in
      let ext = extends wider.definitions (q ++ c) in
      let same = same_numbers q c full first count more (omega arith) (λ i l.
      ap (λ xs. get_or xs i (pos 0)) ext.is
      ∙ get_or_append_left (q ++ c) ext.rest (pos 0) i (let n = length-append q c in omega arith)) in (
        (λ h.
            let parts = All-parts P wider.rows (equal_rows wider.columns first free count) h in
            let numbers = rows.0 parts.1 in
            (subst (λ xs. HoldsSystem s xs) at_first (own.0 parts.0), same.0 (λ i l. rw wide (numbers i l)))),
        (λ h. All-append P wider.rows (equal_rows wider.columns first free count)
            (own.1 (subst (λ xs. HoldsSystem s xs) (sym at_first) h.0))
            (rows.1 (λ i l. subst (λ n. get_or full (n + i) (pos 0) ≡ get_or full (first + i) (pos 0)) wide (same.1 h.1 i l)))),
      )

  pub copied_free : free_columns (copied_system first count s) ≡ free + count
  unfolding copied_system
  copied_free = wider_free

  -- where it has no point the system has none
  pub copied_live : IsNowhere (free_columns (copied_system first count s)) (HoldsSystem (copied_system first count s))
      → IsNowhere free (HoldsSystem s)
  copied_live nowhere q wide h =
      let c = numbers_at (range_with_len first count) q in
      let more : length c ≡ count = length-map (range_with_len first count) (λ p. get_or q p (pos 0)) ∙ length-range_with_len first count in
      nowhere (q ++ c) (length-append q c ∙ omega (arith, wide, more, copied_free)) ((copied_points q c wide more).1 (h, refl))

  pub copied_within : 1 ≤ unsigned_abs (limit_of g) → IsSystemWithin g (copied_system first count s)
  unfolding copied_system
  copied_within h =
      record {
        rows = All-append (IsWellFormed wider.columns) wider.rows (equal_rows wider.columns first free count) wider_within.rows
            (equal_formed wider.columns first free count inside room);
        within = All-append (IsRowWithin g) wider.rows (equal_rows wider.columns first free count) wider_within.within
            (All-weaker (IsRowUpTo (2 ^ g.bits - 1)) (IsRowWithin g) (within_limit g) (equal_rows wider.columns first free count)
            (equal_up_to wider.columns first free count inside room (2 ^ g.bits - 1) h));
        count = wider_within.count;
        definitions = wider_within.definitions;
      }

  pub copied_up_to : (most : ℕ) → 1 ≤ most → IsSystemUpTo most s → IsSystemUpTo most (copied_system first count s)
  unfolding copied_system
  copied_up_to most h small =
      let own = placed_up_to most (free + count) places s small in
      record {
        rows = All-append (IsRowUpTo most) wider.rows (equal_rows wider.columns first free count) own.rows
            (equal_up_to wider.columns first free count inside room most h);
        definitions = own.definitions;
      }

pub copied_plain : (first count : ℕ) (s : System) → s.definitions ≡ [] → (copied_system first count s).definitions ≡ []
unfolding copied_system
copied_plain first count s none =
    ap (λ (ds : List Definition). (placing_of (free_columns s + count) (range_with_len 0 (free_columns s)) ds).definitions) none

-- ---- what the code makes
pub equal_more : (s t : System) (rows : List Row) (row : Row) (first second n : ℕ) → t ≡ with_equal_rows first second n s
    → rows ≡ t.rows ++ row ∷ [] → row ≡ equal_row s.columns (first + n) (second + n)
    → (let made : System = record { columns = t.columns; definitions = t.definitions; rows = rows } in made)
    ≡ with_equal_rows first second (n + 1) s
equal_more s t rows row first second n is pushed one =
    let f : ℕ → Row = λ i. equal_row s.columns (first + i) (second + i) in
    let more : equal_rows s.columns first second (n + 1) ≡ equal_rows s.columns first second n ++ f n ∷ [] =
    ap (map f) (first_push n) ∙ map-append f (range_with_len 0 n) (n ∷ []) in
    let whole : rows ≡ s.rows ++ equal_rows s.columns first second (n + 1) =
    pushed ∙ ap₂ (λ l r. l ++ r ∷ []) (ap (λ (u : System). u.rows) is) one
    ∙ append_assoc s.rows (equal_rows s.columns first second n) (f n ∷ []) ∙ ap (λ l. s.rows ++ l) (sym more) in
    ap₂ (λ (u : System) l. let made : System = record { columns = u.columns; definitions = u.definitions; rows = l } in made) is whole

-- there is a column for each definition behind the others
placing_columns : (columns : ℕ) (places : List ℕ) (definitions : List Definition) (i : ℕ) → i ≤ length definitions
    → (placing_of columns places (take i definitions)).columns ≡ columns + i
placing_columns columns places definitions zero l = omega arith
placing_columns columns places definitions (suc i) l =
    let d : Definition = record { coefs = []; constant = pos 0; k = pos 1 } in
    let low : i < length definitions = omega arith in
    let count : i + 1 ≡ suc i = omega arith in
    let so_far = placing_columns columns places definitions i (omega arith) in
    let more : (placing_of columns places (take (i + 1) definitions)).columns ≡ columns + (i + 1) =
    rw (placing_more columns places definitions i d low) (ap (λ n. n + 1) so_far ∙ omega arith) in
    subst (λ k. (placing_of columns places (take k definitions)).columns ≡ columns + k) count more

pub wider_room : (columns : ℕ) (places : List ℕ) (s t : System) → t ≡ placed_system columns places s → columns ≤ t.columns
wider_room columns places s t is =
    let wide = ap (λ (u : System). u.columns) is in
    let every : take (length s.definitions) s.definitions ≡ s.definitions = take_all (length s.definitions) s.definitions (omega arith) in
    let more = placing_columns columns places s.definitions (length s.definitions) (omega arith) in
    let here = subst (λ (ds : List Definition). (placing_of columns places ds).columns ≡ columns + length s.definitions) every more in
    omega (arith, wide, here)

pub copied_is : (first count : ℕ) (s wide made : System) (n : ℕ) (ps : List ℕ) → n ≡ free_columns s → ps ≡ range_with_len 0 n
    → wide ≡ placed_system (n + count) ps s → made ≡ with_equal_rows first n count wide → made ≡ copied_system first count s
unfolding copied_system
copied_is first count s wide made n ps columns at is copied =
    copied ∙ ap (with_equal_rows first n count) (is ∙ ap (λ l. placed_system (n + count) l s) at)
    ∙ ap (λ k. with_equal_rows first k count (placed_system (k + count) (range_with_len 0 k) s)) columns
