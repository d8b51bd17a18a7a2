-- Two systems as one: what it says of a point, and that it is a system.
use Rattle.std.proofs.Common.{◌≡◌, ◌≢◌, ◌↔◌, ◌&&◌, inl, inr, true, refl, sym, ap, ap₂, ◌∙◌, unsigned_abs, arith, subst, ℕ, zero, suc, ◌+◌, ◌-◌, ◌<◌, ◌≤◌, ℤ, pos, ◌+ℤ◌, List, [], ◌∷◌, ◌++◌, length, get_or, map, take, drop, fold, length-append, append_assoc, append-nil, take-append-drop, Option, Some, None}
use Rattle.std.specs.List.{All, range_with_len}
use Rattle.std.specs.Bool.{nat_eq, Decides}
use Rattle.std.specs.Ordering.{int_eq}
use Rattle.std.specs.Cmp.Lexicographic.{pointwise}
use Rattle.std.proofs.lemmas.Bool.{eq-eqb, and_parts, cases_Bool, cond-true, cond-false, false≢true, false_from_ne_true}
use Rattle.std.proofs.lemmas.Bool.Decides.{Decides-int_eq}
use Rattle.std.proofs.lemmas.Slice.Eq.{slice_eq-Decides}
use Rattle.std.proofs.lemmas.List.{get_or-append-add, length-take-le}
use Rattle.std.proofs.lemmas.List.Sums.{fold-append, fold_more}
use Rattle.std.proofs.lemmas.List.FromFn.{length-range_with_len}
use Rattle.std.proofs.lemmas.List.Folds.{list_any_at}
use Rattle.std.proofs.lemmas.List.Quantifiers.{all_pairs_push}
use Rattle.std.proofs.lemmas.List.Elements.{All-append, All-head, All-tail, All-nil, All-map, All-push, All-weaker}
use Rattle.isl_math.specs.Divide.{floor_div}
use Rattle.isl_math.specs.Dot.{dot}
use Rattle.isl_math.proofs.DotLaws.{dot-append}
use Rattle.isl_math.proofs.ListLaws.{All-parts, All-unmapped}
use Rattle.isl_math.proofs.Ring.{linear}
use Rattle.isl_meter.specs.Gauge.{Gauge, IsWithin}
use Rattle.isl_meter.proofs.LimitLemmas.{IsWithin-zero}
use Rattle.isl_piece.specs.declared.row.Row.{Row}
use Rattle.isl_piece.specs.declared.definition.Definition.{Definition}
use Rattle.isl_piece.specs.declared.meeting.Meeting.{Meeting}
use Rattle.isl_piece.specs.declared.system.System.{System}
use Rattle.isl_piece.specs.Definition.{defined_value, with_next, with_defined, IsDefinition, AreDefinitions}
use Rattle.isl_piece.specs.Row.{HoldsRow, HoldsValue, value_at, IsWellFormed, IsRowUpTo, IsRowWithin}
use Rattle.isl_piece.specs.System.{HoldRows, HoldsSystem, free_columns, IsSystemWithin}
use Rattle.isl_piece.specs.Meet.{placed_row, placed_definition, numbers_at, column_with, joined_at, with_column, first_columns, meeting_of, over_same_columns, met, IsPlaced}
use Rattle.isl_piece.specs.Formed.{IsDefinitionUpTo, IsSystemUpTo}
use Rattle.isl_piece.specs.Placed.{with_own_column, placing_of, placed_system, both_systems, is_equal_definition, ArePlacesAmong}
use Rattle.isl_piece.proofs.DefinedLaws.{with_defined_push, length-with_defined, AreDefinitions-push, definition_at}
use Rattle.isl_piece.proofs.PlacedLaws.{AreApart, equal_definitions, length-placed, placed-all, placed_dot, numbers_at-first, numbers_at-push, numbers_at-longer, first_apart, first_inside, IsSameDefinition, IsFound, column_with-found}

-- ---- the same definitions
module _ (a b : System) (definitions : a.definitions ≡ b.definitions) where
  pub same_points : (xs : List ℤ) → HoldsSystem (over_same_columns a b) xs ↔ (HoldsSystem a xs × HoldsSystem b xs)
  same_points xs =
      let P : Row → Type 0 = λ r. HoldsRow r (with_defined a.definitions xs) in
      rw (← definitions) ((λ h. All-parts P a.rows b.rows h), (λ h. All-append P a.rows b.rows h.0 h.1))

  pub same_within : (g : Gauge) → free_columns a ≡ free_columns b → IsSystemWithin g a → IsSystemWithin g b → IsSystemWithin g (over_same_columns a b)
  same_within g free p q =
      let columns : a.columns ≡ b.columns = let c = p.count in let d = q.count in let e = ap (length {A = Definition}) definitions in omega arith in
      record {
        rows = All-append (IsWellFormed a.columns) a.rows b.rows p.rows (rw columns q.rows);
        within = All-append (IsRowWithin g) a.rows b.rows p.within q.within;
        count = p.count;
        definitions = p.definitions;
      }

-- ---- columns of both
IsPlaced-joined : (free : ℕ) (m : Meeting) (d : Definition) (found : Option ℕ) → IsPlaced free m → ((column : ℕ) → found ≡ Some column → column < m.columns) → IsPlaced free (joined_at m d found)
IsPlaced-joined free m d None h low =
    let more = length-append m.definitions (d ∷ []) in
    let columns = h.columns in
    record {
      columns = omega arith;
      inside = All-push (λ p. p < m.columns + 1) m.places m.columns (All-weaker (λ p. p < m.columns) (λ p. p < m.columns + 1) (λ p l. omega arith) m.places h.inside) (omega arith);
    }
IsPlaced-joined free m d (Some column) h low = record {
  columns = h.columns;
  inside = All-push (λ p. p < m.columns) m.places column h.inside (low column refl);
}

found_inside : (free : ℕ) (m : Meeting) (d : Definition) → IsPlaced free m → (column : ℕ) → column_with d m.places free m.definitions ≡ Some column → column < m.columns
found_inside free m d h column e = let f = column_with-found d m.places free m.definitions column e in let high = f.high in let columns = h.columns in omega arith

pub IsPlaced-more : (free : ℕ) (m : Meeting) (d : Definition) → IsPlaced free m → IsPlaced free (with_column free m d)
IsPlaced-more free m d h =
    let moved = placed_definition m.columns m.places d in
    IsPlaced-joined free m moved (column_with moved m.places free m.definitions) h (found_inside free m moved h)

pub IsPlaced-first : (free : ℕ) (a : System) → IsPlaced free (first_columns free a)
IsPlaced-first free a = record { columns = refl; inside = first_inside free (free + length a.definitions) (omega arith) }

-- columns only come
pub columns_grow : (free : ℕ) (m : Meeting) (d : Definition) → m.columns ≤ (with_column free m d).columns
columns_grow free m d =
    let moved = placed_definition m.columns m.places d in
    by moved (column_with moved m.places free m.definitions)
  where
    by : (moved : Definition) (found : Option ℕ) → m.columns ≤ (joined_at m moved found).columns
    by moved None = omega arith
    by moved (Some column) = omega arith

pub meeting_more : (a : System) (definitions : List Definition) (i : ℕ) (d : Definition) → i < length definitions
    → meeting_of a (take (i + 1) definitions) ≡ with_column (free_columns a) (meeting_of a (take i definitions)) (get_or definitions i d)
meeting_more a definitions i d l = fold_more (with_column (free_columns a)) (first_columns (free_columns a) a) definitions i d l

-- ---- the number of a defined column
record Extends (definitions : List Definition) (xs : List ℤ) : Type 0 where
  rest : List ℤ
  is : with_defined definitions xs ≡ xs ++ rest

extends : (definitions : List Definition) (xs : List ℤ) → Extends definitions xs
extends [] xs = record { rest = []; is = sym (append-nil xs) }
extends (d ∷ definitions) xs =
    let later = extends definitions (with_next xs d) in
    record { rest = defined_value d xs ∷ later.rest; is = later.is ∙ append_assoc xs (defined_value d xs ∷ []) later.rest }

number_at : (definitions : List Definition) (xs : List ℤ) (i : ℕ) (d : Definition) → i < length definitions
    → get_or (with_defined definitions xs) (length xs + i) (pos 0) ≡ defined_value (get_or definitions i d) (with_defined (take i definitions) xs)
number_at [] xs i d l = absurd (omega arith)
number_at (first ∷ definitions) xs zero d l =
    let v = defined_value first xs in
    let later = extends definitions (with_next xs first) in
    ap (λ full. get_or full (length xs + 0) (pos 0)) (later.is ∙ append_assoc xs (v ∷ []) later.rest) ∙ get_or-append-add xs (v ∷ later.rest) 0 (pos 0)
number_at (first ∷ definitions) xs (suc i) d l =
    let one = length-append xs (defined_value first xs ∷ []) in
    let place : length (with_next xs first) + i ≡ length xs + suc i = omega arith in
    ap (λ n. get_or (with_defined definitions (with_next xs first)) n (pos 0)) (sym place) ∙ number_at definitions (with_next xs first) i d (omega arith)

-- a definition reads nothing of the columns behind those before it
value_longer : (d : Definition) (xs ys : List ℤ) → length d.coefs ≡ length xs → defined_value d (xs ++ ys) ≡ defined_value d xs
value_longer d xs ys e = ap (λ z. floor_div (z +ℤ d.constant) d.k) (ap (λ cs. dot cs (xs ++ ys)) (sym (append-nil d.coefs)) ∙ dot-append d.coefs [] xs ys e ∙ omega (arith, linear))

-- the number at a defined column is the one that its definition gives at the full point
number_of : (g : Gauge) (definitions : List Definition) (xs : List ℤ) (i : ℕ) (d : Definition) → AreDefinitions g (length xs) definitions → i < length definitions
    → get_or (with_defined definitions xs) (length xs + i) (pos 0) ≡ defined_value (get_or definitions i d) (with_defined definitions xs)
number_of g definitions xs i d all l =
    let one = get_or definitions i d in
    let before = with_defined (take i definitions) xs in
    let later = extends (drop i definitions) before in
    let whole : with_defined definitions xs ≡ before ++ later.rest =
    ap (λ ds. with_defined ds xs) (sym (take-append-drop i definitions)) ∙ fold-append with_next xs (take i definitions) (drop i definitions) ∙ later.is in
    let wide : length one.coefs ≡ length before = (definition_at g (length xs) definitions i d all l).width ∙ sym (length-with_defined (take i definitions) xs ∙ ap (λ n. length xs + n) (length-take-le i definitions (omega arith))) in
    number_at definitions xs i d l ∙ sym (ap (defined_value one) whole ∙ value_longer one before later.rest wide)

-- ---- both
-- the columns of the first and of some definitions of the second, whose free columns stand at the places `start`: each column of the
-- second has its number at its place
pub record IsMeetingOf (g : Gauge) (free : ℕ) (start : List ℕ) (first definitions : List Definition) (m : Meeting) : Type 0 where
  pub placed : IsPlaced free m
  pub count : length m.places ≡ length start + length definitions
  pub apart : AreApart m.places
  pub rest : List Definition
  pub longer : m.definitions ≡ first ++ rest
  pub defined : AreDefinitions g free m.definitions
  pub same : (xs : List ℤ) → length xs ≡ free → numbers_at m.places (with_defined m.definitions xs) ≡ with_defined definitions (numbers_at start xs)

apart_push : (places : List ℕ) (place : ℕ) → AreApart places → ((k : ℕ) (d : ℕ) → k < length places → get_or places k d ≢ place) → AreApart (places ++ place ∷ [])
apart_push places place h free = all_pairs_push (λ p q. p ≢ q) places place h free

same_value : (a b : Definition) (q : List ℤ) → IsSameDefinition a b → defined_value a q ≡ defined_value b q
same_value a b q s = rw (s.form q, s.constant, s.k) refl

module _ (g : Gauge) (free : ℕ) (start : List ℕ) (first definitions : List Definition) (m : Meeting) (d : Definition)
    (h : IsMeetingOf g free start first definitions m) (one : IsDefinition g (length start + length definitions) d) where
  abbrev moved : Definition
  moved = placed_definition m.columns m.places d

  moved_formed : IsDefinition g m.columns moved
  moved_formed = record {
    width = length-placed m.columns m.places d.coefs;
    modulus = one.modulus;
    coefs = placed-all (IsWithin g) m.columns m.places d.coefs (IsWithin-zero g) one.coefs;
    constant = one.constant;
    k = one.k;
  }

  moved_value : (xs : List ℤ) → length xs ≡ free → defined_value moved (with_defined m.definitions xs)
      ≡ defined_value d (with_defined definitions (numbers_at start xs))
  moved_value xs e =
      let full = with_defined m.definitions xs in
      ap (λ z. floor_div (z +ℤ d.constant) d.k) (placed_dot m.columns m.places d.coefs full (one.width ∙ sym h.count) h.apart h.placed.inside ∙ ap (dot d.coefs) (h.same xs e))

  wide : (xs : List ℤ) → length xs ≡ free → length (with_defined m.definitions xs) ≡ m.columns
  wide xs e = length-with_defined m.definitions xs ∙ ap (λ n. n + length m.definitions) e ∙ sym h.placed.columns

  joined : (found : Option ℕ) → ((column : ℕ) → found ≡ Some column → IsFound moved m.places free m.definitions column)
      → IsMeetingOf g free start first (definitions ++ d ∷ []) (joined_at m moved found)
  joined None f =
      let places = length-append m.places (m.columns ∷ []) in
      let more = length-append definitions (d ∷ []) in
      let count = h.count in
      record {
        placed = IsPlaced-joined free m moved None h.placed (λ column e. cc);
        count = omega arith;
        apart = apart_push m.places m.columns h.apart (λ k p l e. let low = h.placed.inside k p l in omega arith);
        rest = h.rest ++ moved ∷ [];
        longer = ap (λ ds. ds ++ moved ∷ []) h.longer ∙ append_assoc first h.rest (moved ∷ []);
        defined = AreDefinitions-push g free m.definitions moved h.defined (subst (λ n. IsDefinition g n moved) h.placed.columns moved_formed);
        same = λ xs e.
            let full = with_defined m.definitions xs in
            let v = defined_value moved full in
            let low : All (λ p. p < length full) m.places = rw (wide xs e) h.placed.inside in
            let here : m.columns ≡ length full + 0 = let l = wide xs e in omega arith in
            let seam : get_or (full ++ v ∷ []) m.columns (pos 0) ≡ v = ap (λ n. get_or (full ++ v ∷ []) n (pos 0)) here ∙ get_or-append-add full (v ∷ []) 0 (pos 0) in
            ap (numbers_at (m.places ++ m.columns ∷ [])) (with_defined_push m.definitions moved xs)
            ∙ numbers_at-push m.places m.columns (full ++ v ∷ [])
            ∙ ap (λ ys. ys ++ get_or (full ++ v ∷ []) m.columns (pos 0) ∷ []) (numbers_at-longer m.places full (v ∷ []) low ∙ h.same xs e)
            ∙ ap (λ z. with_defined definitions (numbers_at start xs) ++ z ∷ []) (seam ∙ moved_value xs e)
            ∙ sym (with_defined_push definitions d (numbers_at start xs));
      }
  joined (Some column) f =
      let found = f column refl in
      let low = found.low in
      let high = found.high in
      let columns = h.placed.columns in
      let places = length-append m.places (column ∷ []) in
      let more = length-append definitions (d ∷ []) in
      let count = h.count in
      record {
        placed = IsPlaced-joined free m moved (Some column) h.placed (λ c e. let same : column ≡ c = cc in omega arith);
        count = omega arith;
        apart = apart_push m.places column h.apart (λ k p l e. let here = list_any_at (λ q. nat_eq q column) m.places k p l (eq-eqb (get_or m.places k p) column e) in let none = found.free in cc);
        rest = h.rest;
        longer = h.longer;
        defined = h.defined;
        same = λ xs e.
            let full = with_defined m.definitions xs in
            let i = column - free in
            let at : column ≡ length xs + i = omega arith in
            let number : get_or full column (pos 0) ≡ defined_value moved full =
            ap (λ n. get_or full n (pos 0)) at ∙ number_of g m.definitions xs i moved (rw e h.defined) (omega arith)
            ∙ same_value (get_or m.definitions i moved) moved full (found.same moved) in
            numbers_at-push m.places column full
            ∙ ap (λ ys. ys ++ get_or full column (pos 0) ∷ []) (h.same xs e)
            ∙ ap (λ z. with_defined definitions (numbers_at start xs) ++ z ∷ []) (number ∙ moved_value xs e)
            ∙ sym (with_defined_push definitions d (numbers_at start xs));
      }

  IsMeetingOf-more : IsMeetingOf g free start first (definitions ++ d ∷ []) (with_column free m d)
  IsMeetingOf-more = joined (column_with moved m.places free m.definitions) (λ column e. column_with-found moved m.places free m.definitions column e)

-- the first places have the first numbers
first_at : (n : ℕ) (xs ys : List ℤ) → n ≡ length xs → numbers_at (range_with_len 0 n) (xs ++ ys) ≡ xs
first_at n xs ys e = rw e (numbers_at-first xs ys)

-- a step that keeps this for each definition keeps it for all
IsMeetingOf-fold : (g : Gauge) (free : ℕ) (start : List ℕ) (first before later : List Definition) (m : Meeting) (step : Meeting → Definition → Meeting)
    → ((definitions : List Definition) (n : Meeting) (d : Definition) → IsMeetingOf g free start first definitions n
    → IsDefinition g (length start + length definitions) d → IsMeetingOf g free start first (definitions ++ d ∷ []) (step n d))
    → IsMeetingOf g free start first before m → AreDefinitions g (length start + length before) later
    → IsMeetingOf g free start first (before ++ later) (fold step m later)
IsMeetingOf-fold g free start first before [] m step keeps h all = rw (append-nil before) h
IsMeetingOf-fold g free start first before (d ∷ later) m step keeps h all =
    let more = length-append before (d ∷ []) in
    let next : suc (length start + length before) ≡ length start + length (before ++ d ∷ []) = omega arith in
    rw (← append_assoc before (d ∷ []) later) (IsMeetingOf-fold g free start first (before ++ d ∷ []) later (step m d) step keeps
    (keeps before m d h all.0) (subst (λ n. AreDefinitions g n later) next all.1))

first_numbers-own : (free : ℕ) (xs : List ℤ) → length xs ≡ free → numbers_at (range_with_len 0 free) xs ≡ xs
first_numbers-own free xs e = ap (numbers_at (range_with_len 0 free)) (sym (append-nil xs)) ∙ first_at free xs [] (sym e)

IsMeetingOf-first : (g : Gauge) (free : ℕ) (a : System) → AreDefinitions g free a.definitions
    → IsMeetingOf g free (range_with_len 0 free) a.definitions [] (first_columns free a)
IsMeetingOf-first g free a all = record {
  placed = IsPlaced-first free a;
  count = omega arith;
  apart = first_apart free;
  rest = [];
  longer = sym (append-nil a.definitions);
  defined = all;
  same = λ xs e.
      let x = extends a.definitions xs in
      ap (numbers_at (range_with_len 0 free)) x.is ∙ first_at free xs x.rest (sym e) ∙ sym (first_numbers-own free xs e);
}

IsMeetingOf-placing : (g : Gauge) (columns : ℕ) (places : List ℕ) → ArePlacesAmong columns places
    → IsMeetingOf g columns places [] [] (record { columns = columns; definitions = []; places = places })
IsMeetingOf-placing g columns places are = record {
  placed = record { columns = omega arith; inside = are.inside };
  count = omega arith;
  apart = are.apart;
  rest = [];
  longer = refl;
  defined = tt;
  same = λ xs e. refl;
}

pub placing_is : (g : Gauge) (columns : ℕ) (places : List ℕ) (definitions : List Definition) → ArePlacesAmong columns places
    → AreDefinitions g (length places) definitions → IsMeetingOf g columns places [] definitions (placing_of columns places definitions)
placing_is g columns places definitions are all =
    let same : length places ≡ length places + 0 = omega arith in
    IsMeetingOf-fold g columns places [] [] definitions (record { columns = columns; definitions = []; places = places }) with_own_column
    (λ before m d h one. joined g columns places [] before m d h one None (λ column e. cc))
    (IsMeetingOf-placing g columns places are) (subst (λ n. AreDefinitions g n definitions) same all)

-- ---- one more column behind the others
pub IsPlaced-start : (columns : ℕ) (places : List ℕ) → All (λ p. p < columns) places
    → IsPlaced columns (record { columns = columns; definitions = []; places = places })
IsPlaced-start columns places inside = record { columns = omega arith; inside = inside }

pub IsPlaced-own : (columns : ℕ) (m : Meeting) (d : Definition) → IsPlaced columns m → IsPlaced columns (with_own_column m d)
IsPlaced-own columns m d h = IsPlaced-joined columns m (placed_definition m.columns m.places d) None h (λ column e. cc)

pub placing_more : (columns : ℕ) (places : List ℕ) (definitions : List Definition) (i : ℕ) (d : Definition) → i < length definitions
    → placing_of columns places (take (i + 1) definitions) ≡ with_own_column (placing_of columns places (take i definitions)) (get_or definitions i d)
placing_more columns places definitions i d l =
    fold_more with_own_column (record { columns = columns; definitions = []; places = places }) definitions i d l

-- ---- rows at their places
module _ (g : Gauge) (columns : ℕ) (places : List ℕ) where
  placed_hold : AreApart places → All (λ p. p < columns) places → (n : ℕ) (rows : List Row) (q full : List ℤ) → All (IsWellFormed n) rows → length places ≡ n → numbers_at places q ≡ full
      → HoldRows (map (placed_row columns places) rows) q ↔ HoldRows rows full
  placed_hold apart inside n rows q full formed e is = (
    (λ h k d l. subst (HoldsValue (get_or rows k d).kind (get_or rows k d).k) (same k d l) (All-unmapped (λ r. HoldsRow r q) (placed_row columns places) rows h k d l)),
    (λ h. All-map (λ r. HoldsRow r q) (placed_row columns places) rows (λ k d l. subst (HoldsValue (get_or rows k d).kind (get_or rows k d).k) (sym (same k d l)) (h k d l))),
  )
    where
      same : (k : ℕ) (d : Row) → k < length rows → value_at (placed_row columns places (get_or rows k d)) q ≡ value_at (get_or rows k d) full
      same k d l = ap (λ z. z +ℤ (get_or rows k d).constant) (placed_dot columns places (get_or rows k d).coefs q ((formed k d l).width ∙ sym e) apart inside ∙ ap (dot (get_or rows k d).coefs) is)

  placed_formed : (n : ℕ) (rows : List Row) → All (IsWellFormed n) rows → All (IsWellFormed columns) (map (placed_row columns places) rows)
  placed_formed n rows h = All-map (IsWellFormed columns) (placed_row columns places) rows (λ k d l. record { width = length-placed columns places (get_or rows k d).coefs; modulus = (h k d l).modulus })

  placed_within : (rows : List Row) → All (IsRowWithin g) rows → All (IsRowWithin g) (map (placed_row columns places) rows)
  placed_within rows h = All-map (IsRowWithin g) (placed_row columns places) rows (λ k d l. record {
    coefs = placed-all (IsWithin g) columns places (get_or rows k d).coefs (IsWithin-zero g) (h k d l).coefs;
    constant = (h k d l).constant;
    k = (h k d l).k;
  })

-- ---- the system of both
module _ (g : Gauge) (a b : System) (free : free_columns a ≡ free_columns b) (p : IsSystemWithin g a) (q : IsSystemWithin g b) where
  abbrev both : Meeting
  both = meeting_of a b.definitions

  abbrev start : List ℕ
  start = range_with_len 0 (free_columns a)

  columns_of : IsMeetingOf g (free_columns a) start a.definitions b.definitions both
  columns_of =
      let long = length-range_with_len 0 (free_columns a) in
      let same : free_columns b ≡ length start + 0 = omega arith in
      IsMeetingOf-fold g (free_columns a) start a.definitions [] b.definitions (first_columns (free_columns a) a) (with_column (free_columns a))
      (IsMeetingOf-more g (free_columns a) start a.definitions)
      (IsMeetingOf-first g (free_columns a) a p.definitions) (subst (λ n. AreDefinitions g n b.definitions) same q.definitions)

  own : a.columns ≤ both.columns
  own =
      let m = columns_of in
      let c = p.count in
      let placed = m.placed.columns in
      let longer = ap (length {A = Definition}) m.longer in
      let more = length-append a.definitions m.rest in
      omega arith

  pub met_points : (xs : List ℤ) → length xs ≡ free_columns a → HoldsSystem (met a b) xs ↔ (HoldsSystem a xs × HoldsSystem b xs)
  met_points xs e =
      let m = columns_of in
      let full = with_defined both.definitions xs in
      let firsts = map (placed_row both.columns (range_with_len 0 a.columns)) a.rows in
      let seconds = map (placed_row both.columns both.places) b.rows in
      let P : Row → Type 0 = λ r. HoldsRow r full in
      let one = placed_hold g both.columns (range_with_len 0 a.columns) (first_apart a.columns) (first_inside a.columns both.columns own) a.columns a.rows full (with_defined a.definitions xs) p.rows (length-range_with_len 0 a.columns) first_numbers in
      let other = placed_hold g both.columns both.places m.apart m.placed.inside b.columns b.rows full (with_defined b.definitions xs) q.rows wide
      (m.same xs e ∙ ap (with_defined b.definitions) (first_numbers-own (free_columns a) xs e)) in (
        (λ h. let parts = All-parts P firsts seconds h in (one.0 parts.0, other.0 parts.1)),
        (λ h. All-append P firsts seconds (one.1 h.0) (other.1 h.1)),
      )
    where
      wide : length both.places ≡ b.columns
      wide = let c = columns_of.count in let d = q.count in let long = length-range_with_len 0 (free_columns a) in omega arith

      first_numbers : numbers_at (range_with_len 0 a.columns) (with_defined both.definitions xs) ≡ with_defined a.definitions xs
      first_numbers =
          let before = with_defined a.definitions xs in
          let later = extends columns_of.rest before in
          let whole : with_defined both.definitions xs ≡ before ++ later.rest =
          ap (λ ds. with_defined ds xs) columns_of.longer ∙ fold-append with_next xs a.definitions columns_of.rest ∙ later.is in
          let columns : a.columns ≡ length before = let l = length-with_defined a.definitions xs in let c = p.count in omega arith in
          ap (numbers_at (range_with_len 0 a.columns)) whole ∙ first_at a.columns before later.rest columns

  pub met_within : IsSystemWithin g (met a b)
  met_within =
      let m = columns_of in
      let columns = m.placed.columns in
      let firsts = map (placed_row both.columns (range_with_len 0 a.columns)) a.rows in
      let seconds = map (placed_row both.columns both.places) b.rows in
      let free : both.columns - length both.definitions ≡ free_columns a = omega arith in
      record {
        rows = All-append (IsWellFormed both.columns) firsts seconds (placed_formed g both.columns (range_with_len 0 a.columns) a.columns a.rows p.rows) (placed_formed g both.columns both.places b.columns b.rows q.rows);
        within = All-append (IsRowWithin g) firsts seconds (placed_within g both.columns (range_with_len 0 a.columns) a.rows p.within) (placed_within g both.columns both.places b.rows q.within);
        count = omega arith;
        definitions = subst (λ n. AreDefinitions g n both.definitions) (sym free) m.defined;
      }

  pub met_free : free_columns (met a b) ≡ free_columns a
  met_free = let m = columns_of in let columns = m.placed.columns in omega arith

-- ---- one system at other places
module _ (g : Gauge) (columns : ℕ) (places : List ℕ) (s : System) (are : ArePlacesAmong columns places) (p : IsSystemWithin g s)
    (free : length places ≡ free_columns s) where
  abbrev placing : Meeting
  placing = placing_of columns places s.definitions

  placing_here : IsMeetingOf g columns places [] s.definitions placing
  placing_here = placing_is g columns places s.definitions are (subst (λ n. AreDefinitions g n s.definitions) (sym free) p.definitions)

  wide_places : length placing.places ≡ s.columns
  wide_places = let c = placing_here.count in let d = p.count in omega arith

  pub placed_points : (xs : List ℤ) → length xs ≡ columns → HoldsSystem (placed_system columns places s) xs ↔ HoldsSystem s (numbers_at places xs)
  placed_points xs e =
      let m = placing_here in
      placed_hold g placing.columns placing.places m.apart m.placed.inside s.columns s.rows (with_defined placing.definitions xs)
      (with_defined s.definitions (numbers_at places xs)) p.rows wide_places (m.same xs e)

  pub placed_free : free_columns (placed_system columns places s) ≡ columns
  placed_free = let c = placing_here.placed.columns in omega arith

  pub placed_system_within : IsSystemWithin g (placed_system columns places s)
  placed_system_within =
      let m = placing_here in
      let c = m.placed.columns in
      record {
        rows = placed_formed g placing.columns placing.places s.columns s.rows p.rows;
        within = placed_within g placing.columns placing.places s.rows p.within;
        count = omega arith;
        definitions = subst (λ n. AreDefinitions g n placing.definitions) (sym placed_free) m.defined;
      }

-- what is made of the columns and the rows
pub placing_system : (m n : Meeting) (rows made : List Row) → m ≡ n → made ≡ map (placed_row m.columns m.places) rows
    → (let s : System = record { columns = m.columns; definitions = m.definitions; rows = made } in s)
    ≡ record { columns = n.columns; definitions = n.definitions; rows = map (placed_row n.columns n.places) rows }
placing_system m n rows made e is =
    ap (λ rs. let s : System = record { columns = m.columns; definitions = m.definitions; rows = rs } in s) is
    ∙ ap (λ (k : Meeting). let s : System = record {
      columns = k.columns;
      definitions = k.definitions;
      rows = map (placed_row k.columns k.places) rows;
    } in s) e

-- ---- magnitudes
placed_definition_up_to : (b columns : ℕ) (places : List ℕ) (d : Definition) → IsDefinitionUpTo b d
    → IsDefinitionUpTo b (placed_definition columns places d)
placed_definition_up_to b columns places d h = record {
  coefs = placed-all (λ c. unsigned_abs c ≤ b) columns places d.coefs (omega arith) h.coefs;
  constant = h.constant;
  k = h.k;
}

placed_rows_up_to : (b columns : ℕ) (places : List ℕ) (rows : List Row) → All (IsRowUpTo b) rows
    → All (IsRowUpTo b) (map (placed_row columns places) rows)
placed_rows_up_to b columns places rows h = All-map (IsRowUpTo b) (placed_row columns places) rows (λ k d l. record {
  coefs = placed-all (λ c. unsigned_abs c ≤ b) columns places (get_or rows k d).coefs (omega arith) (h k d l).coefs;
  constant = (h k d l).constant;
  k = (h k d l).k;
})

-- no definition that is put behind the others is greater than those before
joined_up_to : (b : ℕ) (m : Meeting) (d : Definition) (found : Option ℕ) → All (IsDefinitionUpTo b) m.definitions → IsDefinitionUpTo b d
    → All (IsDefinitionUpTo b) (joined_at m d found).definitions
joined_up_to b m d None h one = All-push (IsDefinitionUpTo b) m.definitions d h one
joined_up_to b m d (Some column) h one = h

fold_up_to : (b : ℕ) (step : Meeting → Definition → Meeting)
    → ((m : Meeting) (d : Definition) → All (IsDefinitionUpTo b) m.definitions → IsDefinitionUpTo b d → All (IsDefinitionUpTo b) (step m d).definitions)
    → (m : Meeting) (definitions : List Definition) → All (IsDefinitionUpTo b) m.definitions → All (IsDefinitionUpTo b) definitions
    → All (IsDefinitionUpTo b) (fold step m definitions).definitions
fold_up_to b step keeps m [] h all = h
fold_up_to b step keeps m (d ∷ definitions) h all =
    fold_up_to b step keeps (step m d) definitions (keeps m d h (All-head (IsDefinitionUpTo b) d definitions all))
    (All-tail (IsDefinitionUpTo b) d definitions all)

pub placed_up_to : (b columns : ℕ) (places : List ℕ) (s : System) → IsSystemUpTo b s → IsSystemUpTo b (placed_system columns places s)
placed_up_to b columns places s h =
    let m = placing_of columns places s.definitions in
    record {
      rows = placed_rows_up_to b m.columns m.places s.rows h.rows;
      definitions = fold_up_to b with_own_column
          (λ n d all one. joined_up_to b n (placed_definition n.columns n.places d) None all (placed_definition_up_to b n.columns n.places d one))
          (record { columns = columns; definitions = []; places = places }) s.definitions (All-nil (IsDefinitionUpTo b)) h.definitions;
    }

pub met_up_to : (b : ℕ) (s t : System) → IsSystemUpTo b s → IsSystemUpTo b t → IsSystemUpTo b (met s t)
met_up_to b s t h k =
    let m = meeting_of s t.definitions in
    let free = free_columns s in
    record {
      rows = All-append (IsRowUpTo b) (map (placed_row m.columns (range_with_len 0 s.columns)) s.rows) (map (placed_row m.columns m.places) t.rows)
          (placed_rows_up_to b m.columns (range_with_len 0 s.columns) s.rows h.rows) (placed_rows_up_to b m.columns m.places t.rows k.rows);
      definitions = fold_up_to b (with_column free)
          (λ n d all one.
          let moved = placed_definition n.columns n.places d in
          joined_up_to b n moved (column_with moved n.places free n.definitions) all (placed_definition_up_to b n.columns n.places d one))
          (first_columns free s) t.definitions h.definitions k.definitions;
    }

pub same_up_to : (b : ℕ) (s t : System) → IsSystemUpTo b s → IsSystemUpTo b t → IsSystemUpTo b (over_same_columns s t)
same_up_to b s t h k = record { rows = All-append (IsRowUpTo b) s.rows t.rows h.rows k.rows; definitions = h.definitions }

-- ---- whether both define the same columns
definition_eq : (a d : Definition) → Decides (is_equal_definition a d) (a ≡ d)
definition_eq a d = (
  (λ e.
      let parts = and_parts _ _ e in
      let front = and_parts _ _ parts.0 in
      (equal_definitions a d true ((Decides-int_eq a.constant d.constant).0 front.1) ((Decides-int_eq a.k d.k).0 parts.1) (sym front.0)).0 refl),
  (λ e. subst (λ (x : Definition). is_equal_definition a x ≡ true) e itself),
)
  where
    itself : is_equal_definition a a ≡ true
    itself =
        let coefs = (slice_eq-Decides Decides-int_eq a.coefs a.coefs (pointwise int_eq a.coefs a.coefs) refl).1 refl in
        let constant = (Decides-int_eq a.constant a.constant).1 refl in
        let k = (Decides-int_eq a.k a.k).1 refl in
        ap₂ (λ x y. x && y) (ap₂ (λ x y. x && y) coefs constant) k

definitions_eq : (a b : List Definition) → Decides (pointwise is_equal_definition a b) (a ≡ b)
definitions_eq a b = slice_eq-Decides definition_eq a b (pointwise is_equal_definition a b) refl

pub both_same : (a b : System) → a.definitions ≡ b.definitions → both_systems a b ≡ over_same_columns a b
both_same a b e =
    cond-true (pointwise is_equal_definition a.definitions b.definitions) (over_same_columns a b) (met a b)
    ((definitions_eq a.definitions b.definitions).1 e)

pub both_apart : (a b : System) → a.definitions ≢ b.definitions → both_systems a b ≡ met a b
both_apart a b n =
    cond-false (pointwise is_equal_definition a.definitions b.definitions) (over_same_columns a b) (met a b)
    (false_from_ne_true _ (λ t. n ((definitions_eq a.definitions b.definitions).0 t)))

-- ---- both systems, whichever columns they define
pub both_case : (P : System → Type 0) (a b : System) → (a.definitions ≡ b.definitions → P (over_same_columns a b))
    → (a.definitions ≢ b.definitions → P (met a b)) → P (both_systems a b)
both_case P a b same apart = elim (cases_Bool (pointwise is_equal_definition a.definitions b.definitions)) [
  | inl t ↦ let e = (definitions_eq a.definitions b.definitions).0 t in subst P (sym (both_same a b e)) (same e)
  | inr f ↦
      let n : a.definitions ≢ b.definitions = λ e. false≢true (sym f ∙ (definitions_eq a.definitions b.definitions).1 e) in
      subst P (sym (both_apart a b n)) (apart n)
]

pub both_up_to : (n : ℕ) (a b : System) → IsSystemUpTo n a → IsSystemUpTo n b → IsSystemUpTo n (both_systems a b)
both_up_to n a b h k = both_case (IsSystemUpTo n) a b (λ e. same_up_to n a b h k) (λ e. met_up_to n a b h k)

module _ (g : Gauge) (a b : System) (free : free_columns a ≡ free_columns b) (p : IsSystemWithin g a) (q : IsSystemWithin g b) where
  pub both_points : (xs : List ℤ) → length xs ≡ free_columns a → HoldsSystem (both_systems a b) xs ↔ (HoldsSystem a xs × HoldsSystem b xs)
  both_points xs l = both_case (λ s. HoldsSystem s xs ↔ (HoldsSystem a xs × HoldsSystem b xs)) a b (λ e. same_points a b e xs)
      (λ e. met_points g a b free p q xs l)

  pub both_within : IsSystemWithin g (both_systems a b)
  both_within = both_case (IsSystemWithin g) a b (λ e. same_within a b e g free p q) (λ e. met_within g a b free p q)

  pub both_free : free_columns (both_systems a b) ≡ free_columns a
  both_free = both_case (λ s. free_columns s ≡ free_columns a) a b (λ e. refl) (λ e. met_free g a b free p q)
