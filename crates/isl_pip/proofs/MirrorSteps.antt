-- Rows with negatives behind the front, one after another; and one column more that is 0.
use Rattle.std.proofs.Common.{◌≡◌, ◌↔◌, refl, sym, ap, ◌∙◌, subst, arith, ℕ, zero, suc, ◌+◌, ◌<◌, ◌≤◌, ℤ, pos, neg_ℤ, ◌+ℤ◌, ◌*ℤ◌, Bool, true, false, List, [], ◌∷◌, ◌++◌, get_or, length, map, replicate, take}
use Rattle.std.specs.Prelude.{if◌then◌else◌}
use Rattle.std.specs.List.{All}
use Rattle.std.proofs.lemmas.List.{append-nil, length-append, length-replicate, map-append, take_all, take_more}
use Rattle.std.proofs.lemmas.List.Elements.{All-cons, All-head, All-map, All-nil, All-push}
use Rattle.isl_math.specs.Dot.{dot}
use Rattle.isl_math.proofs.DotLaws.{dot-append, dot-zeros}
use Rattle.isl_math.proofs.ListLaws.{All-last, All-unmapped}
use Rattle.isl_math.proofs.Ring.{linear}
use Rattle.isl_meter.specs.Gauge.{Gauge, IsWithin}
use Rattle.isl_piece.specs.declared.definition.Definition.{Definition}
use Rattle.isl_piece.specs.declared.row.RowKind.TheVariants as kind
use Rattle.isl_piece.specs.declared.row.Row.{Row}
use Rattle.isl_piece.specs.declared.system.System.{System}
use Rattle.isl_piece.specs.Definition.{with_defined}
use Rattle.isl_piece.specs.Row.{value_at, HoldsRow, IsRowWithin, IsWellFormed}
use Rattle.isl_piece.specs.System.{HoldRows, HoldsSystem, IsSystemWithin, free_columns}
use Rattle.isl_blocks.specs.Blocks.{IsSpread}
use Rattle.isl_pip_law.specs.Mirror.{mirrored, mirrored_row, IsMirror, IsOneMore}
use Rattle.isl_pip_law.proofs.MirrorLaws.{mirrored_holds}
use Rattle.isl_pip.proofs.LevelLaws.{more_is}

-- ---- coefficients
length-mirrored : (n : ℕ) (cs : List ℤ) → length (mirrored n cs) ≡ length cs
length-mirrored zero [] = refl
length-mirrored zero (c ∷ cs) = ap suc (length-mirrored zero cs)
length-mirrored (suc n) [] = refl
length-mirrored (suc n) (c ∷ cs) = ap suc (length-mirrored n cs)

mirrored_front : (n : ℕ) (cs : List ℤ) (i : ℕ) → i < n → i < length cs → get_or (mirrored n cs) i (pos 0) ≡ get_or cs i (pos 0)
mirrored_front zero cs i l low = absurd (omega (arith, l))
mirrored_front (suc n) [] i l low = absurd (omega (arith, low))
mirrored_front (suc n) (c ∷ cs) zero l low = refl
mirrored_front (suc n) (c ∷ cs) (suc i) l low = mirrored_front n cs i (omega (arith, l)) (omega (arith, low))

mirrored_behind : (n : ℕ) (cs : List ℤ) (i : ℕ) → n ≤ i → i < length cs → get_or (mirrored n cs) i (pos 0) ≡ neg_ℤ (get_or cs i (pos 0))
mirrored_behind zero [] i l low = absurd (omega (arith, low))
mirrored_behind zero (c ∷ cs) zero l low = refl
mirrored_behind zero (c ∷ cs) (suc i) l low = mirrored_behind zero cs i (omega arith) (omega (arith, low))
mirrored_behind (suc n) [] i l low = absurd (omega (arith, low))
mirrored_behind (suc n) (c ∷ cs) zero l low = absurd (omega (arith, l))
mirrored_behind (suc n) (c ∷ cs) (suc i) l low = mirrored_behind n cs i (omega (arith, l)) (omega (arith, low))

-- the coefficients up to a column, with negatives behind the front
pub coefs_more : (g : Gauge) (n : ℕ) (cs : List ℤ) (i : ℕ) (coefs all : List ℤ) (c z : ℤ) (is_behind : Bool) → i < length cs → c ≡ get_or cs i (pos 0)
    → (is_behind ≡ true → n ≤ i) → (is_behind ≡ false → i < n) → z ≡ (if is_behind then neg_ℤ c else c) → IsWithin g z → all ≡ coefs ++ z ∷ []
    → (coefs ≡ take i (mirrored n cs)) × All (IsWithin g) coefs → (all ≡ take (i + 1) (mirrored n cs)) × All (IsWithin g) all
coefs_more g n cs i coefs all c z is_behind low read behind ahead value small is so_far = (
  is ∙ ap (λ l. l ++ z ∷ []) so_far.0 ∙ ap (λ y. take i (mirrored n cs) ++ y ∷ []) (by is_behind behind ahead value)
      ∙ sym (take_more (mirrored n cs) i (pos 0) (let l = length-mirrored n cs in omega (arith, l, low))),
  subst (All (IsWithin g)) (sym is) (All-push (IsWithin g) coefs z so_far.1 small),
)
  where
    by : (b : Bool) → (b ≡ true → n ≤ i) → (b ≡ false → i < n) → z ≡ (if b then neg_ℤ c else c) → z ≡ get_or (mirrored n cs) i (pos 0)
    by true late early e = e ∙ ap neg_ℤ read ∙ sym (mirrored_behind n cs i (late refl) low)
    by false late early e = e ∙ read ∙ sym (mirrored_front n cs i (early refl) low)

pub coefs_all : (n : ℕ) (cs coefs : List ℤ) (i : ℕ) → length cs ≤ i → coefs ≡ take i (mirrored n cs) → coefs ≡ mirrored n cs
coefs_all n cs coefs i end is = is ∙ take_all i (mirrored n cs) (let l = length-mirrored n cs in omega (arith, l, end))

pub row_mirrored : (n : ℕ) (r made : Row) (coefs : List ℤ) → coefs ≡ mirrored n r.coefs
    → made ≡ record { kind = r.kind; coefs = coefs; constant = r.constant; k = r.k } → made ≡ mirrored_row n r
row_mirrored n r made coefs same is = is ∙ ap (λ (cs : List ℤ). let q : Row = record { kind = r.kind; coefs = cs; constant = r.constant; k = r.k } in q) same

-- ---- rows
pub rows_more : (g : Gauge) (n : ℕ) (rows : List Row) (i : ℕ) (r one : Row) (made all : List Row) → i < length rows → r ≡ get_or rows i r
    → one ≡ mirrored_row n r → IsRowWithin g one → all ≡ made ++ one ∷ []
    → (made ≡ map (mirrored_row n) (take i rows)) × All (IsRowWithin g) made
    → (all ≡ map (mirrored_row n) (take (i + 1) rows)) × All (IsRowWithin g) all
rows_more g n rows i r one made all inside read own small is so_far = (
  is ∙ ap (λ l. l ++ one ∷ []) so_far.0 ∙ ap (λ (q : Row). map (mirrored_row n) (take i rows) ++ q ∷ []) own
      ∙ sym (ap (map (mirrored_row n)) (more_is rows i r inside read) ∙ map-append (mirrored_row n) (take i rows) (r ∷ [])),
  subst (All (IsRowWithin g)) (sym is) (All-push (IsRowWithin g) made one so_far.1 small),
)

pub system_mirrored : (g : Gauge) (n : ℕ) (s made : System) (rows : List Row) (i : ℕ) → length s.rows ≤ i → IsSystemWithin g s → s.definitions ≡ []
    → (rows ≡ map (mirrored_row n) (take i s.rows)) × All (IsRowWithin g) rows
    → made ≡ record { columns = s.columns; definitions = []; rows = rows } → IsMirror g n s made
system_mirrored g n s made rows i end within plain so_far is =
    let whole : rows ≡ map (mirrored_row n) s.rows = so_far.0 ∙ ap (map (mirrored_row n)) (take_all i s.rows end) in
    subst (IsMirror g n s) (sym is) (record {
      within = record {
        rows = subst (All (IsWellFormed s.columns)) (sym whole) (All-map (IsWellFormed s.columns) (mirrored_row n) s.rows
            (λ k d l. let w = within.rows k d l in record { width = length-mirrored n (get_or s.rows k d).coefs ∙ w.width; modulus = w.modulus }));
        within = so_far.1;
        count = omega arith;
        definitions = tt;
      };
      plain = refl;
      columns = refl;
      points = λ v us long.
          let same : with_defined s.definitions (v ++ map neg_ℤ us) ≡ v ++ map neg_ℤ us =
          ap (λ (ds : List Definition). with_defined ds (v ++ map neg_ℤ us)) plain in (
            (λ h. subst (HoldRows s.rows) (sym same) (λ k d l.
                (mirrored_holds n (get_or s.rows k d) v us long).0
                (All-unmapped (λ r. HoldsRow r (v ++ us)) (mirrored_row n) s.rows (subst (λ rs. HoldRows rs (v ++ us)) whole h) k d l))),
            (λ h. subst (λ rs. HoldRows rs (v ++ us)) (sym whole) (All-map (λ r. HoldsRow r (v ++ us)) (mirrored_row n) s.rows (λ k d l.
                (mirrored_holds n (get_or s.rows k d) v us long).1 (subst (HoldRows s.rows) same h k d l)))),
          );
    })

-- ---- one column more, that is 0
abbrev pub last_row : ℕ → Row
last_row n = record { kind = kind.Zero; coefs = replicate n (pos 0) ++ pos 1 ∷ []; constant = pos 0; k = pos 1 }

last_value : (n : ℕ) (v : List ℤ) (z : ℤ) → length v ≡ n → value_at (last_row n) (v ++ z ∷ []) ≡ z
last_value n v z e =
    by (dot (replicate n (pos 0)) v) (dot-zeros n v) (dot-append (replicate n (pos 0)) (pos 1 ∷ []) v (z ∷ []) (length-replicate n (pos 0) ∙ sym e))
  where
    by : (a : ℤ) → a ≡ pos 0 → dot (replicate n (pos 0) ++ pos 1 ∷ []) (v ++ z ∷ []) ≡ a +ℤ (pos 1 *ℤ z +ℤ pos 0)
        → dot (replicate n (pos 0) ++ pos 1 ∷ []) (v ++ z ∷ []) +ℤ pos 0 ≡ z
    by a h w = omega (arith, linear, h, w)

pub one_more_made : (g : Gauge) (s spread made : System) (coefs : List ℤ) (row : Row) → s.definitions ≡ [] → IsSpread g (s.columns ∷ 1 ∷ []) (0 ∷ []) s spread
    → IsWithin g (pos 0) → IsWithin g (pos 1) → coefs ≡ replicate s.columns (pos 0) ++ pos 1 ∷ []
    → row ≡ record { kind = kind.Zero; coefs = coefs; constant = pos 0; k = pos 1 }
    → made ≡ record { columns = spread.columns; definitions = spread.definitions; rows = spread.rows ++ row ∷ [] } → IsOneMore g s made
one_more_made g s spread made coefs row plain told none one same own is =
    let row_is : row ≡ last_row s.columns =
    own ∙ ap (λ (cs : List ℤ). let q : Row = record { kind = kind.Zero; coefs = cs; constant = pos 0; k = pos 1 } in q) same in
    let no_definitions = told.definitions plain in
    let l = ap length no_definitions in
    let f = told.free in
    let columns : spread.columns ≡ s.columns + 1 = omega (arith, l, f) in
    subst (IsOneMore g s) (sym (is ∙ ap (λ (q : Row). let t : System = record { columns = spread.columns; definitions = spread.definitions; rows = spread.rows ++ q ∷ [] } in t) row_is))
    (record {
      within = record {
        rows = All-push (IsWellFormed spread.columns) spread.rows (last_row s.columns) told.within.rows (record {
          width = (let a = length-append (replicate s.columns (pos 0)) (pos 1 ∷ []) in let b = length-replicate s.columns (pos 0) in omega (arith, a, b, columns));
          modulus = refl;
        });
        within = All-push (IsRowWithin g) spread.rows (last_row s.columns) told.within.within (record {
          coefs = All-push (IsWithin g) (replicate s.columns (pos 0)) (pos 1) (zeros s.columns) one;
          constant = none;
          k = one;
        });
        count = told.within.count;
        definitions = told.within.definitions;
      };
      plain = no_definitions;
      columns = columns;
      points = λ v z long.
          let base = told.points (v ∷ (z ∷ []) ∷ []) (widths v z long) in
          let here : HoldsSystem spread (v ++ z ∷ []) ↔ HoldsSystem s v =
          subst (λ p. HoldsSystem spread (v ++ z ∷ []) ↔ HoldsSystem s p) (append-nil v) base in
          let at : with_defined spread.definitions (v ++ z ∷ []) ≡ v ++ z ∷ [] = ap (λ (ds : List Definition). with_defined ds (v ++ z ∷ [])) no_definitions in
          let value : value_at (last_row s.columns) (with_defined spread.definitions (v ++ z ∷ [])) ≡ z =
          ap (value_at (last_row s.columns)) at ∙ last_value s.columns v z long in (
            (λ h.
                let parts = All-last (λ r. HoldsRow r (with_defined spread.definitions (v ++ z ∷ []))) spread.rows (last_row s.columns) h in
                (here.0 parts.0, sym value ∙ parts.1)),
            (λ h. All-push (λ r. HoldsRow r (with_defined spread.definitions (v ++ z ∷ []))) spread.rows (last_row s.columns) (here.1 h.0) (value ∙ h.1)),
          );
    })
  where
    zeros : (n : ℕ) → All (IsWithin g) (replicate n (pos 0))
    zeros zero = All-nil (IsWithin g)
    zeros (suc n) = All-cons (IsWithin g) (pos 0) (replicate n (pos 0)) none (zeros n)

    widths : (v : List ℤ) (z : ℤ) → length v ≡ s.columns → (length v ∷ 1 ∷ []) ≡ (s.columns ∷ 1 ∷ [])
    widths v z e = ap (λ (n : ℕ). n ∷ 1 ∷ []) e
