-- One step of the code: a pair of bounds, and the system with the quotient.
use Rattle.std.proofs.Common.{◌≡◌, ◌≢◌, ◌⊎◌, inl, inr, refl, sym, ap, subst, ◌∙◌, arith, Bool, true, false, ℕ, zero, suc, ◌+◌, ◌-◌, ◌<◌}
use Rattle.std.proofs.Common.{◌≤◌, ℤ, pos, ◌<ℤ◌, List, [], ◌∷◌, ◌++◌, length, get_or, map, to_z-of_z}
use Rattle.std.specs.Prelude.{nat_eq, ◌||◌, AllPairs, Result, Ok, Err, IfOk}
use Rattle.isl_meter.specs.declared.Cut.{Cut}
use Rattle.std.specs.List.{All, list_all}
use Rattle.std.specs.Ordering.{int_eq}
use Rattle.std.proofs.lemmas.List.Elements.{All-nil, All-cons, All-head, All-tail}
use Rattle.isl_math.proofs.ListLaws.{All-pass}
use Rattle.isl_meter.specs.Gauge.{Gauge}
use Rattle.isl_piece.specs.declared.definition.Definition.{Definition}
use Rattle.isl_piece.specs.declared.row.Row.{Row}
use Rattle.isl_piece.specs.declared.system.System.{System}
use Rattle.isl_piece.specs.Row.{coef_at, IsWellFormed, IsRowWithin}
use Rattle.isl_piece.specs.System.{IsSystemWithin, free_columns}
use Rattle.isl_elim.specs.Elimination.{IsProjectionAlong}
use Rattle.isl_elim.specs.Others.{lowered, others_of}
use Rattle.isl_elim.proofs.OthersLaws.{among, among_at, others_count, others_distinct, others_inside}
use Rattle.isl_quotient.specs.declared.pairs.Pair.{Pair}
use Rattle.isl_quotient.specs.Candidate.{is_undefining}
use Rattle.isl_quotient.specs.Pair.{names_only, IsPairOf}
use Rattle.isl_quotient.specs.Quotient.{short_definition, quotient_of, with_quotient, IsQuotient, IsUndefining}
use Rattle.isl_quotient.specs.Turned.{IsTurned}
use Rattle.isl_quotient.proofs.KeptLaws.{undefining_kept}
use Rattle.isl_quotient.proofs.QuotientLaws.{quotient_points}
use Rattle.isl_quotient.proofs.StepLaws.{one_projection, one_then_others}
use Rattle.isl_quotient.proofs.WithinLaws.{quotient_within}

true-or-false : (b : Bool) → (b ≡ true) ⊎ (b ≡ false)
true-or-false true = inl refl
true-or-false false = inr refl

-- ---- the other columns
pub undefining_others : (col : ℕ) (cols : List ℕ) (definitions : List Definition)
    → All (λ c. c ≢ col → IsUndefining (lowered col c) definitions) cols → All (λ c. IsUndefining c definitions) (others_of col cols)
undefining_others col [] definitions h = All-nil (λ c. IsUndefining c definitions)
undefining_others col (c ∷ cols) definitions h =
    let Q : ℕ → Type 0 = λ d. d ≢ col → IsUndefining (lowered col d) definitions in
    let rest = undefining_others col cols definitions (All-tail Q c cols h) in
    elim (true-or-false (nat_eq c col)) [
      | inl e ↦ rw e rest
      | inr e ↦ let n : c ≢ col = grind arith in rw e (All-cons (λ d. IsUndefining d definitions) (lowered col c) (others_of col cols)
          (All-head Q c cols h n) rest)
    ]

unnamed : (c col : ℕ) (z : ℤ) → c ≢ col → (nat_eq c col || int_eq z (pos 0)) ≡ true → z ≡ pos 0
unnamed c col z n e = let m : nat_eq c col ≡ false = grind arith in by z (rw m at e)
  where
    by : (z : ℤ) → int_eq z (pos 0) ≡ true → z ≡ pos 0
    by z e = grind arith

-- ---- a pair
pub pair_low : (g : Gauge) (s : System) (cols : List ℕ) (p : Pair) → IsSystemWithin g s → IsPairOf s.rows cols p
    → All (λ c. c < free_columns s) cols → p.col < free_columns s
pair_low g s cols p w h low = subst (λ (c : ℕ). c < free_columns s) h.column (low h.index 0 h.among)

pub pair_upper : (g : Gauge) (s : System) (cols : List ℕ) (p : Pair) (r : Row) → IsSystemWithin g s → IsPairOf s.rows cols p
    → r ≡ get_or s.rows p.upper r → IsWellFormed s.columns r
pair_upper g s cols p r w h at = subst (IsWellFormed s.columns) (sym at) (w.rows p.upper r h.pair.upper)

pub pair_lower : (g : Gauge) (s : System) (cols : List ℕ) (p : Pair) (r : Row) → IsSystemWithin g s → IsPairOf s.rows cols p
    → r ≡ get_or s.rows p.lower r → IsWellFormed s.columns r
pair_lower g s cols p r w h at = subst (IsWellFormed s.columns) (sym at) (w.rows p.lower r h.pair.lower)

pub pair_positive : (g : Gauge) (s : System) (cols : List ℕ) (p : Pair) (r : Row) → IsSystemWithin g s → IsPairOf s.rows cols p
    → r ≡ get_or s.rows p.lower r → pos 0 <ℤ coef_at r p.col
pair_positive g s cols p r w h at = subst (λ (t : Row). pos 0 <ℤ coef_at t p.col) (sym at) (h.pair.quotient r).positive

pub same_read : (rows : List Row) (i : ℕ) (a b : Row) → i < length rows → get_or rows i a ≡ get_or rows i b
same_read [] i a b l = absurd (omega arith)
same_read (r ∷ rows) zero a b l = refl
same_read (r ∷ rows) (suc i) a b l = same_read rows i a b (omega arith)

pub turned_is : (g : Gauge) (s made : System) (cols : List ℕ) (p : Pair) (upper lower : Row) → IsSystemWithin g s
    → All (λ c. c < free_columns s) cols → All (λ c. IsUndefining c s.definitions) cols
    → IsPairOf s.rows cols p → upper ≡ get_or s.rows p.upper upper → lower ≡ get_or s.rows p.lower lower
    → made ≡ with_quotient p.col upper lower s → IsTurned g s cols p.col made
turned_is g s made cols p upper lower w low un h ua la is =
    let col = p.col in
    let il = h.pair.upper in
    let jl = h.pair.lower in
    let c : col < free_columns s = subst (λ (c : ℕ). c < free_columns s) h.column (low h.index 0 h.among) in
    let n : IsUndefining col s.definitions = subst (λ (c : ℕ). IsUndefining c s.definitions) h.column (un h.index 0 h.among) in
    let lower_at = same_read s.rows p.lower lower upper jl in
    let q : IsQuotient col upper lower =
    subst (λ (r : Row). IsQuotient col r lower) (sym ua) (subst (λ (r : Row). IsQuotient col (get_or s.rows p.upper upper) r)
    (sym lower_at ∙ sym la) (h.pair.quotient upper)) in
    let uf = subst (IsWellFormed s.columns) (sym ua) (w.rows p.upper upper il) in
    let uw = subst (IsRowWithin g) (sym ua) (w.within p.upper upper il) in
    let lf = subst (IsWellFormed s.columns) (sym la) (w.rows p.lower lower jl) in
    let lw = subst (IsRowWithin g) (sym la) (w.within p.lower lower jl) in
    let both = quotient_within g s col upper lower w c uf uw lf lw q.positive in
    let alone : names_only col cols upper ≡ true = subst (λ (r : Row). names_only col cols r ≡ true) (sym ua) (h.pair.alone upper) in
    let test : ℕ → Bool = λ c. nat_eq c col || int_eq (get_or upper.coefs c (pos 0)) (pos 0) in
    let pass = All-pass test cols alone in
    rw is (record {
      projection = one_projection s (with_quotient col upper lower s) col both.0
          (quotient_points g s col upper lower p.upper p.lower w c n q il (sym ua) jl (sym la));
      within = both.1;
      free = both.0;
      undefining = undefining_others col cols (map (short_definition col) s.definitions ++ quotient_of col upper lower ∷ []) (λ k d l m.
          undefining_kept col (get_or cols k d) s.definitions upper lower m (un k d l)
          (unnamed (get_or cols k d) col (get_or upper.coefs (get_or cols k d) (pos 0)) m (pass k d l)));
    })

pub turned_ok : {E : Type 0} (g : Gauge) (s : System) (cols : List ℕ) (p : Pair) (upper lower : Row) (result : Result System E)
    → IsSystemWithin g s → All (λ c. c < free_columns s) cols
    → All (λ c. IsUndefining c s.definitions) cols → IsPairOf s.rows cols p → upper ≡ get_or s.rows p.upper upper
    → lower ≡ get_or s.rows p.lower lower
    → IfOk result (λ made. made ≡ with_quotient p.col upper lower s) → IfOk result (IsTurned g s cols p.col)
turned_ok g s cols p upper lower (Ok made) w low un h ua la is = turned_is g s made cols p upper lower w low un h ua la is
turned_ok g s cols p upper lower (Err e) w low un h ua la is = is

pub ruleset turn_steps = (to_z-of_z, pair_low, pair_upper, pair_lower, pair_positive, turned_is)

-- ---- the recursion
pub pairs_inside : (g : Gauge) (s : System) (cols : List ℕ) → IsSystemWithin g s → All (λ c. c < free_columns s) cols
    → All (λ col. All (λ (r : Row). col < length r.coefs) s.rows) cols
pairs_inside g s cols w low k c l i r j = let wide = (w.rows i r j).width in let at = low k c l in omega (arith, wide, at)

pub all_undefining : (s : System) (cols : List ℕ) → list_all (is_undefining s.definitions) cols ≡ true
    → All (λ c. IsUndefining c s.definitions) cols
all_undefining s cols e = λ k c l i d m.
    let one = All-pass (is_undefining s.definitions) cols e k c l in
    by (get_or (get_or s.definitions i d).coefs (get_or cols k c) (pos 0))
    (All-pass (λ (d : Definition). int_eq (get_or d.coefs (get_or cols k c) (pos 0)) (pos 0)) s.definitions one i d m)
  where
    by : (z : ℤ) → int_eq z (pos 0) ≡ true → z ≡ pos 0
    by z e = grind arith

pub pair_among : (rows : List Row) (cols : List ℕ) (p : Pair) → IsPairOf rows cols p → among p.col cols ≡ true
pair_among rows cols p h = subst (λ (c : ℕ). among c cols ≡ true) h.column (among_at cols h.index h.among)

-- what the columns that are left keep
pub record AreLeft (g : Gauge) (t : System) (cols left : List ℕ) : Type 0 where
  pub shorter : length left < length cols
  pub distinct : AllPairs (λ a b. a ≢ b) left
  pub inside : All (λ c. c < free_columns t) left
  pub undefining : All (λ c. IsUndefining c t.definitions) left

module _ (g : Gauge) (s t : System) (cols left : List ℕ) (col : ℕ) (distinct : AllPairs (λ a b. a ≢ b) cols)
    (low : All (λ c. c < free_columns s) cols)
    (one : among col cols ≡ true) (here : col < free_columns s) (is : left ≡ others_of col cols) (turn : IsTurned g s cols col t) where
  pub are_left : AreLeft g t cols left
  are_left =
      let count = others_count col cols distinct one in
      rw is (record {
        shorter = omega (arith, count);
        distinct = others_distinct col cols distinct;
        inside =
            subst (λ (n : ℕ). All (λ c. c < n) (others_of col cols)) (sym turn.free) (others_inside (free_columns s) col cols here low);
        undefining = turn.undefining;
      })

  pub projects_after : {A : Type 0} (items : A → List System) (result : Result A Cut)
      → IfOk result (λ a. IsProjectionAlong t left (items a)) → IfOk result (λ a. IsProjectionAlong s cols (items a))
  projects_after items (Ok a) rest = one_then_others s t col cols (items a) distinct one here turn.projection turn.free (rw is at rest)
  projects_after items (Err cut) rest = rest

pub ruleset project_steps = (to_z-of_z, pairs_inside, all_undefining)
