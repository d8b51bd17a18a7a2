-- Calls on difference constraints: one step after another, how calls end, and what is left.
use Rattle.std.proofs.Common.{◌≡◌, ◌≢◌, ◌⊎◌, inl, inr, ◌↔◌, refl, sym, ap, ◌∙◌, subst, arith, Bool, true, pos, ◌<ℤ◌, ℕ, zero, suc, ◌+◌, ◌*◌, ◌-◌, ◌<◌, ◌≤◌, List, [], ◌∷◌, ◌++◌, get_or, Option, Some, None, IfSome, Result, Ok, Err}
use Rattle.std.specs.Prelude.{IfOk, IsTrue}
use Rattle.std.specs.List.{All}
use Rattle.std.proofs.Math.Nat.{mul-le-mul_left, mul-le-mul_right}
use Rattle.std.proofs.lemmas.List.{append-nil}
use Rattle.std.proofs.lemmas.List.Elements.{All-nil, All-cons}
use Rattle.isl_meter.specs.declared.Cut.{Cut}
use Rattle.isl_meter.specs.declared.Cut.TheVariants.{NoMemory}
use Rattle.isl_meter.specs.Gauge.{Gauge, IsCharged}
use Rattle.isl_meter.proofs.CutLemmas.{IsAnsweredWithin-ok}
use Rattle.isl_piece.specs.declared.row.RowKind.{RowKind}
use Rattle.isl_piece.specs.declared.row.RowKind.TheVariants as kinds
use Rattle.isl_piece.specs.declared.row.Row.{Row}
use Rattle.isl_math.proofs.Ring.{linear}
use Rattle.isl_column.specs.Parts.{PartsView, IsHeadAlone, most_units}
use Rattle.isl_column.proofs.PartsLemmas.{head_none}
use Rattle.isl_ledger.specs.Answered.{IsTame}
use Rattle.isl_ledger.specs.Difference.{IsDifferenceRow}
use Rattle.isl_ledger.proofs.AnsweredLaws.{memory_later}
use Rattle.isl_ledger.proofs.FormLaws.{units_from_comparison}
use Rattle.isl_presolve.specs.Unit.{IsUnitRow}
use Rattle.isl_elim.specs.Tame.{AreFewDifferences, AddsFewDifferences, IsDifferenceHead}

-- ---- how calls end
pub tame_ok : {A : Type 0} (most : ℕ) (g h : Gauge) (Q : A → Type 0) (value : A) → h.units ≤ g.units + most → Q value
    → IsTame most g h Q (Ok value)
tame_ok most g h Q value few q = record { within = IsAnsweredWithin-ok g h most value few; numbers = tt; answer = q }

pub tame_memory : {A : Type 0} (most : ℕ) (g h : Gauge) (Q : A → Type 0) → h.units ≤ g.units + most
    → IsTame {A = A} most g h Q (Err NoMemory)
tame_memory most g h Q few = record { within = memory_later most most g h few (omega arith); numbers = λ e. cc; answer = tt }

-- a cut, said of another type
pub tame_cut : {A B : Type 0} (few most : ℕ) (g h : Gauge) (P : A → Type 0) (Q : B → Type 0) (cut : Cut) → few ≤ most
    → IsTame {A = A} few g h P (Err cut) → IsTame {A = B} most g h Q (Err cut)
tame_cut few most g h P Q cut room p = record {
  within = let w = p.within in record { units = let u = w.units in omega arith; answered = λ left. w.answered (omega arith) };
  numbers = p.numbers;
  answer = tt;
}

-- ---- one step after another
pub tame_after : {A : Type 0} (used next most : ℕ) (g h k : Gauge) (P Q : A → Type 0) (result : Result A Cut) → used + next ≤ most
    → IsCharged g h
    → h.units ≤ g.units + used → ((value : A) → P value → Q value) → IsTame next h k P result → IsTame most g k Q result
tame_after {A = A} used next most g h k P Q result room charged few f p =
    let same : h.budget ≡ g.budget = ap (λ (x : Gauge). x.budget) charged.same in
    let w = p.within in
    record {
      within = record { units = let u = w.units in omega arith; answered = λ left. w.answered (omega arith) };
      numbers = p.numbers;
      answer = by result p.answer;
    }
  where
    by : (result : Result A Cut) → IfOk result P → IfOk result Q
    by (Ok value) a = f value a
    by (Err cut) a = tt

-- a cut after other steps
pub tame_cut_after : {A B : Type 0} (used next most : ℕ) (g h k : Gauge) (P : A → Type 0) (Q : B → Type 0) (cut : Cut)
    → used + next ≤ most → IsCharged g h
    → h.units ≤ g.units + used → IsTame {A = A} next h k P (Err cut) → IsTame {A = B} most g k Q (Err cut)
tame_cut_after used next most g h k P Q cut room charged few p =
    tame_after used next most g h k Q Q (Err cut) room charged few (λ value q. q) (tame_cut next next h k P Q cut (omega arith) p)

pub tame_units : {A : Type 0} (most : ℕ) (g h : Gauge) (P : A → Type 0) (result : Result A Cut) → IsTame most g h P result
    → h.units ≤ g.units + most
tame_units most g h P result p = p.within.units

pub tame_answer : {A : Type 0} (most : ℕ) (g h : Gauge) (P : A → Type 0) (value : A) → IsTame most g h P (Ok value) → P value
tame_answer most g h P value p = p.answer

pub same_bits : (g h : Gauge) → IsCharged g h → g.bits ≡ 127 → h.bits ≡ 127
same_bits g h charged full = ap (λ (x : Gauge). x.bits) charged.same ∙ full

-- ---- lists
pub few_none : (bits : ℕ) → AreFewDifferences bits []
few_none bits = record { few = omega arith; rows = All-nil (All (IsDifferenceRow bits)) }

pub few_one : (bits : ℕ) (rows : List Row) → All (IsDifferenceRow bits) rows → AreFewDifferences bits (rows ∷ [])
few_one bits rows h = record { few = omega arith; rows = All-cons (All (IsDifferenceRow bits)) rows [] h (All-nil (All (IsDifferenceRow bits))) }

pub adds_none : (bits : ℕ) (old new : List (List Row)) → new ≡ old → AddsFewDifferences bits old new
adds_none bits old new e = record { added = []; pushed = e ∙ sym (append-nil old); are = few_none bits }

pub adds_one : (bits : ℕ) (rows : List Row) (old new : List (List Row)) → new ≡ old ++ rows ∷ [] → All (IsDifferenceRow bits) rows
    → AddsFewDifferences bits old new
adds_one bits rows old new e h = record { added = rows ∷ []; pushed = e; are = few_one bits rows h }

-- lists that were added to none
pub adds_all : (bits : ℕ) (old new : List (List Row)) → old ≡ [] → AddsFewDifferences bits old new → AreFewDifferences bits new
adds_all bits old new e a = let all : new ≡ a.added = a.pushed ∙ ap (λ xs. xs ++ a.added) e in subst (AreFewDifferences bits) (sym all) a.are

-- ---- a column, and then the others
pub product_more : (a b c d : ℕ) → a ≤ c → b ≤ d → a * b ≤ c * d
product_more a b c d l m = let x = mul-le-mul_right b l in let y = mul-le-mul_left c m in omega arith

sum_columns : (columns n count : ℕ) → n + 1 ≡ count → columns * columns + n * ((columns - 1) * (columns - 1)) ≤ count * (columns * columns)
sum_columns columns n count e =
    let side = mul-le-mul_right (columns - 1) (let l : columns - 1 ≤ columns = omega arith in l) in
    let square = mul-le-mul_left columns (let l : columns - 1 ≤ columns = omega arith in l) in
    let rest = mul-le-mul_left n (let l : (columns - 1) * (columns - 1) ≤ columns * columns = omega arith in l) in
    let all : count * (columns * columns) ≡ columns * columns + n * (columns * columns) = ap (λ k. k * (columns * columns)) (sym e) ∙ omega arith in
    omega arith

pub columns_tame : {A : Type 0} (g h k : Gauge) (columns bits n count : ℕ) (old new : List (List Row)) (result : Result A Cut)
    → n + 1 ≡ count → IsCharged g h
    → h.units ≤ g.units + columns * columns
    → IsTame (n * ((columns - 1) * (columns - 1))) h k (λ _. AddsFewDifferences (bits + 1 + n) old new) result
    → IsTame (count * (columns * columns)) g k (λ _. AddsFewDifferences (bits + count) old new) result
columns_tame g h k columns bits n count old new result e charged few p =
    let same : bits + 1 + n ≡ bits + count = omega arith in
    tame_after (columns * columns) (n * ((columns - 1) * (columns - 1))) (count * (columns * columns)) g h k
    (λ _. AddsFewDifferences (bits + 1 + n) old new) (λ _. AddsFewDifferences (bits + count) old new) result (sum_columns columns n count e) charged few
    (λ value a. subst (λ b. AddsFewDifferences b old new) same a) p

-- ---- one part after another
-- nothing was taken of a head alone; or the head was, and it was pushed
pub record IsHeadPushed (g h : Gauge) (columns gone taken bits : ℕ) (now : PartsView) (old new : List (List Row)) : Type 0 where
  pub so_far : ((taken ≡ 0) × (h ≡ g) × (new ≡ old) × IsDifferenceHead now bits)
      ⊎ (IsHeadAlone None now × (h.units ≤ g.units + gone * (columns * columns)) × AddsFewDifferences (bits + gone) old new)

-- where the parts are difference constraints
pub record ArePushedTame (g h : Gauge) (columns gone taken : ℕ) (first now : PartsView) (old new : List (List Row)) : Type 0 where
  pub pushed : (bits : ℕ) → g.bits ≡ 127 → bits + gone ≤ 120 → IsDifferenceHead first bits
      → IsHeadPushed g h columns gone taken bits now old new

pub pushed_tame_first : (g : Gauge) (columns gone : ℕ) (parts : PartsView) (old : List (List Row))
    → ArePushedTame g g columns gone 0 parts parts old old
pushed_tame_first g columns gone parts old = record { pushed = λ bits full room given. record { so_far = inl (refl, refl, refl, given) } }

-- what the next of the parts says of a head alone
abbrev pub IsNextOfHead : Gauge → Gauge → PartsView → PartsView → Option (List Row) → Type 0
IsNextOfHead h k now next found =
    (head : Option (List Row)) → IsHeadAlone head now → (found ≡ head) × IfSome found (λ _. IsHeadAlone None next) × (k ≡ h)

-- the head was taken now
pub record IsHeadTaken (g k : Gauge) (taken bits : ℕ) (next : PartsView) (rows : List Row) (old new : List (List Row)) : Type 0 where
  pub first : taken ≡ 0
  pub meter : k ≡ g
  pub lists : new ≡ old
  pub differences : All (IsDifferenceRow bits) rows
  pub rest : IsHeadAlone None next

pub head_taken : (g h k : Gauge) (columns gone taken bits : ℕ) (now next : PartsView) (rows : List Row) (found : Option (List Row))
    (old new : List (List Row))
    → IsHeadPushed g h columns gone taken bits now old new → found ≡ Some rows → IsNextOfHead h k now next found
    → IsHeadTaken g k taken bits next rows old new
head_taken g h k columns gone taken bits now next rows found old new p e f = elim p.so_far [
  | inl a ↦
      let given = a.3 in
      let n = f given.head given.alone in
      let same : given.head ≡ Some rows = sym n.0 ∙ e in
      record {
        first = a.0;
        meter = n.2 ∙ a.1;
        lists = a.2;
        differences = rw same at given.rows;
        rest = rw e at n.1;
      }
  | inr b ↦ absurd (let n = (f None b.0).0 in let m = sym e ∙ n in cc)
]

pub pushed_tame_next : {A : Type 0} (g k m : Gauge) (columns gone taken later bits : ℕ) (next : PartsView) (rows : List Row)
    (old new newer : List (List Row)) (value : A)
    → IsHeadTaken g k taken bits next rows old new
    → IsTame (gone * (columns * columns)) k m (λ _. AddsFewDifferences (bits + gone) new newer) (Ok value)
    → IsHeadPushed g m columns gone later bits next old newer
pushed_tame_next g k m columns gone taken later bits next rows old new newer value t p = record {
  so_far = inr (
    t.rest,
    (let u = p.within.units in let e = ap (λ (x : Gauge). x.units) t.meter in omega arith),
    subst (λ lists. AddsFewDifferences (bits + gone) lists newer) t.lists p.answer,
  );
}

pub pushed_tame_cut : {A B : Type 0} (g k m : Gauge) (most taken bits : ℕ) (next : PartsView) (rows : List Row)
    (old new : List (List Row)) (P : A → Type 0) (Q : B → Type 0)
    (cut : Cut) → IsHeadTaken g k taken bits next rows old new → IsTame {A = A} most k m P (Err cut) → IsTame {A = B} most g m Q (Err cut)
pushed_tame_cut {A = A} g k m most taken bits next rows old new P Q cut t p =
    tame_cut most most g m P Q cut (omega arith) (subst (λ (x : Gauge). IsTame {A = A} most x m P (Err cut)) t.meter p)

pub pushed_tame_all : {A : Type 0} (g h k : Gauge) (columns gone taken bits : ℕ) (now next : PartsView) (found : Option (List Row))
    (old new : List (List Row)) (value : A)
    → IsHeadPushed g h columns gone taken bits now old new → IsNextOfHead h k now next found
    → IsTame (gone * (columns * columns)) g k (λ _. AddsFewDifferences (bits + gone) old new) (Ok value)
pushed_tame_all g h k columns gone taken bits now next found old new value p f = elim p.so_far [
  | inl a ↦
      let given = a.3 in
      let n = f given.head given.alone in
      let e = ap (λ (x : Gauge). x.units) (n.2 ∙ a.1) in
      tame_ok (gone * (columns * columns)) g k (λ _. AddsFewDifferences (bits + gone) old new) value (omega arith) (adds_none (bits + gone) old new a.2)
  | inr b ↦
      let e = ap (λ (x : Gauge). x.units) (f None b.0).2 in
      let u = b.1 in
      tame_ok (gone * (columns * columns)) g k (λ _. AddsFewDifferences (bits + gone) old new) value (omega arith) b.2
]

-- nothing ends where a head alone, or nothing, is still to come
pub pushed_tame_ends : (g h : Gauge) (columns gone taken bits : ℕ) (now : PartsView) (old new : List (List Row))
    → IsHeadPushed g h columns gone taken bits now old new → ((head : Option (List Row)) → IsHeadAlone head now → ⊥) → ⊥
pushed_tame_ends g h columns gone taken bits now old new p f = elim p.so_far [
  | inl a ↦ let given = a.3 in f given.head given.alone
  | inr b ↦ f None b.0
]

pub square_once : (n c : ℕ) → 0 < n → c * c ≤ n * (c * c)
square_once zero c l = absurd (omega arith)
square_once (suc n) c l = omega arith

-- ---- emptiness
pub other_kind : (kind : RowKind) → (kind ≡ kinds.Zero) ⊎ (kind ≡ kinds.AtLeast) → kind ≢ kinds.Divides
other_kind kind (inl e) f = cc
other_kind kind (inr e) f = cc

-- difference constraints are no congruences, and have coefficients of 1, 0 and -1 alone
pub unit_rows : (bits : ℕ) (rows : List Row) → All (IsDifferenceRow bits) rows → All IsUnitRow rows
unit_rows bits rows h = λ k d l.
    let r = get_or rows k d in
    let f = h k d l in
    record { kind = other_kind r.kind f.kind; coefs = (units_from_comparison r.coefs f.first f.second f.compares).small }

pub no_congruences : (bits : ℕ) (rows : List Row) → All (IsDifferenceRow bits) rows → All (λ r. r.kind ≢ kinds.Divides) rows
no_congruences bits rows h = λ k d l. other_kind (get_or rows k d).kind (h k d l).kind

pub cube_more : (c d : ℕ) → c ≤ d → c * (c * c) ≤ d * (d * d)
cube_more c d l = product_more c (c * c) d (d * d) l (product_more c c d d l l)

pub square_more : (c d : ℕ) → c ≤ d → c * c ≤ d * d
square_more c d l = product_more c c d d l l

suc_times : (c x : ℕ) → suc c * x ≡ x + c * x
suc_times c x = omega arith

-- a column, and then the others
pub cubes : (columns : ℕ) → 0 < columns
    → columns * columns + (columns - 1) * ((columns - 1) * (columns - 1)) ≤ columns * (columns * columns)
cubes columns some =
    let rest = mul-le-mul_left (columns - 1) (square_more (columns - 1) columns (omega arith)) in
    let all : columns * (columns * columns) ≡ columns * columns + (columns - 1) * (columns * columns) = by columns some in
    omega arith
  where
    by : (c : ℕ) → 0 < c → c * (c * c) ≡ c * c + (c - 1) * (c * c)
    by zero l = absurd (omega arith)
    by (suc c) l =
        let before : suc c - 1 ≡ c = omega arith in
        suc_times c (suc c * suc c) ∙ ap (λ k. suc c * suc c + k * (suc c * suc c)) (sym before)

pub some_cube : (c : ℕ) → 0 < c → c * c ≤ c * (c * c)
some_cube zero l = absurd (omega arith)
some_cube (suc c) l = omega arith

pub some_cubes : (c : ℕ) → 0 < c → 1 ≤ c * (c * c)
some_cubes c l = let few = some_cube c l in let one = square_more 1 c (omega arith) in omega arith

-- the head that was taken
pub head_of : (left : Option (List Row)) (head : List Row) (parts : PartsView) (found : Option (List Row)) → IsHeadAlone left parts
    → found ≡ parts.dark_shadow.dark → found ≡ Some head → left ≡ Some head
head_of left head parts found alone is e = sym alone.head ∙ sym is ∙ e

-- nothing is found where nothing is left
pub none_found : (now next : PartsView) (found : Option (List Row)) (rows : List Row) (h k : Gauge) → found ≡ Some rows
    → IsHeadAlone None now
    → IsNextOfHead h k now next found → ⊥
none_found now next found rows h k e alone f = let m = sym e ∙ (f None alone).0 in cc

pub same_rows : (found : Option (List Row)) (rows short : List Row)
    → (let r : Result (Option (List Row)) Cut = Ok found in r) ≡ Ok (Some rows) → found ≡ Some short → short ≡ rows
same_rows found rows short e f = cc

pub not_cut : {A : Type 0} {cut : Cut} {value : A} → Err cut ≡ Ok value → ⊥
not_cut e = cc

pub not_none : (found : Option (List Row)) (rows : List Row) → (let r : Result (Option (List Row)) Cut = Ok found in r) ≡ Ok (Some rows)
    → found ≡ None → ⊥
not_none found rows e f = cc

-- nothing more is to come behind a head alone
pub has_nothing : (parts : PartsView) (more : Bool) → more ≡ true → IsHeadAlone None parts → IsTrue more ↔ (pos 0 <ℤ most_units parts) → ⊥
has_nothing parts more e alone both =
    let none = head_none None parts alone in
    let some = both.0 (rw e refl) in
    omega (arith, linear)
