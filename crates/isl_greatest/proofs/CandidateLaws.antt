-- Numbers as defined columns.
use Rattle.std.proofs.Common.{◌≡◌, ◌↔◌, ◌⊎◌, inl, inr, refl, sym, ap, ◌∙◌, subst, arith, ℕ, zero, suc, ◌+◌, ◌-◌, ◌<◌, ◌≤◌, ℤ, pos, ◌<ℤ◌, ◌≤ℤ◌, ◌+ℤ◌, ◌-ℤ◌, ◌*ℤ◌}
use Rattle.std.proofs.Common.{List, [], ◌∷◌, ◌++◌, length, get_or, map, take}
use Rattle.std.specs.List.{All}
use Rattle.std.proofs.lemmas.List.{append_assoc, length-append}
use Rattle.std.proofs.lemmas.List.Elements.{All-head, All-push}
use Rattle.isl_math.specs.Divide.{floor_div}
use Rattle.isl_math.specs.Dot.{dot}
use Rattle.isl_math.proofs.DivideLaws.{floor_split, floor_mod_bounds, floor_unique}
use Rattle.isl_math.proofs.Ring.{expand, linear}
use Rattle.isl_meter.specs.Gauge.{Gauge, IsWithin}
use Rattle.isl_piece.specs.declared.definition.Definition.{Definition}
use Rattle.isl_piece.specs.declared.row.Row.{Row}
use Rattle.isl_piece.specs.declared.system.System.{System}
use Rattle.isl_piece.specs.Definition.{defined_value, with_defined, AreDefinitions, IsDefinition}
use Rattle.isl_piece.specs.System.{free_columns, widened, with_definition, IsSystemWithin}
use Rattle.isl_piece.proofs.DefinedLaws.{definition_at, definition_within, length-with_defined, with_defined_push}
use Rattle.isl_greatest.specs.State.{full, number, IsCandidate, IsFrame}

-- ---- the last number
get_last : {X : Type 0} (xs : List X) (x d : X) → get_or (xs ++ x ∷ []) (length xs) d ≡ x
get_last [] x d = refl
get_last (y ∷ xs) x d = get_last xs x d

pub last_push : (xs : List ℤ) (y : ℤ) → get_or (xs ++ y ∷ []) (length (xs ++ y ∷ []) - 1) (pos 0) ≡ y
last_push xs y =
    let l = length-append xs (y ∷ []) in
    let here : length (xs ++ y ∷ []) - 1 ≡ length xs = omega (arith, l) in
    ap (λ n. get_or (xs ++ y ∷ []) n (pos 0)) here ∙ get_last xs y (pos 0)

pub full_push : (chosen cur : System) (d : Definition) (v : List ℤ) → cur.definitions ≡ chosen.definitions ++ d ∷ []
    → full cur v ≡ full chosen v ++ defined_value d (full chosen v) ∷ []
full_push chosen cur d v is = ap (λ (ds : List Definition). with_defined ds v) is ∙ with_defined_push chosen.definitions d v

pub number_push : (chosen cur : System) (d : Definition) (v : List ℤ) → cur.definitions ≡ chosen.definitions ++ d ∷ []
    → number cur v ≡ defined_value d (full chosen v)
number_push chosen cur d v is =
    ap (λ (xs : List ℤ). get_or xs (length xs - 1) (pos 0)) (full_push chosen cur d v is) ∙ last_push (full chosen v) (defined_value d (full chosen v))

pub full_behind : (g : Gauge) (n : ℕ) (chosen cur : System) (v : List ℤ) → IsCandidate g n chosen cur
    → full cur v ≡ full chosen v ++ number cur v ∷ []
full_behind g n chosen cur v cand =
    full_push chosen cur cand.definition v cand.is
    ∙ ap (λ z. full chosen v ++ z ∷ []) (sym (number_push chosen cur cand.definition v cand.is))

-- ---- columns
pub frame_columns : (g : Gauge) (n : ℕ) (s : System) → IsFrame g n s → s.columns ≡ n + length s.definitions
frame_columns g n s frame = let c = frame.within.count in let f = frame.free in omega (arith, c, f)

pub frame_full : (g : Gauge) (n : ℕ) (s : System) (v : List ℤ) → IsFrame g n s → length v ≡ n → length (full s v) ≡ s.columns
frame_full g n s v frame long = let l = length-with_defined s.definitions v in let c = frame_columns g n s frame in omega (arith, l, c, long)

-- ---- a candidate that is made
widened_none : (rows : List Row) → rows ≡ [] → map widened rows ≡ []
widened_none rows is = ap (map widened) is

pub candidate_made : (g : Gauge) (n : ℕ) (chosen copy cur : System) (d : Definition) → copy ≡ chosen → cur ≡ with_definition copy d
    → IsFrame g n chosen → IsDefinition g chosen.columns d → IsCandidate g n chosen cur
candidate_made g n chosen copy cur d same is frame one =
    let made : cur ≡ with_definition chosen d = is ∙ ap (λ (s : System). with_definition s d) same in
    subst (IsCandidate g n chosen) (sym made) (record {
      frame = record {
        within = definition_within chosen d g frame.within one;
        rows = widened_none chosen.rows frame.rows;
        free = by (length (chosen.definitions ++ d ∷ [])) (length-append chosen.definitions (d ∷ []));
      };
      definition = d;
      is = refl;
      columns = refl;
    })
  where
    by : (k : ℕ) → k ≡ length chosen.definitions + 1 → (chosen.columns + 1) - k ≡ n
    by k e = let c = frame_columns g n chosen frame in omega (arith, e, c)

pub candidate_number : (chosen copy cur : System) (coefs : List ℤ) (constant k : ℤ) (v : List ℤ) → copy ≡ chosen
    → cur ≡ with_definition copy (record { coefs = coefs; constant = constant; k = k })
    → number cur v ≡ floor_div (dot coefs (full chosen v) +ℤ constant) k
candidate_number chosen copy cur coefs constant k v same is =
    let d : Definition = record { coefs = coefs; constant = constant; k = k } in
    number_push chosen cur d v (ap (λ (s : System). s.definitions) (is ∙ ap (λ (s : System). with_definition s d) same))

-- ---- the definition of a candidate
pub definition_of : (g : Gauge) (n : ℕ) (chosen cur : System) (d : Definition) (cand : IsCandidate g n chosen cur)
    → d ≡ get_or cur.definitions (length chosen.definitions) d → d ≡ cand.definition
definition_of g n chosen cur d cand read =
    read ∙ ap (λ (ds : List Definition). get_or ds (length chosen.definitions) d) cand.is ∙ get_last chosen.definitions cand.definition d

pub definition_sound : (g : Gauge) (n : ℕ) (chosen cur : System) (cand : IsCandidate g n chosen cur) → IsFrame g n chosen
    → IsDefinition g chosen.columns cand.definition
definition_sound g n chosen cur cand frame =
    let at = definition_at g (free_columns cur) cur.definitions (length chosen.definitions) cand.definition cand.frame.within.definitions
    (let l = ap length cand.is ∙ length-append chosen.definitions (cand.definition ∷ []) in omega (arith, l)) in
    let here : get_or cur.definitions (length chosen.definitions) cand.definition ≡ cand.definition =
    ap (λ (ds : List Definition). get_or ds (length chosen.definitions) cand.definition) cand.is ∙ get_last chosen.definitions cand.definition cand.definition in
    let columns : free_columns cur + length chosen.definitions ≡ chosen.columns =
    (let c = frame_columns g n chosen frame in let f = cand.frame.free in omega (arith, c, f)) in
    subst (λ (m : ℕ). IsDefinition g m cand.definition) columns
    (subst (λ (e : Definition). IsDefinition g (free_columns cur + length chosen.definitions) e) here at)

-- one less
pub floor_less : (x k : ℤ) → pos 0 <ℤ k → floor_div (x -ℤ k) k ≡ floor_div x k -ℤ pos 1
floor_less x k up =
    let s = floor_split x k up in
    let b = floor_mod_bounds x k up in
    let split : k *ℤ (floor_div x k -ℤ pos 1) +ℤ (x -ℤ k *ℤ floor_div x k) ≡ x -ℤ k = simp expand (omega (arith, linear)) in
    let low = b.0 in
    let high = b.1 in
    sym (floor_unique (x -ℤ k) k (floor_div x k -ℤ pos 1) (x -ℤ k *ℤ floor_div x k) split (omega (arith, linear, s, low)) (omega (arith, linear, s, high))).0

pub lower_number : (d : Definition) (q : List ℤ) (constant : ℤ) → constant ≡ d.constant -ℤ d.k → pos 0 <ℤ d.k
    → floor_div (dot d.coefs q +ℤ constant) d.k ≡ defined_value d q -ℤ pos 1
lower_number d q constant is up =
    ap (λ z. floor_div z d.k) (by (dot d.coefs q) d.constant d.k constant is) ∙ floor_less (dot d.coefs q +ℤ d.constant) d.k up
  where
    by : (a c k z : ℤ) → z ≡ c -ℤ k → a +ℤ z ≡ a +ℤ c -ℤ k
    by a c k z e = omega (arith, linear, e)

-- the same form, its numbers as the code has them
pub floor_same : (cs ds q : List ℤ) (a b k m : ℤ) → cs ≡ ds → a ≡ b → k ≡ m → floor_div (dot cs q +ℤ a) k ≡ floor_div (dot ds q +ℤ b) m
floor_same cs ds q a b k m e f g = rw (e, f, g) refl
