-- Divisions of a quotient and a number beside it: nested floors are one.
use Rattle.std.proofs.Common.{◌≡◌, ◌≢◌, ◌∙◌, refl, sym, ap, subst, arith, ℕ, zero, suc, ◌+◌, ◌-◌, ◌<◌, ◌≤◌, ℤ, pos, ◌+ℤ◌, ◌*ℤ◌, ◌≤ℤ◌}
use Rattle.std.proofs.Common.{◌-ℤ◌, ◌<ℤ◌, List, [], ◌∷◌, length, get_or, to_z-of_z}
use Rattle.std.specs.List.{All}
use Rattle.isl_math.specs.Dot.{dot}
use Rattle.isl_math.specs.Divide.{floor_div, floor_mod}
use Rattle.isl_math.proofs.DivideLaws.{floor_split, floor_mod_bounds, floor_unique}
use Rattle.isl_math.proofs.OrderLaws.{*ℤ-≤ℤ, not_negative-*ℤ, positive-*ℤ}
use Rattle.isl_math.proofs.Ring.{expand, linear}
use Rattle.isl_meter.specs.Gauge.{Gauge, IsWithin}
use Rattle.isl_piece.specs.declared.definition.Definition.{Definition}
use Rattle.isl_piece.specs.declared.system.System.{System}
use Rattle.isl_piece.specs.Definition.{defined_value, with_defined, AreDefinitions, IsDefinition}
use Rattle.isl_piece.specs.System.{free_columns}
use Rattle.isl_piece.proofs.DefinedLaws.{definition_at}
use Rattle.isl_affine.specs.declared.form.Form.{Form}
use Rattle.isl_affine.specs.Form.{IsDivisible, IsDivision, IsLone, IsNested, IsSameDivision}
use Rattle.isl_affine.proofs.DivisionLaws.{number_of}

-- ---- numbers
-- nested floors are one
pub nested_floors : (z a c k : ℤ) → pos 0 <ℤ a → pos 0 <ℤ k → floor_div (z +ℤ a *ℤ c) (a *ℤ k) ≡ floor_div (floor_div z a +ℤ c) k
nested_floors z a c k p q =
    let inner = floor_mod_bounds z a p in
    let outer = floor_mod_bounds (floor_div z a +ℤ c) k q in
    by z a c k (floor_div z a) (floor_mod z a) (floor_div (floor_div z a +ℤ c) k) (floor_mod (floor_div z a +ℤ c) k) p (floor_split z a p)
    (floor_split (floor_div z a +ℤ c) k q) inner.0 inner.1 outer.0 outer.1
  where
    by : (z a c k x r y s : ℤ) → pos 0 <ℤ a → a *ℤ x +ℤ r ≡ z → k *ℤ y +ℤ s ≡ x +ℤ c → pos 0 ≤ℤ r → r <ℤ a → pos 0 ≤ℤ s → s <ℤ k
        → floor_div (z +ℤ a *ℤ c) (a *ℤ k) ≡ y
    by z a c k x r y s p inner outer r_low r_high s_low s_high =
        let whole = simp expand at (ap (λ (w : ℤ). a *ℤ w) outer) in
        let inner' = simp expand at inner in
        let low = simp expand at (not_negative-*ℤ a s (omega (arith, linear)) s_low) in
        let high = simp expand at (*ℤ-≤ℤ a (s +ℤ pos 1) k (omega (arith, linear)) (omega (arith, linear))) in
        sym (floor_unique (z +ℤ a *ℤ c) (a *ℤ k) y (a *ℤ s +ℤ r) (simp expand (omega (arith, linear))) (simp expand (omega (arith, linear)))
        (simp expand (omega (arith, linear)))).0

-- ---- a column with the coefficient 1 alone
dot-zeros : (cs xs : List ℤ) → ((i : ℕ) → i < length cs → get_or cs i (pos 0) ≡ pos 0) → dot cs xs ≡ pos 0
dot-zeros [] xs h = refl
dot-zeros (c ∷ cs) [] h = refl
dot-zeros (c ∷ cs) (x ∷ xs) h = by c x (dot cs xs) (h 0 (omega arith)) (dot-zeros cs xs (λ i l. h (suc i) (omega arith)))
  where
    by : (c x d : ℤ) → c ≡ pos 0 → d ≡ pos 0 → c *ℤ x +ℤ d ≡ pos 0
    by c x d p q = rw (p, q) (simp expand (omega (arith, linear)))

dot-lone : (cs : List ℤ) (n : ℕ) (xs : List ℤ) → get_or cs n (pos 0) ≡ pos 1
    → ((i : ℕ) → i < length cs → i ≢ n → get_or cs i (pos 0) ≡ pos 0) → dot cs xs ≡ get_or xs n (pos 0)
dot-lone [] n xs one others = absurd (omega (arith, linear, one))
dot-lone (c ∷ cs) zero [] one others = refl
dot-lone (c ∷ cs) (suc n) [] one others = refl
dot-lone (c ∷ cs) zero (x ∷ xs) one others =
    by c x (dot cs xs) one (dot-zeros cs xs (λ i l. others (suc i) (omega arith) (omega arith)))
  where
    by : (c x d : ℤ) → c ≡ pos 1 → d ≡ pos 0 → c *ℤ x +ℤ d ≡ x
    by c x d p q = rw (p, q) (simp expand (omega (arith, linear)))
dot-lone (c ∷ cs) (suc n) (x ∷ xs) one others =
    by c x (dot cs xs) (get_or xs n (pos 0)) (others 0 (omega arith) (omega arith))
    (dot-lone cs n xs one (λ i l no. others (suc i) (omega arith) (omega arith)))
  where
    by : (c x d e : ℤ) → c ≡ pos 0 → d ≡ e → c *ℤ x +ℤ d ≡ e
    by c x d e p q = rw (p, q) (simp expand (omega (arith, linear)))

pub lone : (cs : List ℤ) (n : ℕ) → get_or cs n (pos 0) ≡ pos 1
    → ((i : ℕ) → i < length cs → i ≢ n → get_or cs i (pos 0) ≡ pos 0) → IsLone cs n
lone cs n one others = record { one = one; others = others }

pub ruleset lones = (to_z-of_z, lone)

pub nested_at : (s : System) (form : Form) (cs : List ℤ) (column i : ℕ) → cs ≡ form.coefs → IsLone cs column → i + free_columns s ≡ column
    → i < length s.definitions → IsNested s form i
nested_at s form cs column i is lone place inside = record {
  inside = inside;
  column = subst (λ (n : ℕ). IsLone form.coefs n) (omega arith) (subst (λ (l : List ℤ). IsLone l column) is lone);
}

pub ruleset places = (nested_at)

-- ---- one division
pub same_division : (g : Gauge) (s : System) (form other : Form) (k divisor raised : ℤ) (i : ℕ) (d : Definition) → IsDivisible g s form k
    → IsNested s form i → d ≡ get_or s.definitions i d → divisor ≡ d.k *ℤ k → IsWithin g divisor → raised ≡ d.k *ℤ form.constant
    → other.coefs ≡ d.coefs → other.constant ≡ d.constant +ℤ raised → IsWithin g other.constant → IsSameDivision g s form k other divisor
same_division g s form other k divisor raised i d given nested is times times_within raised_is coefs constant small =
    let free = free_columns s in
    let definitions = given.over.system.definitions in
    let inside = nested.inside in
    let definition : IsDefinition g (free + i) d =
    subst (IsDefinition g (free + i)) (sym is) (definition_at g free s.definitions i d definitions inside) in
    let positive = definition.modulus in
    record {
      divisible = record {
        over = record {
          system = given.over.system;
          within = record { coefs = subst (All (IsWithin g)) (sym coefs) definition.coefs; constant = small };
          width = let c = given.over.system.count in let w = definition.width in let e = ap length coefs in omega arith;
        };
        divisor = subst (λ (z : ℤ). pos 0 <ℤ z) (sym times) (positive-*ℤ d.k k positive given.divisor);
        divisor_within = times_within;
      };
      number = λ point e.
          let full = with_defined s.definitions point in
          let place : free + i ≡ length point + i = ap (λ (n : ℕ). n + i) (sym e) in
          let all = subst (λ (n : ℕ). AreDefinitions g n s.definitions) (sym e) definitions in
          let column = dot-lone form.coefs (free + i) full nested.column.one nested.column.others
          ∙ ap (λ (n : ℕ). get_or full n (pos 0)) place ∙ number_of g s.definitions point i d all inside
          ∙ ap (λ (one : Definition). defined_value one full) (sym is) in
          by (dot other.coefs full) (dot d.coefs full) (dot form.coefs full) other.constant d.constant form.constant d.k k divisor raised
          (ap (λ (l : List ℤ). dot l full) coefs) column times raised_is constant positive given.divisor;
    }
  where
    by : (o z f b d c a k m r : ℤ) → o ≡ z → f ≡ floor_div (z +ℤ d) a → m ≡ a *ℤ k → r ≡ a *ℤ c → b ≡ d +ℤ r
        → pos 0 <ℤ a → pos 0 <ℤ k → floor_div (o +ℤ b) m ≡ floor_div (f +ℤ c) k
    by o z f b d c a k m r same column times raised constant p q =
        let left : o +ℤ b ≡ z +ℤ d +ℤ a *ℤ c = omega (arith, linear) in
        ap (λ (x : ℤ). floor_div x m) left ∙ ap (floor_div (z +ℤ d +ℤ a *ℤ c)) times ∙ nested_floors (z +ℤ d) a c k p q
        ∙ ap (λ (x : ℤ). floor_div (x +ℤ c) k) (sym column)

pub same_divisible : (g : Gauge) (s : System) (form other : Form) (k divisor : ℤ) → IsSameDivision g s form k other divisor
    → IsDivisible g s other divisor
same_divisible g s form other k divisor same = same.divisible

pub same_column : (g : Gauge) (old new : System) (form other : Form) (k divisor : ℤ) (column : ℕ)
    → IsSameDivision g old form k other divisor → IsDivision g old new other divisor column → IsDivision g old new form k column
same_column g old new form other k divisor column same division = record {
  extends = division.extends;
  inside = division.inside;
  number = λ point e. division.number point e ∙ same.number point e;
}

pub ruleset columns = (same_divisible, same_column)
