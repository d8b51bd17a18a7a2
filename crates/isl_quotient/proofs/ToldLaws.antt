-- Systems over their free columns alone, where equations tell the defined ones.
use Rattle.std.proofs.Common.{◌≡◌, ◌≢◌, ◌↔◌, refl, sym, ap, subst, ◌∙◌, arith, true, ℕ, suc, ◌<◌, ◌≤◌, ◌^◌, ℤ, List, [], ◌∷◌, length}
use Rattle.std.proofs.Common.{get_or, map, Option, Some, None, option_to_list, pow_mono, unsigned_abs}
use Rattle.std.specs.Prelude.{AllPairs, IfSome, MatchOption, option_map}
use Rattle.std.specs.List.{All, range_with_len}
use Rattle.std.proofs.lemmas.List.Elements.{All-nil, All-cons, All-head, All-weaker}
use Rattle.isl_math.proofs.ListLaws.{Any-one, Any-first}
use Rattle.isl_meter.specs.Gauge.{Gauge, IsCharged, IsWithin}
use Rattle.isl_piece.specs.declared.definition.Definition.{Definition}
use Rattle.isl_piece.specs.declared.row.Row.{Row}
use Rattle.isl_piece.specs.declared.system.System.{System}
use Rattle.isl_piece.specs.Definition.{AreDefinitions, IsDefinition}
use Rattle.isl_piece.specs.Normal.{normal_rows, normal_system, IsNormal}
use Rattle.isl_piece.specs.Row.{IsRowWithin}
use Rattle.isl_piece.specs.System.{HoldsSystem, IsSystemWithin, free_columns}
use Rattle.isl_elim.specs.Elimination.{HoldsAlong, IsProjectionAlong, system_of}
use Rattle.isl_elim.specs.Others.{others_of}
use Rattle.isl_elim.proofs.OthersLaws.{among, without_none}
use Rattle.isl_quotient.specs.Opened.{opened_system}
use Rattle.isl_quotient.specs.Told.{IsPlainLeft, IsPlainOf}
use Rattle.isl_quotient.specs.Turned.{IsTurned}
use Rattle.isl_quotient.proofs.MeterLaws.{within_before}
use Rattle.isl_quotient.proofs.OpenedLaws.{opened_projects}
use Rattle.isl_quotient.proofs.PinnedLaws.{alone_projects}
use Rattle.isl_quotient.proofs.StepLaws.{one_then_others}

-- ---- a wider limit
module _ (g h : Gauge) (wide : g.bits ≤ h.bits) where
  number_wider : (z : ℤ) → IsWithin g z → IsWithin h z
  number_wider z w = let more : 2 ^ g.bits ≤ 2 ^ h.bits = pow_mono wide in omega (arith, w, more)

  definitions_wider : (columns : ℕ) (definitions : List Definition) → AreDefinitions g columns definitions
      → AreDefinitions h columns definitions
  definitions_wider columns [] a = tt
  definitions_wider columns (d ∷ definitions) a = (by a.0, definitions_wider (suc columns) definitions a.1)
    where
      by : IsDefinition g columns d → IsDefinition h columns d
      by f = record {
        width = f.width;
        modulus = f.modulus;
        coefs = All-weaker (IsWithin g) (IsWithin h) number_wider d.coefs f.coefs;
        constant = number_wider d.constant f.constant;
        k = number_wider d.k f.k;
      }

  row_wider : (r : Row) → IsRowWithin g r → IsRowWithin h r
  row_wider r w = record {
    coefs = All-weaker (IsWithin g) (IsWithin h) number_wider r.coefs w.coefs;
    constant = number_wider r.constant w.constant;
    k = number_wider r.k w.k;
  }

  pub system_wider : (s : System) → IsSystemWithin g s → IsSystemWithin h s
  system_wider s w = record {
    rows = w.rows;
    within = All-weaker (IsRowWithin g) (IsRowWithin h) row_wider s.rows w.within;
    count = w.count;
    definitions = definitions_wider (free_columns s) s.definitions w.definitions;
  }

-- ---- nothing is left to go
abbrev definitions_of : System → Option System → List Definition
definitions_of s None = s.definitions
definitions_of s (Some t) = t.definitions

normal_definitions : (s t : System) → Some t ≡ normal_system s → t.definitions ≡ s.definitions
normal_definitions s t is = ap (definitions_of s) is ∙ by (normal_rows s.rows)
  where
    by : (o : Option (List Row)) → definitions_of s (option_map (system_of s.columns s.definitions) o) ≡ s.definitions
    by None = refl
    by (Some rows) = refl

pub plain_alone : (g : Gauge) (s : System) (o : Option System) → s.definitions ≡ [] → o ≡ normal_system s
    → ((point : List ℤ) → MatchOption o (¬ HoldsSystem s point) (λ t. HoldsSystem t point ↔ HoldsSystem s point))
    → IfSome o (λ t. IsNormal t.rows) → IfSome o (IsSystemWithin g)
    → IfSome o (IsPlainLeft g s [])
plain_alone g s None plain is points normal within = tt
plain_alone g s (Some t) plain is points normal within = record {
  within = within;
  normal = normal;
  definitions = normal_definitions s t is ∙ plain;
  projection = alone_projects s (t ∷ []) (ap option_to_list is) (λ point. (
    (λ any. (points point).0 (Any-one (λ u. HoldsSystem u point) t any)),
    (λ holds. Any-first (λ u. HoldsSystem u point) t [] ((points point).1 holds)),
  ));
}

-- ---- one column, and then the others
pub plain_after : (g h : Gauge) (s short : System) (cols left : List ℕ) (col : ℕ) → IsCharged g h → AllPairs (λ a b. a ≢ b) cols
    → among col cols ≡ true → col < free_columns s
    → left ≡ others_of col cols → IsTurned g s cols col short → (o : Option System) → IfSome o (IsPlainLeft h short left)
    → IfSome o (IsPlainLeft g s cols)
plain_after g h s short cols left col charged d a i is turn None rest = tt
plain_after g h s short cols left col charged d a i is turn (Some t) rest = record {
  within = All-head (IsSystemWithin g) t [] (within_before g h (t ∷ []) charged one);
  normal = rest.normal;
  definitions = rest.definitions;
  projection = one_then_others s short col cols (t ∷ []) d a i turn.projection turn.free (rw is at rest.projection);
}
  where
    one : All (IsSystemWithin h) (t ∷ [])
    one = All-cons (IsSystemWithin h) t [] rest.within (All-nil (IsSystemWithin h))

pub none_distinct : AllPairs (λ (a b : ℕ). a ≢ b) []
none_distinct i j z l m = absurd (omega (arith, m))

-- ---- all that are defined
plain_from : (g : Gauge) (s t : System) → IsSystemWithin g t → IsNormal t.rows → t.definitions ≡ [] → IsProjectionAlong s [] (t ∷ [])
    → IsPlainOf g s t
plain_from g s t within normal none p = record {
  within = within;
  normal = normal;
  definitions = none;
  columns =
      let one = p.columns 0 t (omega arith) in
      let count = ap (λ (ds : List Definition). length ds) none in
      omega (arith, one, count);
  points = λ point l. let at = p.points point (omega (arith, l)) in (
    (λ h. here point (at.0 (Any-first (λ u. HoldsSystem u point) t [] h))),
    (λ h. Any-one (λ u. HoldsSystem u point) t (at.1 (point, l, without_none 0 point, h))),
  );
}
  where
    here : (point : List ℤ) → HoldsAlong (free_columns s) [] (HoldsSystem s) point → HoldsSystem s point
    here point x = subst (HoldsSystem s) (sym (without_none 0 x.0) ∙ x.2) x.3

pub plain_of : (g : Gauge) (s whole : System) (cols : List ℕ) → IsSystemWithin g s → whole ≡ opened_system s
    → cols ≡ range_with_len (free_columns s) (length s.definitions)
    → (o : Option System) → IfSome o (IsPlainLeft g whole cols) → IfSome o (IsPlainOf g s)
plain_of g s whole cols w is are None left = tt
plain_of g s whole cols w is are (Some t) left =
    plain_from g s t left.within left.normal left.definitions
    (opened_projects g s [] (t ∷ []) w (rw (is, are) at left.projection) (omega arith))

-- the limit is kept
pub plain_within : (g h : Gauge) (s t : System) → IsPlainOf h s t → All (IsRowWithin g) t.rows → IsPlainOf g s t
plain_within g h s t p rows = record {
  within = record {
    rows = p.within.rows;
    within = rows;
    count = p.within.count;
    definitions = subst (AreDefinitions g (free_columns t)) (sym p.definitions) tt;
  };
  normal = p.normal;
  definitions = p.definitions;
  columns = p.columns;
  points = p.points;
}
