-- Systems that are well-formed, and how great their numbers are.
use Rattle.std.proofs.Common.{◌≡◌, ℕ, suc, ◌-◌, ◌^◌, List, [], ◌∷◌, All}
use Rattle.std.proofs.lemmas.List.Elements.{All-cons, All-head, All-nil, All-tail, All-weaker}
use Rattle.isl_math.proofs.MagnitudeLaws.{IsUpTo}
use Rattle.isl_meter.specs.Gauge.{Gauge, IsWithin}
use Rattle.isl_meter.proofs.LimitLemmas.{within_up_to, up_to_within}
use Rattle.isl_piece.specs.declared.definition.Definition.{Definition}
use Rattle.isl_piece.specs.declared.row.Row.{Row}
use Rattle.isl_piece.specs.declared.system.System.{System}
use Rattle.isl_piece.specs.Definition.{IsDefinition, AreDefinitions}
use Rattle.isl_piece.specs.Formed.{IsDefinitionUpTo, IsSystemUpTo, IsWellFormedDefinition, AreWellFormedDefinitions}
use Rattle.isl_piece.specs.Row.{IsRowUpTo, IsRowWithin}
use Rattle.isl_piece.specs.System.{IsSystemWithin, free_columns}
use Rattle.isl_piece.proofs.RowMagnitudes.{rows_within_kept, up_to_limit, within_limit}

-- ---- definitions
definition_within : (g : Gauge) (columns : ℕ) (d : Definition) → IsWellFormedDefinition columns d → IsDefinitionUpTo (2 ^ g.bits - 1) d
    → IsDefinition g columns d
definition_within g columns d h b = record {
  width = h.width;
  modulus = h.modulus;
  coefs = All-weaker (IsUpTo (2 ^ g.bits - 1)) (IsWithin g) (up_to_within g) d.coefs b.coefs;
  constant = up_to_within g d.constant b.constant;
  k = up_to_within g d.k b.k;
}

pub definitions_within : (g : Gauge) (columns : ℕ) (definitions : List Definition) → AreWellFormedDefinitions columns definitions
    → All (IsDefinitionUpTo (2 ^ g.bits - 1)) definitions → AreDefinitions g columns definitions
definitions_within g columns [] h b = tt
definitions_within g columns (d ∷ definitions) h b = (
  definition_within g columns d h.0 (All-head (IsDefinitionUpTo (2 ^ g.bits - 1)) d definitions b),
  definitions_within g (suc columns) definitions h.1 (All-tail (IsDefinitionUpTo (2 ^ g.bits - 1)) d definitions b),
)

pub definitions_formed : (g : Gauge) (columns : ℕ) (definitions : List Definition) → AreDefinitions g columns definitions
    → AreWellFormedDefinitions columns definitions
definitions_formed g columns [] h = tt
definitions_formed g columns (d ∷ definitions) h =
    (record { width = h.0.width; modulus = h.0.modulus }, definitions_formed g (suc columns) definitions h.1)

definition_up_to : (g : Gauge) (columns : ℕ) (d : Definition) → IsDefinition g columns d → IsDefinitionUpTo (2 ^ g.bits - 1) d
definition_up_to g columns d h = record {
  coefs = All-weaker (IsWithin g) (IsUpTo (2 ^ g.bits - 1)) (within_up_to g) d.coefs h.coefs;
  constant = within_up_to g d.constant h.constant;
  k = within_up_to g d.k h.k;
}

definitions_up_to : (g : Gauge) (columns : ℕ) (definitions : List Definition) → AreDefinitions g columns definitions
    → All (IsDefinitionUpTo (2 ^ g.bits - 1)) definitions
definitions_up_to g columns [] h = All-nil (IsDefinitionUpTo (2 ^ g.bits - 1))
definitions_up_to g columns (d ∷ definitions) h =
    All-cons (IsDefinitionUpTo (2 ^ g.bits - 1)) d definitions (definition_up_to g columns d h.0) (definitions_up_to g (suc columns) definitions h.1)

-- ---- systems
pub system_up_to : (g : Gauge) (s : System) → IsSystemWithin g s → IsSystemUpTo (2 ^ g.bits - 1) s
system_up_to g s h = record {
  rows = All-weaker (IsRowWithin g) (IsRowUpTo (2 ^ g.bits - 1)) (up_to_limit g) s.rows h.within;
  definitions = definitions_up_to g (free_columns s) s.definitions h.definitions;
}

-- within the limit of a meter, also of a later one with the same limit
definitions_within_kept : (g h : Gauge) (columns : ℕ) (definitions : List Definition) → h.bits ≡ g.bits → AreDefinitions h columns definitions
    → AreDefinitions g columns definitions
definitions_within_kept g h columns [] e a = tt
definitions_within_kept g h columns (d ∷ definitions) e a = (by a.0, definitions_within_kept g h (suc columns) definitions e a.1)
  where
    by : IsDefinition h columns d → IsDefinition g columns d
    by f = record {
      width = f.width;
      modulus = f.modulus;
      coefs = All-weaker (IsWithin h) (IsWithin g) (λ z v. rw e at v) d.coefs f.coefs;
      constant = rw e at f.constant;
      k = rw e at f.k;
    }

pub system_within_kept : (g h : Gauge) (s : System) → h.bits ≡ g.bits → IsSystemWithin h s → IsSystemWithin g s
system_within_kept g h s e w = record {
  rows = w.rows;
  within = rows_within_kept g h s.rows e w.within;
  count = w.count;
  definitions = definitions_within_kept g h (free_columns s) s.definitions e w.definitions;
}
