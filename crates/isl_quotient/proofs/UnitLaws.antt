-- The other step: a column that an equality has goes by `eliminate`, and no definition depends on it.
use Rattle.std.proofs.Common.{◌≡◌, refl, sym, ap, ◌∙◌, arith, false, ℕ, suc, ◌<◌, ℤ, pos, List, [], ◌∷◌, ◌++◌, length, get_or, map}
use Rattle.std.specs.Prelude.{nat_eq}
use Rattle.std.specs.List.{All, insert, remove}
use Rattle.std.proofs.lemmas.List.Edits.{length-remove}
use Rattle.std.proofs.lemmas.List.Elements.{All-head, All-tail, All-map}
use Rattle.isl_meter.specs.Gauge.{Gauge}
use Rattle.isl_piece.specs.declared.definition.Definition.{Definition}
use Rattle.isl_piece.specs.declared.system.System.{System}
use Rattle.isl_piece.specs.Definition.{AreDefinitions}
use Rattle.isl_piece.specs.System.{IsSystemWithin, free_columns}
use Rattle.isl_elim.specs.Dependents.{names, narrowed, dependents_from, dependents, with_dependents, kept_definitions}
use Rattle.isl_elim.specs.Elimination.{without_from, without}
use Rattle.isl_elim.specs.Others.{lowered, others_of}
use Rattle.isl_elim.proofs.EmptinessLaws.{insert-remove}
use Rattle.isl_elim.proofs.OthersLaws.{among_at, without_insert, without_none, others_same}
use Rattle.isl_quotient.specs.Quotient.{short_definition, IsUndefining}
use Rattle.isl_quotient.proofs.KeptLaws.{removed_lowered}
use Rattle.isl_quotient.proofs.TurnLaws.{undefining_others}

unnamed_one : (col : ℕ) (d : Definition) → get_or d.coefs col (pos 0) ≡ pos 0 → names (col ∷ []) d ≡ false
unnamed_one col d z = rw z refl

none_from : (column col : ℕ) (definitions : List Definition) → IsUndefining col definitions
    → dependents_from column (col ∷ []) definitions ≡ []
none_from column col [] h = refl
none_from column col (d ∷ definitions) h =
    let P : Definition → Type 0 = λ e. get_or e.coefs col (pos 0) ≡ pos 0 in
    let here = unnamed_one col d (All-head P d definitions h) in
    rw here (none_from (suc column) col definitions (All-tail P d definitions h))

pub no_dependents : (s : System) (col : ℕ) → IsUndefining col s.definitions → dependents s (col ∷ []) ≡ []
no_dependents s col h = none_from (free_columns s) col s.definitions h

without_one : (col : ℕ) (xs : List ℤ) → col < length xs → without (col ∷ []) xs ≡ remove xs col
without_one col xs l =
    let short = length-remove xs col l in
    let again : insert (remove xs col) col (get_or xs col (pos 0)) ≡ xs = insert-remove xs col l in
    ap (without (col ∷ [])) (sym again) ∙ without_insert (col ∷ []) col (remove xs col) (get_or xs col (pos 0))
    (among_at (col ∷ []) 0 (omega arith)) (omega (arith, short, l))
    ∙ ap (λ (cs : List ℕ). without cs (remove xs col)) (others_same col col [] refl) ∙ without_none 0 (remove xs col)

kept_behind : (i col : ℕ) (definitions : List Definition) → col < i → without_from i (col ∷ []) definitions ≡ definitions
kept_behind i col [] l = refl
kept_behind i col (d ∷ definitions) l =
    let no : nat_eq col i ≡ false = grind arith in
    let rest = kept_behind (suc i) col definitions (omega arith) in
    rw (no, rest) refl

all_short : (g : Gauge) (n col : ℕ) (definitions : List Definition) → col < n → AreDefinitions g n definitions
    → map (narrowed (col ∷ [])) definitions ≡ map (short_definition col) definitions
all_short g n col [] l a = refl
all_short g n col (d ∷ definitions) l a =
    let w = a.0.width in
    rw (without_one col d.coefs (omega (arith, w, l)), all_short g (suc n) col definitions (omega (arith, l)) a.1) refl

pub kept_short : (g : Gauge) (s : System) (col : ℕ) → IsSystemWithin g s → col < free_columns s → IsUndefining col s.definitions
    → kept_definitions s (col ∷ []) ≡ map (short_definition col) s.definitions
kept_short g s col w l h =
    let gone : with_dependents s (col ∷ []) ≡ col ∷ [] = ap (λ (more : List ℕ). (col ∷ []) ++ more) (no_dependents s col h) in
    ap (λ (cols : List ℕ). map (narrowed cols) (without_from (free_columns s) cols s.definitions)) gone
    ∙ ap (map (narrowed (col ∷ []))) (kept_behind (free_columns s) col s.definitions l)
    ∙ all_short g (free_columns s) col s.definitions l w.definitions

-- no definition that is kept names a column that is still to go
pub solved_undefining : (col : ℕ) (cols : List ℕ) (definitions : List Definition) → All (λ c. IsUndefining c definitions) cols
    → All (λ c. IsUndefining c (map (short_definition col) definitions)) (others_of col cols)
solved_undefining col cols definitions h = undefining_others col cols (map (short_definition col) definitions) (λ k d l m.
    All-map (λ (e : Definition). get_or e.coefs (lowered col (get_or cols k d)) (pos 0) ≡ pos 0) (short_definition col) definitions
    (λ i e j. removed_lowered (get_or definitions i e).coefs col (get_or cols k d) m ∙ h k d l i e j))
