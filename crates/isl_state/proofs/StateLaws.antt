-- What is bound: look-ups, and their types.
use Rattle.std.proofs.Common.{◌≡◌, ◌≢◌, ◌∙◌, refl, sym, ap, subst, ℤ, Bool, true, false, cond, List, [], ◌∷◌, map, Some, None, option_map}
use Rattle.std.specs.Prelude.{unsigned_abs, if◌then◌else◌}
use Rattle.std.specs.Map.{lookup}
use Rattle.std.specs.Str.{bytes_eq}
use Rattle.std.proofs.lemmas.Bool.{false≢true}
use Rattle.std.proofs.lemmas.Slice.Eq.{bytes_eq-Decides}
use Rattle.isl_meter.specs.Gauge.{Gauge, limit_of, IsCharged}
use Rattle.isl_union.specs.KeptValue.{KeptValue}
use Rattle.indexmap.specs.IndexMap.{insert_entry}
use Rattle.isl_space.specs.Name.{Name}
use Rattle.isl_kinds.specs.Typed.{TypeView, ScopeView, bound_to}
use Rattle.isl_assumed.specs.declared.assumed.Assumed.{Assumed}
use Rattle.isl_assumed.specs.Assumed.{IsPlain, IsSound}
use Rattle.isl_outcome.proofs.PaidLaws.{same_limit}
use Rattle.isl_state.specs.declared.list.ListPart.{ListPart}
use Rattle.isl_state.specs.State.{Kept, StateView, unbound, kept_of, type_of, scope_of, value_at, Binds, EachKept, HasNumbersUpTo, Fits}
use Rattle.isl_state.specs.State.{IsKeptLive}

-- ---- the types of what is bound
lookup_types : (name : Name) (entries : List (Name × Kept))
    → lookup (bytes_eq name) (map (λ entry. (entry.0, type_of entry.1)) entries) ≡ option_map type_of (lookup (bytes_eq name) entries)
lookup_types name [] = refl
lookup_types name (entry ∷ entries) = by (bytes_eq name entry.0) (lookup_types name entries)
  where
    by : (b : Bool) → lookup (bytes_eq name) (map (λ entry. (entry.0, type_of entry.1)) entries) ≡ option_map type_of
        (lookup (bytes_eq name) entries)
        → cond b (Some (type_of entry.1)) (lookup (bytes_eq name) (map (λ entry. (entry.0, type_of entry.1)) entries)) ≡ option_map type_of
        (cond b (Some entry.1) (lookup (bytes_eq name) entries))
    by true more = refl
    by false more = more

pub bound_at : (state : StateView) (name : Name) → bound_to (scope_of state) name ≡ option_map type_of (kept_of state name)
bound_at state name = lookup_types name state.bound

pub insert_types : (name : Name) (kept : Kept) (entries : List (Name × Kept))
    → map (λ entry. (entry.0, type_of entry.1)) (insert_entry bytes_eq entries name kept) ≡ insert_entry bytes_eq
    (map (λ entry. (entry.0, type_of entry.1)) entries) name (type_of kept)
insert_types name kept [] = refl
insert_types name kept (entry ∷ entries) = by (bytes_eq name entry.0) (insert_types name kept entries)
  where
    types : List (Name × Kept) → List (Name × TypeView)
    types = map (λ entry. (entry.0, type_of entry.1))

    by : (b : Bool) → types (insert_entry bytes_eq entries name kept) ≡ insert_entry bytes_eq (types entries) name (type_of kept)
        → types (if b then (entry.0, kept) ∷ entries else entry ∷ insert_entry bytes_eq entries name kept)
        ≡ (if b then (entry.0, type_of kept) ∷ types entries else (entry.0, type_of entry.1) ∷ insert_entry bytes_eq (types entries) name
        (type_of kept))
    by true more = refl
    by false more = ap (λ l. (entry.0, type_of entry.1) ∷ l) more

-- the types when a name is bound
pub bind_scope : (scope next : ScopeView) (entries after : List (Name × Kept)) (name : Name) (kept : Kept) (t : TypeView)
    → scope ≡ map (λ entry. (entry.0, type_of entry.1)) entries
    → next ≡ insert_entry bytes_eq scope name t → t ≡ type_of kept → after ≡ insert_entry bytes_eq entries name kept
    → next ≡ map (λ entry. (entry.0, type_of entry.1)) after
bind_scope scope next entries after name kept t was bound typed is =
    bound ∙ ap (λ (s : ScopeView). insert_entry bytes_eq s name t) was
    ∙ ap (insert_entry bytes_eq (map (λ entry. (entry.0, type_of entry.1)) entries) name) typed
    ∙ sym (insert_types name kept entries) ∙ ap (map (λ (entry : Name × Kept). (entry.0, type_of entry.1))) (sym is)

-- ---- what is bound when a name is
equal_itself : (name : Name) → bytes_eq name name ≡ true
equal_itself name = (bytes_eq-Decides name name).1 refl

named_in : (name : Name) (kept : Kept) (entries : List (Name × Kept))
    → lookup (bytes_eq name) (insert_entry bytes_eq entries name kept) ≡ Some kept
named_in name kept [] = rw (equal_itself name) refl
named_in name kept (entry ∷ entries) = by (bytes_eq name entry.0) refl (named_in name kept entries)
  where
    by : (b : Bool) → bytes_eq name entry.0 ≡ b → lookup (bytes_eq name) (insert_entry bytes_eq entries name kept) ≡ Some kept
        → lookup (bytes_eq name) (if b then (entry.0, kept) ∷ entries else entry ∷ insert_entry bytes_eq entries name kept) ≡ Some kept
    by true is more = rw is refl
    by false is more = rw is more

others_in : (name other : Name) (kept : Kept) (entries : List (Name × Kept)) → other ≢ name
    → lookup (bytes_eq other) (insert_entry bytes_eq entries name kept) ≡ lookup (bytes_eq other) entries
others_in name other kept [] apart = by (bytes_eq other name) refl
  where
    by : (b : Bool) → bytes_eq other name ≡ b → cond b (Some kept) None ≡ None
    by true is = absurd (apart ((bytes_eq-Decides other name).0 is))
    by false is = refl
others_in name other kept (entry ∷ entries) apart =
    by (bytes_eq name entry.0) refl (bytes_eq other entry.0) refl (others_in name other kept entries apart)
  where
    by : (b : Bool) → bytes_eq name entry.0 ≡ b → (c : Bool) → bytes_eq other entry.0 ≡ c
        → lookup (bytes_eq other) (insert_entry bytes_eq entries name kept) ≡ lookup (bytes_eq other) entries
        → lookup (bytes_eq other) (if b then (entry.0, kept) ∷ entries else entry ∷ insert_entry bytes_eq entries name kept) ≡ cond c
        (Some entry.1) (lookup (bytes_eq other) entries)
    by true is true also more = absurd (apart ((bytes_eq-Decides other entry.0).0 also ∙ sym ((bytes_eq-Decides name entry.0).0 is)))
    by true is false also more = rw also refl
    by false is true also more = rw also refl
    by false is false also more = rw also more

pub binds : (before : StateView) (name : Name) (kept : Kept) (after : StateView)
    → after.bound ≡ insert_entry bytes_eq before.bound name kept → after.assumed ≡ before.assumed → Binds before name kept after
binds before name kept after is same = record {
  named = ap (lookup (bytes_eq name)) is ∙ named_in name kept before.bound;
  others = λ other apart. ap (lookup (bytes_eq other)) is ∙ others_in name other kept before.bound apart;
  assumed = same;
}

-- ---- numbers, and live pieces
some_same : (a b : Kept) → Some a ≡ Some b → a ≡ b
some_same a b e = cc

pub fits_unbound : (limit : ℤ) → Fits limit unbound
fits_unbound limit = record {
  numbers = λ name kept is part. let e : None ≡ Some kept = is in cc;
  live = λ name kept is part. let e : None ≡ Some kept = is in cc;
  sound = λ g at. tt;
  plain = tt;
}

-- what is so of each that is kept
pub each_bound : (P : Kept → Type 0) (before : StateView) (name : Name) (kept : Kept) (after : StateView) → EachKept P before
    → Binds before name kept after → P kept → EachKept P after
each_bound P before name kept after all bound one = λ other found is. by other found is (bytes_eq other name) refl
  where
    by : (other : Name) (found : Kept) → kept_of after other ≡ Some found → (b : Bool) → bytes_eq other name ≡ b → P found
    by other found is true same =
        let there : kept_of after other ≡ Some kept = ap (kept_of after) ((bytes_eq-Decides other name).0 same) ∙ bound.named in
        subst P (some_same kept found (sym there ∙ is)) one
    by other found is false apart =
        all other found (sym (bound.others other (λ e. false≢true (sym apart ∙ (bytes_eq-Decides other name).1 e))) ∙ is)

pub fits_bound : (limit : ℤ) (before : StateView) (name : Name) (kept : Kept) (after : StateView) → Fits limit before
    → Binds before name kept after → ((part : ListPart) → HasNumbersUpTo (unsigned_abs limit) (value_at part kept))
    → IsKeptLive before.assumed kept → Fits limit after
fits_bound limit before name kept after fits bound small live = record {
  numbers = each_bound (λ k. (part : ListPart) → HasNumbersUpTo (unsigned_abs limit) (value_at part k)) before name kept after fits.numbers
      bound small;
  live = subst (λ (assumed : Assumed). EachKept (IsKeptLive assumed) after) (sym bound.assumed)
      (each_bound (IsKeptLive before.assumed) before name kept after fits.live bound live);
  sound = λ g at. subst (IsSound g) (sym bound.assumed) (fits.sound g at);
  plain = subst IsPlain (sym bound.assumed) fits.plain;
}

-- ---- behind calls that use units
pub fits_later : (g h : Gauge) (state : StateView) → IsCharged g h → Fits (limit_of g) state → Fits (limit_of h) state
fits_later g h state charged fits = subst (λ (z : ℤ). Fits z state) (sym (same_limit g h charged)) fits

pub numbers_later : (g h : Gauge) (value : KeptValue) → IsCharged g h → HasNumbersUpTo (unsigned_abs (limit_of g)) value
    → HasNumbersUpTo (unsigned_abs (limit_of h)) value
numbers_later g h value charged small = subst (λ (z : ℤ). HasNumbersUpTo (unsigned_abs z) value) (sym (same_limit g h charged)) small

-- of a value that a call gets by reference
pub numbers_of : (g h : Gauge) (value one : KeptValue) → IsCharged g h → one ≡ value → HasNumbersUpTo (unsigned_abs (limit_of g)) value
    → HasNumbersUpTo (unsigned_abs (limit_of h)) one
numbers_of g h value one charged same small =
    subst (HasNumbersUpTo (unsigned_abs (limit_of h))) (sym same) (numbers_later g h value charged small)
