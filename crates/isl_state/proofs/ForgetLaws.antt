-- What is forgotten: the names that no script has.
use Rattle.std.proofs.Common.{◌≡◌, ◌∙◌, refl, sym, ap, subst, ℤ, Bool, true, false, cond, not, filter, List, [], ◌∷◌, map, Some, None}
use Rattle.std.specs.Prelude.{if◌then◌else◌, unsigned_abs}
use Rattle.std.specs.List.{All}
use Rattle.std.specs.Map.{lookup}
use Rattle.std.specs.Str.{bytes_eq}
use Rattle.std.proofs.lemmas.Bool.{false≢true}
use Rattle.std.proofs.lemmas.List.Elements.{All-nil, All-cons, All-head, All-tail}
use Rattle.std.proofs.lemmas.Slice.Eq.{bytes_eq-Decides}
use Rattle.indexmap.specs.IndexMap.{insert_entry}
use Rattle.isl_space.specs.Name.{Name}
use Rattle.isl_kinds.specs.Typed.{TypeView, ScopeView, is_dollar}
use Rattle.isl_assumed.specs.declared.assumed.Assumed.{Assumed}
use Rattle.isl_state.specs.declared.list.ListPart.{ListPart}
use Rattle.isl_state.specs.State.{Kept, StateView, kept_of, type_of, forgotten, value_at, EachKept, Fits, HasNumbersUpTo}
use Rattle.isl_state.specs.State.{IsKeptLive, IsSettled}

abbrev Entries : Type 0
Entries = List (Name × Kept)

-- an entry before others, unless its name is one that no script has
abbrev before : {X : Type 0} → Bool → X → List X → List X
before dollar entry entries = cond (not dollar) (entry ∷ entries) entries

abbrev plain : Entries → Entries
plain entries = filter (λ entry. not (is_dollar entry.0)) entries

abbrev IsPlain : Name × Kept → Type 0
IsPlain entry = is_dollar entry.0 ≡ false

abbrev types : Name × Kept → Name × TypeView
types entry = (entry.0, type_of entry.1)

-- ---- lists
same_dollar : (name other : Name) → bytes_eq name other ≡ true → is_dollar other ≡ is_dollar name
same_dollar name other is = ap is_dollar (sym ((bytes_eq-Decides name other).0 is))

module _ (name : Name) (kept : Kept) where
  dollar_gone : is_dollar name ≡ true → (entries : Entries) → plain (insert_entry bytes_eq entries name kept) ≡ plain entries
  dollar_gone dollar [] = ap (λ (d : Bool). before d (name, kept) []) dollar
  dollar_gone dollar (entry ∷ entries) = by (bytes_eq name entry.0) refl (dollar_gone dollar entries)
    where
      by : (b : Bool) → bytes_eq name entry.0 ≡ b → plain (insert_entry bytes_eq entries name kept) ≡ plain entries
          → plain (if b then (entry.0, kept) ∷ entries else entry ∷ insert_entry bytes_eq entries name kept) ≡ plain (entry ∷ entries)
      by true is more =
          let gone : is_dollar entry.0 ≡ true = same_dollar name entry.0 is ∙ dollar in
          ap (λ (d : Bool). before d (entry.0, kept) (plain entries)) gone ∙ sym (ap (λ (d : Bool). before d entry (plain entries)) gone)
      by false is more = ap (before (is_dollar entry.0) entry) more

  plain_stays : is_dollar name ≡ false → (entries : Entries)
      → plain (insert_entry bytes_eq entries name kept) ≡ insert_entry bytes_eq (plain entries) name kept
  plain_stays stays [] = ap (λ (d : Bool). before d (name, kept) []) stays
  plain_stays stays (entry ∷ entries) = by (bytes_eq name entry.0) refl (is_dollar entry.0) refl (plain_stays stays entries)
    where
      others : Entries
      others = insert_entry bytes_eq entries name kept

      behind : (d : Bool) → is_dollar entry.0 ≡ d
          → insert_entry bytes_eq (plain (entry ∷ entries)) name kept ≡ insert_entry bytes_eq (before d entry (plain entries)) name kept
      behind d is = ap (λ (e : Bool). insert_entry bytes_eq (before e entry (plain entries)) name kept) is

      at_entry : (b : Bool) → bytes_eq name entry.0 ≡ b → insert_entry bytes_eq (entry ∷ plain entries) name kept
          ≡ (if b then (entry.0, kept) ∷ plain entries else entry ∷ insert_entry bytes_eq (plain entries) name kept)
      at_entry b is =
          ap (λ (c : Bool). if c then (entry.0, kept) ∷ plain entries else entry ∷ insert_entry bytes_eq (plain entries) name kept) is

      by : (b : Bool) → bytes_eq name entry.0 ≡ b → (d : Bool) → is_dollar entry.0 ≡ d
          → plain others ≡ insert_entry bytes_eq (plain entries) name kept
          → plain (if b then (entry.0, kept) ∷ entries else entry ∷ others) ≡ insert_entry bytes_eq (plain (entry ∷ entries)) name kept
      by true is d also more =
          let here : is_dollar entry.0 ≡ false = same_dollar name entry.0 is ∙ stays in
          ap (λ (e : Bool). before e (entry.0, kept) (plain entries)) here ∙ sym (behind false here ∙ at_entry true is)
      by false is true also more = ap (λ (e : Bool). before e entry (plain others)) also ∙ more ∙ sym (behind true also)
      by false is false also more =
          ap (λ (e : Bool). before e entry (plain others)) also ∙ ap (λ (es : Entries). entry ∷ es) more
          ∙ sym (behind false also ∙ at_entry false is)

plain_itself : (entries : Entries) → All IsPlain entries → plain entries ≡ entries
plain_itself [] all = refl
plain_itself (entry ∷ entries) all =
    ap (λ (d : Bool). before d entry (plain entries)) (All-head IsPlain entry entries all)
    ∙ ap (λ (es : Entries). entry ∷ es) (plain_itself entries (All-tail IsPlain entry entries all))

all_plain : (entries : Entries) → All IsPlain (plain entries)
all_plain [] = All-nil IsPlain
all_plain (entry ∷ entries) = by (is_dollar entry.0) refl (all_plain entries)
  where
    by : (d : Bool) → is_dollar entry.0 ≡ d → All IsPlain (plain entries) → All IsPlain (before d entry (plain entries))
    by true is all = all
    by false is all = All-cons IsPlain entry (plain entries) is all

lookup_plain : (name : Name) → is_dollar name ≡ false → (entries : Entries)
    → lookup (bytes_eq name) (plain entries) ≡ lookup (bytes_eq name) entries
lookup_plain name stays [] = refl
lookup_plain name stays (entry ∷ entries) = by (is_dollar entry.0) refl (bytes_eq name entry.0) refl (lookup_plain name stays entries)
  where
    by : (d : Bool) → is_dollar entry.0 ≡ d → (b : Bool) → bytes_eq name entry.0 ≡ b
        → lookup (bytes_eq name) (plain entries) ≡ lookup (bytes_eq name) entries
        → lookup (bytes_eq name) (before d entry (plain entries)) ≡ cond b (Some entry.1) (lookup (bytes_eq name) entries)
    by true is true also more = absurd (false≢true (sym stays ∙ sym (same_dollar name entry.0 also) ∙ is))
    by true is false also more = more
    by false is b also more =
        ap (λ (c : Bool). cond c (Some entry.1) (lookup (bytes_eq name) (plain entries))) also ∙ ap (cond b (Some entry.1)) more

lookup_dollar : (name : Name) → is_dollar name ≡ true → (entries : Entries) → lookup (bytes_eq name) (plain entries) ≡ None
lookup_dollar name dollar [] = refl
lookup_dollar name dollar (entry ∷ entries) = by (is_dollar entry.0) refl (bytes_eq name entry.0) refl (lookup_dollar name dollar entries)
  where
    by : (d : Bool) → is_dollar entry.0 ≡ d → (b : Bool) → bytes_eq name entry.0 ≡ b → lookup (bytes_eq name) (plain entries) ≡ None
        → lookup (bytes_eq name) (before d entry (plain entries)) ≡ None
    by true is b also more = more
    by false is true also more = absurd (false≢true (sym is ∙ same_dollar name entry.0 also ∙ dollar))
    by false is false also more = ap (λ (c : Bool). cond c (Some entry.1) (lookup (bytes_eq name) (plain entries))) also ∙ more

plain_types : (entries : Entries) → map types (plain entries) ≡ filter (λ entry. not (is_dollar entry.0)) (map types entries)
plain_types [] = refl
plain_types (entry ∷ entries) = by (is_dollar entry.0) (plain_types entries)
  where
    by : (d : Bool) → map types (plain entries) ≡ filter (λ entry. not (is_dollar entry.0)) (map types entries)
        → map types (before d entry (plain entries)) ≡ before d (types entry)
        (filter (λ entry. not (is_dollar entry.0)) (map types entries))
    by true more = more
    by false more = ap (λ (es : List (Name × TypeView)). types entry ∷ es) more

-- ---- the types when names are forgotten
pub forget_scope : (scope next : ScopeView) (entries after : List (Name × Kept)) → scope ≡ map (λ entry. (entry.0, type_of entry.1)) entries
    → next ≡ filter (λ entry. not (is_dollar entry.0)) scope → after ≡ filter (λ entry. not (is_dollar entry.0)) entries
    → next ≡ map (λ entry. (entry.0, type_of entry.1)) after
forget_scope scope next entries after was forgets is =
    forgets ∙ ap (filter (λ (entry : Name × TypeView). not (is_dollar entry.0))) was ∙ sym (plain_types entries) ∙ ap (map types) (sym is)

-- ---- what is bound when names are forgotten
abbrev of_entries : Assumed → Entries → StateView
of_entries assumed entries = record { bound = entries; assumed = assumed }

pub forgotten_itself : (state : StateView) → IsSettled state → forgotten state ≡ state
forgotten_itself state settled = ap (of_entries state.assumed) (plain_itself state.bound settled)

pub forgotten_settled : (state : StateView) → IsSettled (forgotten state)
forgotten_settled state = all_plain state.bound

-- what was bound to a name that no script has is not there any more
pub forgotten_dollar : (old new : StateView) (name : Name) (kept : Kept) → is_dollar name ≡ true
    → new.bound ≡ insert_entry bytes_eq old.bound name kept → new.assumed ≡ old.assumed
    → forgotten new ≡ forgotten old
forgotten_dollar old new name kept dollar is same = with_both (ap plain is ∙ dollar_gone name kept dollar old.bound) same
  where
    with_both : plain new.bound ≡ plain old.bound → new.assumed ≡ old.assumed → forgotten new ≡ forgotten old
    with_both entries assumed = cc

-- what was bound to another name is
pub forgotten_plain : (old new : StateView) (name : Name) (kept : Kept) → is_dollar name ≡ false
    → new.bound ≡ insert_entry bytes_eq old.bound name kept
    → (forgotten new).bound ≡ insert_entry bytes_eq (forgotten old).bound name kept
forgotten_plain old new name kept stays is = ap plain is ∙ plain_stays name kept stays old.bound

pub settled_bound : (old new : StateView) (name : Name) (kept : Kept) → is_dollar name ≡ false
    → new.bound ≡ insert_entry bytes_eq old.bound name kept
    → IsSettled old → IsSettled new
settled_bound old new name kept stays is settled =
    subst (All IsPlain)
    (forgotten_plain old new name kept stays is ∙ ap (λ (s : StateView). insert_entry bytes_eq s.bound name kept)
    (forgotten_itself old settled) ∙ sym is)
    (forgotten_settled new)

pub kept_of_forgotten : (state : StateView) (name : Name) → is_dollar name ≡ false → kept_of (forgotten state) name ≡ kept_of state name
kept_of_forgotten state name stays = lookup_plain name stays state.bound

pub kept_of_dollar : (state : StateView) (name : Name) → is_dollar name ≡ true → kept_of (forgotten state) name ≡ None
kept_of_dollar state name dollar = lookup_dollar name dollar state.bound

-- ---- numbers, and live pieces
pub each_forgotten : (P : Kept → Type 0) (state : StateView) → EachKept P state → EachKept P (forgotten state)
each_forgotten P state all = λ name kept is. all name kept (by name kept is (is_dollar name) refl)
  where
    by : (name : Name) (kept : Kept) → kept_of (forgotten state) name ≡ Some kept → (d : Bool) → is_dollar name ≡ d
        → kept_of state name ≡ Some kept
    by name kept is true dollar = let none : None ≡ Some kept = sym (kept_of_dollar state name dollar) ∙ is in cc
    by name kept is false stays = sym (kept_of_forgotten state name stays) ∙ is

pub fits_forgotten : (limit : ℤ) (state : StateView) → Fits limit state → Fits limit (forgotten state)
fits_forgotten limit state fits = record {
  numbers = each_forgotten (λ k. (part : ListPart) → HasNumbersUpTo (unsigned_abs limit) (value_at part k)) state fits.numbers;
  live = each_forgotten (IsKeptLive state.assumed) state fits.live;
  sound = fits.sound;
  plain = fits.plain;
}
