-- What is left of all that is bound, entry by entry.
use Rattle.std.proofs.Common.{◌≡◌, ◌∙◌, ◌+◌, ◌-◌, ℤ, Bool, true, false, cond, List, [], ◌∷◌, ◌++◌}
use Rattle.std.proofs.Common.{map, Some, None, refl, sym, ap, ap₂, subst}
use Rattle.std.specs.Prelude.{unsigned_abs}
use Rattle.std.specs.List.{All, AllByRecursion, IsDistinct}
use Rattle.std.specs.Map.{lookup}
use Rattle.std.specs.Str.{bytes_eq}
use Rattle.std.proofs.lemmas.Bool.{false≢true}
use Rattle.std.proofs.lemmas.Slice.Eq.{bytes_eq-Decides}
use Rattle.std.proofs.lemmas.List.Elements.{All-cons, All-head, All-nil, All-tail}
use Rattle.indexmap.specs.IndexMap.{IndexMap, insert_entry}
use Rattle.indexmap.proofs.CallerLemmas.{insert_entry-new}
use Rattle.isl_meter.specs.Gauge.{Gauge, limit_of, IsCharged}
use Rattle.isl_meter.proofs.CutLemmas.{IsCharged_trans}
use Rattle.isl_space.specs.Name.{Name}
use Rattle.isl_assumed.specs.declared.assumed.Assumed.{Assumed}
use Rattle.isl_kinds.specs.Typed.{TypeView, is_dollar}
use Rattle.isl_state.specs.declared.list.ListPart.{ListPart}
use Rattle.isl_state.specs.declared.list.ListPart.TheVariants.{First}
use Rattle.isl_state.specs.State.{Kept, type_of, value_at, AreLeftOf, HasNumbersUpTo, IsLeftOf}
use Rattle.isl_outcome.proofs.PaidLaws.{same_limit}

abbrev Entries : Type 0
Entries = List (Name × Kept)

module _ (assumed : Assumed) where
  -- ---- one after another
  pub left_more : (entries left : Entries) (name : Name) (kept one : Kept) → AreLeftOf assumed entries left → IsLeftOf assumed kept one
      → AreLeftOf assumed (entries ++ (name, kept) ∷ []) (left ++ (name, one) ∷ [])
  left_more [] left name kept one are is = (one, [], ap (λ (l : Entries). l ++ (name, one) ∷ []) are, is, refl)
  left_more (entry ∷ entries) left name kept one are is =
      let rest = are.1 in (
        are.0,
        rest ++ (name, one) ∷ [],
        ap (λ (l : Entries). l ++ (name, one) ∷ []) are.2,
        are.3,
        left_more entries rest name kept one are.4 is,
      )

  abbrev Other : Name → Name × Kept → Type 0
  Other name entry = bytes_eq name entry.0 ≡ false

  pub left_absent : (name : Name) (entries left : Entries) → AreLeftOf assumed entries left → All (Other name) entries
      → lookup (bytes_eq name) left ≡ None
  left_absent name [] left are others = ap (lookup (bytes_eq name)) are
  left_absent name (entry ∷ entries) left are others =
      let apart = All-head (Other name) entry entries others in
      ap (lookup (bytes_eq name)) are.2
      ∙ ap (λ (b : Bool). cond b (Some are.0) (lookup (bytes_eq name) are.1)) apart
      ∙ left_absent name entries are.1 are.4 (All-tail (Other name) entry entries others)

  -- ---- what is left
  -- what a name stood for, where it is or is not the first one
  abbrev Stood : Name → Kept → Kept → Entries → Bool → Type 0
  Stood name found first entries b =
      (kept : Kept) × (cond b (Some first) (lookup (bytes_eq name) entries) ≡ Some kept) × IsLeftOf assumed kept found

  pub left_lookup : (name : Name) (found : Kept) (entries left : Entries) → AreLeftOf assumed entries left
      → lookup (bytes_eq name) left ≡ Some found
      → (kept : Kept) × (lookup (bytes_eq name) entries ≡ Some kept) × IsLeftOf assumed kept found
  left_lookup name found [] left are is = absurd (let no : None ≡ Some found = sym (ap (lookup (bytes_eq name)) are) ∙ is in cc)
  left_lookup name found (entry ∷ entries) left are is =
      by (left_lookup name found entries are.1 are.4) (bytes_eq name entry.0) refl (sym (ap (lookup (bytes_eq name)) are.2) ∙ is)
    where
      same_kept : (a b : Kept) → Some a ≡ Some b → a ≡ b
      same_kept a b e = cc

      by : (lookup (bytes_eq name) are.1 ≡ Some found
          → (kept : Kept) × (lookup (bytes_eq name) entries ≡ Some kept) × IsLeftOf assumed kept found)
          → (b : Bool) → bytes_eq name entry.0 ≡ b → cond (bytes_eq name entry.0) (Some are.0) (lookup (bytes_eq name) are.1) ≡ Some found
          → Stood name found entry.1 entries (bytes_eq name entry.0)
      by later true here there =
          subst (Stood name found entry.1 entries) (sym here) (
            entry.1,
            refl,
            subst (IsLeftOf assumed entry.1)
                (same_kept are.0 found (sym (ap (λ (b : Bool). cond b (Some are.0) (lookup (bytes_eq name) are.1)) here) ∙ there)) are.3,
          )
      by later false here there =
          subst (Stood name found entry.1 entries) (sym here) (later
          (sym (ap (λ (b : Bool). cond b (Some are.0) (lookup (bytes_eq name) are.1)) here) ∙ there))

  pub left_type : (kept left : Kept) → IsLeftOf assumed kept left → type_of left ≡ type_of kept
  left_type kept left is = typed is.kind (is.values First).params
    where
      typed : left.kind ≡ kept.kind → left.value.params ≡ kept.value.params → type_of left ≡ type_of kept
      typed kind params = cc

  abbrev types : Entries → List (Name × TypeView)
  types = map (λ entry. (entry.0, type_of entry.1))

  pub left_types : (entries left : Entries) → AreLeftOf assumed entries left → types left ≡ types entries
  left_types [] left are = ap types are
  left_types (entry ∷ entries) left are =
      ap types are.2
      ∙ ap₂ (λ (t : TypeView) (ts : List (Name × TypeView)). (entry.0, t) ∷ ts) (left_type entry.1 are.0 are.3)
      (left_types entries are.1 are.4)

  abbrev IsNamed : Name × Kept → Type 0
  IsNamed entry = is_dollar entry.0 ≡ false

  pub left_settled : (entries left : Entries) → AreLeftOf assumed entries left → All IsNamed entries → All IsNamed left
  left_settled [] left are all = subst (All IsNamed) (sym are) (All-nil IsNamed)
  left_settled (entry ∷ entries) left are all =
      subst (All IsNamed) (sym are.2)
      (All-cons IsNamed (entry.0, are.0) are.1 (All-head IsNamed entry entries all)
      (left_settled entries are.1 are.4 (All-tail IsNamed entry entries all)))

-- ---- a loop over what is bound
abbrev pub name_of : Name × Kept → Name
name_of entry = entry.0

turned : (name other : Name) → bytes_eq other name ≡ false → bytes_eq name other ≡ false
turned name other apart = by (bytes_eq name other) refl
  where
    by : (b : Bool) → bytes_eq name other ≡ b → b ≡ false
    by false is = refl
    by true is =
        absurd (false≢true (sym apart ∙ (bytes_eq-Decides other name).1 (sym ((bytes_eq-Decides name other).0 is))))

-- one entry, those before it and those behind it
named_in : (P : Name → Type 0) (done rest : Entries) (entry : Name × Kept) → AllByRecursion P (map name_of (done ++ entry ∷ rest))
    → P entry.0
named_in P [] rest entry all = all.0
named_in P (first ∷ done) rest entry all = named_in P done rest entry all.1

-- the names before it are others
others_done : (done rest : Entries) (entry : Name × Kept) → IsDistinct bytes_eq (map name_of (done ++ entry ∷ rest))
    → All (λ e. bytes_eq entry.0 e.0 ≡ false) done
unfolding IsDistinct
others_done [] rest entry distinct = All-nil (λ e. bytes_eq entry.0 e.0 ≡ false)
others_done (first ∷ done) rest entry distinct =
    All-cons (λ e. bytes_eq entry.0 e.0 ≡ false) first done
    (turned entry.0 first.0 (named_in (λ n. bytes_eq first.0 n ≡ false) done rest entry distinct.0))
    (others_done done rest entry distinct.1)

each_in : (P : Name × Kept → Type 0) (done rest : Entries) (entry : Name × Kept) → All P (done ++ entry ∷ rest) → P entry
each_in P [] rest entry all = All-head P entry rest all
each_in P (first ∷ done) rest entry all = each_in P done rest entry (All-tail P first (done ++ entry ∷ rest) all)

nothing_behind : (done : Entries) → done ++ [] ≡ done
nothing_behind [] = refl
nothing_behind (first ∷ done) = ap (λ (l : Entries). first ∷ l) (nothing_behind done)

one_further : (done rest : Entries) (entry : Name × Kept) → done ++ entry ∷ rest ≡ (done ++ entry ∷ []) ++ rest
one_further [] rest entry = refl
one_further (first ∷ done) rest entry = ap (λ (l : Entries). first ∷ l) (one_further done rest entry)

-- what is left of those that were passed, and units alone were used
pub record IsLeftSoFar (assumed : Assumed) (g h : Gauge) (bound rest left : Entries) : Type 0 where
  pub done : Entries
  pub split : bound ≡ done ++ rest
  pub are : AreLeftOf assumed done left
  pub charged : IsCharged g h

module _ (assumed : Assumed) (g h : Gauge) (bound : Entries) where
  pub left_all : (left : Entries) → IsLeftSoFar assumed g h bound [] left → AreLeftOf assumed bound left
  left_all left so_far =
      subst (λ (l : Entries). AreLeftOf assumed l left) (sym (so_far.split ∙ nothing_behind so_far.done)) so_far.are

  module _ (entry : Name × Kept) (iterator rest left : Entries) (steps : iterator ≡ entry ∷ rest)
      (so_far : IsLeftSoFar assumed g h bound iterator left) where
    split_next : bound ≡ so_far.done ++ entry ∷ rest
    split_next = so_far.split ∙ ap (λ (l : Entries). so_far.done ++ l) steps

    pub numbers_next : All (λ e. (part : ListPart) → HasNumbersUpTo (unsigned_abs (limit_of g)) (value_at part e.1)) bound
        → (part : ListPart) → HasNumbersUpTo (unsigned_abs (limit_of h)) (value_at part entry.1)
    numbers_next all =
        subst (λ (z : ℤ). (part : ListPart) → HasNumbersUpTo (unsigned_abs z) (value_at part entry.1))
        (sym (same_limit g h so_far.charged))
        (each_in (λ e. (part : ListPart) → HasNumbersUpTo (unsigned_abs (limit_of g)) (value_at part e.1)) so_far.done rest entry
        (subst (All (λ e. (part : ListPart) → HasNumbersUpTo (unsigned_abs (limit_of g)) (value_at part e.1))) split_next all))

    module _ (distinct : IsDistinct bytes_eq (map name_of bound)) where
      absent_next : lookup (bytes_eq entry.0) left ≡ None
      absent_next =
          left_absent assumed entry.0 so_far.done left so_far.are
          (others_done so_far.done rest entry (subst (λ (l : Entries). IsDistinct bytes_eq (map name_of l)) split_next distinct))

      pub left_next : {S : Type 0} (k : Gauge) (room : IndexMap Name Kept S) (name : Name) (one : Kept) (after : Entries)
          → room.entries ≡ left → name ≡ entry.0 → after ≡ insert_entry bytes_eq room.entries name one
          → IsLeftOf assumed entry.1 one → IsCharged h k → IsLeftSoFar assumed g k bound rest after
      left_next k room name one after same named inserted is charged = record {
        done = so_far.done ++ entry ∷ [];
        split = split_next ∙ one_further so_far.done rest entry;
        are = subst (AreLeftOf assumed (so_far.done ++ entry ∷ [])) (sym last)
            (left_more assumed so_far.done left entry.0 entry.1 one so_far.are is);
        charged = IsCharged_trans g h k so_far.charged charged;
      }
        where
          absent : lookup (bytes_eq name) room.entries ≡ None
          absent =
              subst (λ (l : Entries). lookup (bytes_eq name) l ≡ None) (sym same)
              (subst (λ (n : Name). lookup (bytes_eq n) left ≡ None) (sym named) absent_next)

          last : after ≡ left ++ (entry.0, one) ∷ []
          last =
              inserted ∙ insert_entry-new bytes_eq room name one absent
              ∙ ap₂ (λ (l : Entries) (n : Name). l ++ (n, one) ∷ []) same named

-- ---- what each name stands for has, each entry has
apart_found : (name other : Name) (kept : Kept) (entries : Entries) → AllByRecursion (λ n. bytes_eq other n ≡ false) (map name_of entries)
    → lookup (bytes_eq name) entries ≡ Some kept → bytes_eq name other ≡ false
apart_found name other kept [] apart found = absurd (let no : None ≡ Some kept = found in cc)
apart_found name other kept (entry ∷ entries) apart found =
    by (apart_found name other kept entries apart.1) (bytes_eq name entry.0) refl
  where
    by : (lookup (bytes_eq name) entries ≡ Some kept → bytes_eq name other ≡ false) → (b : Bool) → bytes_eq name entry.0 ≡ b
        → bytes_eq name other ≡ false
    by later true is =
        turned name other (subst (λ (n : Name). bytes_eq other n ≡ false) (sym ((bytes_eq-Decides name entry.0).0 is)) apart.0)
    by later false is = later (sym (ap (λ (b : Bool). cond b (Some entry.1) (lookup (bytes_eq name) entries)) is) ∙ found)

pub every_entry : (P : Kept → Type 0) (entries : Entries) → IsDistinct bytes_eq (map name_of entries)
    → ((name : Name) (kept : Kept) → lookup (bytes_eq name) entries ≡ Some kept → P kept) → All (λ entry. P entry.1) entries
unfolding IsDistinct
every_entry P [] distinct each = All-nil (λ entry. P entry.1)
every_entry P (first ∷ entries) distinct each =
    All-cons (λ entry. P entry.1) first entries
    (each first.0 first.1
    (ap (λ (b : Bool). cond b (Some first.1) (lookup (bytes_eq first.0) entries)) ((bytes_eq-Decides first.0 first.0).1 refl)))
    (every_entry P entries distinct.1 (λ name kept found. each name kept
    (ap (λ (b : Bool). cond b (Some first.1) (lookup (bytes_eq name) entries)) (apart_found name first.0 kept entries distinct.0 found)
    ∙ found)))
