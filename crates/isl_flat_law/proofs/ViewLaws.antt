-- Kinds and declared parameters depend on what the names in an expression are bound to, and on nothing else.
use mathlib.Core.Former.{Count}
use Rattle.std.proofs.Common.{◌≡◌, ◌≢◌, ◌∙◌, ◌<◌, ◌≤◌, ◌^◌, ℕ, pos, true, false, List, [], ◌∷◌, ◌++◌, Option, Some, None, refl, ap, arith}
use Rattle.std.specs.Prelude.{not, is_some, int_lt}
use Rattle.std.specs.Option.{option_map, option_and_then}
use Rattle.isl_space.specs.Name.{Name}
use Rattle.isl_tree.specs.Known.{literal_is_known}
use Rattle.isl_tree.specs.declared.statement.ValueKind.{ValueKind}
use Rattle.isl_tree.specs.declared.statement.ValueKind.TheVariants.{Map, List as Pair}
use Rattle.isl_tree.specs.declared.statement.Link.{Link}
use Rattle.isl_tree.specs.declared.statement.Postfix.{Postfix, Inverse, Apply, Item}
use Rattle.isl_tree.specs.declared.statement.Expr as e
use Rattle.isl_tree.specs.declared.statement.Expr.{Expr, Row', Prefix', Any', Last', Post', Row_of-Expr, end_of-Expr, more_of-Expr}
use Rattle.isl_tree.specs.declared.statement.Expr.{Row_of-Link, end_of-Link, more_of-Link, Row_of-Postfix, end_of-Postfix, more_of-Postfix}
use Rattle.isl_kinds.specs.Lines.{joined, applied, prefixed, inverse, item, dependence}
use Rattle.isl_kinds.specs.Parts.{Part, parts_of, parts_in, parts_in_links, parts_in_postfixes, parts_of_postfix, parts_of_links}
use Rattle.isl_kinds.specs.Parts.{parts_of_postfixes}
use Rattle.isl_kinds.specs.Parts as part
use Rattle.isl_kinds.specs.Typed.{ScopeView, TypeView, bound_to, kind_of, kind_in, kind_past_links, kind_past_postfixes, kind_past}
use Rattle.isl_kinds.specs.Typed.{kind_of_row, kind_of_post, by_two, by_three, declared_of, declared_in, declared_past_links}
use Rattle.isl_kinds.specs.Typed.{declared_past_postfixes, declared_past, declared_of_row, declared_of_post, joined_names, params_of}
use Rattle.isl_kinds.specs.Typed.{has_unknown, has_no_item, is_unknown, is_no_item}
use Rattle.isl_flat.specs.Flat.{dollar}
use Rattle.isl_flat_law.proofs.EachLaws.{Each, each_weaker, each_zip, quiet_each, each_both, each_left, each_right}
use Rattle.isl_flat_law.proofs.SimpleLaws.{dollar_injective}

-- ---- parts that mean what they meant

-- it is no dollar name behind this number, of those that are told apart
abbrev pub IsLow : ℕ → Name → Type 0
IsLow k name = (i : ℕ) → k < i → i < 2 ^ 64 → name ≢ dollar i

-- identifiers are known, elements are there, and no dollar name behind this number stands there
abbrev pub IsClear : ℕ → Part → Type 0
IsClear k (part.name n) = IsLow k n
IsClear k (part.literal l) = literal_is_known l ≡ true
IsClear k (part.item i) = int_lt (pos 1) i ≡ false
IsClear k _ = Unit {0}

pub clear_up : (j k : ℕ) (p : Part) → j ≤ k → IsClear j p → IsClear k p
clear_up j k (part.name n) low clear = λ i behind small. clear i (omega (arith, low, behind)) small
clear_up j k (part.literal l) low clear = clear
clear_up j k (part.item i) low clear = clear
clear_up j k _ low clear = tt

pub clear_dollar : (k : ℕ) → IsClear k (part.name (dollar k))
clear_dollar k = λ i behind small same.
    let is = dollar_injective k i (omega (arith, behind, small)) small same in absurd (omega (arith, behind, is))

pub clear_blank : IsClear 0 (part.name [])
clear_blank = λ i behind small same. cc

-- the names that are no dollar names behind this number are bound as before
abbrev pub Agree : ℕ → ScopeView → ScopeView → Type 0
Agree k before later = (name : Name) → IsLow k name → bound_to later name ≡ bound_to before name

-- ---- an expression is of the same kind, and declares the same

by_three_same : (made : ValueKind) (a b c p q r : Option ValueKind) → a ≡ p → b ≡ q → c ≡ r → by_three made a b c ≡ by_three made p q r
by_three_same made a b c p q r first second third =
    ap (λ (o : Option ValueKind). by_three made o b c) first ∙ ap (λ (o : Option ValueKind). by_three made p o c) second
    ∙ ap (by_three made p q) third

joined_same : (a b c p q r : List Name) → a ≡ p → b ≡ q → c ≡ r → joined_names (joined_names a b) c ≡ joined_names (joined_names p q) r
joined_same a b c p q r first second third =
    ap (λ (ns : List Name). joined_names (joined_names ns b) c) first ∙ ap (λ (ns : List Name). joined_names (joined_names p ns) c) second
    ∙ ap (joined_names (joined_names p q)) third

module _ (k : ℕ) (before later : ScopeView) (agree : Agree k before later) where
  mutual
    pub same : (expr : Expr) → Each (IsClear k) (parts_of expr)
        → (kind_of later expr ≡ kind_of before expr) × (declared_of later expr ≡ declared_of before expr)
    same (e.Name name) clear =
        let is = agree name clear.0 in (ap (option_map (λ (t : TypeView). t.kind)) is, ap params_of is)
    same (e.Literal literal) clear = (refl, refl)
    same (Row' s first t links) clear =
        let one = same_in _ first (each_left (IsClear k) (parts_in first) (parts_in_links links) clear) in
        let more = same_links _ (kind_in before first) (declared_in before first) links
        (each_right (IsClear k) (parts_in first) (parts_in_links links) clear) in (
          ap (λ (o : Option ValueKind). kind_past_links later o links) one.0 ∙ more.0,
          ap (λ (ns : List Name). declared_past_links later ns links) one.1 ∙ more.1,
        )
    same (Prefix' word s operand) clear =
        let one = same_in _ operand clear.1 in (ap (option_and_then (prefixed word)) one.0, one.1)
    same (Any' r source s sink t schedule) clear =
        let behind = each_right (IsClear k) (parts_in source) (parts_in sink ++ parts_in schedule) clear.1 in
        let one = same_in _ source (each_left (IsClear k) (parts_in source) (parts_in sink ++ parts_in schedule) clear.1) in
        let two = same_in _ sink (each_left (IsClear k) (parts_in sink) (parts_in schedule) behind) in
        let three = same_in _ schedule (each_right (IsClear k) (parts_in sink) (parts_in schedule) behind) in (
          by_three_same Map (kind_in later source) (kind_in later sink) (kind_in later schedule) (kind_in before source)
              (kind_in before sink) (kind_in before schedule) one.0 two.0 three.0,
          joined_same (declared_in later source) (declared_in later sink) (declared_in later schedule) (declared_in before source)
              (declared_in before sink) (declared_in before schedule) one.1 two.1 three.1,
        )
    same (Last' r source s sink t schedule) clear =
        let behind = each_right (IsClear k) (parts_in source) (parts_in sink ++ parts_in schedule) clear.1 in
        let one = same_in _ source (each_left (IsClear k) (parts_in source) (parts_in sink ++ parts_in schedule) clear.1) in
        let two = same_in _ sink (each_left (IsClear k) (parts_in sink) (parts_in schedule) behind) in
        let three = same_in _ schedule (each_right (IsClear k) (parts_in sink) (parts_in schedule) behind) in (
          by_three_same Pair (kind_in later source) (kind_in later sink) (kind_in later schedule) (kind_in before source)
              (kind_in before sink) (kind_in before schedule) one.0 two.0 three.0,
          joined_same (declared_in later source) (declared_in later sink) (declared_in later schedule) (declared_in before source)
              (declared_in before sink) (declared_in before schedule) one.1 two.1 three.1,
        )
    same (Post' s operand t postfixes) clear =
        let one = same_in _ operand (each_left (IsClear k) (parts_in operand) (parts_in_postfixes postfixes) clear) in
        let more = same_postfixes _ (kind_in before operand) (declared_in before operand) postfixes
        (each_right (IsClear k) (parts_in operand) (parts_in_postfixes postfixes) clear) in (
          ap (λ (o : Option ValueKind). kind_past_postfixes later o postfixes) one.0 ∙ more.0,
          ap (λ (ns : List Name). declared_past_postfixes later ns postfixes) one.1 ∙ more.1,
        )

    same_in : (m : Count) (row : Row_of-Expr m) → Each (IsClear k) (parts_in row)
        → (kind_in later row ≡ kind_in before row) × (declared_in later row ≡ declared_in before row)
    same_in m end_of-Expr clear = (refl, refl)
    same_in m (more_of-Expr expr rest) clear = same expr clear

    same_links : (m : Count) (left : Option ValueKind) (names : List Name) (row : Row_of-Link m) → Each (IsClear k) (parts_in_links row)
        → (kind_past_links later left row ≡ kind_past_links before left row)
        × (declared_past_links later names row ≡ declared_past_links before names row)
    same_links m left names end_of-Link clear = (refl, refl)
    same_links m left names (more_of-Link operator operand rest) clear =
        let one = same operand (each_left (IsClear k) (parts_of operand) (parts_in_links rest) clear.1) in
        let more = same_links _ (by_two (joined operator) left (kind_of before operand))
        (joined_names names (declared_of before operand)) rest
        (each_right (IsClear k) (parts_of operand) (parts_in_links rest) clear.1) in (
          ap (λ (o : Option ValueKind). kind_past_links later (by_two (joined operator) left o) rest) one.0 ∙ more.0,
          ap (λ (ns : List Name). declared_past_links later (joined_names names ns) rest) one.1 ∙ more.1,
        )

    same_postfixes : (m : Count) (left : Option ValueKind) (names : List Name) (row : Row_of-Postfix m)
        → Each (IsClear k) (parts_in_postfixes row)
        → (kind_past_postfixes later left row ≡ kind_past_postfixes before left row)
        × (declared_past_postfixes later names row ≡ declared_past_postfixes before names row)
    same_postfixes m left names end_of-Postfix clear = (refl, refl)
    same_postfixes m left names (more_of-Postfix postfix rest) clear =
        let one = same_postfix left names postfix (each_left (IsClear k) (parts_of_postfix postfix) (parts_in_postfixes rest) clear) in
        let more = same_postfixes _ (kind_past before left postfix) (declared_past before names postfix) rest
        (each_right (IsClear k) (parts_of_postfix postfix) (parts_in_postfixes rest) clear) in (
          ap (λ (o : Option ValueKind). kind_past_postfixes later o rest) one.0 ∙ more.0,
          ap (λ (ns : List Name). declared_past_postfixes later ns rest) one.1 ∙ more.1,
        )

    same_postfix : (left : Option ValueKind) (names : List Name) (postfix : Postfix) → Each (IsClear k) (parts_of_postfix postfix)
        → (kind_past later left postfix ≡ kind_past before left postfix)
        × (declared_past later names postfix ≡ declared_past before names postfix)
    same_postfix left names Inverse clear = (refl, refl)
    same_postfix left names (Apply argument) clear =
        let one = same argument clear.1 in (ap (by_two applied left) one.0, ap (joined_names names) one.1)
    same_postfix left names (Item number) clear = (refl, refl)

  -- the same of lists
  pub same_row : (left : Option ValueKind) (names : List Name) (links : List Link) → Each (IsClear k) (parts_of_links links)
      → (kind_of_row later left links ≡ kind_of_row before left links)
      × (declared_of_row later names links ≡ declared_of_row before names links)
  same_row left names [] clear = (refl, refl)
  same_row left names (link ∷ links) clear =
      let one = same link.operand (each_left (IsClear k) (parts_of link.operand) (parts_of_links links) clear.1) in
      let more = same_row (by_two (joined link.operator) left (kind_of before link.operand))
      (joined_names names (declared_of before link.operand)) links
      (each_right (IsClear k) (parts_of link.operand) (parts_of_links links) clear.1) in (
        ap (λ (o : Option ValueKind). kind_of_row later (by_two (joined link.operator) left o) links) one.0 ∙ more.0,
        ap (λ (ns : List Name). declared_of_row later (joined_names names ns) links) one.1 ∙ more.1,
      )

  pub same_post : (left : Option ValueKind) (names : List Name) (postfixes : List Postfix)
      → Each (IsClear k) (parts_of_postfixes postfixes)
      → (kind_of_post later left postfixes ≡ kind_of_post before left postfixes)
      × (declared_of_post later names postfixes ≡ declared_of_post before names postfixes)
  same_post left names [] clear = (refl, refl)
  same_post left names (postfix ∷ postfixes) clear =
      let one = same_postfix left names postfix (each_left (IsClear k) (parts_of_postfix postfix) (parts_of_postfixes postfixes) clear) in
      let more = same_post (kind_past before left postfix) (declared_past before names postfix) postfixes
      (each_right (IsClear k) (parts_of_postfix postfix) (parts_of_postfixes postfixes) clear) in (
        ap (λ (o : Option ValueKind). kind_of_post later o postfixes) one.0 ∙ more.0,
        ap (λ (ns : List Name). declared_of_post later ns postfixes) one.1 ∙ more.1,
      )

-- ---- what has a kind has operands that have one

pub no_kind : {T : Type 0} (k : ValueKind) → None ≡ Some k → T
no_kind k is = absurd cc

pub then_some : (f : ValueKind → Option ValueKind) (o : Option ValueKind) (k : ValueKind) → option_and_then f o ≡ Some k
    → (a : ValueKind) × (o ≡ Some a) × (f a ≡ Some k)
then_some f None k is = no_kind k is
then_some f (Some a) k is = (a, refl, is)

pub two_some : (line : ValueKind → ValueKind → Option ValueKind) (o p : Option ValueKind) (k : ValueKind) → by_two line o p ≡ Some k
    → (a : ValueKind) × (b : ValueKind) × (o ≡ Some a) × (p ≡ Some b) × (line a b ≡ Some k)
two_some line None p k is = no_kind k is
two_some line (Some a) None k is = no_kind k is
two_some line (Some a) (Some b) k is = (a, b, refl, refl, is)

pub three_some : (made : ValueKind) (o p q : Option ValueKind) (k : ValueKind) → by_three made o p q ≡ Some k
    → (a : ValueKind) × (b : ValueKind) × (c : ValueKind) × (o ≡ Some a) × (p ≡ Some b) × (q ≡ Some c) × (dependence made a b c ≡ Some k)
three_some made None p q k is = no_kind k is
three_some made (Some a) None q k is = no_kind k is
three_some made (Some a) (Some b) None k is = no_kind k is
three_some made (Some a) (Some b) (Some c) k is = (a, b, c, refl, refl, refl, is)

-- a name is bound
abbrev pub IsBound : ScopeView → Part → Type 0
IsBound scope (part.name n) = is_some (bound_to scope n) ≡ true
IsBound scope _ = Unit {0}

module _ (scope : ScopeView) where
  name_bound : (o : Option TypeView) (k : ValueKind) → option_map (λ (t : TypeView). t.kind) o ≡ Some k → is_some o ≡ true
  name_bound None k is = no_kind k is
  name_bound (Some t) k is = refl

  mutual
    pub bound : (expr : Expr) (k : ValueKind) → kind_of scope expr ≡ Some k → Each (IsBound scope) (parts_of expr)
    bound (e.Name name) k is = (name_bound (bound_to scope name) k is, tt)
    bound (e.Literal literal) k is = (tt, tt)
    bound (Row' s first t links) k is =
        let more = bound_links _ (kind_in scope first) links k is in
        each_both (IsBound scope) (parts_in first) (parts_in_links links) (bound_in _ first more.0 more.1) more.2
    bound (Prefix' word s operand) k is =
        let one = then_some (prefixed word) (kind_in scope operand) k is in (tt, bound_in _ operand one.0 one.1)
    bound (Any' r source s sink t schedule) k is =
        let all = three_some Map (kind_in scope source) (kind_in scope sink) (kind_in scope schedule) k is in (
          tt,
          each_both (IsBound scope) (parts_in source) (parts_in sink ++ parts_in schedule) (bound_in _ source all.0 all.3)
              (each_both (IsBound scope) (parts_in sink) (parts_in schedule) (bound_in _ sink all.1 all.4)
              (bound_in _ schedule all.2 all.5)),
        )
    bound (Last' r source s sink t schedule) k is =
        let all = three_some Pair (kind_in scope source) (kind_in scope sink) (kind_in scope schedule) k is in (
          tt,
          each_both (IsBound scope) (parts_in source) (parts_in sink ++ parts_in schedule) (bound_in _ source all.0 all.3)
              (each_both (IsBound scope) (parts_in sink) (parts_in schedule) (bound_in _ sink all.1 all.4)
              (bound_in _ schedule all.2 all.5)),
        )
    bound (Post' s operand t postfixes) k is =
        let more = bound_postfixes _ (kind_in scope operand) postfixes k is in
        each_both (IsBound scope) (parts_in operand) (parts_in_postfixes postfixes) (bound_in _ operand more.0 more.1) more.2

    bound_in : (m : Count) (row : Row_of-Expr m) (k : ValueKind) → kind_in scope row ≡ Some k → Each (IsBound scope) (parts_in row)
    bound_in m end_of-Expr k is = tt
    bound_in m (more_of-Expr expr rest) k is = bound expr k is

    pub bound_links : (m : Count) (left : Option ValueKind) (row : Row_of-Link m) (k : ValueKind) → kind_past_links scope left row ≡ Some k
        → (a : ValueKind) × (left ≡ Some a) × Each (IsBound scope) (parts_in_links row)
    bound_links m left end_of-Link k is = (k, is, tt)
    bound_links m left (more_of-Link operator operand rest) k is =
        let more = bound_links _ (by_two (joined operator) left (kind_of scope operand)) rest k is in
        let both = two_some (joined operator) left (kind_of scope operand) more.0 more.1 in
        (both.0, both.2, (tt, each_both (IsBound scope) (parts_of operand) (parts_in_links rest) (bound operand both.1 both.3) more.2))

    pub bound_postfixes : (m : Count) (left : Option ValueKind) (row : Row_of-Postfix m) (k : ValueKind)
        → kind_past_postfixes scope left row ≡ Some k → (a : ValueKind) × (left ≡ Some a) × Each (IsBound scope) (parts_in_postfixes row)
    bound_postfixes m left end_of-Postfix k is = (k, is, tt)
    bound_postfixes m left (more_of-Postfix postfix rest) k is =
        let more = bound_postfixes _ (kind_past scope left postfix) rest k is in
        let one = bound_postfix left postfix more.0 more.1 in
        (one.0, one.1, each_both (IsBound scope) (parts_of_postfix postfix) (parts_in_postfixes rest) one.2 more.2)

    bound_postfix : (left : Option ValueKind) (postfix : Postfix) (k : ValueKind) → kind_past scope left postfix ≡ Some k
        → (a : ValueKind) × (left ≡ Some a) × Each (IsBound scope) (parts_of_postfix postfix)
    bound_postfix left Inverse k is = let one = then_some inverse left k is in (one.0, one.1, (tt, tt))
    bound_postfix left (Apply argument) k is =
        let both = two_some applied left (kind_of scope argument) k is in (both.0, both.2, (tt, bound argument both.1 both.3))
    bound_postfix left (Item number) k is = let one = then_some item left k is in (one.0, one.1, (tt, tt))

  known_part : (k : ℕ) (p : Part) → IsClear k p × IsBound scope p → is_unknown scope p ≡ false
  known_part k (part.name n) h = ap not h.1
  known_part k (part.literal l) h = ap not h.0
  known_part k _ h = refl

  item_part : (k : ℕ) (p : Part) → IsClear k p → is_no_item p ≡ false
  item_part k (part.item i) h = h
  item_part k _ h = refl

  -- nothing is unknown in an expression with a kind, and each element is there
  pub known : (k : ℕ) (expr : Expr) (kind : ValueKind) → Each (IsClear k) (parts_of expr) → kind_of scope expr ≡ Some kind
      → has_unknown scope expr ≡ false
  known k expr kind clear is =
      quiet_each (is_unknown scope) (parts_of expr)
      (each_weaker (λ p. IsClear k p × IsBound scope p) (λ p. is_unknown scope p ≡ false) (known_part k) (parts_of expr)
      (each_zip (IsClear k) (IsBound scope) (parts_of expr) clear (bound expr kind is)))

  pub items_there : (k : ℕ) (expr : Expr) → Each (IsClear k) (parts_of expr) → has_no_item expr ≡ false
  items_there k expr clear =
      quiet_each is_no_item (parts_of expr) (each_weaker (IsClear k) (λ p. is_no_item p ≡ false) (item_part k) (parts_of expr) clear)
