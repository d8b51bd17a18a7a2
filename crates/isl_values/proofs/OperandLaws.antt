-- What is worked out of rows, and of operands with what follows them.
use Rattle.std.proofs.Common.{◌≡◌, ◌∙◌, inl, inr, Bool, false, List, All, sym, ap, ap₂, subst}
use Rattle.std.specs.Prelude.{unsigned_abs}
use Rattle.isl_meter.specs.Gauge.{Gauge, limit_of}
use Rattle.isl_space.specs.Name.{Name}
use Rattle.isl_union.specs.KeptValue.{KeptValue, Has, HasNoDefinitions}
use Rattle.isl_refusal.specs.declared.refusal.Refusal.{Refusal}
use Rattle.isl_tree.specs.declared.statement.Link.{Link}
use Rattle.isl_tree.specs.declared.statement.Postfix.{Postfix}
use Rattle.isl_tree.specs.declared.statement.Expr.{Expr, Row, Post}
use Rattle.isl_kinds.specs.Parts.{parts_of, parts_of_links, parts_of_postfixes}
use Rattle.isl_kinds.specs.Typed.{declared_of, declared_of_row, declared_of_post}
use Rattle.isl_kinds.proofs.DeclaredLaws.{declared_of-Row, declared_of-Post}
use Rattle.isl_state.specs.declared.list.ListPart.{ListPart}
use Rattle.isl_state.specs.State.{StateView, scope_of}
use Rattle.isl_values.specs.Selection.{Selects, SelectsAt, RowSelects, PostSelects}
use Rattle.isl_values.specs.Worked.{IsWorkedAt, IsWorkedRow, IsWorkedPost, part_of_list}
use Rattle.isl_values.specs.Ends.{End, Ends, EndsRow, EndsPost, FirstEnds, GoesOn}
use Rattle.isl_values.specs.Three.{IsValueAt}
use Rattle.isl_values.specs.Made.{uses_units, IsSoundExpr, IsSoundLink, IsSoundPostfix, IsValueOf, IsPaid, IsWhyUnworked}
use Rattle.isl_values.proofs.PartLaws.{sound_first, sound_links, sound_operand, sound_postfixes}
use Rattle.isl_values.proofs.PartLaws.{row_quiet, post_quiet}
use Rattle.isl_values.proofs.SameLaws.{turned, same_trans}
use Rattle.isl_values.proofs.RowLaws.{same_row, selects_of-Row, same_post, selects_of-Post}
use Rattle.isl_outcome.proofs.FirstLaws.{EndAlike, goes_alike, goes_both, turned_alike}
use Rattle.isl_values.proofs.EndsLaws.{row_alike, ends_of-Row, post_alike, ends_of-Post, Taken}
use Rattle.isl_values.proofs.WorkedLaws.{worked_of-Row, worked_of-Post}
use Rattle.isl_values.proofs.ValueLaws.{IsMade, IsMadeAt, work, value_before, paid_after, unworked_after, unworked_in}

-- why there is no value of an expression
abbrev pub IsWhyNotMade : StateView → Expr → Gauge → Gauge → Refusal → Type 0
IsWhyNotMade state expr g h refusal = IsWhyUnworked (work state.assumed (parts_of expr)) (Ends state expr) g h refusal

-- ---- a row
pub same_Row : (expr first x : Expr) (links others : List Link) → expr ≡ Row first links → x ≡ first → others ≡ links → expr ≡ Row x others
same_Row expr first x links others is same alike = is ∙ sym (ap₂ (λ (f : Expr) (ls : List Link). Row f ls) same alike)

module _ (state : StateView) (expr first : Expr) (links : List Link) (is : expr ≡ Row first links) where
  module _ (sound : IsSoundExpr (scope_of state) expr) where
    of_row : IsSoundExpr (scope_of state) (Row first links)
    of_row = subst (IsSoundExpr (scope_of state)) is sound

    pub first_sound : IsSoundExpr (scope_of state) first
    first_sound = sound_first (scope_of state) first links of_row

    pub links_sound : All (IsSoundLink (scope_of state)) links
    links_sound = sound_links (scope_of state) first links of_row

  abbrev RowWorks : Bool
  RowWorks = work state.assumed (parts_of expr)

  row_none : RowWorks ≡ false → (work state.assumed (parts_of first) ≡ false) × (work state.assumed (parts_of_links links) ≡ false)
  row_none none = row_quiet (scope_of state) (uses_units state.assumed) first links
      (sym (ap (λ (x : Expr). work state.assumed (parts_of x)) is) ∙ none)

  -- what ends in the row: the first operand, and then what is behind it
  abbrev RowEnds : End → Type 0
  RowEnds = FirstEnds (Ends state first) (EndsRow state (declared_of (scope_of state) first) (λ v x. Selects state first v x) links)

  row_ends : EndAlike RowEnds (Ends state expr)
  row_ends =
      subst (λ (x : Expr). EndAlike RowEnds (Ends state x)) (sym is)
      (turned_alike (Ends state (Row first links)) RowEnds (ends_of-Row state first links))

  pub first_failed : (g h : Gauge) (refusal : Refusal) → IsWhyNotMade state first g h refusal → IsWhyNotMade state expr g h refusal
  first_failed g h refusal why =
      unworked_in RowWorks (work state.assumed (parts_of first)) (Ends state first) (Ends state expr) g h refusal
      (λ none. (row_none none).0)
      (λ end ends. (row_ends end).0 (inl ends)) why

  module _ (g h k : Gauge) (left : KeptValue) (before : IsMade state first g h left) where
    -- what is joined to it
    abbrev IsJoinedPast : KeptValue → Type 0
    IsJoinedPast value =
        IsValueOf state.assumed (IsWorkedRow state left links) (declared_of_row (scope_of state) left.params links)
        (λ v x. RowSelects state v (Has left v) links x) (unsigned_abs (limit_of h))
        (HasNoDefinitions left × (work state.assumed (parts_of_links links) ≡ false)) value
        × IsPaid (work state.assumed (parts_of_links links)) h k

    pub row_made : (part : ListPart) (made : KeptValue) → IsJoinedPast made → IsMadeAt state part expr g k made
    row_made part made all = (
      value_before g h (IsWorkedAt state part expr) (declared_of (scope_of state) expr) (SelectsAt state part expr) made before.1.charged
          (subst (λ (x : Expr). IsValueAt state part x (unsigned_abs (limit_of h)) made) (sym is) (record {
            written = worked_of-Row state part first links left made before.0.written all.0.written;
            kept = all.0.kept;
            live = all.0.live;
            params = all.0.params ∙ ap (λ (ps : List Name). declared_of_row (scope_of state) ps links) before.0.params
                ∙ sym (declared_of-Row (scope_of state) first links);
            elements = λ v here. same_trans (Has made v) (RowSelects state v (Has left v) links) (SelectsAt state part (Row first links) v)
                (all.0.elements v here)
                (same_trans (RowSelects state v (Has left v) links) (RowSelects state v (Selects state first v) links)
                (SelectsAt state part (Row first links) v)
                (same_row state v (Has left v) (Selects state first v) links (before.0.elements v here))
                (turned (SelectsAt state part (Row first links) v) (RowSelects state v (Selects state first v) links)
                (selects_of-Row state v part first links)));
            numbers = all.0.numbers;
            definitions = λ none. let quiet = row_quiet (scope_of state) (uses_units state.assumed) first links none in
                all.0.definitions (before.0.definitions quiet.0, quiet.1);
          })),
      paid_after RowWorks (work state.assumed (parts_of first)) (work state.assumed (parts_of_links links)) g h k row_none before.1 all.1,
    )

    -- what is behind it ends for its value as it does for what is selected
    behind_alike : EndAlike (EndsRow state left.params (Has left) links)
        (EndsRow state (declared_of (scope_of state) first) (λ v x. Selects state first v x) links)
    behind_alike =
        subst (λ (names : List Name). EndAlike (EndsRow state left.params (Has left) links)
        (EndsRow state names (λ v x. Selects state first v x) links)) before.0.params
        (row_alike state left.params (Has left) (λ v x. Selects state first v x) links before.0.elements)

    pub links_failed : (refusal : Refusal) → GoesOn (Ends state first)
        → IsWhyUnworked (work state.assumed (parts_of_links links)) (EndsRow state left.params (Has left) links) h k refusal
        → IsWhyNotMade state expr g k refusal
    links_failed refusal first_goes why =
        unworked_after RowWorks (work state.assumed (parts_of first)) (work state.assumed (parts_of_links links))
        (EndsRow state left.params (Has left) links)
        (Ends state expr) g h k refusal row_none
        (λ end ends. (row_ends end).0 (inr (first_goes, (behind_alike end).0 ends))) before.1 why

    pub row_goes_on : GoesOn (Ends state first) → GoesOn (EndsRow state left.params (Has left) links) → GoesOn (Ends state expr)
    row_goes_on first_goes links_go =
        let Past = EndsRow state (declared_of (scope_of state) first) (λ v x. Selects state first v x) links in
        goes_alike RowEnds (Ends state expr) row_ends (goes_both (Ends state first) Past first_goes
        (goes_alike (EndsRow state left.params (Has left) links) Past behind_alike links_go))

-- ---- an operand with what follows it
pub same_Post : (expr operand x : Expr) (postfixes others : List Postfix) → expr ≡ Post operand postfixes → x ≡ operand
    → others ≡ postfixes → expr ≡ Post x others
same_Post expr operand x postfixes others is same alike = is ∙ sym (ap₂ (λ (o : Expr) (ps : List Postfix). Post o ps) same alike)

module _ (state : StateView) (expr operand : Expr) (postfixes : List Postfix) (is : expr ≡ Post operand postfixes) where
  module _ (sound : IsSoundExpr (scope_of state) expr) where
    of_post : IsSoundExpr (scope_of state) (Post operand postfixes)
    of_post = subst (IsSoundExpr (scope_of state)) is sound

    pub operand_sound : IsSoundExpr (scope_of state) operand
    operand_sound = sound_operand (scope_of state) operand postfixes of_post

    pub postfixes_sound : All (IsSoundPostfix (scope_of state)) postfixes
    postfixes_sound = sound_postfixes (scope_of state) operand postfixes of_post

  abbrev PostWorks : Bool
  PostWorks = work state.assumed (parts_of expr)

  post_none : PostWorks ≡ false → (work state.assumed (parts_of operand) ≡ false)
      × (work state.assumed (parts_of_postfixes postfixes) ≡ false)
  post_none none = post_quiet (scope_of state) (uses_units state.assumed) operand postfixes
      (sym (ap (λ (x : Expr). work state.assumed (parts_of x)) is) ∙ none)

  -- what ends in it: the operand, and then what follows it
  abbrev AllEnds : End → Type 0
  AllEnds = FirstEnds (Ends state operand) (EndsPost state (declared_of (scope_of state) operand) (Taken state operand postfixes) postfixes)

  all_end : EndAlike AllEnds (Ends state expr)
  all_end =
      subst (λ (x : Expr). EndAlike AllEnds (Ends state x)) (sym is)
      (turned_alike (Ends state (Post operand postfixes)) AllEnds (ends_of-Post state operand postfixes))

  pub operand_failed : (g h : Gauge) (refusal : Refusal) → IsWhyNotMade state operand g h refusal → IsWhyNotMade state expr g h refusal
  operand_failed g h refusal why =
      unworked_in PostWorks (work state.assumed (parts_of operand)) (Ends state operand) (Ends state expr) g h refusal
      (λ none. (post_none none).0)
      (λ end ends. (all_end end).0 (inl ends)) why

  module _ (g h k : Gauge) (left : KeptValue) (before : IsMadeAt state (part_of_list postfixes) operand g h left) where
    -- what all that follows it makes
    abbrev IsPassed : KeptValue → Type 0
    IsPassed value =
        IsValueOf state.assumed (IsWorkedPost state left postfixes) (declared_of_post (scope_of state) left.params postfixes)
        (λ v x. PostSelects state v (Has left v) postfixes x) (unsigned_abs (limit_of h))
        (HasNoDefinitions left × (work state.assumed (parts_of_postfixes postfixes) ≡ false)) value
        × IsPaid (work state.assumed (parts_of_postfixes postfixes)) h k

    pub post_made : (part : ListPart) (made : KeptValue) → IsPassed made → IsMadeAt state part expr g k made
    post_made part made all = (
      value_before g h (IsWorkedAt state part expr) (declared_of (scope_of state) expr) (SelectsAt state part expr) made before.1.charged
          (subst (λ (x : Expr). IsValueAt state part x (unsigned_abs (limit_of h)) made) (sym is) (record {
            written = worked_of-Post state part operand postfixes left made before.0.written all.0.written;
            kept = all.0.kept;
            live = all.0.live;
            params = all.0.params ∙ ap (λ (ps : List Name). declared_of_post (scope_of state) ps postfixes) before.0.params
                ∙ sym (declared_of-Post (scope_of state) operand postfixes);
            elements = λ v here.
                same_trans (Has made v) (PostSelects state v (Has left v) postfixes) (SelectsAt state part (Post operand postfixes) v)
                (all.0.elements v here)
                (same_trans (PostSelects state v (Has left v) postfixes) (PostSelects state v (Taken state operand postfixes v) postfixes)
                (SelectsAt state part (Post operand postfixes) v)
                (same_post state v (Has left v) (Taken state operand postfixes v) postfixes (before.0.elements v here))
                (turned (SelectsAt state part (Post operand postfixes) v)
                (PostSelects state v (Taken state operand postfixes v) postfixes)
                (selects_of-Post state v part operand postfixes)));
            numbers = all.0.numbers;
            definitions = λ none. let quiet = post_quiet (scope_of state) (uses_units state.assumed) operand postfixes none in
                all.0.definitions (before.0.definitions quiet.0, quiet.1);
          })),
      paid_after PostWorks (work state.assumed (parts_of operand))
          (work state.assumed (parts_of_postfixes postfixes)) g h k post_none before.1 all.1,
    )

    -- what follows it ends for its value as it does for what is selected
    follows_alike : EndAlike (EndsPost state left.params (Has left) postfixes)
        (EndsPost state (declared_of (scope_of state) operand) (Taken state operand postfixes) postfixes)
    follows_alike =
        subst (λ (names : List Name). EndAlike (EndsPost state left.params (Has left) postfixes)
        (EndsPost state names (Taken state operand postfixes) postfixes)) before.0.params
        (post_alike state left.params (Has left) (Taken state operand postfixes) postfixes before.0.elements)

    pub postfixes_failed : (refusal : Refusal) → GoesOn (Ends state operand)
        → IsWhyUnworked (work state.assumed (parts_of_postfixes postfixes)) (EndsPost state left.params (Has left) postfixes) h k refusal
        → IsWhyNotMade state expr g k refusal
    postfixes_failed refusal operand_goes why =
        unworked_after PostWorks (work state.assumed (parts_of operand)) (work state.assumed (parts_of_postfixes postfixes))
        (EndsPost state left.params (Has left) postfixes) (Ends state expr) g h k refusal post_none
        (λ end ends. (all_end end).0 (inr (operand_goes, (follows_alike end).0 ends))) before.1 why

    pub post_goes_on : GoesOn (Ends state operand) → GoesOn (EndsPost state left.params (Has left) postfixes) → GoesOn (Ends state expr)
    post_goes_on operand_goes postfixes_go =
        let Past = EndsPost state (declared_of (scope_of state) operand) (Taken state operand postfixes) postfixes in
        goes_alike AllEnds (Ends state expr) all_end (goes_both (Ends state operand) Past operand_goes
        (goes_alike (EndsPost state left.params (Has left) postfixes) Past follows_alike postfixes_go))
