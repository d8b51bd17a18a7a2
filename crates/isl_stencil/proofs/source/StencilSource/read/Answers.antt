use Rattle.std.proofs.Common.{◌≡◌, ◌+◌, ◌-◌, ◌<◌, ◌∙◌, ◌++◌, ℕ, List, ap, ap₂, arith, length, refl, sym}
use Rattle.isl_stencil.specs.Stencil.{from}
use Rattle.isl_stencil.specs.declared.source.Stencil.TheInside.{Inside}
use Rattle.isl_stencil.proofs.GivenLemmas.{gave, from_next, from_none}
use Rattle.isl_stencil.proofs.source.StencilSource.read.Goals as goal
use Rattle.isl_stencil.proofs.source.StencilSource.read.Goals.{then-is_empty+else-self-eq0, else-is_empty}

abbrev view_of : Inside → List ℕ
view_of s = s.unread ++ from s.next s.later

pub returns-then-self-eq0-clause-bytes : goal.returns-then-self-eq0-clause-bytes
returns-then-self-eq0-clause-bytes c =
    let none = from_none c.self.inside.next c.self.inside.later (omega (arith, c.if-self-eq0.true)) in
    (refl, λ _ _. sym c.self.view_is ∙ ap₂ (λ (a b : List ℕ). a ++ b) c.if-is_empty.ensures none)

pub returns-clause-bytes : goal.returns-clause-bytes
returns-clause-bytes c =
    let inside = c.if-is_empty.self-inside in
    -- what is left before bytes are given, of which one is there
    let before : (view_of inside ≡ c.args.self.now) × (0 < length inside.unread) = elim c.if-is_empty.branch [
      | then-is_empty+else-self-eq0 w ↦
          let start = c.self.inside in
          let lines = w.new-self-inside.ensures ∙ w.lines_of.ensures in
          let later = from_next start.next start.later (omega (arith, w.if-self-eq0.false)) (start.later - 1) refl in (
            ap view_of w.self-inside-is
                ∙ ap (λ (l : List ℕ). l ++ from (start.next + 1) (start.later - 1)) lines
                ∙ sym later
                ∙ ap (λ (l : List ℕ). l ++ from start.next start.later) (sym w.if-is_empty.ensures)
                ∙ c.self.view_is,
            omega (arith, ap (λ (s : Inside). length s.unread) w.self-inside-is, ap length lines),
          )
      | else-is_empty w ↦ (
        ap view_of w.self-inside-is ∙ c.self.view_is,
        omega (arith, ap (λ (s : Inside). length s.unread) w.self-inside-is, w.if-is_empty.ensures),
      )
    ] in
    let given = gave inside.unread c.give.new.self c.args.buf.now c.give.new.buf (from inside.next inside.later) c.give.result
    c.give.ensures.count c.give.ensures.given c.give.ensures.left in
    (sym before.0 ∙ given, λ none some. absurd (omega (arith, none, c.give.ensures.count, before.1, c.requires)))
