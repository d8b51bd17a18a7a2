-- The tree of a space is made of the greatest lists.
use Rattle.std.proofs.Common.{◌≡◌, ◌≢◌, refl, sym, ap, ◌∙◌, subst, arith, ℕ, zero, suc, ◌+◌, ◌<◌, ◌≤◌, ◌^◌, ℤ, List, [], ◌++◌, length}
use Rattle.isl_meter.specs.Gauge.{Gauge}
use Rattle.isl_space.specs.Name.{Name}
use Rattle.isl_space.specs.Names.{IsParameterList}
use Rattle.isl_space.specs.SpaceForm.{SpaceForm}
use Rattle.isl_space.specs.Valuation.{Valuation, values_of}
use Rattle.isl_piece.specs.declared.system.System.{System}
use Rattle.isl_piece.specs.Piece.{PieceView}
use Rattle.isl_union.specs.Minus.{systems_in}
use Rattle.isl_quast.specs.declared.tree.Quast.{Quast}
use Rattle.isl_quast.specs.Tree.{quast_at, HasWidth, IsQuastOver}
use Rattle.isl_pip_law.specs.Least.{GivesLeast}
use Rattle.isl_pip.specs.Behind.{chosen_width, ArePutBehind}
use Rattle.isl_pip.specs.Greatest.{HaveGreatest, IsGreatestTree}
use Rattle.isl_pip.specs.Least.{front_width, leaf_width}
use Rattle.isl_pip.specs.Levels.{ArePlainOver}
use Rattle.isl_pip.specs.Trees.{ArePlainPieces, IsTreeIn, ThereIsFirst}
use Rattle.isl_pip.proofs.BehindLaws.{has_greatest, least_of, shown}
use Rattle.isl_pip.proofs.TreeLaws.{least_exists, systems_plain, there_from, tree_gives, Lists}
use Rattle.isl_pip.proofs.WithoutLaws.{without_at}

-- ---- how many numbers are chosen
pub chosen_some : (w n : ℕ) → w ≢ 0 → n ≡ w → n ≡ chosen_width w
chosen_some zero n some e = absurd (some refl)
chosen_some (suc w) n some e = e

pub chosen_none : (w n : ℕ) → w ≡ 0 → n ≡ 1 → n ≡ chosen_width w
chosen_none zero n none e = e
chosen_none (suc w) n none e = absurd (omega (arith, none))

pub chosen_positive : (w : ℕ) → 0 < chosen_width w
chosen_positive zero = omega arith
chosen_positive (suc w) = omega arith

pub chosen_few : (w : ℕ) → chosen_width w ≤ w + 1
chosen_few zero = omega arith
chosen_few (suc w) = omega arith

-- ---- with the numbers that the code has
pub put_same : (g : Gauge) (a n b w : ℕ) (ss ts made : List System) → a ≡ n → b ≡ w → ss ≡ ts → ArePutBehind g a b ss made → ArePutBehind g n w ts made
put_same g a n b w ss ts made e f h put =
    subst (λ (l : List System). ArePutBehind g n w l made) h (subst (λ k. ArePutBehind g n k ss made) f (subst (λ k. ArePutBehind g k b ss made) e put))

pub greatest_same : (g : Gauge) (a n b w : ℕ) (made : List System) (tree : Quast) → a ≡ n → b ≡ w → IsGreatestTree g a b made tree
    → IsGreatestTree g n w made tree
greatest_same g a n b w made tree e f is = subst (λ k. IsGreatestTree g n k made tree) f (subst (λ k. IsGreatestTree g k b made tree) e is)

pub have_same : (a n b w : ℕ) (made : List System) → a ≡ n → b ≡ w → HaveGreatest n w made → HaveGreatest a b made
have_same a n b w made e f have = subst (λ k. HaveGreatest a k made) (sym f) (subst (λ k. HaveGreatest k w made) (sym e) have)

shown_all : (w : ℕ) (tree : Quast) (v : List ℤ) → w ≢ 0 → shown w (quast_at tree v) ≡ quast_at tree v
shown_all zero tree v some = absurd (some refl)
shown_all (suc w) tree v some = refl

shown_none : (w : ℕ) (tree : Quast) (v : List ℤ) → w ≡ 0 → shown w (quast_at tree v) ≡ without_at 0 (quast_at tree v)
shown_none zero tree v none = refl
shown_none (suc w) tree v none = absurd (omega (arith, none))

chosen_whole : (w : ℕ) (tree : Quast) → w ≢ 0 → HasWidth (chosen_width w) tree → HasWidth w tree
chosen_whole zero tree some h = absurd (some refl)
chosen_whole (suc w) tree some h = h

-- ---- one space
module _ (g : Gauge) (params : List Name) (pieces : List PieceView) (space : SpaceForm) (are : ArePlainPieces g params pieces) (made : List System)
    (put : ArePutBehind g (front_width params space) (leaf_width space) (systems_in space pieces) made) (tree : Quast)
    (greatest : IsGreatestTree g (front_width params space) (chosen_width (leaf_width space)) made tree) where
  gives_shown : (left : Quast) → ((v : List ℤ) → quast_at left v ≡ shown (leaf_width space) (quast_at tree v)) → (v : List ℤ)
      → length v ≡ front_width params space → GivesLeast (Lists params pieces space v) (quast_at left v)
  gives_shown left at v long =
      subst (GivesLeast (Lists params pieces space v)) (sym (at v))
      (least_of g (front_width params space) (leaf_width space) (systems_in space pieces) made (systems_plain g params space pieces are) put v long
      (quast_at tree v) (greatest.gives v long))

  made_from : (left : Quast) → ((v : List ℤ) → quast_at left v ≡ shown (leaf_width space) (quast_at tree v))
      → IsQuastOver g (front_width params space) left → HasWidth (leaf_width space) left
      → IsTreeIn g params pieces space left × ThereIsFirst params pieces space
  made_from left at over width =
      let gives = tree_gives params pieces space (quast_at left) (gives_shown left at) in
      (record { gives = gives; over = over; width = width }, there_from params pieces space (quast_at left) gives)

  -- with all its numbers
  pub made_whole : leaf_width space ≢ 0 → IsTreeIn g params pieces space tree × ThereIsFirst params pieces space
  made_whole some =
      made_from tree (λ v. sym (shown_all (leaf_width space) tree v some)) greatest.over (chosen_whole (leaf_width space) tree some greatest.width)

  -- or with none
  pub made_bare : leaf_width space ≡ 0 → (left : Quast) → ((v : List ℤ) → quast_at left v ≡ without_at 0 (quast_at tree v))
      → (IsQuastOver g (front_width params space) tree → IsQuastOver g (front_width params space) left) → HasWidth 0 left
      → IsTreeIn g params pieces space left × ThereIsFirst params pieces space
  made_bare none left at over width =
      made_from left (λ v. at v ∙ sym (shown_none (leaf_width space) tree v none)) (over greatest.over)
      (subst (λ w. HasWidth w left) (sym none) width)

-- where there is a first element there is a greatest list
pub have_from : (g : Gauge) (params : List Name) (pieces : List PieceView) (space : SpaceForm) → ArePlainPieces g params pieces → (made : List System)
    → ArePutBehind g (front_width params space) (leaf_width space) (systems_in space pieces) made → IsParameterList params
    → ThereIsFirst params pieces space → HaveGreatest (front_width params space) (chosen_width (leaf_width space)) made
have_from g params pieces space are made put names there =
    has_greatest g (front_width params space) (leaf_width space) (systems_in space pieces) made (systems_plain g params space pieces are) put
    (λ v ys long is. least_exists params pieces names space there v long ys is)
