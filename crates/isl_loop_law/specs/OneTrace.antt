-- public: the text of loops tells what they execute. (isl manual, on printing abstract syntax trees)
use Rattle.std.specs.Prelude.{◌≡◌, ℤ, List, All}
use Rattle.isl_space.specs.Name.{Name, IsLiteralName}
use Rattle.isl_space.specs.Names.{AreDistinct, IsParameterList}
use Rattle.isl_loop.specs.declared.tree.Loop.{Loop}
use Rattle.isl_loop.specs.Program.{IsProgram}
use Rattle.isl_loop.specs.Run.{trace, turns_of}
use Rattle.isl_loop_text.specs.LoopText.{loop_text}

-- they execute the same wherever they start
pub record ExecutesTheSame (a b : Loop) : Type 0 where
  pub calls : (point : List ℤ) → trace a point ≡ trace b point
  pub turns : (point : List ℤ) → turns_of a point ≡ turns_of b point

abbrev pub OneTrace : Type 0
OneTrace =
    (params : List Name) (a b : Loop) → AreDistinct params → All IsLiteralName params → IsProgram params a → IsProgram params b
    → loop_text params a ≡ loop_text params b → ExecutesTheSame a b

-- whatever program over these parameters has the text of the tree executes what the tree does
abbrev pub TellsTrace : List Name → Loop → Type 0
TellsTrace params tree = (other : Loop) → IsProgram params other → loop_text params other ≡ loop_text params tree → ExecutesTheSame tree other

abbrev pub ProgramTells : Type 0
ProgramTells = (params : List Name) (tree : Loop) → IsParameterList params → IsProgram params tree → TellsTrace params tree
