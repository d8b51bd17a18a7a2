-- public: the calls of loops as text. (isl manual, on abstract syntax trees)
use Rattle.std.specs.Prelude.{List, [], ◌∷◌, ◌++◌, codes, map}
use Rattle.std.specs.Fmt.{signed_decimal}
use Rattle.isl_space.specs.Form.{name_text}
use Rattle.isl_row_text.specs.Joined.{Text, joined_by}
use Rattle.isl_loop.specs.Run.{Event}

-- a call with its numbers, such as `S(2, -1);`, and a line feed
abbrev pub call_line : Event → Text
call_line call = name_text call.name ++ codes "(" ++ joined_by (codes ", ") (map signed_decimal call.args) ++ codes ");" ++ 10 ∷ []

abbrev pub call_lines : List Event → Text
call_lines [] = []
call_lines (call ∷ calls) = call_line call ++ call_lines calls
