-- public: a shape by content: what it is when the sharing of its parts is forgotten.
use Rattle.isl_space.specs.declared.shape.Shape.{Shape}
use Rattle.isl_space.specs.declared.shape.Shape.TheVariants.{Leaf, Pair'}
use Rattle.isl_space.specs.Form.{Form, leaf, pair}

abbrev pub form_of : Shape → Form
form_of (Leaf name width) = leaf name width
form_of (Pair' left_place left right_place right) = pair (form_of left) (form_of right)
