-- public: proofs as text: the word, the numbers and the parts of each node, with single blanks between them.
use Rattle.std.specs.Prelude.{ℕ, ℤ, List, [], ◌∷◌, ◌++◌, codes}
use Rattle.std.specs.Fmt.{decimal, signed_decimal}
use Rattle.isl_refute.specs.declared.tree.Cert.{Cert, False, Add', Tie', Mod', Weaken', Fresh', Split', Residue', Outside', Row_of-Cert}
use Rattle.isl_refute.specs.declared.tree.Cert.{end_of-Cert, more_of-Cert}
use Rattle.isl_refute.specs.declared.tree.Form.{Form}

abbrev pub place_text : ℕ → List ℕ
place_text i = codes " " ++ decimal i

abbrev pub number_text : ℤ → List ℕ
number_text z = codes " " ++ signed_decimal z

-- numbers, with a blank behind each
abbrev pub numbers_text : List ℤ → List ℕ
numbers_text [] = []
numbers_text (z ∷ zs) = signed_decimal z ++ codes " " ++ numbers_text zs

-- coefficients and constant in square brackets
abbrev pub form_text : Form → List ℕ
form_text form = codes " [" ++ numbers_text form.coefs ++ signed_decimal form.constant ++ codes "]"

-- the word and the numbers of each node
abbrev pub false_head : ℕ → List ℕ
false_head i = codes "false" ++ place_text i

abbrev pub add_head : ℕ → ℤ → ℕ → ℤ → List ℕ
add_head i a j b = codes "add" ++ place_text i ++ number_text a ++ place_text j ++ number_text b

abbrev pub tie_head : ℕ → ℕ → List ℕ
tie_head i j = codes "tie" ++ place_text i ++ place_text j

abbrev pub mod_head : ℕ → ℤ → List ℕ
mod_head i k = codes "mod" ++ place_text i ++ number_text k

abbrev pub weaken_head : ℕ → ℤ → List ℕ
weaken_head i k = codes "weaken" ++ place_text i ++ number_text k

abbrev pub fresh_head : ℕ → List ℕ
fresh_head i = codes "fresh" ++ place_text i

abbrev pub split_head : Form → List ℕ
split_head form = codes "split" ++ form_text form

abbrev pub residue_head : Form → ℤ → List ℕ
residue_head form k = codes "residue" ++ form_text form ++ number_text k

abbrev pub outside_head : ℕ → List ℕ
outside_head q = codes "outside" ++ place_text q

abbrev mutual
  pub cert_text : Cert → List ℕ
  cert_text (False i) = false_head i
  cert_text (Add' i a j b s part) = add_head i a j b ++ parts_text part
  cert_text (Tie' i j s part) = tie_head i j ++ parts_text part
  cert_text (Mod' i k s part) = mod_head i k ++ parts_text part
  cert_text (Weaken' i k s part) = weaken_head i k ++ parts_text part
  cert_text (Fresh' i s part) = fresh_head i ++ parts_text part
  cert_text (Split' form s up t down) = split_head form ++ parts_text up ++ parts_text down
  cert_text (Residue' form k s parts) = residue_head form k ++ parts_text parts
  cert_text (Outside' q s parts) = outside_head q ++ parts_text parts

  -- the parts, with a blank before each
  pub parts_text : {m : _} → Row_of-Cert m → List ℕ
  parts_text end_of-Cert = []
  parts_text (more_of-Cert cert rest) = (codes " " ++ cert_text cert) ++ parts_text rest
