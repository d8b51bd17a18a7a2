-- public: the table of words: how each word before an operand is spelled, which operands it takes, and what kind of call it is.
use Rattle.std.specs.Prelude.{ℕ, Bool, true, false, not, ◌&&◌, List, [], ◌∷◌, Option, Some, None, codes, if◌then◌else◌}
use Rattle.std.specs.Str.{bytes_eq}
use Rattle.isl_tree.specs.declared.statement.ValueKind.{ValueKind}
use Rattle.isl_tree.specs.declared.statement.ValueKind.TheVariants.{Set, Map, Listing, Code, Tree}
use Rattle.isl_tree.specs.declared.statement.Prefix.{Prefix}
use Rattle.isl_tree.specs.declared.statement.Prefix.TheVariants as p
use Rattle.isl_tree.specs.declared.words.Question.{Question}
use Rattle.isl_tree.specs.declared.words.Question.TheVariants.{Value, Elements, Loops, Trees}
use Rattle.isl_tree.specs.declared.words.Word.{Word}

-- ---- how words are spelled

abbrev pub spellings : List (List ℕ × Prefix)
spellings =
    (codes "dom", p.Domain) ∷ (codes "domain", p.Domain) ∷ (codes "ran", p.Range) ∷ (codes "range", p.Range) ∷ (codes "deltas", p.Deltas)
    ∷ (codes "identity", p.Identity) ∷ (codes "wrap", p.Wrap) ∷ (codes "unwrap", p.Unwrap) ∷ (codes "zip", p.Zip)
    ∷ (codes "domain_map", p.DomainMap) ∷ (codes "range_map", p.RangeMap) ∷ (codes "lexmin", p.LexMin) ∷ (codes "lexmax", p.LexMax)
    ∷ (codes "aff", p.AffineHull) ∷ (codes "coalesce", p.Coalesce) ∷ (codes "sample", p.Sample) ∷ (codes "scan", p.Scan)
    ∷ (codes "codegen", p.Codegen) ∷ (codes "pip", p.Pip) ∷ []

-- what a table of texts has for a text
abbrev pub look_up : {A : Type 0} → List (List ℕ × A) → List ℕ → Option A
look_up [] text = None
look_up (entry ∷ entries) text = if bytes_eq entry.0 text then Some entry.1 else look_up entries text

-- the word that a text spells
unfoldable pub prefix_of : List ℕ → Option Prefix
prefix_of text = look_up spellings text

-- ---- what words are: the kinds of what they make of a set and of a map, what they ask for, and five questions

-- it makes a value: it moves columns, doubles them or takes them out
abbrev pub moving : Option ValueKind → Option ValueKind → Bool → Word
moving set map works = record {
  of_set = set;
  of_map = map;
  asks = Value;
  moves = true;
  looks = false;
  chooses = false;
  joins = false;
  works = works;
}

-- it makes a value of the kind of its operand: it looks at what this has at assumed valuations alone, or it chooses, or it puts pieces
-- together
abbrev pub working : Bool → Bool → Bool → Word
working looks chooses joins = record {
  of_set = Some Set;
  of_map = Some Map;
  asks = Value;
  moves = false;
  looks = looks;
  chooses = chooses;
  joins = joins;
  works = true;
}

-- it asks for something else, of this kind
abbrev pub asking : Question → ValueKind → Word
asking question kind = record {
  of_set = Some kind;
  of_map = Some kind;
  asks = question;
  moves = false;
  looks = false;
  chooses = false;
  joins = false;
  works = true;
}

abbrev pub word_row : Prefix → Word
word_row p.Domain = moving None (Some Set) true
word_row p.Range = moving None (Some Set) true
word_row p.Deltas = moving None (Some Set) true
word_row p.Identity = moving (Some Map) None false
word_row p.Wrap = moving None (Some Set) false
word_row p.Unwrap = moving (Some Map) None false
word_row p.Zip = moving None (Some Map) false
word_row p.DomainMap = moving None (Some Map) false
word_row p.RangeMap = moving None (Some Map) false
word_row p.LexMin = working true false false
word_row p.LexMax = working true false false
word_row p.AffineHull = working true false false
word_row p.Sample = working false true false
word_row p.Coalesce = working false false true
word_row p.Scan = asking Elements Listing
word_row p.Codegen = asking Loops Code
word_row p.Pip = asking Trees Tree

-- a value is asked for
abbrev pub makes_value : Question → Bool
makes_value Value = true
makes_value Elements = false
makes_value Loops = false
makes_value Trees = false

-- it makes a value whose elements are told by those of its operand
abbrev pub tells_elements : Prefix → Bool
tells_elements word = makes_value (word_row word).asks && not (word_row word).chooses
