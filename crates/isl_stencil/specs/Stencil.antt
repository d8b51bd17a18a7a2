-- public: the script that is made. In a loop over t and i each turn writes A[t, i], and reads from the time before the three elements at
-- and beside i; it is asked which write comes last before each read, and which reads have none (Feautrier, dataflow analysis of array
-- references).
use Rattle.std.specs.Prelude.{ℕ, zero, suc, ◌+◌, List, [], ◌++◌, codes}
use Rattle.std.specs.Fmt.{decimal}

-- what is written, read and scheduled, in a loop over K elements
abbrev pub accesses : ℕ → List ℕ
accesses k =
    codes "D := { S[t, i] : 0 <= t < 4 and 0 <= i < " ++ decimal k ++ codes " };\n"
    ++ codes "W := { S[t, i] -> A[t, i] } * D;\n"
    ++ codes "R := { S[t, i] -> A[t - 1, j] : i - 1 <= j <= i + 1 } * D;\n"
    ++ codes "T := { S[t, i] -> [t, i] } * D;\n"

-- what is asked
abbrev pub questions : List ℕ
questions =
    codes "F := last W before R under T;\n"
    ++ codes "scan dom F[0];\n"
    ++ codes "F[0] = any W before R under T;\n"
    ++ codes "dom F[0] <= D;\n"
    ++ codes "scan deltas F[0];\n"
    ++ codes "scan F[1];\n"

-- the ten lines of one K
abbrev pub lines_of : ℕ → List ℕ
lines_of k = accesses k ++ questions

-- the lines of so many K, one after another
unfoldable pub from : ℕ → ℕ → List ℕ
from k zero = []
from k (suc later) = lines_of k ++ from (k + 1) later

-- the lines of K = 2, 3, .., N + 1
abbrev pub stencil : ℕ → List ℕ
stencil n = from 2 n

abbrev pub most_sizes : ℕ
most_sizes = 1000
