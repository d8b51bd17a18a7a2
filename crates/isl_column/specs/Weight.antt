-- public: how much memory rows are reckoned to take, and how much of it is kept. (the bound is this project's own)
use Rattle.std.specs.Prelude.{ℕ, ◌+◌, ◌*◌, ◌<◌, nat_le, if◌then◌else◌}

-- how many bytes a row over so many columns takes: up to eight coefficients lie in it, and more of them beside it
abbrev pub row_bytes : ℕ → ℕ
row_bytes columns = if nat_le columns 8 then 208 else columns * 16 + 208

-- so many rows over so many columns take more memory than is kept, which is 96 MiB
abbrev pub TakeTooMuch : ℕ → ℕ → Type 0
TakeTooMuch rows columns = 100663296 < rows * row_bytes columns
