-- Texts that are written at a place.
use Rattle.std.specs.Prelude.{ℕ, ◌/◌, ◌%◌, List, ◌++◌, decimal}

-- the last four decimal digits, padded with zeros
abbrev pub last_four : ℕ → List ℕ
last_four number = decimal (number / 1000 % 10) ++ (decimal (number / 100 % 10) ++ (decimal (number / 10 % 10) ++ decimal (number % 10)))
