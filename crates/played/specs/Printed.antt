-- What is printed of an entry.
-- Assumes nothing.
use Rattle.std.specs.Prelude.{List, ◌++◌, ℕ, codes}
use Rattle.std.specs.Fmt.{decimal}
use Rattle.played.specs.declared.Played.{Played}

-- (b,k,l,z)
abbrev pub printed : Played → List ℕ
printed e = codes "(b," ++ (decimal e.k ++ (codes "," ++ (decimal e.l ++ (codes "," ++ (decimal e.z ++ codes ")")))))
