-- The signs of a list of words.
-- Assumes nothing.
use Rattle.std.specs.Prelude.{List, [], ◌∷◌, ℕ, None, Some}
use Rattle.signs.specs.declared.sign.Sign.{Sign}
use Rattle.signs.specs.Words.{Unpacked, sign_of}

-- a sign in front of others; no more come where there is none
abbrev pub onto : Unpacked → List Sign → List Sign
onto None s = []
onto (Some x) s = x ∷ s

-- the signs of words, up to the first word that is none
abbrev pub listed : List ℕ → List Sign
listed [] = []
listed (w ∷ words) = onto (sign_of w) (listed words)
