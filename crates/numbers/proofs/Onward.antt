-- The signs of a list of words from a place on: what each word there adds to what is said of them.
-- Assumes nothing.
use Rattle.std.proofs.Common.{◌≡◌, ◌∙◌, ◌+◌, ◌<◌, ℕ, List, [], ◌∷◌, length, drop, get_or, true, false, refl, ap, arith}
use Rattle.std.specs.Prelude.{Option, None, Some}
use Rattle.std.proofs.lemmas.List.{at_drop_more}
use Rattle.refusals.specs.Limits.{document01}
use Rattle.signs.specs.declared.sign.Sign.{Sign}
use Rattle.signs.specs.Words.{sign_of}
use Rattle.score.specs.Numbers.{keeps, beats_of, later, first_break}
use Rattle.numbers.specs.Listed.{onto, listed}

-- a place among those that are left, among all
abbrev pub on : ℕ → Option ℕ → Option ℕ
on i None = None
on i (Some j) = Some (i + j)

on_later : (i : ℕ) (o : Option ℕ) → on i (later o) ≡ on (i + 1) o
on_later i None = refl
on_later i (Some j) = ap Some (omega arith)

-- at the start all are left
pub on_start : (o : Option ℕ) → on 0 o ≡ o
on_start None = refl
on_start (Some j) = ap Some (omega arith)

module _ (words : List ℕ) (i : ℕ) (h : i < length words) where
  -- from a word that is no sign on there are none
  pub listed_none : sign_of (get_or words i 0) ≡ None → listed (drop i words) ≡ []
  listed_none e = at_drop_more listed words i 0 h ∙ ap (λ o. onto o (listed (drop (i + 1) words))) e

  -- from a word that is a sign on
  pub listed_some : (x : Sign) → sign_of (get_or words i 0) ≡ Some x → listed (drop i words) ≡ x ∷ listed (drop (i + 1) words)
  listed_some x e = at_drop_more listed words i 0 h ∙ ap (λ o. onto o (listed (drop (i + 1) words))) e

  module _ (end : ℕ) (x : Sign) (e : sign_of (get_or words i 0) ≡ Some x) where
    -- it breaks its rule
    pub breaks_here : keeps document01 end x ≡ false → on i (first_break document01 end (listed (drop i words))) ≡ Some i
    breaks_here k = rw (listed_some x e, k) (ap Some (omega arith))

    -- it keeps its rule, and those behind it go on where it ends
    pub breaks_later : keeps document01 end x ≡ true
        → on i (first_break document01 end (listed (drop i words))) ≡ on (i + 1) (first_break document01 (end + beats_of x) (listed (drop (i + 1) words)))
    breaks_later k = rw (listed_some x e, k) (on_later i (first_break document01 (end + beats_of x) (listed (drop (i + 1) words))))
