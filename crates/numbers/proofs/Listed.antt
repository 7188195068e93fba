-- The signs of a list of words that are all signs.
-- Assumes nothing.
use Rattle.std.proofs.Common.{◌≡◌, ◌∙◌, ◌^◌, ◌-◌, ◌+◌, ◌≤◌, ℕ, suc, List, [], ◌∷◌, map, min, true, false, Bool, refl, ap, arith}
use Rattle.std.specs.Prelude.{Option, None, Some}
use Rattle.std.proofs.lemmas.Bool.Decides.{nat_tests}
use Rattle.refusals.specs.Limits.{Limits, document01}
use Rattle.signs.specs.declared.sign.Sign.{Sign}
use Rattle.signs.specs.declared.sign.Sign.TheVariants.{Block}
use Rattle.signs.specs.Words.{sign_of}
use Rattle.score.specs.Numbers.{keeps, beats_of, written, first_break}
use Rattle.numbers.specs.Listed.{onto, listed}

-- the signs of words that are all signs
pub listed_signs : (words : List ℕ) (ss : List Sign) → map sign_of words ≡ map Some ss → listed words ≡ ss
listed_signs [] [] e = refl
listed_signs [] (x ∷ ss) e = absurd (cc)
listed_signs (w ∷ words) [] e = absurd (cc)
listed_signs (w ∷ words) (x ∷ ss) e =
    let here : sign_of w ≡ Some x = cc in
    let rest : map sign_of words ≡ map Some ss = cc in
    ap (λ o. onto o (listed words)) here ∙ ap (λ s. x ∷ s) (listed_signs words ss rest)

-- the first of them that breaks its rule is theirs
pub numbers_of_signs : (words : List ℕ) (ss : List Sign) → map sign_of words ≡ map Some ss → first_break document01 0 (listed words) ≡ first_break document01 0 ss
numbers_of_signs words ss e = ap (first_break document01 0) (listed_signs words ss e)

-- where a sign keeps its rule, the blocks up to it end within the limit
pub keeps_within : (l : Limits) (e : ℕ) (x : Sign) → keeps l e x ≡ true → e ≤ l.number → e + beats_of x ≤ l.number
keeps_within l e (Block k n) h m = grind (arith, nat_tests)
keeps_within l e _ h m = omega arith

-- where no sign breaks its rule, the blocks end within the limit
pub written_within : (l : Limits) (e : ℕ) (ss : List Sign) → first_break l e ss ≡ None → e ≤ l.number → e + written ss ≤ l.number
written_within l e [] h m = omega arith
written_within l e (x ∷ ss) h m = go (keeps l e x) refl (first_break l (e + beats_of x) ss) refl (written_within l (e + beats_of x) ss)
  where
    go : (b : Bool) → keeps l e x ≡ b → (o : Option ℕ) → first_break l (e + beats_of x) ss ≡ o
        → (first_break l (e + beats_of x) ss ≡ None → e + beats_of x ≤ l.number → e + beats_of x + written ss ≤ l.number)
        → e + (beats_of x + written ss) ≤ l.number
    go true k None f r = omega (arith, r f (keeps_within l e x k m))
    go true k (Some i) f r = absurd (let n : Some (suc i) ≡ None = rw (k, f) at h in cc)
    go false k o f r = absurd (let n : Some 0 ≡ None = rw k at h in cc)

-- where none of them breaks its rule, the beats that are written are theirs
pub beats_of_signs : (words : List ℕ) (ss : List Sign) → map sign_of words ≡ map Some ss → first_break document01 0 ss ≡ None
    → min (written (listed words)) (2 ^ 64 - 1) ≡ written ss
beats_of_signs words ss e h =
    let within : 0 + written ss ≤ 999999 = written_within document01 0 ss h (omega arith) in
    rw (listed_signs words ss e) (omega arith)
