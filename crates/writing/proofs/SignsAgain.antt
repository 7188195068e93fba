-- A sign that is written, with a separator of the writer's behind it, is read back.
-- Assumes nothing.
use Rattle.std.specs.Prelude.{None, Option, Some, codes}
use mathlib.Core.Path.{◌≡◌, refl, sym, ap, ◌∙◌}
use mathlib.Core.Bool.{Bool, true, false, cond}
use mathlib.Core.List.{List, [], ◌∷◌, ◌++◌, append_assoc}
use Prim.Native.Nat.{ℕ, ◌+◌}
use native.Mathlib.Omega.{arith}
use lib.Dec.{T, eqb, leb, leb→le}
use lib.ListN.{length, get_or, drop, length-append}
use lib.Seq.{drop_at, get_or-append-add}
use Rattle.refusals.specs.Limits.{document01}
use Rattle.signs.specs.declared.sign.Jumped.TheVariants.{Dc, DcCoda, DcFine, Ds, DsCoda, DsFine}
use Rattle.signs.specs.declared.sign.Sign.{Sign}
use Rattle.signs.specs.declared.sign.Sign.TheVariants.{Block, Time, LeftRepeat, RightRepeat, OpenEnding, CloseEnding, Jump, Segno, Coda, ToCoda, Fine}
use Rattle.signs.specs.Text.{separator, past, starts}
use Rattle.signs.specs.Numbers.{pair_at}
use Rattle.signs.specs.Spellings.{Spelling, spellings, made, finished_as}
use Rattle.signs.specs.Next.{sign, coming}
use Rattle.signs.proofs.Gaps.{past_here, there}
use Rattle.signs.proofs.Table.{both_left, both_right}
use Rattle.signs.proofs.Longest.{or_else, first, longest_first}
use Rattle.signs.proofs.Coming.{coming_as_lem}
use Rattle.writing.specs.Spell.{pair_text, spell}
use Rattle.writing.specs.Writing.{both_small, small}
use Rattle.writing.proofs.NumbersAgain.{pair_again}

-- what the writer puts behind a sign: byte 32, or 10 at the end
abbrev pub after : Bool → ℕ
after true = 32
after false = 10

-- the first of a table that stands where the bytes r do
abbrev first_of : List ℕ → List ℕ → ℕ → List Spelling → Option (Sign × ℕ)
first_of text r at [] = None
first_of text r at (s ∷ ss) = or_else (cond (starts s.letters r) (finished_as text (at + length s.letters) s.means) None) (first_of text r at ss)

first_of_lem : (text r : List ℕ) (at : ℕ) (ss : List Spelling) → drop at text ≡ r → first text at ss ≡ first_of text r at ss
first_of_lem text r at [] e = refl
first_of_lem text r at (s ∷ ss) e = rw (e, first_of_lem text r at ss e)

-- a sign that carries numbers: its letters are those of no other, so the numbers behind them decide
abbrev Only : List ℕ → (ℕ → ℕ → Sign) → Type 0
Only w f = (text r : List ℕ) (at : ℕ) → first_of text (w ++ r) at spellings ≡ or_else (made f (pair_at text (at + length w))) None

only_block : Only (codes "(b,") Block
unfolding spellings starts
only_block text r at = refl

only_time : Only (codes "(ts,") Time
unfolding spellings starts
only_time text r at = refl

-- a sign of these letters and two numbers
numbered_again : (w : List ℕ) (f : ℕ → ℕ → Sign) → Only w f → (text pre post : List ℕ) (k l : ℕ) → T (both_small document01 k l)
    → text ≡ pre ++ ((w ++ pair_text k l) ++ post) → first_of text ((w ++ pair_text k l) ++ post) (length pre) spellings ≡ Some ((f k l), (length pre + length (w ++ pair_text k l)))
numbered_again w f o text pre post k l h e =
    let a = leb→le k 999999 (both_left (leb k 999999) (leb l 999999) h) in
    let b = leb→le l 999999 (both_right (leb k 999999) (leb l 999999) h) in
    let g : text ≡ (pre ++ w) ++ (pair_text k l ++ post) = e ∙ simp append_assoc in
    let q : length (pre ++ w) ≡ length pre + length w = length-append pre w in
    let p : pair_at text (length pre + length w) ≡ Some (k, l, (length pre + length w + length (pair_text k l))) = pair_again text (pre ++ w) post k l (length pre + length w) (omega arith) (omega arith) g q in
    let z : length pre + length w + length (pair_text k l) ≡ length pre + length (w ++ pair_text k l) = omega (arith, length-append w (pair_text k l)) in
    rw append_assoc (o text (pair_text k l ++ post) (length pre) ∙ rw (p, z))

-- what is written of a sign, with no byte 46 behind it: its first byte is no separator, and it is read as that sign
abbrev Begins : List ℕ → Type 0
Begins text = (separator (get_or text 0 0) ≡ false) × (get_or text 0 0 ≡ 0 → ⊥)

abbrev Again : List ℕ → List ℕ → Sign → List ℕ → Type 0
Again text pre s post = Begins (spell s ++ post) × (first_of text (spell s ++ post) (length pre) spellings ≡ Some (s, (length pre + length (spell s))))

again : (s : Sign) → T (small document01 s) → (text pre post : List ℕ) (x : ℕ) → eqb 46 x ≡ false → text ≡ pre ++ (spell s ++ (x ∷ post)) → Again text pre s (x ∷ post)
unfolding spell spellings starts
again (Block k l) t text pre post x d e = ((refl, λ q. omega arith), numbered_again (codes "(b,") Block only_block text pre (x ∷ post) k l t e)
again (Time m n) t text pre post x d e = ((refl, λ q. omega arith), numbered_again (codes "(ts,") Time only_time text pre (x ∷ post) m n t e)
again LeftRepeat t text pre post x d e = ((refl, λ q. omega arith), refl)
again RightRepeat t text pre post x d e = ((refl, λ q. omega arith), refl)
again OpenEnding t text pre post x d e = ((refl, λ q. omega arith), refl)
again CloseEnding t text pre post x d e = ((refl, λ q. omega arith), refl)
again (Jump DcCoda) t text pre post x d e = ((refl, λ q. omega arith), refl)
again (Jump DcFine) t text pre post x d e = ((refl, λ q. omega arith), refl)
again (Jump DsCoda) t text pre post x d e = ((refl, λ q. omega arith), refl)
again (Jump DsFine) t text pre post x d e = ((refl, λ q. omega arith), refl)
again Segno t text pre post x d e = ((refl, λ q. omega arith), refl)
again Coda t text pre post x d e = ((refl, λ q. omega arith), refl)
again ToCoda t text pre post x d e = ((refl, λ q. omega arith), refl)
again Fine t text pre post x d e = ((refl, λ q. omega arith), refl)
again (Jump Dc) t text pre post x d e = ((refl, λ q. omega arith), rw d)
again (Jump Ds) t text pre post x d e = ((refl, λ q. omega arith), rw d)

-- what the writer puts behind a sign is no byte 46
after_lem : (b : Bool) → eqb 46 (after b) ≡ false
after_lem true = refl
after_lem false = refl

module _ (s : Sign) (t : T (small document01 s)) (text pre post : List ℕ) (b : Bool) (e : text ≡ pre ++ (spell s ++ (after b ∷ post))) where
  behind : drop (length pre) text ≡ spell s ++ (after b ∷ post)
  behind = rw (e, drop_at pre (spell s ++ (after b ∷ post)) (length pre) refl)

  head : get_or text (length pre) 0 ≡ get_or (spell s ++ (after b ∷ post)) 0 0
  head = let z : length pre + 0 ≡ length pre = omega arith in rw (e, ← z, get_or-append-add pre (spell s ++ (after b ∷ post)) 0 0)

  read : Again text pre s (after b ∷ post)
  read = again s t text pre post (after b) (after_lem b) e

  pub coming_again : (from : ℕ) → past false text from ≡ length pre → coming text from ≡ sign s (length pre) (length pre + length (spell s))
  coming_again from p =
      let r = longest_first text (length pre) ∙ first_of_lem text (spell s ++ (after b ∷ post)) (length pre) spellings behind ∙ read.1 in
      coming_as_lem text from (length pre) (sym p) (there text (length pre) (λ q. read.0.1 (sym head ∙ q))) (Some (s, (length pre + length (spell s)))) r

  pub begins_here : past false text (length pre) ≡ length pre
  begins_here = past_here false text (length pre) (ap separator head ∙ read.0.0)
