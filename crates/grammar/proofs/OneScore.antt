-- Any two answers that meet the promise of the reader of a whole score are equal.
-- Assumes nothing.
use Rattle.std.specs.Prelude.{◌≡◌, true, List, map, ℕ, ◌≤◌, length, drop, Result, Ok, Err}
use Rattle.std.proofs.Common.{sym, ap, ◌∙◌, arith}
use Rattle.std.proofs.lemmas.List.{length-drop, length-map}
use Rattle.signs.specs.Words.{sign_of}
use Rattle.score.specs.Shapes.{Score}
use Rattle.score.proofs.Alphabet.{Kind, kind_of}
use Rattle.score.proofs.Reader.{Fin, done, stop, read_score}
use Rattle.grammar.specs.declared.place.Halt.{Halt}
use Rattle.grammar.specs.declared.whole.Whole.{Whole}
use Rattle.grammar.specs.Kinds.{halt, kinds_of}
use Rattle.grammar.specs.Parts.{whole_of}
use Rattle.grammar.specs.Wholes.{Within, FinIs, ScoreIs}

kinds_many : (w : List ℕ) → length (kinds_of w) ≡ length w
kinds_many w = length-map (map sign_of w) kind_of ∙ length-map w sign_of

same_place : (l : List Kind) (p q : ℕ) → p ≤ length l → q ≤ length l → drop p l ≡ drop q l → p ≡ q
same_place l p q a b e = omega (arith, length-drop p l, length-drop q l, ap length e)

same_score : (t u : Score) → done t ≡ done u → t ≡ u
same_score t u e = cc

one : (w : List ℕ) (f : Fin) (x y : Result Whole Halt) → Within w x → Within w y → FinIs w x f → FinIs w y f → x ≡ y
one w f (Ok x) (Ok y) a b c d =
    let q : c.0 ≡ d.0 = same_score c.0 d.0 (sym c.1 ∙ d.1) in
    ap Ok (c.2 ∙ ap whole_of q ∙ sym d.2)
one w f (Ok x) (Err h) a b c d = let q : done c.0 ≡ stop (drop h.at (kinds_of w)) = sym c.1 ∙ d in absurd (cc)
one w f (Err h) (Ok y) a b c d = let q : done d.0 ≡ stop (drop h.at (kinds_of w)) = sym d.1 ∙ c in absurd (cc)
one w f (Err h) (Err k) a b c d =
    let q : drop h.at (kinds_of w) ≡ drop k.at (kinds_of w) = cc in
    ap (λ n. Err (halt n)) (same_place (kinds_of w) h.at k.at (rw (kinds_many w) a) (rw (kinds_many w) b) q)

-- one answer for each list of words
pub one_score : (w : List ℕ) (x y : Result Whole Halt) → ScoreIs w x → ScoreIs w y → x ≡ y
one_score w x y a b = one w (read_score true (kinds_of w)) x y a.0 b.0 a.1 b.1
