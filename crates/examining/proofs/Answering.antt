-- What is answered for words is right.
-- Assumes nothing.
use Rattle.std.proofs.Common.{◌≡◌, ◌∙◌, sym, ap, subst, arith, true, List, map, ℕ, ◌-◌, ◌≤◌, ◌<◌, drop, length, length-drop, Ok, Err}
use Rattle.std.proofs.lemmas.Bool.{lt-ltb, le-ltb}
use Rattle.std.proofs.lemmas.List.{length-map}
use Rattle.refusals.specs.Limits.{Limits, document01}
use Rattle.refusals.specs.declared.Refusal.TheVariants.{TooManySigns, NoScore}
use Rattle.signs.specs.Words.{sign_of}
use Rattle.score.specs.Shapes.{Score}
use Rattle.score.specs.Readings.{reading, refused, Right}
use Rattle.score.specs.Examined.{Examined, Examines, examined}
use Rattle.score.proofs.Alphabet.{kind_of}
use Rattle.score.proofs.Reader.{Fin, done, stop, read_score, answer, read}
use Rattle.score.proofs.Right.{right}
use Rattle.score.proofs.OneAnswer.{one_answer}
use Rattle.grammar.specs.declared.place.Halt.{Halt}
use Rattle.grammar.specs.declared.whole.Whole.{Whole}
use Rattle.grammar.specs.Kinds.{kinds_of}
use Rattle.grammar.specs.Wholes.{ScoreIs}
use Rattle.examining.specs.Judged.{judged}
use Rattle.examining.proofs.Judging.{judged_is}

module _ (w : List ℕ) where
  -- what the definition's reader answers is right
  right_answer : (f : Fin) → read_score true (kinds_of w) ≡ f → Right true (map sign_of w) (answer (kinds_of w) f)
  right_answer f e = subst (λ g. Right true (map sign_of w) (answer (kinds_of w) g)) e (right true (map sign_of w))

  kinds_long : length (kinds_of w) ≡ length w
  kinds_long = length-map (map sign_of w) kind_of ∙ length-map w sign_of

  -- nothing is read of too many words
  pub too_many : document01.signs < length w → Examines document01 w (Err TooManySigns)
  too_many h = record { grammar = read true (map sign_of w); right = right true (map sign_of w); answer = let e = lt-ltb 1024 (length w) h in rw e }

  -- words that no score is
  pub no_score : length w ≤ document01.signs → (h : Halt) → ScoreIs w (Err h) → Examines document01 w (Err (NoScore h.at))
  no_score short h s =
      let place : length (kinds_of w) - length (drop h.at (kinds_of w)) ≡ h.at = let i = s.0 in omega (arith, kinds_long, length-drop h.at (kinds_of w)) in
      record {
        grammar = refused h.at;
        right = subst (λ i. Right true (map sign_of w) (refused i)) place (right_answer (stop (drop h.at (kinds_of w))) s.1);
        answer = let e = le-ltb 1024 (length w) short in rw e;
      }

  -- words that are a score
  pub a_score : length w ≤ document01.signs → (x : Whole) → ScoreIs w (Ok x) → Examines document01 w (judged w x)
  a_score short x s =
      let t : Score = s.1.0 in
      let r : Right true (map sign_of w) (reading t) = right_answer (done t) s.1.1 in
      record {
        grammar = reading t;
        right = r;
        answer = let e = le-ltb 1024 (length w) short in rw (s.1.2, e) (judged_is w t r.0.valid (sym r.0.same) short);
      }

-- Any two right outcomes for words are equal.
pub one_outcome : (l : Limits) (w : List ℕ) (x y : Examined) → Examines l w x → Examines l w y → x ≡ y
one_outcome l w x y h k =
    h.answer ∙ ap (examined l (length w)) (one_answer true (map sign_of w) h.grammar k.grammar h.right k.right) ∙ sym k.answer
