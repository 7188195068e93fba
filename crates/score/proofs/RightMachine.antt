-- The machine's answer is the right one.
-- Assumes nothing.
use mathlib.Core.Path.{◌≡◌, refl, sym, ◌∙◌, ap, subst}
use mathlib.Core.Bool.{Bool}
use mathlib.Core.Option.{Option, none, some}
use mathlib.Core.List.{List, [], ◌∷◌, ◌++◌, append_assoc, append-nil, map, map-append}
use Prim.Native.Nat.{ℕ, suc, ◌+◌, ◌≤◌, ◌<◌, zero-le}
use native.Mathlib.Omega.{arith}
use native.Mathlib.Nat.{le_of_suc-le-suc, zero-add}
use lib.ListN.{length, take}
use Rattle.signs.specs.declared.sign.Sign.{Sign}
use Rattle.signs.specs.Words.{Unpacked}
use Rattle.std.specs.Prelude.{Some as Packed, None as Nothing}
use Rattle.score.specs.Trees.{Run, ◌▸◌, group, no_more, ◌then◌}
use Rattle.score.specs.Shapes.{Score}
use Rattle.score.specs.Spelling.{signs_of}
use Rattle.score.specs.Readings.{Reads, Begins, Answer, reading, refused, Right}
use Rattle.score.proofs.Alphabet.{Kind, strange, kind_of, sign_kind, kinds, spelt, sign_of_kind}
use Rattle.score.proofs.Machine.{State, start, next, finish, out, go_on, go, at, half, sep, wait, shut, Found, found, opening}
use Rattle.score.proofs.Sound.{sig, Ok, All, Has, next_ok, Is, finish_ok}
use Rattle.score.proofs.Viable.{begins}
use Rattle.score.proofs.Complete.{and_then, run, reads_all}

-- the machine without its places
abbrev forget : Answer → Option Score
forget (reading t) = some t
forget (refused i) = none

forget_out : (n : ℕ) (o : Option Score) → forget (out n o) ≡ o
forget_out n none = refl
forget_out n (some t) = refl

forget_on : (n : ℕ) (o : Option State) (f : State → Answer) (g : State → Option Score) → ((u : State) → forget (f u) ≡ g u) → forget (go_on n o f) ≡ and_then o g
forget_on n none f g h = refl
forget_on n (some u) f g h = h u

from_forget : (o : Answer) (t : Score) → forget o ≡ some t → o ≡ reading t
from_forget (reading u) t e = cc
from_forget (refused i) t e = cc

-- signs, as the machine takes them
kinds_packed : (l : List Sign) → map kind_of (map Packed l) ≡ kinds l
kinds_packed [] = refl
kinds_packed (x ∷ l) = ap (λ k. sign_kind x ∷ k) (kinds_packed l)

-- the words of what has been read, and of one sign more
one_word : (l : List Sign) (x : Sign) → map Packed (l ++ spelt (sign_kind x)) ≡ map Packed l ++ (Packed x ∷ [])
one_word l x = rw sign_of_kind (map-append Packed l (x ∷ []))

-- a word that is no sign stops the machine
shut_strange : (implied : Bool) (r : Run) (f : Option Found) → shut implied strange r f ≡ none
shut_strange implied r none = refl
shut_strange implied r (some (found o b K)) = refl

next_strange : (implied : Bool) (s : State) → next implied s strange ≡ none
next_strange implied (at K r) = refl
next_strange implied (half K o b m e) = refl
next_strange implied (sep K o b m no_more e) = refl
next_strange implied (sep K o b m (es then f) e) = shut_strange implied (b ▸ group o m (es then f) e) (opening implied K)
next_strange implied (wait w) = refl

module _ (implied : Bool) where
  machine : ℕ → State → List Unpacked → Answer
  machine n s x = go implied n s (map kind_of x)

  -- What the machine says from a state that has read l, with x to come: F is the machine from there.
  record Fails (n : ℕ) (l x : List Unpacked) (F : List Unpacked → Answer) (i : ℕ) : Type 0 where
    k : ℕ
    place : i ≡ n + k
    within : k ≤ length x
    before : Begins implied (l ++ take k x)
    again : k < length x → (y : List Unpacked) → F (take (suc k) x ++ y) ≡ refused i

  abbrev Says : ℕ → List Unpacked → List Unpacked → (List Unpacked → Answer) → Answer → Type 0
  Says n l x F (reading t) = Reads implied (l ++ x) t
  Says n l x F (refused i) = Fails n l x F i

  stuck : (n : ℕ) (s : State) (x : List Unpacked) (F : List Unpacked → Answer) → Ok implied s → (0 < length x → (y : List Unpacked) → F (take 1 x ++ y) ≡ refused n)
      → Fails n (map Packed (sig s)) x F n
  stuck n s x F c h = record { k = 0; place = omega arith; within = zero-le; before = rw append-nil (begins implied s c); again = h }

  says_out : (n : ℕ) (s : State) (o : Option Score) → Ok implied s → All (Is implied (sig s)) o → Says n (map Packed (sig s)) [] (machine n s) (out n o)
  says_out n s none c h = stuck n s [] (machine n s) c (λ (w : 0 < 0) y. absurd (omega arith))
  says_out n s (some t) c h = record { valid = h.1; same = ap (map Packed) h.0 ∙ sym (append-nil (map Packed (sig s))) }

  later : (n : ℕ) (l : List Unpacked) (x : Unpacked) (xs : List Unpacked) (F G : List Unpacked → Answer) (o : Answer)
      → ((y : List Unpacked) → G (x ∷ y) ≡ F y) → Says (suc n) (l ++ (x ∷ [])) xs F o → Says n l (x ∷ xs) G o
  later n l x xs F G (reading t) e h = rw append_assoc at h
  later n l x xs F G (refused i) e h =
      let p = h.place in
      let w = h.within in
      record {
        k = suc h.k;
        place = omega arith;
        within = omega arith;
        before = rw append_assoc at h.before;
        again = λ q y. e (take (suc h.k) xs ++ y) ∙ h.again (le_of_suc-le-suc q) y;
      }

  says_next : (n : ℕ) (s : State) (x : Sign) (xs : List Unpacked) (o : Option State) → Ok implied s → next implied s (sign_kind x) ≡ o → All (Has implied (sig s ++ spelt (sign_kind x))) o
      → ((u : State) → Ok implied u → Says (suc n) (map Packed (sig u)) xs (machine (suc n) u) (machine (suc n) u xs))
      → Says n (map Packed (sig s)) (Packed x ∷ xs) (machine n s) (go_on n o (λ u. machine (suc n) u xs))
  unfolding go machine
  says_next n s x xs none c e h ih = stuck n s (Packed x ∷ xs) (machine n s) c (λ w y. rw e)
  says_next n s x xs (some u) c e h ih =
      later n (map Packed (sig s)) (Packed x) xs (machine (suc n) u) (machine n s) (machine (suc n) u xs) (λ y. rw e)
      (subst (λ l. Says (suc n) l xs (machine (suc n) u) (machine (suc n) u xs)) (ap (map Packed) h.0 ∙ one_word (sig s) x) (ih u h.1))

  strange_stops : (n : ℕ) (s : State) (y : List Unpacked) → machine n s (Nothing ∷ y) ≡ refused n
  unfolding go machine
  strange_stops n s y = rw (next_strange implied s)

  says : (x : List Unpacked) (n : ℕ) (s : State) → Ok implied s → Says n (map Packed (sig s)) x (machine n s) (machine n s x)
  unfolding go machine
  says [] n s c = says_out n s (finish implied s) c (finish_ok implied s c)
  says (Packed x ∷ xs) n s c = says_next n s x xs (next implied s (sign_kind x)) c refl (next_ok implied s (sign_kind x) c) (λ u d. says xs (suc n) u d)
  says (Nothing ∷ xs) n s c = subst (Says n (map Packed (sig s)) (Nothing ∷ xs) (machine n s)) (sym (strange_stops n s xs)) (stuck n s (Nothing ∷ xs) (machine n s) c (λ w y. strange_stops n s y))

  forget_go : (x : List Kind) (n : ℕ) (s : State) → forget (go implied n s x) ≡ run implied s x
  unfolding go
  forget_go [] n s = forget_out n (finish implied s)
  forget_go (x ∷ xs) n s = forget_on n (next implied s x) (λ u. go implied (suc n) u xs) (λ u. run implied u xs) (λ u. forget_go xs (suc n) u)

  -- each reading is found
  found_it : (l : List Unpacked) (t : Score) → Reads implied l t → machine 0 start l ≡ reading t
  unfolding machine
  found_it l t h =
      from_forget (machine 0 start l) t
      (forget_go (map kind_of l) 0 start
      ∙ ap (λ w. run implied start (map kind_of w)) (sym h.same)
      ∙ ap (run implied start) (kinds_packed (signs_of t))
      ∙ reads_all implied t h.valid)

  right_of : (l : List Unpacked) (o : Answer) → machine 0 start l ≡ o → Says 0 [] l (machine 0 start) o → Right implied l o
  right_of l (reading t) e h = (h, λ u r. let p = found_it l u r in cc)
  right_of l (refused i) e h =
      let q : i ≡ h.k = h.place ∙ zero-add h.k in
      record {
        within = rw q h.within;
        before = rw q h.before;
        first = λ w b.
            let p = found_it (take (suc i) l ++ b.rest) b.tree b.reads in
            let w' : h.k < length l = rw q at w in
            let z = h.again w' b.rest in
            let y : machine 0 start (take (suc i) l ++ b.rest) ≡ refused i = rw q (rw q at z) in
            let c : ◌≡◌ {A = ℕ} 0 1 = cc in omega arith;
        unread = λ t r. let p = found_it l t r in let c : ◌≡◌ {A = ℕ} 0 1 = cc in omega arith;
      }

  -- the theorem, for the machine
  pub machine_right : (l : List Unpacked) → Right implied l (go implied 0 start (map kind_of l))
  unfolding machine
  machine_right l = right_of l (machine 0 start l) refl (says l 0 start (tt, tt, refl))
