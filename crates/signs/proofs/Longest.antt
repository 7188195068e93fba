-- The longest spelling of any table stands, and no other ends later; in the table of the spellings it is also the first that stands.
-- Assumes nothing.
use Rattle.std.specs.Prelude.{None, Option, Some}
use mathlib.Core.Path.{◌≡◌, refl, sym, ◌∙◌}
use mathlib.Core.Bool.{Bool, true, false, not, cond, ◌&&◌, ◌||◌}
use mathlib.Core.List.{List, [], ◌∷◌}
use mathlib.Core.Logic.{◌⊎◌, inl, inr, ⊎_elim}
use Prim.Native.Nat.{ℕ, ◌+◌, ◌≤◌, ◌<◌}
use native.Mathlib.Omega.{arith}
use borrow.Author.Tests.{eqb-true, eq-eqb, le-ltb, ltb-true, ltb-false}
use lib.Dec.{T, T_not, eqb, ltb}
use lib.ListN.{length, drop}
use Rattle.signs.specs.declared.sign.Sign.{Sign}
use Rattle.signs.specs.Text.{starts}
use Rattle.signs.specs.Spellings.{Meaning, alone, numbered, Spelling, spellings, finished_as, spelled, longer, longest}
use Rattle.signs.proofs.Gaps.{same_place, clash, both_true}
use Rattle.signs.proofs.Table.{both_left, both_right}

-- a spelling of a table
pub data In (s : Spelling) : List Spelling → Type 0 where
  here : {ss : List Spelling} → In s (s ∷ ss)
  there : {t : Spelling} {ss : List Spelling} → In s ss → In s (t ∷ ss)

-- the longest stands: it is what some spelling of the table gives there
pub record Comes (text : List ℕ) (at : ℕ) (ss : List Spelling) (r : Option (Sign × ℕ)) : Type 0 where
  pub from : Spelling
  pub listed : In from ss
  pub gives : spelled text at from ≡ r

comes_later : {text : List ℕ} {at : ℕ} {s : Spelling} {ss : List Spelling} {r : Option (Sign × ℕ)} → Comes text at ss r → Comes text at (s ∷ ss) r
comes_later c = record { from = c.from; listed = there c.listed; gives = c.gives }

longer_is : (a b : Option (Sign × ℕ)) (s : Sign) (p : ℕ) → longer a b ≡ Some (s, p) → (a ≡ Some (s, p)) ⊎ (b ≡ Some (s, p))
longer_is None b s p e = inr e
longer_is (Some (t, q)) None s p e = inl e
longer_is (Some (t, q)) (Some (u, r)) s p e = go (ltb q r) e
  where
    go : (x : Bool) → cond {A = Option (Sign × ℕ)} x (Some (u, r)) (Some (t, q)) ≡ Some (s, p) → ◌≡◌ {A = Option (Sign × ℕ)} (Some (t, q)) (Some (s, p)) ⊎ ◌≡◌ {A = Option (Sign × ℕ)} (Some (u, r)) (Some (s, p))
    go true e = inr e
    go false e = inl e

pub longest_stands : (text : List ℕ) (at : ℕ) (ss : List Spelling) (s : Sign) (p : ℕ) → longest text at ss ≡ Some (s, p) → Comes text at ss (Some (s, p))
unfolding longest
longest_stands text at [] s p e = clash (cc)
longest_stands text at (t ∷ ss) s p e =
    ⊎_elim (λ a. record { from = t; listed = here; gives = a }) (λ b. comes_later (longest_stands text at ss s p b)) (longer_is (spelled text at t) (longest text at ss) s p e)

-- what ends before p
abbrev pub Within : ℕ → Option (Sign × ℕ) → Type 0
Within p None = Unit
Within p (Some (s, q)) = q < p

-- b ends where r does, or before
abbrev Reached : Option (Sign × ℕ) → Option (Sign × ℕ) → Type 0
Reached None r = Unit
Reached (Some (s, q)) None = ⊥
Reached (Some (s, q)) (Some (t, p)) = q ≤ p

reached_left : (a b : Option (Sign × ℕ)) → Reached a (longer a b)
reached_left None b = tt
reached_left (Some (s, p)) None = omega arith
reached_left (Some (s, p)) (Some (t, q)) = go (ltb p q) refl
  where
    go : (x : Bool) → ltb p q ≡ x → Reached (Some (s, p)) (cond x (Some (t, q)) (Some (s, p)))
    go true e = omega (arith, ltb-true p q e)
    go false e = omega arith

reached_right : (c a b : Option (Sign × ℕ)) → Reached c b → Reached c (longer a b)
reached_right None a b r = tt
reached_right (Some (u, o)) None b r = r
reached_right (Some (u, o)) (Some (s, p)) None r = absurd r
reached_right (Some (u, o)) (Some (s, p)) (Some (t, q)) r = go (ltb p q) refl
  where
    go : (x : Bool) → ltb p q ≡ x → Reached (Some (u, o)) (cond x (Some (t, q)) (Some (s, p)))
    go true e = r
    go false e = omega (arith, ltb-false p q e)

-- no spelling of the table that stands there ends later
pub longest_most : (text : List ℕ) (at : ℕ) (ss : List Spelling) (s : Spelling) → In s ss → Reached (spelled text at s) (longest text at ss)
unfolding longest
longest_most text at [] t m = elim m [ ]
longest_most text at (s ∷ ss) t here = reached_left (spelled text at s) (longest text at ss)
longest_most text at (s ∷ ss) t (there m) = reached_right (spelled text at t) (spelled text at s) (longest text at ss) (longest_most text at ss t m)

-- the first of a table that stands
abbrev pub or_else : Option (Sign × ℕ) → Option (Sign × ℕ) → Option (Sign × ℕ)
or_else None b = b
or_else (Some (s, p)) b = Some (s, p)

abbrev pub first : List ℕ → ℕ → List Spelling → Option (Sign × ℕ)
first text at [] = None
first text at (s ∷ ss) = or_else (spelled text at s) (first text at ss)

-- of letters that both stand in one text the shorter begin the longer
compatible : (u v t : List ℕ) → starts u t ≡ true → starts v t ≡ true → (starts u v ≡ true) ⊎ (starts v u ≡ true)
unfolding starts
compatible [] v t a b = inl refl
compatible (x ∷ u) [] t a b = inr refl
compatible (x ∷ u) (y ∷ v) [] a b = clash (cc)
compatible (x ∷ u) (y ∷ v) (z ∷ t) a b =
    let p = both_true (eqb x z) (starts u t) a in
    let q = both_true (eqb y z) (starts v t) b in
    let xz = eqb-true x z p.0 in
    let yz = eqb-true y z q.0 in
    ⊎_elim
    (λ r. inl (rw (eq-eqb x y (xz ∙ sym yz)) r))
    (λ r. inr (rw (eq-eqb y x (yz ∙ sym xz)) r))
    (compatible u v t p.1 q.1)

abbrev pub simple : Meaning → Bool
simple (alone s) = true
simple (numbered f) = false

-- where both stand, the spelling a ends no earlier than b
abbrev apart : Spelling → Spelling → Bool
apart a b = not (starts a.letters b.letters) && ((simple a.means && simple b.means) || not (starts b.letters a.letters))

abbrev before : Spelling → List Spelling → Bool
before a [] = true
before a (b ∷ bs) = apart a b && before a bs

-- no spelling ends later than one above it
abbrev pub ordered : List Spelling → Bool
ordered [] = true
ordered (s ∷ ss) = before s ss && ordered ss

spelled_starts : (text : List ℕ) (at : ℕ) (s : Spelling) (x : Sign) (p : ℕ) → spelled text at s ≡ Some (x, p)
    → (starts s.letters (drop at text) ≡ true) × (finished_as text (at + length s.letters) s.means ≡ Some (x, p))
spelled_starts text at s x p e = go (starts s.letters (drop at text)) refl e
  where
    go : (t : Bool) → starts s.letters (drop at text) ≡ t → cond t (finished_as text (at + length s.letters) s.means) None ≡ Some (x, p)
        → (starts s.letters (drop at text) ≡ true) × (finished_as text (at + length s.letters) s.means ≡ Some (x, p))
    go true a e = (a, e)
    go false a e = clash (cc)

simple_end : (text : List ℕ) (at : ℕ) (m : Meaning) (x : Sign) (p : ℕ) → T (simple m) → finished_as text at m ≡ Some (x, p) → at ≡ p
simple_end text at (alone s) x p t e = same_place _ _ _ _ e
simple_end text at (numbered f) x p t e = absurd t

or_else_lem : (a b : Bool) → T (a || not b) → b ≡ true → T a
or_else_lem true b t e = tt
or_else_lem false true t e = t
or_else_lem false false t e = clash (cc)

T_true : (b : Bool) → b ≡ true → T b
T_true true e = tt
T_true false e = clash (cc)

-- letters that begin others which do not begin them are fewer
starts_same : (u v : List ℕ) → starts v u ≡ true → length u ≤ length v → starts u v ≡ true
unfolding starts
starts_same [] v e h = refl
starts_same (x ∷ u) [] e h = absurd (omega arith)
starts_same (x ∷ u) (y ∷ v) e h =
    let p = both_true (eqb y x) (starts v u) e in
    rw (eq-eqb x y (sym (eqb-true y x p.0))) (starts_same u v p.1 (omega arith))

fewer : (u v : List ℕ) → T (not (starts u v)) → starts v u ≡ true → length v < length u
fewer u v t e = go (ltb (length v) (length u)) refl
  where
    go : (b : Bool) → ltb (length v) (length u) ≡ b → length v < length u
    go true q = ltb-true (length v) (length u) q
    go false q = absurd (T_not (starts u v) t (T_true _ (starts_same u v e (ltb-false (length v) (length u) q))))

apart_within : (text : List ℕ) (at : ℕ) (a b : Spelling) → T (apart a b) → (x : Sign) (p : ℕ) → spelled text at a ≡ Some (x, p) → Within p (spelled text at b)
apart_within text at a b t x p e = go (spelled text at b) refl
  where
    go : (r : Option (Sign × ℕ)) → spelled text at b ≡ r → Within p r
    go None f = tt
    go (Some (y, q)) f =
        let sa = spelled_starts text at a x p e in
        let sb = spelled_starts text at b y q f in
        let l = both_left (not (starts a.letters b.letters)) ((simple a.means && simple b.means) || not (starts b.letters a.letters)) t in
        let r = both_right (not (starts a.letters b.letters)) ((simple a.means && simple b.means) || not (starts b.letters a.letters)) t in
        ⊎_elim
        (λ c. absurd (T_not (starts a.letters b.letters) l (T_true _ c)))
        (λ c.
        let m = or_else_lem (simple a.means && simple b.means) (starts b.letters a.letters) r c in
        let ea = simple_end text (at + length a.letters) a.means x p (both_left (simple a.means) (simple b.means) m) sa.1 in
        let eb = simple_end text (at + length b.letters) b.means y q (both_right (simple a.means) (simple b.means) m) sb.1 in
        omega (arith, fewer a.letters b.letters l c))
        (compatible a.letters b.letters (drop at text) sa.0 sb.0)

within_longer : (p : ℕ) (a b : Option (Sign × ℕ)) → Within p a → Within p b → Within p (longer a b)
within_longer p None b x y = y
within_longer p (Some (s, q)) None x y = x
within_longer p (Some (s, q)) (Some (t, r)) x y = go (ltb q r)
  where
    go : (z : Bool) → Within p (cond z (Some (t, r)) (Some (s, q)))
    go true = y
    go false = x

before_within : (text : List ℕ) (at : ℕ) (a : Spelling) (ss : List Spelling) → T (before a ss) → (x : Sign) (p : ℕ) → spelled text at a ≡ Some (x, p) → Within p (longest text at ss)
unfolding longest
before_within text at a [] t x p e = tt
before_within text at a (b ∷ ss) t x p e =
    within_longer p (spelled text at b) (longest text at ss)
    (apart_within text at a b (both_left (apart a b) (before a ss) t) x p e)
    (before_within text at a ss (both_right (apart a b) (before a ss) t) x p e)

keeps : (s : Sign) (p : ℕ) (r : Option (Sign × ℕ)) → Within p r → longer (Some (s, p)) r ≡ Some (s, p)
keeps s p None w = refl
keeps s p (Some (t, q)) w = rw (le-ltb p q (omega arith))

first_of_ordered : (text : List ℕ) (at : ℕ) (ss : List Spelling) → T (ordered ss) → longest text at ss ≡ first text at ss
unfolding longest
first_of_ordered text at [] t = refl
first_of_ordered text at (s ∷ ss) t = go (spelled text at s) refl (first_of_ordered text at ss (both_right (before s ss) (ordered ss) t))
  where
    go : (r : Option (Sign × ℕ)) → spelled text at s ≡ r → longest text at ss ≡ first text at ss → longer r (longest text at ss) ≡ or_else r (first text at ss)
    go None e ih = ih
    go (Some (x, p)) e ih = keeps x p (longest text at ss) (before_within text at s ss (both_left (before s ss) (ordered ss) t) x p e)

in_cons : {w x : Spelling} {ss : List Spelling} → In w (x ∷ ss) → (P : Spelling → Type 0) → P x → (In w ss → P w) → P w
in_cons here P a b = a
in_cons (there m) P a b = b m

before_in : (x : Spelling) (ss : List Spelling) (w : Spelling) → T (before x ss) → In w ss → T (apart x w)
before_in x [] w t m = elim m [ ]
before_in x (y ∷ ss) w t here = both_left (apart x y) (before x ss) t
before_in x (y ∷ ss) w t (there m) = before_in x ss w (both_right (apart x y) (before x ss) t) m

-- in an ordered table every other spelling that stands ends before the longest
abbrev Shorter : List ℕ → ℕ → Sign → ℕ → Spelling → Type 0
Shorter text at s p w = (spelled text at w ≡ Some (s, p)) ⊎ Within p (spelled text at w)

others_shorter : (text : List ℕ) (at : ℕ) (ss : List Spelling) → T (ordered ss) → (s : Sign) (p : ℕ) → longest text at ss ≡ Some (s, p) → (w : Spelling) → In w ss → Shorter text at s p w
unfolding longest
others_shorter text at [] o s p e w m = clash (cc)
others_shorter text at (x ∷ ss) o s p e w m = go (spelled text at x) refl e (others_shorter text at ss (both_right (before x ss) (ordered ss) o) s p)
  where
    go : (r : Option (Sign × ℕ)) → spelled text at x ≡ r → longer r (longest text at ss) ≡ Some (s, p) → (longest text at ss ≡ Some (s, p) → (v : Spelling) → In v ss → Shorter text at s p v) → Shorter text at s p w
    go None f e ih = in_cons m (Shorter text at s p) (inr (rw f tt)) (ih e w)
    go (Some (y, q)) f e ih =
        let t = both_left (before x ss) (ordered ss) o in
        let u : Some (y, q) ≡ Some (s, p) = sym (keeps y q (longest text at ss) (before_within text at x ss t y q f)) ∙ e in
        in_cons m (Shorter text at s p) (inl (f ∙ u)) (λ n. inr (apart_within text at x w (before_in x ss w t n) s p (f ∙ u)))

-- the sign that is taken stands there, and is longer than every other that does
pub longest_only : (text : List ℕ) (at : ℕ) (s : Sign) (p : ℕ) → longest text at spellings ≡ Some (s, p)
    → Comes text at spellings (Some (s, p)) × ((w : Spelling) → In w spellings → Shorter text at s p w)
unfolding spellings starts
longest_only text at s p e = (longest_stands text at spellings s p e, others_shorter text at spellings tt s p e)

pub longest_first : (text : List ℕ) (at : ℕ) → longest text at spellings ≡ first text at spellings
unfolding spellings starts
longest_first text at = first_of_ordered text at spellings tt
