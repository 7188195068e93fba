-- What is kept of a stretch is that of its tree: each step of the readers keeps it so.
-- Assumes nothing.
use mathlib.Core.Path.{◌≡◌, refl, sym, ap, ◌∙◌}
use mathlib.Core.List.{List, [], ◌∷◌, ◌++◌, append_assoc, append-nil}
use Prim.Native.Nat.{ℕ, suc, ◌+◌, ◌*◌}
use native.Mathlib.Omega.{arith}
use lib.ListN.{length, length-append}
use Rattle.signs.specs.declared.sign.Sign.{Sign}
use Rattle.signs.specs.declared.sign.Sign.TheVariants.{RightRepeat, OpenEnding, CloseEnding}
use Rattle.score.specs.Trees.{Left as LeftOf}
use Rattle.score.specs.Trees.{Leaf, block, written, lacking, Run, nil, ◌▸◌, Item, leaf, repeat, group, Ends, no_more, ◌then◌}
use Rattle.score.specs.Spelling.{left_signs, run_signs, item_signs, ends_signs}
use Rattle.score.specs.Played.{run_plays, item_plays, ends_play, beats}
use Rattle.score.specs.Steps.{count}
use Rattle.score.specs.Sums.{total, each}
use Rattle.score.specs.Depth.{inner, left_around, run_around, item_around, ends_around}
use Rattle.score.specs.Sizes.{lacks}
use Rattle.score.proofs.Calls.{total-append}
use Rattle.grammar.specs.declared.tally.Tally.{Tally}
use Rattle.grammar.specs.Tallies.{capped, tally, nothing, joined, repeated, grouped}
use Rattle.grammar.specs.declared.stretch.Last.{Last}
use Rattle.grammar.specs.declared.stretch.Left.{Left}
use Rattle.grammar.specs.declared.stretch.Left.TheVariants.{Written, Lacking}
use Rattle.std.specs.Prelude.{Option, None}
use Rattle.std.specs.Option.{option_or}
use Rattle.grammar.specs.Stretches.{too_deep, lack_count, stretch, empty_stretch, block_stretch, followed, closed_as, beginning, begun_as, went_on, finished_as, ends_total, run_tally, ends_tally, deep_of, summed, open_signs, open_around, begun}
use Rattle.grammar.proofs.Capped.{add_left, add_right, times_left, times_right}
use Rattle.grammar.proofs.Deep.{deep_other, deep_left, deep_append, deep_one, deep_two, deep_run, left_around_lem, run_around_lem, ends_around_lem}

pub same_tally : {a b c d e f a' b' c' d' e' f' : ℕ} → a ≡ a' → b ≡ b' → c ≡ c' → d ≡ d' → e ≡ e' → f ≡ f' → tally a b c d e f ≡ tally a' b' c' d' e' f'
same_tally p q r s t u = cc

same_stretch : {a a' : ℕ} {l l' : Last} {d d' : Option ℕ} {t t' : Tally} → a ≡ a' → l ≡ l' → d ≡ d' → t ≡ t' → stretch a l d t ≡ stretch a' l' d' t'
same_stretch p q r s = cc

same_begun : {a n l a' n' l' : ℕ} {d d' : Option ℕ} {m e m' e' : Tally} → a ≡ a' → d ≡ d' → n ≡ n' → l ≡ l' → m ≡ m' → e ≡ e' → beginning a d n l m e ≡ beginning a' d' n' l' m' e'
same_begun p q r s t u = cc

-- the weight of a group
ends_weight : (w : Leaf → ℕ) (es : Ends) (m : List Leaf) → total w (ends_play m es) ≡ count es * total w m + ends_total w es
ends_weight w no_more m = omega arith
ends_weight w (es then e) m =
    let h = ends_weight w es m in rw (total-append w (ends_play m es) (m ++ run_plays e), total-append w m (run_plays e)) (omega arith)

group_weight : (w : Leaf → ℕ) (o : LeftOf) (m : Run) (es : Ends) (e : Run)
    → total w (item_plays (group o m es e)) ≡ suc (count es) * total w (run_plays m) + (ends_total w es + total w (run_plays e))
group_weight w o m es e =
    let h = ends_weight w es (run_plays m) in
    rw (total-append w (ends_play (run_plays m) es) (run_plays m ++ run_plays e), total-append w (run_plays m) (run_plays e)) (omega arith)

-- tallies
follow_tally : (r : Run) (i : Item) → joined (run_tally r) (run_tally (nil ▸ i)) ≡ run_tally (r ▸ i)
unfolding run_tally capped
follow_tally r i =
    same_tally
    (omega arith)
    (omega arith)
    (omega arith)
    (omega (arith, total-append each (run_plays r) (item_plays i)))
    (omega (arith, total-append beats (run_plays r) (item_plays i)))
    (omega arith)

ends_tally_lem : (es : Ends) (e : Run) → joined (ends_tally es) (run_tally e) ≡ ends_tally (es then e)
unfolding run_tally ends_tally capped
ends_tally_lem es e = same_tally (omega arith) (omega arith) (omega arith) (omega arith) (omega arith) (omega arith)

repeat_tally : (o : LeftOf) (r : Run) → repeated (lacks o) (run_tally r) ≡ run_tally (nil ▸ repeat o r)
unfolding run_tally capped
repeat_tally o r =
    same_tally
    (omega arith)
    (omega arith)
    (omega arith)
    (omega (arith, total-append each (run_plays r) (run_plays r)))
    (omega (arith, total-append beats (run_plays r) (run_plays r)))
    (omega arith)

group_tally : (o : LeftOf) (m : Run) (es : Ends) (e : Run)
    → grouped (lacks o) (capped (capped (count es) + 1)) (run_tally m) (joined (ends_tally es) (run_tally e)) ≡ run_tally (nil ▸ group o m es e)
unfolding run_tally ends_tally
group_tally o m es e =
    same_tally
    (simp (add_left, add_right) (ap capped (omega arith)))
    (simp (add_left, add_right) (ap capped (omega arith)))
    (simp (add_left, add_right) (ap capped (omega arith)))
    (simp (add_left, add_right, times_left, times_right) (ap capped (omega (arith, group_weight each o m es e))))
    (simp (add_left, add_right, times_left, times_right) (ap capped (omega (arith, group_weight beats o m es e))))
    (simp (add_left, add_right, times_left, times_right) (ap capped (omega arith)))

-- stretches
pub empty_is : (d p : ℕ) → empty_stretch p ≡ summed d p nil
unfolding run_tally deep_of capped
empty_is d p = same_stretch (omega arith) refl refl refl

pub block_is : (d p k n : ℕ) → block_stretch (p + 1) n ≡ summed d p (nil ▸ leaf (block k n))
unfolding run_tally deep_of capped
block_is d p k n = same_stretch refl refl refl refl

pub follow_is : (d p : ℕ) (r : Run) (i : Item) → followed (summed d p r) (summed d (p + length (run_signs r)) (nil ▸ i)) ≡ summed d p (r ▸ i)
follow_is d p r i =
    same_stretch
    (rw (length-append (run_signs r) (item_signs i)) (omega arith))
    refl
    (sym (deep_append (run_signs r) (item_signs i) (run_around d r) (item_around d i) p (run_around_lem d r)))
    (follow_tally r i)

-- the `|:` of what stands at a place
abbrev pub left_at : ℕ → ℕ → LeftOf → Left
left_at d p written = Written d p
left_at d p lacking = Lacking

lack_is : (d p : ℕ) (o : LeftOf) → lack_count (left_at d p o) ≡ lacks o
lack_is d p written = refl
lack_is d p lacking = refl

deep_before : (d p : ℕ) (o : LeftOf) (s : List Sign) (ds : List ℕ)
    → deep_of p (left_signs o ++ s) (left_around d o ++ ds) ≡ option_or (too_deep (left_at d p o)) (deep_of (p + length (left_signs o)) s ds)
unfolding too_deep
deep_before d p written s ds = deep_left p d s ds
deep_before d p lacking s ds = ap (λ q. deep_of q s ds) (omega arith)

no_ends : nothing ≡ ends_tally no_more
unfolding ends_tally capped
no_ends = refl

pub none_capped : 0 ≡ capped 0
unfolding capped
none_capped = refl

module _ (d p : ℕ) (o : LeftOf) where
  abbrev pub behind : ℕ
  behind = p + length (left_signs o)

  abbrev n : ℕ
  n = inner d o

  pub close_is : (r : Run) → closed_as (left_at d p o) (summed n behind r) ≡ summed d p (nil ▸ repeat o r)
  close_is r =
      same_stretch
      (rw (length-append (left_signs o) (run_signs r ++ (RightRepeat ∷ [])), length-append (run_signs r) (RightRepeat ∷ [])) (omega arith))
      refl
      (sym
      (deep_before d p o (run_signs r ++ (RightRepeat ∷ [])) (run_around n r ++ (d ∷ []))
      ∙ ap (option_or (too_deep (left_at d p o))) (deep_run n behind r (RightRepeat ∷ []) (d ∷ []) (λ q. deep_one q d RightRepeat refl))))
      (ap (λ l. repeated l (run_tally r)) (lack_is d p o) ∙ repeat_tally o r)

  pub begin_is : (r : Run) → begun_as (left_at d p o) (summed n behind r) ≡ begun d p o r no_more
  begin_is r =
      same_begun
      (rw (append-nil (run_signs r), length-append (left_signs o) (run_signs r)) (omega arith))
      (rw (append-nil (run_signs r), append-nil (run_around n r)) (sym (deep_before d p o (run_signs r) (run_around n r))))
      none_capped
      (lack_is d p o)
      refl
      no_ends

  module _ (m : Run) (es : Ends) (e : Run) where
    abbrev u : List Sign
    u = open_signs o m es

    abbrev du : List ℕ
    du = open_around d o m es

    one_a_sign : length du ≡ length u
    one_a_sign = simp (length-append, left_around_lem d o, run_around_lem n m, ends_around_lem n es)

    split_signs : (v : List Sign) → left_signs o ++ (run_signs m ++ (ends_signs es ++ v)) ≡ u ++ v
    split_signs v = simp append_assoc

    split_around : (v : List ℕ) → left_around d o ++ (run_around n m ++ (ends_around n es ++ v)) ≡ du ++ v
    split_around v = simp append_assoc

    -- one more ending, and what follows it
    deep_ending : (s : List Sign) (ds : List ℕ) → ((q : ℕ) → deep_of q s ds ≡ None)
        → deep_of p (u ++ (OpenEnding ∷ (run_signs e ++ s))) (du ++ (n ∷ (run_around n e ++ ds))) ≡ option_or (deep_of p u du) (deep_of (p + length u + 1) (run_signs e) (run_around n e))
    deep_ending s ds h =
        deep_append u (OpenEnding ∷ (run_signs e ++ s)) du (n ∷ (run_around n e ++ ds)) p one_a_sign
        ∙ ap (option_or (deep_of p u du)) (deep_other (p + length u) n OpenEnding (run_signs e ++ s) (run_around n e ++ ds) refl ∙ deep_run n (p + length u + 1) e s ds h)

    pub go_on_is : went_on (begun d p o m es) (summed n (begun d p o m es).at e) ≡ begun d p o m (es then e)
    go_on_is =
        same_begun
        (rw (split_signs (OpenEnding ∷ (run_signs e ++ (CloseEnding ∷ RightRepeat ∷ []))), length-append u (OpenEnding ∷ (run_signs e ++ (CloseEnding ∷ RightRepeat ∷ []))), length-append (run_signs e) (CloseEnding ∷ RightRepeat ∷ []))
        (omega arith))
        (rw (split_signs (OpenEnding ∷ (run_signs e ++ (CloseEnding ∷ RightRepeat ∷ []))), split_around (n ∷ (run_around n e ++ (n ∷ n ∷ []))))
        (sym (deep_ending (CloseEnding ∷ RightRepeat ∷ []) (n ∷ n ∷ []) (λ q. deep_two q n n CloseEnding RightRepeat refl refl))))
        (add_left (count es) 1 ∙ ap capped (omega arith))
        refl
        refl
        (ends_tally_lem es e)

    pub finish_is : finished_as (begun d p o m es) (summed n (begun d p o m es).at e) ≡ summed d p (nil ▸ group o m es e)
    finish_is =
        same_stretch
        (rw (split_signs (OpenEnding ∷ (run_signs e ++ (CloseEnding ∷ []))), length-append u (OpenEnding ∷ (run_signs e ++ (CloseEnding ∷ []))), length-append (run_signs e) (CloseEnding ∷ []))
        (omega arith))
        refl
        (rw (split_signs (OpenEnding ∷ (run_signs e ++ (CloseEnding ∷ []))), split_around (n ∷ (run_around n e ++ (d ∷ []))))
        (sym (deep_ending (CloseEnding ∷ []) (d ∷ []) (λ q. deep_one q d CloseEnding refl))))
        (group_tally o m es e)
