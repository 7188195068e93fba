-- A stretch that keeps to itself: wherever it stands, a run through it takes its steps, plays its blocks, ends just behind it, and changes no other loop's count.
-- Assumes nothing.
use mathlib.Core.Path.{◌≡◌, refl, sym, ap, ◌∙◌}
use mathlib.Core.List.{List, [], ◌∷◌, ◌++◌, append_assoc, append-nil}
use mathlib.Core.Option.{Option, none, some}
use Prim.Native.Nat.{ℕ, suc, ◌+◌, ◌≤◌, ◌<◌}
use native.Mathlib.Nat.{add_assoc}
use native.Mathlib.Omega.{arith}
use lib.ListN.{length, get_or, set, get_elem?, length-append, length-set}
use lib.Seq.{get_or-set_other}
use Rattle.played.specs.Played.{Block}
use Rattle.instructions.specs.declared.Instruction.{Instruction}
use Rattle.instructions.specs.Forms.{block}
use Rattle.translation.specs.Stretches.{Stretch, empty, single, ◌⨾◌}
use Rattle.translation.proofs.Marks.{fetch, once_nil, once_none, once_append, once_cast, Below, loop_mark, label_mark, numbers-append, counting-append, Numbered, below_stretch}
use Rattle.translation.proofs.Goes.{Goes, seq, cast, stays, plays_block}

-- ds has cs's length, and differs from it at most from lo to below hi
pub record Kept (lo hi : ℕ) (cs ds : List ℕ) : Type 0 where
  pub long : length ds ≡ length cs
  pub same : (j : ℕ) → (lo ≤ j → j < hi → ⊥) → get_or ds j 0 ≡ get_or cs j 0

pub kept_refl : (lo hi : ℕ) (cs : List ℕ) → Kept lo hi cs cs
kept_refl lo hi cs = record { long = refl; same = λ j o. refl }

pub kept_trans : {lo hi : ℕ} {cs ds es : List ℕ} → Kept lo hi cs ds → Kept lo hi ds es → Kept lo hi cs es
kept_trans r s = record { long = s.long ∙ r.long; same = λ j o. s.same j o ∙ r.same j o }

pub kept_wider : {lo hi lo' hi' : ℕ} {cs ds : List ℕ} → lo' ≤ lo → hi ≤ hi' → Kept lo hi cs ds → Kept lo' hi' cs ds
kept_wider x y r = record { long = r.long; same = λ j o. r.same j (λ p q. o (omega arith) (omega arith)) }

pub kept_set : (lo hi : ℕ) (cs : List ℕ) (L v : ℕ) → lo ≤ L → L < hi → Kept lo hi cs (set cs L v)
kept_set lo hi cs L v x y = record {
  long = length-set cs L v;
  same = λ j o. get_or-set_other cs L j v 0 (λ e. o (omega arith) (omega arith));
}

-- a run over what stands behind pre
pub record Over (prog pre seg : List Instruction) (cs : List ℕ) (n : ℕ) (ps : List Block) (lo hi : ℕ) : Type 0 where
  pub ends : List ℕ
  pub goes : Goes prog (length pre) cs n ps (length (pre ++ seg)) ends
  pub kept : Kept lo hi cs ends

-- what is known of the loop L around: nothing, or that it is marked before l and its count is v
abbrev pub Holds : Option ℕ → (L l : ℕ) → List ℕ → Type 0
Holds none L l cs = Unit {0}
Holds (some v) L l cs = (L < l) × (get_or cs L 0 ≡ v)

pub holds_kept : (o : Option ℕ) (L l l' : ℕ) {lo hi : ℕ} {cs ds : List ℕ} → l ≤ l' → l ≤ lo → Kept lo hi cs ds → Holds o L l cs → Holds o L l' ds
holds_kept none L l l' x y k h = tt
holds_kept (some v) L l l' x y k (lt, e) = (omega arith, k.same L (λ a b. omega arith) ∙ e)

pub record Seg (o : Option ℕ) (s : Stretch) (n : ℕ) (ps : List Block) : Type 0 where
  pub numbered : Numbered s
  pub over : (prog pre post : List Instruction) (cs : List ℕ) (L l b : ℕ)
      → prog ≡ pre ++ (s.from L l b ++ post)
      → Below l b pre
      → l + s.loops ≤ length cs
      → Holds o L l cs
      → Over prog pre (s.from L l b) cs n ps l (l + s.loops)

-- ---- cutting
pub cut : {prog : List Instruction} (pre u v post : List Instruction) → prog ≡ pre ++ ((u ++ v) ++ post) → prog ≡ pre ++ (u ++ (v ++ post))
cut pre u v post e = e ∙ ap (λ (r : List Instruction). pre ++ r) (append_assoc u v post)

pub past : {prog : List Instruction} (pre u post : List Instruction) → prog ≡ pre ++ (u ++ post) → prog ≡ (pre ++ u) ++ post
past pre u post e = e ∙ sym (append_assoc pre u post)

pub at : {prog : List Instruction} (pre : List Instruction) (i : Instruction) (post : List Instruction) → prog ≡ pre ++ (i ∷ post) → get_elem? prog (length pre) ≡ some i
at pre i post e = rw e (fetch pre i post)

-- the place behind one instruction
pub behind : (pre : List Instruction) (i : Instruction) → suc (length pre) ≡ length (pre ++ (i ∷ []))
behind pre i = omega (arith, length-append pre (i ∷ []))

-- ---- nothing, one block, and one stretch after another
pub seg_cast : {o : Option ℕ} {s : Stretch} {m n : ℕ} {ps qs : List Block} → m ≡ n → ps ≡ qs → Seg o s m ps → Seg o s n qs
seg_cast x y g = rw (← x, ← y) g

pub seg_empty : (o : Option ℕ) → Seg o empty 0 []
seg_empty o = record {
  numbered = record {
    loops = λ L l b. refl;
    labels = λ L l b. refl;
    reps = λ L l b. once_cast refl (omega arith) (once_nil l);
  };
  over = λ prog pre post cs L l b e h le k. record {
    ends = cs;
    goes = cast refl refl (ap length (sym (append-nil pre))) (stays (length pre) cs);
    kept = kept_refl l (l + 0) cs;
  };
}

pub seg_block : (o : Option ℕ) (x : Block) → Seg o (single 0 0 (block x.k x.l)) 1 (x ∷ [])
seg_block o x =
    let i : Instruction = block x.k x.l in
    record {
      numbered = record {
        loops = λ L l b. refl;
        labels = λ L l b. refl;
        reps = λ L l b. once_cast refl (omega arith) (once_none l i (λ k. refl));
      };
      over = λ prog pre post cs L l b e h le k. record {
        ends = cs;
        goes = cast refl refl (behind pre i) (plays_block x (at pre i post e));
        kept = kept_refl l (l + 0) cs;
      };
    }

pub numbered_seq : {s t : Stretch} → Numbered s → Numbered t → Numbered (s ⨾ t)
numbered_seq {s} {t} g h = record {
  loops = λ L l b. rw (numbers-append loop_mark (s.from L l b), g.loops L l b, h.loops L (l + s.loops) (b + s.labels), counting-append l s.loops t.loops);
  labels = λ L l b. rw (numbers-append label_mark (s.from L l b), g.labels L l b, h.labels L (l + s.loops) (b + s.labels), counting-append b s.labels t.labels);
  reps = λ L l b.
      once_cast refl (add_assoc l s.loops t.loops)
      (once_append (s.from L l b) _ (omega arith) (omega arith) (g.reps L l b) (h.reps L (l + s.loops) (b + s.labels)));
}

module _ {o : Option ℕ} {s t : Stretch} {m n : ℕ} {ps qs : List Block} (g : Seg o s m ps) (h : Seg o t n qs) where
  pub seg_seq : Seg o (s ⨾ t) (m + n) (ps ++ qs)
  seg_seq = record {
    numbered = numbered_seq g.numbered h.numbered;
    over = λ prog pre post cs L l b e below le known.
        let u : List Instruction = s.from L l b in
        let v : List Instruction = t.from L (l + s.loops) (b + s.labels) in
        let e₁ : prog ≡ pre ++ (u ++ (v ++ post)) = cut pre u v post e in
        let x : Over prog pre u cs m ps l (l + s.loops) = g.over prog pre (v ++ post) cs L l b e₁ below (omega arith) known in
        let y : Over prog (pre ++ u) v x.ends n qs (l + s.loops) (l + s.loops + t.loops) =
        h.over prog (pre ++ u) post x.ends L (l + s.loops) (b + s.labels)
        (past pre u (v ++ post) e₁)
        (below_stretch g.numbered L l b pre below)
        (omega (arith, x.kept.long))
        (holds_kept o L l (l + s.loops) (omega arith) (omega arith) x.kept known)
        in
        record {
          ends = y.ends;
          goes = cast refl refl (ap length (append_assoc pre u v)) (seq x.goes y.goes);
          kept = kept_trans (kept_wider (omega arith) (omega arith) x.kept) (kept_wider (omega arith) (omega arith) y.kept);
        };
  }
