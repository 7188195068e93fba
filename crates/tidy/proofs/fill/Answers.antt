-- what a read gives stands behind what came before; after an interrupted read all is as it was
use Rattle.std.proofs.Common.{◌≡◌, ℕ, ◌+◌, ◌-◌, ◌≤◌, List, ◌++◌, length, take, arith, rules, le_refl, length-take-le}
use Rattle.std.proofs.KnownBytes.{Consumes-trans, Consumes-kept}
use Rattle.std.proofs.Math.Seq.{take-append-add}
use Rattle.std.proofs.lemmas.List.{take-append-le}
use Rattle.std.proofs.lemmas.Slice.{take-put_mid_below}
use borrow.Rule.Slice.PartMut.{put_mid, post_of}
use Rattle.tidy.proofs.fill.Goals as goal
use Rattle.tidy.proofs.fill.Goals.{in-Ok, in-Err+else-ne}

-- the first bytes of a part that is written from place a on
take_part : (a k n : ℕ) (old part : List ℕ) → a ≤ length old → n ≤ length part → take (a + n) (put_mid a k old part) ≡ take a old ++ take n part
take_part a k n old part h l =
    let m : a + n ≡ length (take a old) + n = omega (arith, length-take-le a old h) in
    rw (m, take-append-add (take a old) (part ++ post_of a k old) n, take-append-le n part (post_of a k old) l)

pub loop-preserved : goal.loop-preserved
loop-preserved g c =
    let l = c.loop in
    let room = length l.text - l.n in
    elim c.match-read.branch [
      | in-Ok w ↦ record {
        within = search rules;
        bytes = rw (w.n-is, take_part l.n room w.in-Ok.got l.text c.read.new.buf l.invariant.within w.in-Ok.ensures.bound.0)
            (Consumes-trans _ _ _ _ _ l.invariant.bytes w.in-Ok.ensures.bytes.0);
      }
      | in-Err+else-ne w ↦ record {
        within = search rules;
        bytes = rw (w.n-is, take-put_mid_below l.n room l.text c.read.new.buf l.n (le_refl l.n) l.invariant.within) (Consumes-kept _ _ _ _ l.invariant.bytes w.in-Err.ensures.bytes);
      }
    ]
