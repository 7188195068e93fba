-- the words that were kept are those of all signs
use Rattle.std.proofs.Common.{Ok, ◌≡◌, ℕ, ◌++◌, sym, ap, ◌∙◌, arith, length, take, drop, replicate}
use Rattle.std.proofs.lemmas.List.{length-replicate}
use borrow.Author.Tests.{le-ltb}
use Rattle.refusals.specs.Limits.{document01}
use Rattle.reading.specs.Reading.{counted}
use Rattle.reading.proofs.Scanning.{by_count, first_words}
use Rattle.reading.proofs.read_signs.Goals as goal

pub returns-clause-buffer : goal.returns-clause-buffer
returns-clause-buffer c =
    let n = c.in_ok-n.n in
    let e : counted c.args.text.now ≡ Ok n = sym c.scan.ensures.count ∙ c.in_ok-n.was in
    let b = by_count document01 c.args.text.now c.args.out.now c.if-text-gt-BYTES.false (Ok n) (Ok n) e (rw (le-ltb 1024 n (omega arith), le-ltb (length c.args.out.now) n (omega arith))) in
    let w = ap (take n) c.scan.ensures.kept ∙ first_words c.args.text.now (replicate 1024 0) n e (omega (arith, length-replicate {A = ℕ} 1024 0)) in
    ap (λ ws. ws ++ drop n c.args.out.now) (c.copy_from_slice.ensures.after ∙ w) ∙ b.1.1
