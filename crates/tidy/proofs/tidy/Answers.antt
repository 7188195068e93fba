-- the words that are read stand at the front of their buffer
use Rattle.std.proofs.Common.{◌∙◌, ap, sym, arith, length}
use Rattle.std.proofs.lemmas.List.{length-take-le}
use Rattle.refusals.specs.Limits.{document01}
use Rattle.writing.specs.Writing.{writing_of, content_of}
use Rattle.tidy.specs.Tidy.{words_of, answer_after, buffer_after}
use Rattle.tidy.proofs.Words.{words_read}
use Rattle.tidy.proofs.tidy.Goals as goal

pub slice_bounds-words-end : goal.slice_bounds-words-end
slice_bounds-words-end c =
    let r = words_read c.args.text.now _ c.read_signs.new.out c.in_ok-n.n (sym c.in_ok-n.ensures.answer) c.in_ok-n.ensures.buffer in
    omega (arith, c.read_signs.auto.out, r.within)

pub slice_bounds-write_signs-end : goal.slice_bounds-write_signs-end
slice_bounds-write_signs-end c =
    let r = words_read c.args.text.now _ c.read_signs.new.out c.in_ok-n.n (sym c.in_ok-n.ensures.answer) c.in_ok-n.ensures.buffer in
    sym (length-take-le _ _ (omega (arith, c.read_signs.auto.out, r.within)))

pub returns-clause-answer : goal.returns-clause-answer
returns-clause-answer c =
    let r = words_read c.args.text.now _ c.read_signs.new.out c.in_ok-n.n (sym c.in_ok-n.ensures.answer) c.in_ok-n.ensures.buffer in
    let room = length c.args.out.now in
    c.write_signs.ensures.answer ∙ ap (λ ws. writing_of document01 ws room) r.words ∙ ap (λ k. answer_after k (words_of c.args.text.now) room) c.in_ok-n.ensures.answer

pub returns-clause-buffer : goal.returns-clause-buffer
returns-clause-buffer c =
    let r = words_read c.args.text.now _ c.read_signs.new.out c.in_ok-n.n (sym c.in_ok-n.ensures.answer) c.in_ok-n.ensures.buffer in
    let out = c.args.out.now in
    c.write_signs.ensures.buffer ∙ ap (λ ws. content_of document01 ws out) r.words ∙ ap (λ k. buffer_after k (words_of c.args.text.now) out) c.in_ok-n.ensures.answer
