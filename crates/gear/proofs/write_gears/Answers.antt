-- On a refusal nothing is stored, and else the part from the start comes back with the row at its front.
use Rattle.std.proofs.Common.{◌∙◌, sym, ap, List, ℕ, ◌++◌, take, length-take, length-drop, arith}
use Rattle.std.proofs.lemmas.Result.{err_from_is_err_and}
use Rattle.house.specs.House.{count_of}
use Rattle.refusal.specs.Judging.{if_accepted}
use Rattle.gear.specs.Sheet.{with_row}
use Rattle.gear.proofs.Buffer.{part-whole, part-back}
use Rattle.gear.proofs.Sheet.{sheet-sound, sheet-ready, answer-by, buffer-refused, buffer-back}
use Rattle.gear.proofs.write_gears.Goals as goal

pub returns-in_err-inputs : goal.returns-in_err-inputs
returns-in_err-inputs c =
    let a = c.args in
    let trace = a.trace.now in
    let buffer = a.buffer.now in
    let p = err_from_is_err_and c.from_residual.result c.from_residual.ensures.1 in
    let e = answer-by trace a.v buffer a.start c.in_err-inputs.ensures in
    (rw (p.1, p.2) (sym e), buffer-refused trace a.v buffer a.start e)

pub slice_bounds-fill-count : goal.slice_bounds-fill-count
slice_bounds-fill-count c =
    let sound = sheet-sound _ _ _ _ c.in_ok-inputs.ensures.0 in
    omega (arith, sound.from)

pub slice_bounds-fill-start : goal.slice_bounds-fill-start
slice_bounds-fill-start c =
    let sound = sheet-sound _ _ _ _ c.in_ok-inputs.ensures.0 in
    omega (arith, sound.from)

pub fill-requires : goal.fill-requires
fill-requires c =
    let sound = sheet-sound _ _ _ _ c.in_ok-inputs.ensures.0 in
    let n = c.in_ok-inputs.ensures.2 in
    (rw (c.in_ok-inputs.ensures.1, n, c.in_ok-inputs.ensures.3) (sheet-ready sound), simp (length-take, length-drop) (omega (arith, n, sound.from, sound.fits)))

pub returns : goal.returns
returns c =
    let a = c.args in
    let trace = a.trace.now in
    let buffer = a.buffer.now in
    let n = c.in_ok-inputs.ensures.2 in
    let close = rw (c.in_ok-inputs.ensures.1, n, c.in_ok-inputs.ensures.3) at c.fill.ensures.0 in
    let answer = close ∙ sym (answer-by trace a.v buffer a.start c.in_ok-inputs.ensures.0) in
    let filled = rw (c.in_ok-inputs.ensures.1, n, c.in_ok-inputs.ensures.3) at c.fill.ensures.1 in
    let row_in : List ℕ → List ℕ = λ part. if_accepted c.fill.result (with_row a.v trace (count_of trace) part) part in
    let part = filled ∙ ap row_in (part-whole buffer a.start) in
    let back = part-back buffer c.fill.new.part a.start ∙ ap (λ (l : List ℕ). take a.start buffer ++ l) part in
    (answer, back ∙ buffer-back trace a.v buffer a.start answer)
