-- Why `codec::pen::finish_mark` draws what is left of a mark: its windows one after the other. Rests on no axiom.
use mathlib.Core.Path.{◌≡◌, refl, sym, ap, ◌∙◌}
use mathlib.Core.List.{List, [], ◌∷◌}
use native.Mathlib.Omega.{arith}
use Prim.Native.Nat.{ℕ, ◌<◌}
use lib.ListN.{length}
use Rattle.codec.specs.machine.Pen.{Drawing, drawing, laid, laid_all, finished}
use Rattle.codec.proofs.PenLaws.{laid-length, left_fits, left_of_a1, left_of_c2, bits_of_a1, bits_of_others}
use Rattle.codec.proofs.PenLaws.{left_so}
use Rattle.codec.proofs.pen.finish_mark.Goals as goal

module _ (table out : List ℕ) (at mark : ℕ) (is_mark : 255 < mark)
    (room : (finished table (drawing at out) mark).cells < length out) where
  abbrev front : Drawing
  front = drawing at out

  fits_a1 : mark ≡ 0x1a1 → (laid_all table front (41 ∷ 20 ∷ [])).cells < length out
  unfolding finished
  fits_a1 e = rw (left_of_a1 mark is_mark e) at room

  fits_c2 : (mark ≡ 0x1a1 → ⊥) → (laid_all table front (57 ∷ 20 ∷ 41 ∷ [])).cells < length out
  unfolding finished
  fits_c2 other = rw (left_of_c2 mark is_mark other) at room

pub lay-fifth-requires : goal.lay-fifth-requires
lay-fifth-requires c =
    let args = c.args in
    let fits = fits_a1 _ args.out.now args.at _ c.requires.lt_mark c.requires.mark_in_bounds c.if-mark.true in
    (omega arith, left_fits _ (drawing args.at args.out.now) _ 41 (20 ∷ []) _ refl fits refl)

pub lay-requires : goal.lay-requires
unfolding laid_all
lay-requires c =
    let args = c.args in
    let start = drawing args.at args.out.now in
    let fits = fits_a1 _ args.out.now args.at _ c.requires.lt_mark c.requires.mark_in_bounds c.if-mark.true in (
      omega arith,
      left_fits _ (laid args.table.now start 41) _ 20 [] _ c.lay-fifth.ensures fits (sym (laid-length _ start 41)),
    )

pub returns-then-mark : goal.returns-then-mark
unfolding finished laid_all
returns-then-mark c =
    let lays = laid c.args.table.now in
    left_so c.args.mark 9 _ _ (bits_of_a1 _ c.if-mark.true)
    (c.lay.ensures ∙ ap (λ (d : Drawing). lays d 20) c.lay-fifth.ensures
    ∙ rw (left_of_a1 c.args.mark c.requires.lt_mark c.if-mark.true) refl)

pub lay-fourth-requires : goal.lay-fourth-requires
lay-fourth-requires c =
    let args = c.args in
    let fits = fits_c2 _ args.out.now args.at _ c.requires.lt_mark c.requires.mark_in_bounds c.if-mark.false in
    (omega arith, left_fits _ (drawing args.at args.out.now) _ 57 (20 ∷ 41 ∷ []) _ refl fits refl)

pub lay-fifth-requires-2 : goal.lay-fifth-requires-2
unfolding laid_all
lay-fifth-requires-2 c =
    let args = c.args in
    let start = drawing args.at args.out.now in
    let fits = fits_c2 _ args.out.now args.at _ c.requires.lt_mark c.requires.mark_in_bounds c.if-mark.false in (
      omega arith,
      left_fits _ (laid args.table.now start 57) _ 20 (41 ∷ []) _ c.lay-fourth.ensures fits
          (sym (laid-length _ start 57)),
    )

pub lay-requires-2 : goal.lay-requires-2
unfolding laid_all
lay-requires-2 c =
    let args = c.args in
    let lays = laid args.table.now in
    let start = drawing args.at args.out.now in
    let fits = fits_c2 _ args.out.now args.at _ c.requires.lt_mark c.requires.mark_in_bounds c.if-mark.false in (
      omega arith,
      left_fits _ (lays (lays start 57) 20) _ 41 [] _
          (c.lay-fifth-2.ensures ∙ ap (λ (d : Drawing). lays d 20) c.lay-fourth.ensures)
          fits
          (sym (laid-length _ (lays start 57) 20 ∙ laid-length _ start 57)),
    )

pub returns : goal.returns
unfolding finished laid_all
returns c =
    let lays = laid c.args.table.now in
    left_so c.args.mark c.args.mark _ _ (bits_of_others _ c.if-mark.false)
    (c.lay-2.ensures
    ∙ ap (λ (d : Drawing). lays d 41)
    (c.lay-fifth-2.ensures ∙ ap (λ (d : Drawing). lays d 20) c.lay-fourth.ensures)
    ∙ rw (left_of_c2 c.args.mark c.requires.lt_mark c.if-mark.false) refl)
