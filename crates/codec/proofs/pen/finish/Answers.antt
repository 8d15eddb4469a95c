-- Why `codec::pen::finish` draws what is left of a byte: a mark's windows, or a data byte's two. Rests on no axiom.
use Prim.Native.Nat.{ℕ, ◌/◌, ◌%◌, ◌≤◌, ◌<◌}
use mathlib.Core.Path.{refl, sym, ap, ◌∙◌}
use mathlib.Core.List.{List, [], ◌∷◌}
use native.Mathlib.Omega.{arith}
use lib.ListN.{length}
use Rattle.codec.specs.machine.Pen.{Drawing, drawing, laid, laid_all, finished}
use Rattle.codec.proofs.PenLaws.{laid-length, left_fits, left_of_data, bits_of_others, left_so}
use Rattle.codec.proofs.pen.finish.Goals as goal

fits : (table out : List ℕ) (at w : ℕ) → w ≤ 255 → (finished table (drawing at out) w).cells < length out
    → (laid_all table (drawing at out) (w / 4 ∷ w % 64 ∷ [])).cells < length out
unfolding finished
fits table out at w small room = rw (left_of_data w small) at room

pub lay-third-requires : goal.lay-third-requires
lay-third-requires c =
    let args = c.args in
    let small = c.if-byte-gt255.false in
    let room = fits args.table.now args.out.now args.at args.byte small c.requires in
    (omega arith, left_fits _ (drawing args.at args.out.now) _ (args.byte / 4) (args.byte % 64 ∷ []) _ refl room refl)

pub lay-requires : goal.lay-requires
unfolding laid_all
lay-requires c =
    let args = c.args in
    let start = drawing args.at args.out.now in
    let room = fits args.table.now args.out.now args.at args.byte c.if-byte-gt255.false c.requires in (
      omega arith,
      left_fits _ (laid args.table.now start (args.byte / 4)) _ (args.byte % 64) [] _ c.lay-third.ensures room
          (sym (laid-length _ start (args.byte / 4))),
    )

pub returns : goal.returns
unfolding finished laid_all
returns c =
    let byte : ℕ = c.args.byte in
    let small = c.if-byte-gt255.false in
    left_so byte byte _ _ (bits_of_others byte (λ e. omega arith))
    (c.lay.ensures ∙ ap (λ (d : Drawing). laid c.args.table.now d (byte % 64)) c.lay-third.ensures
    ∙ rw (left_of_data byte small) refl)
