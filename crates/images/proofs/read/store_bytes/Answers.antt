-- Why `read::store_bytes` stores the candidates: the words are stored, and replaced where they stand. Rests on no axiom.
use mathlib.Core.Path.{refl, ◌∙◌}
use mathlib.Core.List.{map}
use lib.ListN.{length-map}
use Rattle.lists.proofs.StoreLaws.{stored_at_front_fills, mapped_at_front}
use Rattle.half_cells.specs.machine.Candidate.{candidate}
use Rattle.images.proofs.read.store_bytes.Goals as goal

pub returns : goal.returns
returns c =
    let words = c.args.words.now in
    let out = c.args.out.now in
    let room = c.requires in
    rw (c.words_to_bytes.ensures, c.store.ensures)
    (mapped_at_front candidate words out _ refl room
    ∙ stored_at_front_fills (map candidate words) out (rw (length-map words candidate) room))
