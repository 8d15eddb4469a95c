-- Why `gather::sum_up` sums up the items: it turns the words into them first. Rests on no axiom.
use Rattle.fields.proofs.gather.sum_up.Goals as goal

pub returns : goal.returns
returns c =
    let turned = c.words_to_bytes.ensures in
    record { check = rw (← turned) c.after_bytes.ensures; output = rw (← turned) c.store.ensures }
