-- `make::make_words` answers `make_rule`: the list is accepted, and the room decides. Rests on no axiom.
use Rattle.images.proofs.MakeLaws.{make_refuses, make_accepts}
use Rattle.images.proofs.make.make_words.Goals as goal

pub returns-then-out-n : goal.returns-then-out-n
returns-then-out-n c =
    let both = make_refuses _ _ c.requires _ c.written_bytes-n.ensures c.if-out-n.true in
    record {
      answer = both.0;
      output = both.1;
    }

pub returns : goal.returns
returns c =
    let both = make_accepts _ _ c.requires _ _ c.written_bytes-n.ensures c.store_written.ensures
    c.if-out-n.false _ c.turn_into_words.ensures in record { answer = both.0; output = both.1 }
