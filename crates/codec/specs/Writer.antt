-- Document 01, "Turned-away numbers", writer: 1, 2, 4, 3, 9. No lemmas here.
use Rattle.std.specs.Prelude.{ℕ, List, ltb, length}
use Rattle.refusal.specs.Answer.{Answer, accepted, refuse_if, first_refusal, settled}
use Rattle.timing.specs.Profile.{profile_rule}
use Rattle.timing.specs.declared.Profile.{Profile}
use Rattle.items.specs.Written.{written}
use Rattle.items.specs.Rule.{list_rule}
use Rattle.lengths.specs.Stream.{byte_stream, stream_of}

-- 9, full: the stream of written bytes and an output of `room` places
unfoldable pub stream_rule : Profile → List ℕ → ℕ → Answer
stream_rule p ws room =
    refuse_if (ltb room (length (byte_stream p ws))) 9 0
    (accepted (length (byte_stream p ws)))

-- what the writer answers for a list of items and an output of `room` places; the count is the number of intervals
unfoldable pub write_rule : Profile → List ℕ → ℕ → Answer
write_rule p items room =
    first_refusal (profile_rule p)
    (first_refusal (list_rule items)
    (stream_rule p (written items) room))

-- what the output holds afterwards
unfoldable pub write_output : Profile → List ℕ → List ℕ → List ℕ
write_output p items old = settled (write_rule p items (length old)) (stream_of p items) old
