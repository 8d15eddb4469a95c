-- The strip reader's rule taken apart: it accepts where each test in its turn lets the stream pass, and then gives
-- the list that the cells read as. Rests on no axiom.
use Prim.Native.Nat.{ℕ, ◌≤◌}
use mathlib.Core.Path.{◌≡◌, ap}
use mathlib.Core.List.{List}
use lib.Dec.{ltb}
use lib.ListN.{length}
use borrow.Author.Tests.{ltb-false, le-ltb}
use Rattle.refusal.specs.Answer.{accepted}
use Rattle.refusal.proofs.AnswerLaws.{first_refusal_accepts, refuse_if_accepts}
use Rattle.timing.specs.Profile.{profile_rule}
use Rattle.timing.specs.Class.{classes_of}
use Rattle.timing.specs.declared.Profile.{Profile}
use Rattle.symbols.specs.Strip.{strip_rule}
use Rattle.intervals.specs.Cells.{edge_rule, cells_read}
use Rattle.codec.specs.Reader.{items_of_stream, read_rule}
use Rattle.demands.specs.Streams.{ReadsAs}
use Rattle.demands.proofs.Demand1.{demand_1}

-- each test in its turn
pub record Passed (p : Profile) (ds : List ℕ) (room : ℕ) : Type 0 where
  pub profile : (profile_rule p).number ≡ 0
  pub short : length ds ≤ 51202
  pub edges : (edge_rule (classes_of p ds)).number ≡ 0
  pub strip : (strip_rule (cells_read p ds)).number ≡ 0
  pub enough : length (items_of_stream p ds) ≤ room

pub passed_of_accepted : (p : Profile) (ds : List ℕ) (room : ℕ) → (read_rule p ds room).number ≡ 0 → Passed p ds room
unfolding read_rule
passed_of_accepted p ds room h =
    let (profile, after_2) = first_refusal_accepts (profile_rule p) _ h in
    let (short, after_4) = refuse_if_accepts (ltb 51202 (length ds)) 3 0 _ after_2 in
    let (edges, after_6) = first_refusal_accepts (edge_rule (classes_of p ds)) _ after_4 in
    let (strip, after_8) = first_refusal_accepts (strip_rule (cells_read p ds)) _ after_6 in
    let (enough, after_9) = refuse_if_accepts _ 8 0 _ after_8 in
    record {
      profile = profile;
      short = ltb-false 51202 (length ds) short;
      edges = edges;
      strip = strip;
      enough = ltb-false room (length (items_of_stream p ds)) enough;
    }

accepted_of_passed
    : (p : Profile) (ds : List ℕ) (room : ℕ)
    → Passed p ds room
    → read_rule p ds room ≡ accepted (length (items_of_stream p ds))
unfolding read_rule
accepted_of_passed p ds room q =
    rw (q.profile, le-ltb 51202 _ q.short, q.edges, q.strip, le-ltb room _ q.enough)

-- a stream that passes reads as its list
pub reads_as_its_list
    : (p : Profile) (ds output : List ℕ) → Passed p ds (length output) → ReadsAs p ds output (items_of_stream p ds)
reads_as_its_list p ds output q =
    let answer = accepted_of_passed p ds (length output) q in
    record { answer = answer; front = (demand_1.strip_output p ds output).front (ap (λ a. a.number) answer) }
