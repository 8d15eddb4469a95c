-- The starred cases hold because the definitions compute to them; 10 is the paper's margin since the operation's number
-- is. Rests on no axiom.
use Prim.Native.Nat.{ℕ}
use mathlib.Core.Path.{◌≡◌, refl}
use mathlib.Core.Bool.{Bool, true, false}
use borrow.Author.Tests.{le-ltb}
use Rattle.items.specs.Item.{is_mark, is_byte, is_check, is_item, is_foreign, bytes_of, written_bytes}
use Rattle.items.specs.Written.{item_bytes, written_from, written}
use Rattle.symbols.specs.Bits.{byte_bits, with_gaps, mark_bits, written_bits, all_bits, bits_of}
use Rattle.symbols.specs.Cells.{pair_symbols, symbols_from, symbols_of, written_symbols}
use Rattle.lists.specs.Place.{anywhere, lowest}
use Rattle.lists.specs.Span.{least}
use Rattle.timing.specs.Profile.{unset, swing, advance, delay, is_true_short, is_true_long, is_true, profile_rule}
use Rattle.timing.specs.Class.{cursor_of, at_start, class_in, behind, cursor_past, classes_from, class_of, classes_of}
use Rattle.timing.specs.declared.Class.{Class}
use Rattle.timing.specs.declared.Class.TheVariants.{Narrow, Two, Three, Four, Wide}
use Rattle.lengths.specs.Lengths.{point, symbol_after, cell_length, lengths_from, lengths_of}
use Rattle.items.specs.Rule.{list_rule}
use Rattle.lengths.specs.Stream.{byte_stream, stream_of}
use Rattle.lengths.specs.Margin.{rooms_of, margin_of, margin_rule}
use Rattle.lengths.proofs.PapersMargin.{margin_is_the_papers}
use Rattle.codec.specs.Writer.{stream_rule, write_rule}
use Rattle.demands.specs.Settled.{worked, SettledCases}

-- after either kind
either
    : (d : ℕ) (x : Class)
    → class_of worked true d ≡ x
    → class_of worked false d ≡ x
    → (two : Bool)
    → class_of worked two d ≡ x
either d x short long true = short
either d x short long false = long

pub settled_cases : SettledCases
unfolding is_mark is_check item_bytes written_from written byte_bits with_gaps mark_bits written_bits all_bits bits_of
    pair_symbols symbols_from symbols_of written_symbols anywhere lowest unset
    swing advance delay is_true_short is_true_long is_true profile_rule cursor_of at_start class_in behind cursor_past
    classes_from class_of classes_of point symbol_after cell_length lengths_from lengths_of byte_stream stream_of rooms_of least margin_of margin_rule
    is_byte is_item is_foreign bytes_of written_bytes list_rule stream_rule write_rule
settled_cases =
    record {
      no_item = refl;
      data_00 = refl;
      data_ff = refl;
      mark_a1 = refl;
      mark_a1_classes = refl;
      mark_a1_count = λ room enough. rw (le-ltb room 6 enough);
      data_a1 = refl;
      mark_c2 = refl;
      margin_10 = refl;
      papers_margin_10 = margin_is_the_papers worked refl;
      narrow_35 = either 35 Narrow refl refl;
      two_36 = either 36 Two refl refl;
      two_72 = either 72 Two refl refl;
      three_73 = either 73 Three refl refl;
      three_105 = either 105 Three refl refl;
      four_106 = either 106 Four refl refl;
      four_138 = either 138 Four refl refl;
      wide_139 = either 139 Wide refl refl;
      source_3_5 = refl;
    }
