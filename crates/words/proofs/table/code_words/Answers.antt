-- `table::code_words` answers the rule's table: the rule, computed for each previous bit and byte, gives the
-- constant's 512 words. Rests on no axiom.
use mathlib.Core.Path.{refl}
use Rattle.lists.specs.Table.{tabulated}
use Rattle.symbols.specs.Bits.{byte_bits}
use Rattle.symbols.specs.Bytes.{number_from}
use Rattle.words.specs.Words.{clock_bit, clocked, data_word, last_bit, word_at, code_words}
use Rattle.words.proofs.table.code_words.Goals as goal

pub returns : goal.returns
unfolding code_words tabulated word_at last_bit data_word clocked clock_bit byte_bits number_from
returns c = refl
