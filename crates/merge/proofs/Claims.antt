-- What holds of the merge, gathered from the laws of each topic. Rests on no axiom.
use Prim.Native.Nat.{◌<◌, ℕ}
use mathlib.Core.Bool.{false}
use mathlib.Core.Path.{sym, ◌≡◌, ◌∙◌, ap}
use mathlib.Core.List.{[]}
use lib.ListN.{length}
use Rattle.sets.specs.Set.{sectors_in, set_bytes}
use Rattle.sets.specs.Held.{held_of, is_twice}
use Rattle.merge.specs.Claims.{MergeLaws}
use Rattle.merge.specs.Rule.{merge_answer, merge_output, result}
use Rattle.merge.proofs.AcceptLaws.{acceptance_says, accepts_takes, empty_fits}
use Rattle.merge.proofs.HeldLaws.{held_of_merged}
use Rattle.merge.proofs.MergedLaws.{merged_numbers, none_is_twice}
use Rattle.merge.proofs.OnceLaws.{alone_in_order, alone_is_taken, alone_numbers, empty_first, empty_second}
use Rattle.merge.proofs.OnceLaws.{itself_second}
use Rattle.merge.proofs.AgainLaws.{few_again, fits_again, in_order_again, once_again}
use Rattle.merge.proofs.AloneLaws.{merged_with_none, result_keeps}
use Rattle.merge.proofs.EitherFirst.{merged_swaps, rule_swaps, settles_alike}

pub merge_laws : MergeLaws
unfolding merge_answer merge_output
merge_laws =
    record {
      each_number_once = λ first second room e.
          merged_numbers (sectors_in first) (sectors_in second) (acceptance_says first second room e).peace;
      each_number_taken = λ first second room n e h.
          held_of_merged (sectors_in first) (sectors_in second) n
          (none_is_twice _ _ (acceptance_says first second room e).peace n h) h;
      with_itself = λ bs room e.
          let a = acceptance_says bs [] room e in
          let few = rw (alone_numbers bs bs [] (empty_second bs)) at a.different in
          let once : (n : ℕ) → n < 256 → is_twice (held_of n (sectors_in bs)) ≡ false =
          λ n h. (none_is_twice (sectors_in bs) (sectors_in []) a.peace n h).0 in
          let order = sym (alone_in_order bs bs [] (empty_second bs)) in (
            accepts_takes bs [] a,
            alone_is_taken bs [] bs (empty_first bs) empty_fits a.first_fits few once,
            alone_is_taken bs bs bs (itself_second bs) a.first_fits a.first_fits few once,
            ap set_bytes (alone_in_order bs [] bs (empty_first bs) ∙ order),
            ap set_bytes (alone_in_order bs bs bs (itself_second bs) ∙ order),
          );
      merged_is_taken = λ first second room e.
          let a = acceptance_says first second room e in
          let bs = result first second in (
            alone_is_taken bs bs [] (empty_second bs) (fits_again first second a) empty_fits
                (few_again first second a)
                (once_again first second a),
            ap set_bytes (alone_in_order bs bs [] (empty_second bs) ∙ in_order_again first second a),
          );
      either_pass_first = λ first second old good.
          settles_alike _ _ _ _ old (rule_swaps first second (length old) good) (λ e.
          ap set_bytes (merged_swaps _ _ good (acceptance_says first second (length old) e).peace));
      with_the_empty_set = merged_with_none;
      each_number_kept = result_keeps;
    }
