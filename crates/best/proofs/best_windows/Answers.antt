-- Why `best_windows` answers `best_rule` and hands `best_given` back: it makes the rule's tests in their order, and makes
-- the profile where both pass. Rests on no axiom.
use mathlib.Core.Path.{◌≡◌, sym, ap, ◌∙◌}
use mathlib.Core.Bool.{false}
use Rattle.std.specs.Prelude.{Option, None}
use Prim.Native.Nat.{ℕ}
use Rattle.lists.specs.Place.{anywhere, passed}
use Rattle.refusal.specs.Answer.{accepted}
use Rattle.best.specs.Best.{unset_of}
use Rattle.best.specs.declared.Writing.{Writing}
use Rattle.best.specs.machine.Trial.{lowest_unset_of}
use Rattle.best.proofs.TrialLaws.{none_unset, in_range_of}
use Rattle.best.proofs.RuleLaws.{unset_decides, possible_decides, impossible_decides}
use Rattle.best.proofs.best_windows.Goals as goal

-- no number is out of range
in_range
    : (w : Writing) (which : Option ℕ) → which ≡ lowest_unset_of w → which ≡ None → anywhere passed (unset_of w) ≡ false
in_range w which e none = none_unset w (sym e ∙ none)

pub returns-in-Some : goal.returns-in-Some
returns-in-Some c =
    let both = unset_decides _ _ (sym c.in-Some.is ∙ c.lowest_unset.ensures) in
    record { answer = both.0; profile = both.1 }

pub has_windows-requires : goal.has_windows-requires
has_windows-requires c = in_range_of _ (in_range _ _ c.lowest_unset.ensures c.in_default.is)

pub best_margin-margin-requires : goal.best_margin-margin-requires
best_margin-margin-requires c =
    record {
      in_range_of = in_range_of _ (in_range _ _ c.lowest_unset.ensures c.in_default.is);
      w_value = sym c.has_windows.ensures ∙ c.if-has_windows.true;
    }

pub centred-profile-requires : goal.centred-profile-requires
centred-profile-requires c =
    record {
      in_range_of = in_range_of _ (in_range _ _ c.lowest_unset.ensures c.in_default.is);
      w_value = sym c.has_windows.ensures ∙ c.if-has_windows.true;
      margin_value = c.best_margin-margin.ensures;
    }

pub returns-then-has_windows : goal.returns-then-has_windows
returns-then-has_windows c =
    let ranges = in_range _ _ c.lowest_unset.ensures c.in_default.is in
    let (answer, given) = possible_decides _ ranges (sym c.has_windows.ensures ∙ c.if-has_windows.true) in
    record { answer = ap accepted c.best_margin-margin.ensures ∙ answer; profile = c.centred-profile.ensures ∙ given }

pub returns : goal.returns
returns c =
    let ranges = in_range _ _ c.lowest_unset.ensures c.in_default.is in
    let both = impossible_decides _ ranges (sym c.has_windows.ensures ∙ c.if-has_windows.false) in
    record { answer = both.0; profile = both.1 }
