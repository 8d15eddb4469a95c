-- Document 01, "Settled by this profile": the starred cases, gathered under one claim. No lemmas here.
use Rattle.std.specs.Prelude.{ℕ, ◌+◌, ◌≤◌, ◌≡◌, Bool, true, false, List, [], ◌∷◌, map, replicate}
use Rattle.refusal.specs.Answer.{accepted}
use Rattle.timing.specs.Class.{class_of, classes_of, class_number}
use Rattle.timing.specs.declared.Profile.{Profile}
use Rattle.timing.specs.declared.Class.TheVariants.{Narrow, Two, Three, Four, Wide}
use Rattle.lengths.specs.Lengths.{lengths_of}
use Rattle.lengths.specs.Stream.{stream_of}
use Rattle.lengths.specs.Margin.{IsMargin, margin_rule}
use Rattle.codec.specs.Writer.{write_rule}

-- a profile with another T0
abbrev pub profile_with : ℕ → Profile
profile_with t0 =
    record {
      t1 = record { 0 = 58 };
      t0 = record { 0 = t0 };
      early = record { 0 = 8 };
      normal = record { 0 = 10 };
      late = record { 0 = 12 };
      min = record { 0 = 36 };
      short = record { b23 = record { 0 = 73 }; b34 = record { 0 = 106 } };
      long = record { b23 = record { 0 = 73 }; b34 = record { 0 = 106 } };
      rpt = record { 0 = 139 };
    }

-- profile 58 29 8 10 12 36 73 73 106 106 139
abbrev pub worked : Profile
worked = profile_with 29

-- the classes of the writer's result
abbrev pub written_classes : List ℕ → List ℕ
written_classes items = map class_number (classes_of worked (stream_of worked items))

pub record SettledCases : Type 0 where
  pub no_item : stream_of worked [] ≡ 58 ∷ 58 ∷ []
  pub data_00 : stream_of worked (0x00 ∷ []) ≡ replicate 10 58
  pub data_ff : stream_of worked (0xff ∷ []) ≡ 95 ∷ 54 ∷ 58 ∷ 58 ∷ 58 ∷ 58 ∷ 58 ∷ 54 ∷ 95 ∷ []
  pub mark_a1 : stream_of worked ((256 + 0xa1) ∷ []) ≡ 91 ∷ 116 ∷ 87 ∷ 116 ∷ 87 ∷ 91 ∷ []
  -- as in the strip program's output: the classes of its cells, and their number
  pub mark_a1_classes : written_classes ((256 + 0xa1) ∷ []) ≡ 3 ∷ 4 ∷ 3 ∷ 4 ∷ 3 ∷ 3 ∷ []
  pub mark_a1_count : (room : ℕ) → 6 ≤ room → write_rule worked ((256 + 0xa1) ∷ []) room ≡ accepted 6
  pub data_a1 : written_classes (0xa1 ∷ []) ≡ 3 ∷ 4 ∷ 3 ∷ 2 ∷ 2 ∷ 3 ∷ 3 ∷ []
  pub mark_c2 : written_classes ((256 + 0xc2) ∷ []) ≡ 3 ∷ 2 ∷ 3 ∷ 4 ∷ 3 ∷ 3 ∷ 2 ∷ []
  -- the number that the operation answers, and the margin defined under "Profile"
  pub margin_10 : margin_rule worked ≡ accepted 10
  pub papers_margin_10 : IsMargin worked 10
  pub narrow_35 : (two : Bool) → class_of worked two 35 ≡ Narrow
  pub two_36 : (two : Bool) → class_of worked two 36 ≡ Two
  pub two_72 : (two : Bool) → class_of worked two 72 ≡ Two
  pub three_73 : (two : Bool) → class_of worked two 73 ≡ Three
  pub three_105 : (two : Bool) → class_of worked two 105 ≡ Three
  pub four_106 : (two : Bool) → class_of worked two 106 ≡ Four
  pub four_138 : (two : Bool) → class_of worked two 138 ≡ Four
  pub wide_139 : (two : Bool) → class_of worked two 139 ≡ Wide
  -- T0 = 28, symbols 1 1 0 0 1 1
  pub source_3_5
      : lengths_of (profile_with 28) (true ∷ true ∷ false ∷ false ∷ true ∷ true ∷ []) ≡ 58 ∷ 54 ∷ 122 ∷ 54 ∷ []
