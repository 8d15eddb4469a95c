-- Two lists that agree in the used intervals get equal clearances too: equal answers use as many intervals, and the
-- least is that over those. Rests on no axiom.
use Rattle.fields.proofs.AgreeLaws.{two_lists_that_agree}
use Rattle.clearance.specs.Answers.{field_with_clearance}
use Rattle.clearance.specs.Claims.{UsedIntervalsDecideAll}

pub two_lists_that_agree_in_all : UsedIntervalsDecideAll
unfolding field_with_clearance
two_lists_that_agree_in_all p n ds es old accepts agree =
    let same = two_lists_that_agree p n ds es old accepts agree in (rw (same.0, agree), same.1)
