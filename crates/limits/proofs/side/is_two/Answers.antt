-- Why `side::is_two` answers `is_two`: it compares the class with class 2. Rests on no axiom.
use mathlib.Core.Path.{◌≡◌, refl}
use denote.Enum.Bare.{sameb}
use Rattle.timing.specs.Class.{is_two, class_of}
use Rattle.timing.specs.contracts.Class.{the_type}
use Rattle.timing.specs.declared.Class.{Class}
use Rattle.timing.specs.declared.Class.TheVariants.{Narrow, Two, Three, Four, Wide}
use Rattle.limits.proofs.side.is_two.Goals as goal

same_as_two : (c : Class) → sameb the_type c Two ≡ is_two c
same_as_two Narrow = refl
same_as_two Two = refl
same_as_two Three = refl
same_as_two Four = refl
same_as_two Wide = refl

pub returns : goal.returns
unfolding class_of
returns c =
    let args = c.args in
    rw (c.eq.ensures, c.step.ensures, c.after.ensures) (same_as_two (class_of args.p args.two args.length))
