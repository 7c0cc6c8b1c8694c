-- What is lent out of a variable and of a frame.
use Rattle.std.specs.Prelude.{◌≡◌, List, Option, Some, Result, Ok, OnSome}
use Rattle.std.specs.Borrow.{LendsSo, LendsSoOk, MutBor, Fml}
use Rattle.std.specs.Map.{lookup}
use Rattle.std.specs.Str.{bytes_eq}
use Rattle.tcl_frames.specs.Names.{Text}
use Rattle.tcl_frames.specs.Variables.{Frame, Part}
use Rattle.tcl_frames.specs.Access.{assigned}
use Rattle.tcl_frames.specs.Rebinding.{rebound, with_variable}
use Rattle.tcl_frames.specs.declared.variable.Variable.{Variable}
use Rattle.tcl_frames.specs.declared.variable.Variable.TheVariants.{Scalar, Array}
use Rattle.tcl_frames.specs.declared.fault.FrameError.{FrameError}
use Rattle.tcl_frames.specs.contracts.variable.Variable.{the_row as variable_row}
use Rattle.tcl_frames.specs.contracts.frame.Frame.{the_row as frame_row}
use Rattle.tcl_frames.specs.contracts.name_map.NameMap.{the_row as map_row}
use Rattle.tcl_value.specs.contracts.value.Value.{the_row as value_row}

-- once the borrow ends, the variable is as after a set of the value that was left
abbrev pub LendsPart : MutBor Variable → Part → Text → Result (MutBor Text) FrameError → Fml
LendsPart s part x r = LendsSoOk variable_row value_row s r
    (λ n w. assigned part (Some s.now) w x ≡ Ok n) (λ n. n ≡ s.now)

-- once the borrow ends, the variable is the value that was left, and at `None` it is as it was
abbrev pub LendsWhole : MutBor Variable → Option (MutBor Text) → Fml
LendsWhole s r = LendsSo variable_row value_row s r (λ n w. OnSome r (n ≡ Scalar w))
    (λ n. n ≡ s.now)

-- once the borrow ends, the variable is an array of the elements that were left
abbrev pub LendsElements : MutBor Variable → Result (MutBor (List (Text × Text))) FrameError → Fml
LendsElements s r = LendsSoOk variable_row (map_row value_row) s r (λ n w. n ≡ Array w)
    (λ n. n ≡ s.now)

-- the same for what a name of a frame stands for
abbrev pub LendsNamed : MutBor Frame → Text → Part → Text → Result (MutBor Text) FrameError → Fml
LendsNamed s b part x r = LendsSoOk frame_row value_row s r
    (λ n w. rebound s.now b (assigned part (lookup (bytes_eq b) s.now.variables) w x) ≡ Ok n)
    (λ n. n ≡ s.now)

-- once the borrow ends, a name of a frame stands for the value that was left, and at `None` the
-- frame is as it was
abbrev pub LendsScalar : MutBor Frame → Text → Option (MutBor Text) → Fml
LendsScalar s b r = LendsSo frame_row value_row s r
    (λ n w. OnSome r (n ≡ with_variable s.now b (Scalar w))) (λ n. n ≡ s.now)
