-- What is told of limits.
use Rattle.std.specs.Prelude.{◌≡◌, ℕ, Option, Some, None, Result, Ok, Err}
use Rattle.std.specs.Option.{option_map}
use Rattle.tcl_core.specs.Paths.{Path}
use Rattle.tcl_interpreter.specs.declared.refusal.TreeError.TheVariants.{NoInterpreter}
use Rattle.tcl_sessions.specs.declared.refusal.Refusal.{Refusal}
use Rattle.tcl_sessions.specs.declared.refusal.Refusal.TheVariants.{Tree}
use Rattle.tcl_sessions.specs.declared.session.Session.{Session}
use Rattle.tcl_tree.specs.TreeOf.{tree_of}

-- what is there is told, or that nobody is
abbrev pub there : {A : Type 0} → Option A → Result A Refusal
there (Some x) = Ok x
there None = Err (Tree NoInterpreter)

abbrev pub IsCount : Session → Path → Result ℕ Refusal → Type 0
IsCount s p r = r ≡ there (option_map (λ n. n.count) (tree_of s.tree p))

abbrev pub IsLimit : Session → Path → Result (Option ℕ) Refusal → Type 0
IsLimit s p r = r ≡ there (option_map (λ n. n.limit) (tree_of s.tree p))

abbrev pub IsDepthLimit : Session → Path → Result ℕ Refusal → Type 0
IsDepthLimit s p r = r ≡ there (option_map (λ n. n.depth_limit) (tree_of s.tree p))
