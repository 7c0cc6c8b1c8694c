-- What is done to a tree by texts that are bytes.
use Rattle.std.specs.Option.{option_map}
use Rattle.std.specs.Prelude.{◌≡◌, ℕ, ℤ, ◌==◌, ◌∷◌, ◌++◌, [], Bool, List, Option, Some, None}
use Rattle.std.specs.Prelude.{IsSome, Ok, if◌then◌else◌}
use Rattle.tcl_core.specs.Paths.{Path}
use Rattle.tcl_core.specs.Trees.{effect}
use Rattle.tcl_core.specs.Trees.What.{DepthLimited, Limited}
use Rattle.tcl_host.specs.MemoryHost.{new_host, with_file, with_input}
use Rattle.tcl_interpreter.specs.Commands.{way_between, way_past}
use Rattle.tcl_interpreter.specs.declared.command.Command.TheVariants as command
use Rattle.tcl_sessions.specs.Calls.{Answers}
use Rattle.tcl_sessions.specs.Evaluations.{Evaluates, watched_of}
use Rattle.tcl_sessions.specs.Files.{OnlyHost}
use Rattle.tcl_sessions.specs.Sessions.{KeepsRest}
use Rattle.tcl_sessions.specs.declared.evaluation.Evaluation.{Evaluation}
use Rattle.tcl_sessions.specs.declared.outcome.Outcome.{Outcome}
use Rattle.tcl_sessions.specs.declared.session.Session.{Session}
use Rattle.tcl_text.specs.Lists.{Spells}
use Rattle.tcl_tree.specs.Changes.{Drops, Makes}
use Rattle.tcl_tree.specs.Naming.{Becomes, cleared, named}
use Rattle.tcl_tree.specs.TreeOf.{tree_of}

-- ## Children and aliases

-- a child is made in the interpreter at the path that is spelled
pub record Creates (path name : List ℕ) (safe : Bool) (s z : Session) : Type 0 where
  pub at : Path
  pub spelled : Spells at path
  pub made : Makes (tree_of s.tree) (tree_of z.tree) at name safe
  pub rest : KeepsRest s z

-- a child is deleted there
pub record Deletes (path name : List ℕ) (s z : Session) : Type 0 where
  pub at : Path
  pub spelled : Spells at path
  pub dropped : Drops (tree_of s.tree) (tree_of z.tree) at name
  pub rest : KeepsRest s z

-- a name becomes an alias there, of an interpreter at another path, with words
pub record Aliases (path name target words : List ℕ) (s z : Session) : Type 0 where
  pub at : Path
  pub to : Path
  pub front : List (List ℕ)
  pub spelled : Spells at path
  pub target_spelled : Spells to target
  pub words_spelled : Spells front words
  pub set : Becomes (tree_of s.tree) (tree_of z.tree) at
      (λ own. named own name (command.Alias (way_between at to front)))
  pub rest : KeepsRest s z

-- a name becomes an alias there that leaves the tree
pub record AliasesOut (path name words : List ℕ) (s z : Session) : Type 0 where
  pub at : Path
  pub front : List (List ℕ)
  pub spelled : Spells at path
  pub words_spelled : Spells front words
  pub set : Becomes (tree_of s.tree) (tree_of z.tree) at
      (λ own. named own name (command.Alias (way_past at front)))
  pub rest : KeepsRest s z

-- an alias goes there
pub record ClearsAlias (path name : List ℕ) (s z : Session) : Type 0 where
  pub at : Path
  pub spelled : Spells at path
  pub cleared : Becomes (tree_of s.tree) (tree_of z.tree) at (λ own. cleared own name)
  pub rest : KeepsRest s z

-- ## Limits

-- the greatest number stands for none
abbrev pub limit_of : ℕ → Option ℕ
limit_of n = if n == 18446744073709551615 then None else Some n

-- the interpreter at the path has this limit of steps
pub record Limits (path : List ℕ) (limit : ℕ) (s z : Session) : Type 0 where
  pub at : Path
  pub spelled : Spells at path
  pub limited : tree_of z.tree ≡ effect at (Limited (limit_of limit)) (tree_of s.tree)
  pub rest : KeepsRest s z

-- or this limit of depth
pub record LimitsDepth (path : List ℕ) (limit : ℕ) (s z : Session) : Type 0 where
  pub at : Path
  pub spelled : Spells at path
  pub limited : tree_of z.tree ≡ effect at (DepthLimited limit) (tree_of s.tree)
  pub rest : KeepsRest s z

-- ## The host

pub record PutsFile (name bytes : List ℕ) (s z : Session) : Type 0 where
  pub put : z.standing.host ≡ with_file s.standing.host name bytes
  pub rest : OnlyHost s z

pub record PutsInput (bytes : List ℕ) (s z : Session) : Type 0 where
  pub put : z.standing.host ≡ with_input s.standing.host bytes
  pub rest : OnlyHost s z

pub record RenewsHost (s z : Session) : Type 0 where
  pub renewed : z.standing.host ≡ new_host
  pub rest : OnlyHost s z

-- ## Evaluations

-- some text spells this path, or there is neither
abbrev pub SpellsSome : Option Path → Option (List ℕ) → Type 0
SpellsSome (Some path) (Some text) = Spells path text
SpellsSome None None = Unit {0}
SpellsSome path text = Prim.⊥

-- what is to be evaluated, as texts say it
pub record IsPlan (path script : List ℕ) (limit : ℕ) (watched : Option (List ℕ))
    (e : Evaluation) : Type 0 where
  pub spelled : Spells e.path.items path
  pub is_script : e.script ≡ script
  pub is_limit : e.limit ≡ limit
  pub is_watched : SpellsSome (watched_of e) watched

-- it is evaluated, and comes so far
pub record Evals (path script : List ℕ) (limit : ℕ) (watched : Option (List ℕ)) (x : Outcome)
    (s z : Session) : Type 0 where
  pub plan : Evaluation
  pub is : IsPlan path script limit watched plan
  pub evaluated : Evaluates s plan (Ok x) z

-- an open call is answered, and the evaluation comes so far
abbrev pub AnswersCall : ℤ → List ℕ → Outcome → Session → Session → Type 0
AnswersCall code text x s z = Answers s code text (Ok x) z
