-- What is asked of a served tree while nothing is evaluated in it.
use Rattle.std.specs.Prelude.{◌≡◌, [], List, Result, Ok, Err, MatchOption, Some}
use Rattle.tcl_serve.specs.Entering.{AtChild, client_way}
use Rattle.tcl_core.specs.Paths.{Path, Text}
use Rattle.tcl_core.specs.Trees.{effect}
use Rattle.tcl_core.specs.Trees.What.{DepthLimited, Limited}
use Rattle.tcl_host.specs.MemoryHost.{file_of, with_file, with_input}
use Rattle.tcl_interpreter.specs.Commands.{AliasView, way_between}
use Rattle.tcl_interpreter.specs.declared.command.Command.TheVariants as command
use Rattle.tcl_serve.specs.Messages as ask
use Rattle.tcl_serve.specs.Messages.{Ask}
use Rattle.tcl_serve.specs.declared.answers.Answer.{Answer}
use Rattle.tcl_serve.specs.declared.answers.Answer.TheVariants as answer
use Rattle.tcl_serve.specs.declared.refusals.Refusal.{Refusal}
use Rattle.tcl_serve.specs.declared.refusals.Refusal.TheVariants.{Memory}
use Rattle.tcl_serve.specs.Acting.{IsRefused, IsStanding, nobody}
use Rattle.tcl_serve.specs.Hosting.{IfUnreadable, all_taken, untaken}
use Rattle.tcl_serve.specs.declared.served.ServedTree.{ServedTree}
use Rattle.tcl_tree.specs.Changes.{Drops, Makes, RefusesDepthLimit, RefusesDrop, RefusesLimit}
use Rattle.tcl_tree.specs.Changes.{RefusesMake}
use Rattle.tcl_tree.specs.Naming.{Becomes, RefusesAt, RefusesThere, cleared, named}
use Rattle.tcl_tree.specs.TreeOf.{marks_of, tree_of}

-- ## The tree

-- a name becomes an alias that leads so
abbrev pub Sets : ServedTree → Path → Text → AliasView → ServedTree → Type 0
Sets s p name way t = Becomes (tree_of s.tree) (tree_of t.tree) p
    (λ own. named own name (command.Alias way))

abbrev pub RefusesAlias : ServedTree → Path → Text → AliasView → Refusal → Type 0
RefusesAlias s p name way e = IsRefused (λ x. RefusesAt x (tree_of s.tree) p
    (λ own. named own name (command.Alias way))) e

-- what becomes of the tree
abbrev pub ChangesTree : ServedTree → Ask → ServedTree → Type 0
ChangesTree s (ask.Create path safe) t = AtChild path
    (λ p n. Makes (tree_of s.tree) (tree_of t.tree) p n safe)
ChangesTree s (ask.Delete path) t = AtChild path (Drops (tree_of s.tree) (tree_of t.tree))
ChangesTree s (ask.Alias path name to words) t = Sets s path name (way_between path to words) t
ChangesTree s (ask.AliasToClient path name words) t = Sets s path name (client_way path words) t
ChangesTree s (ask.ClearAlias path name) t = Becomes (tree_of s.tree) (tree_of t.tree) path
    (λ own. cleared own name)
ChangesTree s (ask.LimitCount path count) t = tree_of t.tree
    ≡ effect path (Limited count) (tree_of s.tree)
ChangesTree s (ask.LimitDepth path depth) t = tree_of t.tree
    ≡ effect path (DepthLimited depth) (tree_of s.tree)
ChangesTree s a t = tree_of t.tree ≡ tree_of s.tree

-- ## The host

abbrev pub ChangesHost : ServedTree → Ask → ServedTree → Type 0
ChangesHost s (ask.PutFile name text) t = t.host
    ≡ record s.host { host = with_file s.host.host name text }
ChangesHost s (ask.PutInput text) t = t.host ≡ record s.host { host = with_input s.host.host text }
ChangesHost s (ask.TakeOutput c) t = t.host ≡ all_taken c s.host
ChangesHost s a t = t.host ≡ s.host

-- ## Answers

abbrev pub Gives : ServedTree → Ask → Answer → Type 0
Gives s (ask.Look path) a = IsStanding (tree_of s.tree path) a
Gives s (ask.GetFile name) a = a ≡ answer.Text (file_of s.host.host name)
Gives s (ask.TakeOutput c) a = a ≡ answer.Text (Some (untaken c s.host))
Gives s q a = a ≡ answer.Done

-- why it isn't done
abbrev pub Refuses : ServedTree → Ask → Refusal → Type 0
Refuses s (ask.Create path safe) e = IsRefused
    (λ x. AtChild path (RefusesMake x (tree_of s.tree))) e
Refuses s (ask.Delete path) e = IsRefused (λ x. AtChild path (RefusesDrop x (tree_of s.tree))) e
Refuses s (ask.Alias path name to words) e = RefusesAlias s path name (way_between path to words) e
Refuses s (ask.AliasToClient path name words) e = RefusesAlias s path name (client_way path words) e
Refuses s (ask.ClearAlias path name) e = IsRefused
    (λ x. RefusesThere x (tree_of s.tree) path (λ own. cleared own name)) e
Refuses s (ask.LimitCount path count) e = IsRefused
    (λ x. RefusesLimit x (tree_of s.tree) [] path count) e
Refuses s (ask.LimitDepth path depth) e = IsRefused
    (λ x. RefusesDepthLimit x (tree_of s.tree) [] path depth) e
Refuses s (ask.Look path) e = IsRefused (λ x. nobody x (tree_of s.tree path)) e
Refuses s (ask.PutFile name text) e = e ≡ Memory
Refuses s (ask.GetFile name) e = MatchOption (file_of s.host.host name) (e ≡ Memory)
    (λ bytes. IfUnreadable bytes e)
Refuses s (ask.PutInput text) e = e ≡ Memory
Refuses s (ask.TakeOutput c) e = IfUnreadable (untaken c s.host) e

-- ## All of it

-- it is done
pub record IsDone (s : ServedTree) (q : Ask) (a : Answer) (t : ServedTree) : Type 0 where
  pub tree : ChangesTree s q t
  pub host : ChangesHost s q t
  pub gives : Gives s q a

-- nothing changes
pub record IsUnchanged (s : ServedTree) (q : Ask) (e : Refusal) (t : ServedTree) : Type 0 where
  pub tree : tree_of t.tree ≡ tree_of s.tree
  pub host : t.host ≡ s.host
  pub refuses : Refuses s q e

abbrev pub IsActed : ServedTree → Ask → Result Answer Refusal → ServedTree → Type 0
IsActed s q (Ok a) t = IsDone s q a t
IsActed s q (Err e) t = IsUnchanged s q e t

-- and integers are read, and the tree is broken or not, as before
abbrev pub Acts : ServedTree → Ask → Result Answer Refusal → ServedTree → Type 0
Acts s q r t = IsActed s q r t × (marks_of t.tree ≡ marks_of s.tree)
