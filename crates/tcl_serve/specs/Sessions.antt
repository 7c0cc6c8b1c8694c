-- What messages do to what a session keeps.
use Rattle.std.specs.Prelude.{◌≡◌, ◌⊎◌, ◌↔◌, ℕ, Bool, false, Some, None, Result}
use Rattle.std.specs.Prelude.{Ok, Err, IsSome, IsTrue}
use Rattle.tcl_serve.specs.Views.{ClientView}
use Rattle.tcl_core.specs.Paths.{Path}
use Rattle.tcl_serve.specs.Messages as ask
use Rattle.tcl_serve.specs.Messages.{Asks, Evaluation}
use Rattle.tcl_serve.specs.declared.answers.Answer.{Answer}
use Rattle.tcl_serve.specs.declared.answers.Answer.TheVariants as answer
use Rattle.tcl_serve.specs.declared.fields.Field.{Field}
use Rattle.tcl_serve.specs.declared.fields.Field.TheVariants as field
use Rattle.tcl_serve.specs.declared.refusals.Refusal.{Refusal}
use Rattle.tcl_serve.specs.declared.refusals.Refusal.TheVariants.{CallOpen, Memory}
use Rattle.tcl_serve.specs.declared.refusals.Refusal.TheVariants.{Nothing, NotOpen}
use Rattle.tcl_recorder.specs.Records.{RecordView}
use Rattle.tcl_replay.specs.Saved.{saved_of}
use Rattle.tcl_replay.specs.declared.saving.Saved.{Saved}
use Rattle.tcl_serve.specs.Evaluating.{EvaluatesFor, WatchesFor}
use Rattle.tcl_serve.specs.Hosting.{fresh_host}
use Rattle.tcl_serve.specs.Keeping.{Plays, SavesAt, under}
use Rattle.tcl_serve.specs.Numbering.{Adds, IsKept, Puts, kept_at}
use Rattle.tcl_serve.specs.Served.{Acts}
use Rattle.tcl_serve.specs.declared.keeping.Left.{Left}
use Rattle.tcl_serve.specs.declared.numbered.Numbered.{Numbered}
use Rattle.tcl_serve.specs.declared.served.ServedTree.{ServedTree}
use Rattle.tcl_serve.specs.declared.session.Session.{Session}
use Rattle.tcl_text.specs.declared.integer.Integers.{Integers}
use Rattle.tcl_tree.specs.TreeOf.{alone, marks_of, new_root, tree_of}

-- nothing is kept
pub record IsEmpty (s : Session) : Type 0 where
  pub trees : (k : ℕ) → kept_at s.trees k ≡ None
  pub saved : (k : ℕ) → kept_at s.saved k ≡ None
  pub records : (k : ℕ) → kept_at s.records k ≡ None

-- ## What stays

pub record OnlyTrees (o z : Session) : Type 0 where
  pub saved : z.saved ≡ o.saved
  pub records : z.records ≡ o.records

pub record OnlySaved (o z : Session) : Type 0 where
  pub trees : z.trees ≡ o.trees
  pub records : z.records ≡ o.records

pub record OnlyRecords (o z : Session) : Type 0 where
  pub trees : z.trees ≡ o.trees
  pub saved : z.saved ≡ o.saved

-- nothing of this number is there
abbrev pub IsMissing : {T : Type 0} → Numbered T → Field → ℕ → Refusal → Type 0
IsMissing ts f n e = (e ≡ Nothing f n) × (kept_at ts n ≡ None)

-- ## Messages that evaluate nothing

-- a tree of a root alone, with a host that has nothing
pub record IsNew (integers : Integers) (s : ServedTree) : Type 0 where
  pub tree : tree_of s.tree ≡ alone new_root
  pub marks : marks_of s.tree ≡ record { integers = integers; broken = false }
  pub host : s.host ≡ fresh_host

pub record Makes (o : Session) (integers : Integers) (n : ℕ) (z : Session) : Type 0 where
  pub made : ServedTree
  pub new : IsNew integers made
  pub adds : Adds o.trees n made z.trees
  pub rest : OnlyTrees o z

-- a thing is taken out of what is kept
pub record Takes {T : Type 0} (o : Numbered T) (n : ℕ) (z : Numbered T) : Type 0 where
  pub there : IsSome (kept_at o n)
  pub puts : Puts o n None z

-- something is asked of a tree
pub record Asked (o : Session) (n : ℕ) (q : ask.Ask) (r : Result Answer Refusal) (z : Session) :
    Type 0 where
  pub served : ServedTree
  pub stood : kept_at o.trees n ≡ Some served
  pub after : ServedTree
  pub acts : Acts served q r after
  pub puts : Puts o.trees n (Some after) z.trees
  pub rest : OnlyTrees o z

-- an interpreter is saved by itself
pub record Saves (o : Session) (p : ask.Place) (k : ℕ) (z : Session) : Type 0 where
  pub served : ServedTree
  pub stood : kept_at o.trees p.tree ≡ Some served
  pub saved : Saved
  pub is : SavesAt served.tree p.path (Ok saved)
  pub adds : Adds o.saved k saved z.saved
  pub rest : OnlySaved o z

-- why not
abbrev pub Unsaved : Session → ask.Place → Refusal → Type 0
Unsaved o p e = IsMissing o.trees field.Tree p.tree e ⊎ (e ≡ Memory) ⊎
    ((served : ServedTree) × (kept_at o.trees p.tree ≡ Some served) ×
    SavesAt served.tree p.path (Err e))

-- two saved interpreters are the same, or not
pub record Compares (o : Session) (n m : ℕ) (a : Answer) : Type 0 where
  pub one : Saved
  pub other : Saved
  pub first : kept_at o.saved n ≡ Some one
  pub second : kept_at o.saved m ≡ Some other
  pub same : Bool
  pub says : a ≡ answer.Same same
  pub is : IsTrue same ↔ (((saved_of one).tree ≡ (saved_of other).tree) ×
      ((saved_of one).integers ≡ (saved_of other).integers))

-- a record is replayed to a saved interpreter, and what that leaves is kept
pub record Replays (o : Session) (n m limit : ℕ) (a : Answer) (z : Session) : Type 0 where
  pub saved : Saved
  pub kept : RecordView
  pub stood : kept_at o.saved n ≡ Some saved
  pub recorded : kept_at o.records m ≡ Some kept
  pub left : Left
  pub plays : Plays (saved_of saved) kept.crossings limit (Ok left)
  pub number : ℕ
  pub adds : Adds o.saved number left.saved z.saved
  pub says : a ≡ answer.Replayed (under left.told number)
  pub rest : OnlySaved o z

abbrev pub Unreplayed : Session → ℕ → ℕ → ℕ → Refusal → Type 0
Unreplayed o n m limit e = IsMissing o.saved field.Saved n e ⊎
    IsMissing o.records field.Record m e ⊎ (e ≡ Memory) ⊎
    ((saved : Saved) × (kept : RecordView) × (kept_at o.saved n ≡ Some saved) ×
    (kept_at o.records m ≡ Some kept) × Plays (saved_of saved) kept.crossings limit (Err e))

-- what is done
abbrev pub Done : Session → Asks → Answer → Session → Type 0
Done o (ask.MakeTree integers) (answer.Tree n) z = Makes o integers n z
Done o (ask.DropTree n) a z = (a ≡ answer.Done) × Takes o.trees n z.trees × OnlyTrees o z
Done o (ask.OnTree n q) a z = Asked o n q (Ok a) z
Done o (ask.Save p) (answer.Saved k) z = Saves o p k z
Done o (ask.Compare n m) a z = Compares o n m a × (z ≡ o)
Done o (ask.Replay n m limit) a z = Replays o n m limit a z
Done o (ask.DropSaved n) a z = (a ≡ answer.Done) × Takes o.saved n z.saved × OnlySaved o z
Done o (ask.DropRecord n) a z = (a ≡ answer.Done) × Takes o.records n z.records × OnlyRecords o z
Done o m a z = Prim.⊥

-- why it isn't; an evaluation isn't done so
abbrev pub Undone : Session → Asks → Refusal → Type 0
Undone o (ask.MakeTree integers) e = e ≡ Memory
Undone o (ask.DropTree n) e = IsMissing o.trees field.Tree n e
Undone o (ask.OnTree n q) e = IsMissing o.trees field.Tree n e
Undone o (ask.Save p) e = Unsaved o p e
Undone o (ask.Compare n m) e = IsMissing o.saved field.Saved n e ⊎
    IsMissing o.saved field.With m e
Undone o (ask.Replay n m limit) e = Unreplayed o n m limit e
Undone o (ask.DropSaved n) e = IsMissing o.saved field.Saved n e
Undone o (ask.DropRecord n) e = IsMissing o.records field.Record n e
Undone o (ask.Return n code text) e = e ≡ NotOpen n
Undone o (ask.EndRun n) e = e ≡ NotOpen n
Undone o m e = e ≡ CallOpen

-- all is kept as it was
pub record IsSame (o z : Session) : Type 0 where
  pub trees : IsKept o.trees z.trees
  pub saved : IsKept o.saved z.saved
  pub records : IsKept o.records z.records

-- what is asked of a tree is refused by it
abbrev pub RefusedThere : Session → Asks → Refusal → Session → Type 0
RefusedThere o (ask.OnTree n q) e z = Asked o n q (Err e) z
RefusedThere o m e z = Prim.⊥

abbrev pub Does : Session → Asks → Result Answer Refusal → Session → Type 0
Does o m (Ok a) z = Done o m a z
Does o m (Err e) z = (Undone o m e × IsSame o z) ⊎ RefusedThere o m e z

-- ## Evaluations

-- a script is evaluated in a tree
pub record Evaluated (o : Session) (c : ClientView) (e : Evaluation) (z : Session)
    (d : ClientView) (r : Result Answer Refusal) : Type 0 where
  pub served : ServedTree
  pub stood : kept_at o.trees e.place.tree ≡ Some served
  pub after : ServedTree
  pub evaluates : EvaluatesFor e served c after d r
  pub puts : Puts o.trees e.place.tree (Some after) z.trees
  pub rest : OnlyTrees o z

-- and what crosses the boundary of an interpreter is recorded
pub record Watched (o : Session) (c : ClientView) (e : Evaluation) (watched : Path) (z : Session)
    (d : ClientView) (r : Result Answer Refusal) : Type 0 where
  pub served : ServedTree
  pub stood : kept_at o.trees e.place.tree ≡ Some served
  pub after : ServedTree
  pub watches : WatchesFor e watched served c o.records after d z.records r
  pub puts : Puts o.trees e.place.tree (Some after) z.trees
  pub saved : z.saved ≡ o.saved

-- the tree isn't there
pub record NoTree (o : Session) (c : ClientView) (n : ℕ) (z : Session) (d : ClientView)
    (r : Result Answer Refusal) : Type 0 where
  pub refused : r ≡ Err (Nothing field.Tree n)
  pub missing : kept_at o.trees n ≡ None
  pub session : IsSame o z
  pub client : d ≡ c

-- ## All messages

-- What a message does while no call is open, with the client that wrote it.
abbrev pub Answers : Session → ClientView → Asks → Session → ClientView → Result Answer Refusal →
    Type 0
Answers o c (ask.Evaluate e) z d r = Evaluated o c e z d r ⊎ NoTree o c e.place.tree z d r
Answers o c (ask.Watch e watched) z d r = Watched o c e watched z d r ⊎
    NoTree o c e.place.tree z d r
Answers o c m z d r = Does o m r z × (d ≡ c)
