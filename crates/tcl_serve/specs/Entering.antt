-- Messages as entries.
use Rattle.std.specs.Prelude.{◌≡◌, ℕ, Bool, true, false, List, [], ◌∷◌, ◌++◌, Some, None}
use Rattle.tcl_core.specs.Entries as entry
use Rattle.tcl_core.specs.Entries.{Entry}
use Rattle.tcl_core.specs.Paths.{Path, Text}
use Rattle.tcl_interpreter.specs.Commands.{AliasView, way_between, way_past}
use Rattle.tcl_serve.specs.Messages as ask
use Rattle.tcl_serve.specs.Messages.{Ask, Asks, Evaluate, OnTree}
use Rattle.tcl_serve.specs.declared.refusals.Refusal.{Refusal}
use Rattle.tcl_serve.specs.declared.refusals.Refusal.TheVariants as refusal

-- the path is that of a child, of this name, of the interpreter at another
abbrev pub AtChild : Path → (Path → Text → Type 0) → Type 0
AtChild path P = (p : Path) × (n : Text) × (path ≡ p ++ n ∷ []) × P p n

-- An alias of an interpreter at p to the client: its calls leave the tree.
abbrev pub client_way : Path → List Text → AliasView
client_way p words = way_past p words

-- an alias that leads so is set
abbrev pub sets : Text → AliasView → Entry
sets name way = entry.SetAlias name way.up way.down way.words

-- What is asked of a tree is an entry into the interpreter at t; the rest is none.
abbrev pub AsksEntry : Ask → Path → Entry → Type 0
AsksEntry (ask.Create path safe) t i = AtChild path (λ p n.
    (t ≡ p) × (i ≡ entry.Create (Some n) safe))
AsksEntry (ask.Delete path) t i = AtChild path (λ p n. (t ≡ p) × (i ≡ entry.Delete n))
AsksEntry (ask.Alias path name to words) t i = (t ≡ path) ×
    (i ≡ sets name (way_between path to words))
AsksEntry (ask.AliasToClient path name words) t i = (t ≡ path) ×
    (i ≡ sets name (client_way path words))
AsksEntry (ask.ClearAlias path name) t i = (t ≡ path) × (i ≡ entry.ClearAlias name)
AsksEntry (ask.LimitCount path count) t i = (t ≡ path) × (i ≡ entry.SetCountLimit count)
AsksEntry (ask.LimitDepth path depth) t i = (t ≡ path) × (i ≡ entry.SetDepthLimit depth)
AsksEntry a t i = Prim.⊥

-- a message is an entry into the interpreter at t, of the tree of a number; whether it evaluates a
-- script
abbrev pub IsEntry : Asks → ℕ → Path → Entry → Bool → Type 0
IsEntry (Evaluate e) tree t i evaluates = (e.place.tree ≡ tree) × (t ≡ e.place.path) ×
    (i ≡ entry.Eval e.script) × (e.limit ≡ None) × (evaluates ≡ true)
IsEntry (OnTree n a) tree t i evaluates = (n ≡ tree) × AsksEntry a t i × (evaluates ≡ false)
IsEntry m tree t i evaluates = Prim.⊥

-- a text is no value
abbrev pub IsMisfit : Refusal → Type 0
IsMisfit refusal.Memory = Unit {0}
IsMisfit refusal.TooLong = Unit {0}
IsMisfit e = Prim.⊥

-- why a message about the tree isn't an entry
abbrev pub NoEntry : Refusal → Type 0
NoEntry refusal.Memory = Unit {0}
NoEntry refusal.TooLong = Unit {0}
NoEntry refusal.EntryLimit = Unit {0}
NoEntry refusal.Root = Unit {0}
NoEntry refusal.CallOpen = Unit {0}
NoEntry e = Prim.⊥
