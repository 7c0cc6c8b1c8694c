-- What messages come to while a call is open.
use Rattle.std.specs.Prelude.{◌≡◌, ◌⊎◌, ℕ, ℤ, ◌-◌, List, length, slice_get, Option, Some}
use Rattle.tcl_serve.specs.Entering.{IsEntry, IsMisfit, NoEntry}
use Rattle.tcl_serve.specs.declared.open.Next.{Next}
use Rattle.tcl_serve.specs.declared.open.Next.TheVariants as next
use Rattle.tcl_serve.specs.declared.open.Talk.{Talk}
use Rattle.tcl_core.specs.Endings.{completion}
use Rattle.tcl_core.specs.Paths.{Text}
use Rattle.tcl_flow.specs.View.{completion_of}
use Rattle.tcl_serve.specs.Messages.{Asks, EndRun, Evaluate, OnTree, Return}
use Rattle.tcl_serve.specs.declared.refusals.Refusal.{Refusal}
use Rattle.tcl_serve.specs.declared.refusals.Refusal.TheVariants.{CallOpen, NotOpen}
use Rattle.tcl_run.specs.Entering.{whole_entry}

-- the last of them
abbrev pub last_of : {A : Type 0} → List A → Option A
last_of xs = slice_get xs (length xs - 1)

-- the call of this number is the one that was opened last, of those that are open
abbrev pub IsOpen : Talk → ℕ → Type 0
IsOpen t n = last_of t.calls.items ≡ Some n

-- an entry that a message asks for, the completion by which it answers the open call, or the end of
-- the run
abbrev pub IsNext : Talk → Asks → Next → Type 0
IsNext t m (next.Enters asked evaluates) = IsEntry m t.tree asked.0.items (whole_entry asked.1)
    evaluates
IsNext t m (next.Returns c) = (n : ℕ) × (code : ℤ) × (text : Text) × (m ≡ Return n code text) ×
    IsOpen t n × (completion_of c ≡ completion code text)
IsNext t m next.Ends = (n : ℕ) × (m ≡ EndRun n) × IsOpen t n

-- why a message that is about the tree of a number isn't done: the run is in another one, or it is
-- no entry
abbrev pub RefusesHere : Talk → ℕ → Refusal → Type 0
RefusesHere t n e = ((e ≡ CallOpen) × ¬ (n ≡ t.tree)) ⊎ ((n ≡ t.tree) × NoEntry e)

-- why a message that is about the open call isn't done: the call isn't the open one, or the text of
-- the answer is no value
abbrev pub RefusesCall : Talk → ℕ → Refusal → Type 0
RefusesCall t n e = ((e ≡ NotOpen n) × ¬ (IsOpen t n)) ⊎ (IsOpen t n × IsMisfit e)

abbrev pub RefusesOpen : Talk → Asks → Refusal → Type 0
RefusesOpen t (Evaluate v) e = RefusesHere t v.place.tree e
RefusesOpen t (OnTree n a) e = RefusesHere t n e
RefusesOpen t (Return n code text) e = RefusesCall t n e
RefusesOpen t (EndRun n) e = RefusesCall t n e
RefusesOpen t m e = e ≡ CallOpen
