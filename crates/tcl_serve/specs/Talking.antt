-- Which lines are read and written for messages.
use Rattle.std.specs.Prelude.{◌≡◌, ◌⊎◌, ℕ, List, Option, Some, None, Result, Ok, Err}
use Rattle.tcl_serve.specs.Answers.{reply_line}
use Rattle.tcl_serve.specs.Lines.{Ends, Hears, Says, Traffic, out_of_memory}
use Rattle.tcl_serve.specs.Messages.{Asks, Means, MeansOrWants, asks_of}
use Rattle.tcl_serve.specs.declared.answers.Answer.{Answer}
use Rattle.tcl_serve.specs.declared.lines.Ending.{Ending}
use Rattle.tcl_serve.specs.declared.lines.Ending.TheVariants as ending
use Rattle.tcl_serve.specs.declared.messages.Message.{Message}
use Rattle.tcl_serve.specs.declared.refusals.Refusal.{Refusal}
use Rattle.tcl_serve.specs.declared.refusals.Refusal.TheVariants as refusal

-- A message is answered by one line; where memory was wanted for that, by the line that says so.
pub record Replies (old : Traffic) (id : Option ℕ) (r : Result Answer Refusal) (new : Traffic) :
    Type 0 where
  pub line : List ℕ
  pub is : (line ≡ reply_line id r) ⊎ (line ≡ out_of_memory id)
  pub says : Says old line new

-- A line is read that is this message.
pub record Understands (old : Traffic) (id : ℕ) (m : Asks) (new : Traffic) : Type 0 where
  pub line : List ℕ
  pub hears : Hears old line new
  pub means : Means line (record { id = Some id; asks = Ok m })

-- A line is read that isn't understood, and answered by why.
pub record Rejects (old new : Traffic) : Type 0 where
  pub line : List ℕ
  pub id : Option ℕ
  pub why : Refusal
  pub between : Traffic
  pub hears : Hears old line between
  pub means : MeansOrWants line (record { id = id; asks = Err why })
  pub replies : Replies between id (Err why) new

-- what comes of a line that was read
pub record Misunderstood (old : Traffic) (line : List ℕ) (new : Traffic) : Type 0 where
  pub id : Option ℕ
  pub why : Refusal
  pub means : MeansOrWants line (record { id = id; asks = Err why })
  pub replies : Replies old id (Err why) new

abbrev pub Understood : Traffic → List ℕ → Option (ℕ × Message) → Traffic → Type 0
Understood old line (Some m) new = (new ≡ old) ×
    Means line (record { id = Some m.0; asks = Ok (asks_of m.1) })
Understood old line None new = Misunderstood old line new

-- what is said at the end, where that is a fault of the input
abbrev pub fault_of : Ending → Option Refusal
fault_of ending.Finished = None
fault_of ending.TooLong = Some refusal.LineTooLong
fault_of ending.CutShort = Some refusal.CutShort
fault_of ending.Unreadable = Some refusal.Unreadable
fault_of ending.Unwritable = None
fault_of ending.Memory = Some refusal.Memory

abbrev pub SaysFault : Option Refusal → Traffic → Traffic → Type 0
SaysFault (Some e) old new = Replies old None (Err e) new
SaysFault None old new = new ≡ old

-- No line comes any more, and why is said.
pub record Finishes (old new : Traffic) : Type 0 where
  pub ending : Ending
  pub between : Traffic
  pub ends : Ends old ending between
  pub says : SaysFault (fault_of ending) between new

-- a message is read; or a line that is none; or none comes any more
abbrev pub Listens : Traffic → Option (ℕ × Message) → Traffic → Type 0
Listens old (Some m) new = Understands old m.0 (asks_of m.1) new
Listens old None new = Rejects old new ⊎ Finishes old new
