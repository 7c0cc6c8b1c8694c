-- A session: which lines are read and written, and what becomes of what it keeps.
use Rattle.std.specs.Prelude.{◌≡◌, ◌⊎◌, ◌+◌, ℕ, List, Option, Some, None, Result}
use Rattle.tcl_serve.specs.Clients.{IsQuiet}
use Rattle.tcl_serve.specs.Views.{ClientView}
use Rattle.tcl_serve.specs.Lines.{Traffic}
use Rattle.tcl_serve.specs.Messages.{Asks}
use Rattle.tcl_serve.specs.Talking.{Finishes, Rejects, Replies, Understands}
use Rattle.tcl_serve.specs.declared.answers.Answer.{Answer}
use Rattle.tcl_serve.specs.declared.lines.Ending.{Ending}
use Rattle.tcl_serve.specs.declared.lines.Ending.TheVariants as ending
use Rattle.tcl_serve.specs.declared.refusals.Refusal.{Refusal}
use Rattle.tcl_serve.specs.Sessions.{Answers, IsEmpty}
use Rattle.tcl_serve.specs.declared.session.Session.{Session}

-- A message is read, done, and answered.
pub record Done (c : ClientView) (o : Session) (d : ClientView) (z : Session) : Type 0 where
  pub id : ℕ
  pub message : Asks
  pub heard : ClientView
  pub understands : Understands c.lines id message heard.lines
  pub talk : heard.talk ≡ c.talk
  pub done : ClientView
  pub answer : Result Answer Refusal
  pub answers : Answers o heard message z done answer
  pub replies : Replies done.lines (Some id) answer d.lines
  pub same : d.talk ≡ done.talk

-- A line is read that isn't understood, which is said; or none comes any more. What is kept stays.
pub record Undone (c : ClientView) (o : Session) (d : ClientView) (z : Session) : Type 0 where
  pub lines : Rejects c.lines d.lines ⊎ Finishes c.lines d.lines
  pub talk : d.talk ≡ c.talk
  pub session : z ≡ o

abbrev pub Turns : ClientView → Session → ClientView → Session → Type 0
Turns c o d z = Done c o d z ⊎ Undone c o d z

-- so many lines, one after the other
pub data Lines (c : ClientView) (o : Session) : ℕ → ClientView → Session → Type 0 where
  none : Lines c o 0 c o
  one : {n : ℕ} (d e : ClientView) (y z : Session) → Lines c o n d y → Turns d y e z →
      Lines c o (n + 1) e z

-- A session with what a reader has left and what a writer holds begins with nothing kept, and goes
-- line by line up to this ending. It is given up, as where memory is wanted, behind more lines than
-- anybody sends.
pub record IsServed (unread written : Option (List ℕ)) (e : Ending) : Type 0 where
  pub client : ClientView
  pub begun : client.lines ≡ record { unread = unread; written = written; ending = None }
  pub quiet : IsQuiet client.talk
  pub session : Session
  pub empty : IsEmpty session
  pub many : ℕ
  pub last : ClientView
  pub left : Session
  pub lines : Lines client session many last left
  pub over : (last.lines.ending ≡ Some e) ⊎
      ((e ≡ ending.Memory) × (many ≡ 18446744073709551615))
