-- What is written, as JSON has it.
use Rattle.serde_json.specs.Data.{Data, Members, array, boolean, member, no_members}
use Rattle.serde_json.specs.Data.{null, number, object, put, string, unsigned}
use Rattle.serde_json.specs.Find.{of_integer}
use Rattle.serde_json.specs.View.{items_of, view}
use Rattle.serde_json.specs.Written.{compact_text}
use Rattle.serde_json.specs.declared.value.Value.{Value}
use Rattle.std.specs.Borrow.{Bor}
use Rattle.std.specs.Prelude.{ℕ, List, [], ◌∷◌, Option, Some, None, Result, Ok, Err, codes, map}
use Rattle.tcl_core.specs.Paths.{Text}
use Rattle.tcl_flow.specs.declared.stop.StopKind.{StopKind}
use Rattle.tcl_flow.specs.declared.stop.StopKind.TheVariants as stop
use Rattle.tcl_serve.specs.Refusals.{number_of, text_of}
use Rattle.tcl_serve.specs.declared.answers.Answer.{Answer}
use Rattle.tcl_serve.specs.declared.answers.Answer.TheVariants as answer
use Rattle.tcl_serve.specs.declared.answers.ClientCall.{ClientCall}
use Rattle.tcl_serve.specs.declared.answers.Ended.{Ended}
use Rattle.tcl_serve.specs.declared.answers.Ended.TheVariants as ended
use Rattle.tcl_serve.specs.declared.answers.Replayed.{Replayed}
use Rattle.tcl_serve.specs.declared.answers.Standing.{Standing}
use Rattle.tcl_serve.specs.declared.answers.Watched.{Watched}
use Rattle.tcl_serve.specs.declared.refusals.Refusal.{Refusal}

-- the members, and these put in one after the other
abbrev pub with_members : List (Bor Text × Value) → Members → Members
with_members [] members = members
with_members (m ∷ more) members = with_members more (put m.0.now (view m.1) members)

-- the object of these members
abbrev pub object_with : List (Bor Text × Value) → Data
object_with members = object (with_members members no_members)

-- a number, or null
abbrev pub number_data : Option ℕ → Data
number_data (Some n) = number (unsigned n)
number_data None = null

-- a text, or null
abbrev pub text_data : Option Text → Data
text_data (Some text) = string text
text_data None = null

-- texts, in order
abbrev pub texts_data : List Text → Data
texts_data texts = array (items_of (map string texts))

abbrev pub limit_name : StopKind → Text
limit_name stop.Count = codes "count"
limit_name stop.Depth = codes "depth"
limit_name stop.Gone = codes "gone"

abbrev pub ended_data : Ended → Data
ended_data (ended.Completed code text) = object (member (codes "code") (number (of_integer code))
    (member (codes "end") (string (codes "completed")) (member (codes "text") (string text)
    no_members)))
ended_data (ended.Stopped kind) = object (member (codes "end") (string (codes "stopped"))
    (member (codes "limit") (string (limit_name kind)) no_members))
ended_data (ended.Exited status) = object (member (codes "end") (string (codes "exited"))
    (member (codes "status") (number (of_integer status)) no_members))
ended_data ended.Cut = object (member (codes "end") (string (codes "cut")) no_members)

abbrev pub standing_data : Standing → Data
standing_data s = object (member (codes "children") (texts_data s.children.items)
    (member (codes "count") (number (unsigned s.count))
    (member (codes "count_limit") (number_data s.count_limit)
    (member (codes "depth") (number (unsigned s.depth))
    (member (codes "depth_limit") (number (unsigned s.depth_limit))
    (member (codes "safe") (boolean s.safe) no_members))))))

abbrev pub watched_data : Watched → Data
watched_data w = object (member (codes "ended") (ended_data w.ended)
    (member (codes "lines") (texts_data w.lines.items)
    (member (codes "record") (number (unsigned w.number)) no_members)))

abbrev pub replayed_data : Replayed → Data
replayed_data r = object (member (codes "lines") (texts_data r.lines.items)
    (member (codes "outcome") (string r.outcome) (member (codes "same") (boolean r.same)
    (member (codes "saved") (number (unsigned r.saved)) no_members))))

abbrev pub answer_data : Answer → Data
answer_data answer.Done = object no_members
answer_data (answer.Tree n) = object (member (codes "tree") (number (unsigned n)) no_members)
answer_data (answer.Saved n) = object (member (codes "saved") (number (unsigned n)) no_members)
answer_data (answer.Text text) = object (member (codes "text") (text_data text) no_members)
answer_data (answer.Standing s) = standing_data s
answer_data (answer.Ended e) = ended_data e
answer_data (answer.Watched w) = watched_data w
answer_data (answer.Replayed r) = replayed_data r
answer_data (answer.Same same) = object (member (codes "same") (boolean same) no_members)

-- ## Lines

abbrev pub answer_object : Option ℕ → Answer → Data
answer_object id a = object (member (codes "id") (number_data id)
    (member (codes "ok") (answer_data a) no_members))

abbrev pub error_data : Refusal → Data
error_data r = object (member (codes "number") (number (unsigned (number_of r)))
    (member (codes "text") (string (text_of r)) no_members))

abbrev pub refusal_object : Option ℕ → Refusal → Data
refusal_object id r = object (member (codes "error") (error_data r)
    (member (codes "id") (number_data id) no_members))

abbrev pub reply_object : Option ℕ → Result Answer Refusal → Data
reply_object id (Ok a) = answer_object id a
reply_object id (Err e) = refusal_object id e

-- what answers a message of this id, or a line of which none can be read
abbrev pub reply_line : Option ℕ → Result Answer Refusal → List ℕ
reply_line id r = compact_text (reply_object id r)

-- of a call: its number, the tree's, who calls, and the words
abbrev pub call_object : ClientCall → Data
call_object c = object (member (codes "call") (number (unsigned c.number))
    (member (codes "interpreter") (texts_data c.interpreter.items)
    (member (codes "tree") (number (unsigned c.tree))
    (member (codes "words") (texts_data c.words.items) no_members))))

abbrev pub call_line : ClientCall → List ℕ
call_line c = compact_text (call_object c)
