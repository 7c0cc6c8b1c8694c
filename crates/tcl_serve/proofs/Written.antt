-- Nothing that is written has a float.
use Rattle.serde_json.specs.Written.{has_float}
use Rattle.std.proofs.Common.{◌≡◌, ℕ, List, [], ◌∷◌, Option, Some, None, Result, Ok, Err, false, refl}
use Rattle.tcl_serve.specs.declared.answers.ClientCall.{ClientCall}
use Rattle.tcl_serve.specs.declared.refusals.Refusal.{Refusal}
use Rattle.tcl_serve.specs.Answers.{answer_data, ended_data, replayed_data, standing_data, watched_data}
use Rattle.tcl_serve.specs.declared.answers.Answer.{Answer}
use Rattle.tcl_serve.specs.declared.answers.Answer.TheVariants as answer
use Rattle.tcl_serve.specs.declared.answers.Ended.{Ended}
use Rattle.tcl_serve.specs.declared.answers.Ended.TheVariants as ended
use Rattle.tcl_serve.specs.declared.answers.Replayed.{Replayed}
use Rattle.tcl_serve.specs.declared.answers.Standing.{Standing}
use Rattle.tcl_serve.specs.declared.answers.Watched.{Watched}
use Rattle.serde_json.specs.Find.{is_float, of_integer}
use Rattle.std.proofs.Common.{ℤ, pos, negsuc}
use Rattle.tcl_serve.specs.Answers.{answer_object, call_object, number_data, refusal_object, reply_object, text_data, texts_data}
use Rattle.tcl_core.specs.Paths.{Text}

pub number_plain : (o : Option ℕ) → has_float (number_data o) ≡ false
number_plain None = refl
number_plain (Some n) = refl

pub text_plain : (o : Option Text) → has_float (text_data o) ≡ false
text_plain None = refl
text_plain (Some t) = refl

pub texts_plain : (texts : List Text) → has_float (texts_data texts) ≡ false
texts_plain [] = refl
texts_plain (t ∷ ts) = texts_plain ts

integer_plain : (z : ℤ) → is_float (of_integer z) ≡ false
integer_plain (pos n) = refl
integer_plain (negsuc n) = refl

pub ended_plain : (e : Ended) → has_float (ended_data e) ≡ false
ended_plain (ended.Completed code text) = rw (integer_plain code)
ended_plain (ended.Stopped kind) = refl
ended_plain (ended.Exited status) = rw (integer_plain status)
ended_plain ended.Cut = refl

pub standing_plain : (s : Standing) → has_float (standing_data s) ≡ false
standing_plain s = rw (texts_plain s.children.items, number_plain s.count_limit)

pub watched_plain : (w : Watched) → has_float (watched_data w) ≡ false
watched_plain w = rw (ended_plain w.ended, texts_plain w.lines.items)

pub replayed_plain : (r : Replayed) → has_float (replayed_data r) ≡ false
replayed_plain r = rw (texts_plain r.lines.items)

pub answer_plain : (a : Answer) → has_float (answer_data a) ≡ false
answer_plain answer.Done = refl
answer_plain (answer.Tree n) = refl
answer_plain (answer.Saved n) = refl
answer_plain (answer.Text text) = rw (text_plain text)
answer_plain (answer.Standing s) = standing_plain s
answer_plain (answer.Ended e) = ended_plain e
answer_plain (answer.Watched w) = watched_plain w
answer_plain (answer.Replayed r) = replayed_plain r
answer_plain (answer.Same same) = refl

-- ## Lines

pub answer_object-plain : (id : Option ℕ) (a : Answer) → has_float (answer_object id a) ≡ false
answer_object-plain id a = rw (number_plain id, answer_plain a)

pub refusal_object-plain : (id : Option ℕ) (r : Refusal) → has_float (refusal_object id r) ≡ false
refusal_object-plain id r = rw (number_plain id)

pub reply_object-plain : (id : Option ℕ) (r : Result Answer Refusal) → has_float (reply_object id r) ≡ false
reply_object-plain id (Ok a) = answer_object-plain id a
reply_object-plain id (Err e) = refusal_object-plain id e

pub call_object-plain : (c : ClientCall) → has_float (call_object c) ≡ false
call_object-plain c = rw (texts_plain c.interpreter.items, texts_plain c.words.items)
