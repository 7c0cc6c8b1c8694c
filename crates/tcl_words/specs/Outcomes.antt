-- What commands answer: the text of their value, or that of their error.
use Rattle.std.specs.Prelude.{◌≡◌, ℕ, List, Ok, Err}
use Rattle.std.specs.declared.result.Result.{Result}
use Rattle.std.specs.Fmt.{signed_decimal}
use Rattle.tcl_words.specs.declared.answer.Answer.{Answer}
use Rattle.tcl_words.specs.declared.answer.Answer.TheVariants.{Text, Number}
use Rattle.tcl_words.specs.declared.refusal.Refusal.{Refusal}
use Rattle.tcl_words.specs.declared.refusal.Refusal.TheVariants.{Memory, Fault}

abbrev pub Outcome : Type 0
Outcome = Result (List ℕ) (List ℕ)

-- the text of what a command gives
abbrev pub answer_text : Answer → List ℕ
answer_text (Text text) = text
answer_text (Number n) = signed_decimal n

-- what follows, where there is a value
abbrev pub next : {X Y : Type 0} → Result X (List ℕ) → (X → Result Y (List ℕ)) → Result Y (List ℕ)
next (Ok x) go = go x
next (Err fault) go = Err fault

-- a refusal is the error, unless memory ran out
abbrev pub Refuses : {X : Type 0} → Refusal → Result X (List ℕ) → Type 0
Refuses Memory outcome = Unit {0}
Refuses (Fault text) outcome = outcome ≡ Err text

-- what a call returned, seen by view, is the outcome, unless memory ran out
abbrev pub Gives : {X Y : Type 0} → (X → Y) → Result X Refusal → Result Y (List ℕ) → Type 0
Gives view (Ok x) outcome = outcome ≡ Ok (view x)
Gives view (Err e) outcome = Refuses e outcome
