-- Reading a text token after token.
use Rattle.std.proofs.Common.{◌≡◌, ◌∙◌, sym, ap, subst, refl, ℕ, zero, suc, ◌-◌, ◌≤◌, ◌<◌, Bool, false, List, [], ◌∷◌, length, Some, None, Result, Ok, Err, arith}
use Rattle.tcl_text.specs.declared.integer.Integers.{Integers}
use Rattle.tcl_expr.specs.declared.token.Token.{Token}
use Rattle.tcl_expr.specs.Trees.{Tree}
use Rattle.tcl_expr.specs.Reading.{State, Step, wanting, step, run, finish, and_then}
use Rattle.tcl_expr.specs.declared.fault.ExprFault.{ExprFault}
use Rattle.tcl_expr.specs.declared.fault.ExprError.{ExprError}
use Rattle.tcl_expr.specs.declared.fault.ExprError.TheVariants as error
use Rattle.tcl_expr.specs.Faults.{Refuses}
use Rattle.tcl_expr.specs.Tokens.{Lexed, ended, read, next_token}
use Rattle.tcl_expr.specs.Expressions.{Lexemes, and_on, tokens_from, is_minus, fault_of, told, completed, expression_of}
use Rattle.tcl_expr.specs.declared.tree.Node.{Node}
use Rattle.tcl_expr.specs.declared.parser.Pending.{Pending}
use Rattle.tcl_expr.specs.declared.parser.Mode.{Mode}
use Rattle.tcl_expr.specs.declared.parser.Mode.TheVariants as mode
use Rattle.tcl_expr.specs.Parsing.{Keeps, Holds, Stands, Comes}

-- what the tokens of a text, so many at most, make of a state
abbrev pub read_from : State → Lexemes → Result Tree ExprFault
read_from q l = completed (run 200 q l.tokens) l.stop

abbrev pub read_on : Integers → ℕ → Bool → List ℕ → State → Result Tree ExprFault
read_on style n minus s q = read_from q (tokens_from style n minus s)

-- what is kept so far, read on, comes to the whole
abbrev pub ReadsOn : Integers → ℕ → Bool → List ℕ → List Node → List Pending → ℕ → Mode → Result Tree ExprFault → Type 0
ReadsOn style n minus s nodes p d m whole = (q : State) × Stands nodes p d m q × (read_on style n minus s q ≡ whole)

run_nil : (q : State) → run 200 q [] ≡ Ok q
unfolding run
run_nil q = refl

run_cons : (q : State) (t : Token) (s : List Token) → run 200 q (t ∷ s) ≡ and_then (step 200 q t) (λ q'. run 200 q' s)
unfolding run
run_cons q t s = refl

tokens_zero : (style : Integers) (minus : Bool) (s : List ℕ) → tokens_from style zero minus s ≡ record { tokens = []; stop = None }
unfolding tokens_from
tokens_zero style minus s = refl

tokens_suc : (style : Integers) (n : ℕ) (minus : Bool) (s : List ℕ) (r : Result Lexed ExprFault) → next_token style minus s ≡ r → tokens_from style (suc n) minus s ≡ and_on r (tokens_from style n)
unfolding tokens_from
tokens_suc style n minus s r e = ap (λ x. and_on x (tokens_from style n)) e

over : (q : State) → read_from q (record { tokens = []; stop = None }) ≡ told (finish q)
over q = ap (λ x. completed x None) (run_nil q)

pub starts : (style : Integers) (n : ℕ) (s : List ℕ) (nodes : List Node) (p : List Pending) (d : ℕ) → n ≡ suc (length s) → Holds nodes p d [] [] → ReadsOn style n false s nodes p d mode.Wanting (expression_of style s)
starts style n s nodes p d e h = (wanting [], h, ap (λ m. read_on style m false s (wanting [])) e)

-- no token is left
abbrev pub Ends : List Node → List Pending → ℕ → Mode → Result Tree ExprFault → Type 0
Ends nodes p d m whole = (q : State) × Stands nodes p d m q × (told (finish q) ≡ whole)

pub spent : (style : Integers) (n : ℕ) (minus : Bool) (s : List ℕ) (nodes : List Node) (p : List Pending) (d : ℕ) (m : Mode) (whole : Result Tree ExprFault) → n ≡ 0 → ReadsOn style n minus s nodes p d m whole → Ends nodes p d m whole
spent style zero minus s nodes p d m whole z (q, st, e) = (q, st, sym (over q) ∙ ap (read_from q) (sym (tokens_zero style minus s)) ∙ e)
spent style (suc n) minus s nodes p d m whole z h = absurd (omega arith)

pub at_end : (style : Integers) (n : ℕ) (minus : Bool) (s : List ℕ) (nodes : List Node) (p : List Pending) (d : ℕ) (m : Mode) (whole : Result Tree ExprFault) → ReadsOn style (suc n) minus s nodes p d m whole → next_token style minus s ≡ Ok ended → Ends nodes p d m whole
at_end style n minus s nodes p d m whole (q, st, e) is = (q, st, sym (over q) ∙ ap (read_from q) (sym (tokens_suc style n minus s (Ok ended) is)) ∙ e)

-- what can't be read is at fault
faulty : (q : State) (f : ExprFault) → read_from q (record { tokens = []; stop = Some f }) ≡ Err f
faulty q f = ap (λ x. completed x (Some f)) (run_nil q)

pub at_fault : (style : Integers) (n : ℕ) (minus : Bool) (s : List ℕ) (nodes : List Node) (p : List Pending) (d : ℕ) (m : Mode) (whole : Result Tree ExprFault) (f : ExprFault) → ReadsOn style (suc n) minus s nodes p d m whole → next_token style minus s ≡ Err f → whole ≡ Err f
at_fault style n minus s nodes p d m whole f (q, st, e) is = sym e ∙ ap (read_from q) (tokens_suc style n minus s (Err f) is) ∙ faulty q f

pub at_error : (style : Integers) (n : ℕ) (minus : Bool) (s : List ℕ) (nodes : List Node) (p : List Pending) (d : ℕ) (m : Mode) (whole : Result Tree ExprFault) (e : ExprError) → ReadsOn style (suc n) minus s nodes p d m whole → Refuses e (next_token style minus s) → Keeps (Err e) whole
at_error style n minus s nodes p d m whole error.Memory h is = tt
at_error style n minus s nodes p d m whole (error.Fault f) h is = at_fault style n minus s nodes p d m whole f h is

-- a token comes
stepped : Step → Lexemes → Result Tree ExprFault
stepped (Ok q) l = read_from q l
stepped (Err e) l = Err (fault_of e)

by_step : (r : Step) (l : Lexemes) → completed (and_then r (λ q. run 200 q l.tokens)) l.stop ≡ stepped r l
unfolding stepped
by_step (Ok q) l = refl
by_step (Err e) l = refl

on_token : (q : State) (t : Token) (l : Lexemes) → read_from q (record { tokens = t ∷ l.tokens; stop = l.stop }) ≡ stepped (step 200 q t) l
on_token q t l = ap (λ x. completed x l.stop) (run_cons q t l.tokens) ∙ by_step (step 200 q t) l

whole_is : (style : Integers) (n : ℕ) (minus : Bool) (s rest : List ℕ) (t : Token) (q : State) → next_token style minus s ≡ Ok (read t rest) → read_on style (suc n) minus s q ≡ stepped (step 200 q t) (tokens_from style n (is_minus t) rest)
whole_is style n minus s rest t q is = ap (read_from q) (tokens_suc style n minus s (Ok (read t rest)) is) ∙ on_token q t (tokens_from style n (is_minus t) rest)

misfits : (nodes : List Node) (p : List Pending) (d : ℕ) (e : ExprError) (r : Step) (l : Lexemes) → Comes nodes p d (Err e) r → Keeps (Err e) (stepped r l)
unfolding stepped
misfits nodes p d error.Memory r l h = tt
misfits nodes p d (error.Fault f) (Err e) l h = ap Err (sym h)
misfits nodes p d (error.Fault f) (Ok q) l h = absurd h

-- one that doesn't fit is at fault
pub at_misfit : (style : Integers) (n : ℕ) (minus : Bool) (s rest : List ℕ) (t : Token) (nodes nodes' : List Node) (p p' : List Pending) (d d' : ℕ) (m : Mode) (whole : Result Tree ExprFault) (e : ExprError) → ReadsOn style (suc n) minus s nodes p d m whole → next_token style minus s ≡ Ok (read t rest) →
    ((q : State) → Stands nodes p d m q → Comes nodes' p' d' (Err e) (step 200 q t)) → Keeps (Err e) whole
at_misfit style n minus s rest t nodes nodes' p p' d d' m whole e (q, st, same) is steps = subst (Keeps (Err e)) (sym (whole_is style n minus s rest t q is) ∙ same) (misfits nodes' p' d' e (step 200 q t) (tokens_from style n (is_minus t) rest) (steps q st))

fits : (nodes : List Node) (p : List Pending) (d : ℕ) (m : Mode) (r : Step) (l : Lexemes) (whole : Result Tree ExprFault) → Comes nodes p d (Ok m) r → stepped r l ≡ whole → (q : State) × Stands nodes p d m q × (read_from q l ≡ whole)
unfolding stepped
fits nodes p d m (Ok q) l whole h e = (q, h, e)
fits nodes p d m (Err x) l whole h e = absurd h

-- and after one that fits the rest is read
pub at_token : (style : Integers) (n : ℕ) (minus : Bool) (s rest : List ℕ) (t : Token) (nodes nodes' : List Node) (p p' : List Pending) (d d' : ℕ) (m m' : Mode) (whole : Result Tree ExprFault) → ReadsOn style (suc n) minus s nodes p d m whole → next_token style minus s ≡ Ok (read t rest) →
    ((q : State) → Stands nodes p d m q → Comes nodes' p' d' (Ok m') (step 200 q t)) → ReadsOn style n (is_minus t) rest nodes' p' d' m' whole
at_token style n minus s rest t nodes nodes' p p' d d' m m' whole (q, st, same) is steps = fits nodes' p' d' m' (step 200 q t) (tokens_from style n (is_minus t) rest) whole (steps q st) (sym (whole_is style n minus s rest t q is) ∙ same)

-- ## As the code goes about it

pub some_left : (left : ℕ) → 0 < left → left ≡ suc (left - 1)
some_left left h = omega arith

pub none_left : (left : ℕ) → left ≤ 0 → left ≡ 0
none_left left h = omega arith

pub counted : (style : Integers) (left : ℕ) (minus : Bool) (s : List ℕ) (nodes : List Node) (p : List Pending) (d : ℕ) (m : Mode) (whole : Result Tree ExprFault) → 0 < left → ReadsOn style left minus s nodes p d m whole → ReadsOn style (suc (left - 1)) minus s nodes p d m whole
counted style left minus s nodes p d m whole h r = subst (λ n. ReadsOn style n minus s nodes p d m whole) (some_left left h) r

pub marked : (style : Integers) (n : ℕ) (t : Token) (minus : Bool) (s : List ℕ) (nodes : List Node) (p : List Pending) (d : ℕ) (m : Mode) (whole : Result Tree ExprFault) → minus ≡ is_minus t → ReadsOn style n (is_minus t) s nodes p d m whole → ReadsOn style n minus s nodes p d m whole
marked style n t minus s nodes p d m whole e r = subst (λ b. ReadsOn style n b s nodes p d m whole) (sym e) r
