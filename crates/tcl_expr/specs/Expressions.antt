-- The expression that a text is, and the fault of a text that is none.
use Rattle.std.specs.Prelude.{◌≡◌, ℕ, zero, suc, Bool, true, false, List, [], ◌∷◌, ◌++◌, length}
use Rattle.std.specs.Prelude.{Option, Some, None, Result, Ok, Err, ◌↔◌, ◌⊎◌}
use Rattle.tcl_text.specs.declared.integer.Integers.{Integers}
use Rattle.tcl_expr.specs.declared.token.Token.{Token}
use Rattle.tcl_expr.specs.declared.token.Token.TheVariants as token
use Rattle.tcl_expr.specs.declared.grammar.Misfit.{Misfit}
use Rattle.tcl_expr.specs.declared.grammar.Misfit.TheVariants as misfits
use Rattle.tcl_expr.specs.Trees.{Tree}
use Rattle.tcl_expr.specs.Grammar.{IsExpression, Begins}
use Rattle.tcl_expr.specs.Misfits.{IsMisfit}
use Rattle.tcl_expr.specs.Reading.{Step, wanting, run, finish}
use Rattle.tcl_expr.specs.declared.fault.ExprFault.{ExprFault}
use Rattle.tcl_expr.specs.declared.fault.ExprFault.TheVariants.{Syntax, TooDeep, TooLarge}
use Rattle.tcl_expr.specs.Tokens.{Lexed, ended, read, next_token}

-- ## The tokens of a text

-- the tokens that can be read, and what is at fault behind them, unless only white space is left
pub record Lexemes : Type 0 where
  pub tokens : List Token
  pub stop : Option ExprFault

abbrev pub led_by : Token → Lexemes → Lexemes
led_by t l = record { tokens = t ∷ l.tokens; stop = l.stop }

abbrev pub is_minus : Token → Bool
is_minus token.Minus = true
is_minus _ = false

abbrev pub and_on : Result Lexed ExprFault → (Bool → List ℕ → Lexemes) → Lexemes
and_on (Ok ended) go = record { tokens = []; stop = None }
and_on (Ok (read t rest)) go = led_by t (go (is_minus t) rest)
and_on (Err f) go = record { tokens = []; stop = Some f }

-- token after token; the number is at least how many there can be
unfoldable pub tokens_from : Integers → ℕ → Bool → List ℕ → Lexemes
tokens_from style zero minus s = record { tokens = []; stop = None }
tokens_from style (suc n) minus s = and_on (next_token style minus s) (tokens_from style n)

abbrev pub tokens_of : Integers → List ℕ → Lexemes
tokens_of style s = tokens_from style (suc (length s)) false s

-- ## Expressions and faults

-- parentheses, functions, operators before an operand and choices nest so deep at most
abbrev pub deepest : ℕ
deepest = 200

-- a text is an expression where its tokens are those of a tree, and nothing else is left
pub record IsExpr (style : Integers) (s : List ℕ) (t : Tree) : Type 0 where
  pub whole : (tokens_of style s).stop ≡ None
  pub spells : IsExpression deepest t (tokens_of style s).tokens

abbrev pub fault_of : Misfit → ExprFault
fault_of misfits.Syntax = Syntax
fault_of misfits.TooDeep = TooDeep
fault_of misfits.TooLarge = TooLarge

-- The first token with which the text begins no expression is at fault: one that can be read, and
-- doesn't fit; or one that can't be read, for its own fault. A text whose tokens all fit and that
-- ends before an expression does is a fault of syntax.
pub data HasFault (style : Integers) (s : List ℕ) (f : ExprFault) : Type 0 where
  misfit : (e : Misfit) (front behind : List Token) (t : Token) →
      (tokens_of style s).tokens ≡ front ++ t ∷ behind → IsMisfit deepest front t e →
      f ≡ fault_of e → HasFault style s f
  unreadable : Begins deepest (tokens_of style s).tokens → (tokens_of style s).stop ≡ Some f →
      HasFault style s f
  early : Begins deepest (tokens_of style s).tokens → (tokens_of style s).stop ≡ None →
      ((t : Tree) → IsExpression deepest t (tokens_of style s).tokens → Prim.⊥) → f ≡ Syntax →
      HasFault style s f

-- ## Reading from the left

abbrev pub told : Result Tree Misfit → Result Tree ExprFault
told (Ok t) = Ok t
told (Err e) = Err (fault_of e)

abbrev pub completed : Step → Option ExprFault → Result Tree ExprFault
completed (Err e) stop = Err (fault_of e)
completed (Ok q) None = told (finish q)
completed (Ok q) (Some f) = Err f

-- the tree of a text, or its fault
abbrev pub expression_of : Integers → List ℕ → Result Tree ExprFault
expression_of style s = completed (run deepest (wanting []) (tokens_of style s).tokens)
    (tokens_of style s).stop

-- The function says what the relations say; so each text has either a tree or a fault, and one
-- only.
abbrev pub GivesTree : Type 0
GivesTree = (style : Integers) (s : List ℕ) (t : Tree) →
    (expression_of style s ≡ Ok t) ↔ IsExpr style s t

abbrev pub GivesFault : Type 0
GivesFault = (style : Integers) (s : List ℕ) (f : ExprFault) →
    (expression_of style s ≡ Err f) ↔ HasFault style s f

-- a text that is an expression has one tree and no fault
pub record OneTree (style : Integers) (s : List ℕ) (t : Tree) : Type 0 where
  pub is : IsExpr style s t
  pub only : (u : Tree) → IsExpr style s u → u ≡ t
  pub no_fault : (f : ExprFault) → HasFault style s f → Prim.⊥

-- and another has one fault and no tree
pub record OneFault (style : Integers) (s : List ℕ) (f : ExprFault) : Type 0 where
  pub has : HasFault style s f
  pub only : (g : ExprFault) → HasFault style s g → g ≡ f
  pub no_tree : (t : Tree) → IsExpr style s t → Prim.⊥

abbrev pub Decided : Type 0
Decided = (style : Integers) (s : List ℕ) →
    ((t : Tree) × OneTree style s t) ⊎ ((f : ExprFault) × OneFault style s f)
