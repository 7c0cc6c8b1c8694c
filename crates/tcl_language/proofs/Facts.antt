-- What the commands need of demands so that these hold all through their programs.
use Rattle.std.specs.Prelude.{◌≡◌, ℕ, Bool, true, false, not, ◌&&◌, ◌||◌, [], ◌∷◌, Some, None, Ok, Err}
use Rattle.std.specs.Map.{lookup}
use Rattle.std.specs.Str.{bytes_eq}
use Rattle.tcl_core.specs.Entries.{Entry, Request}
use Rattle.tcl_core.specs.Entries.Entry.{AskHost, Expose, InvokeHidden, SetCountLimit, SetDepthLimit}
use Rattle.tcl_core.specs.Paths.{Path, Text}
use Rattle.tcl_core.specs.Tables.{exposes, sets_limit}
use Rattle.tcl_core.specs.Trees.{Node}
use Rattle.tcl_frames.specs.Chain.{Chain}
use Rattle.tcl_language.specs.Instructions.{with_chain}
use Rattle.tcl_language.specs.Naming.{Named, named, cleared, hidden_as, exposed_as, removed, renamed}
use Rattle.tcl_language.specs.Safety.{is_host}
use Rattle.tcl_language.proofs.Everywhere.{Demands}
use Rattle.tcl_tree.specs.Commands.{AliasView, ProcedureView}
use Rattle.tcl_tree.specs.Own.{Own, new_own, with_new_child, without_old_child}
use Rattle.tcl_interpreter.specs.declared.builtin.Builtin.{Builtin}
use Rattle.tcl_interpreter.specs.declared.command.Command.TheVariants as command

-- what every interpreter may ask of another one, and of itself
abbrev pub is_open : Entry → Bool
is_open entry = not (exposes entry) && not (sets_limit entry)

module _ (P : Demands) where
  -- the own part that a naming gives, if it gives one, is as wanted
  abbrev pub Names : Named → Type 0
  Names (Ok own) = P.own own
  Names (Err refusal) = Unit {0}

  -- what is wanted so that an interpreter does what it is asked for
  abbrev pub Served : Entry → Type 0
  Served (InvokeHidden is_global words) = P.hidden
  Served (Expose hidden name) = (own : Own) → P.own own → Names (exposed_as own hidden name)
  Served (SetCountLimit limit) = P.steps
  Served (SetDepthLimit limit) = P.depth
  Served _ = Unit {0}

  abbrev pub AsksHost : Type 0
  AsksHost = (request : Request) → P.calls None [] (AskHost request)

  -- what only a trusted interpreter asks for
  pub record Trusted : Type 0 where
    pub hidden : (entry : Entry) → exposes entry ≡ true → P.serves entry
    pub depth : (limit : ℕ) → P.serves (SetDepthLimit limit)
    pub below : (name : Text) (path : Path) (entry : Entry) → P.calls (Some 0) (name ∷ path) entry

  -- Own parts stay as wanted.
  pub record OwnFacts : Type 0 where
    pub chain : (own : Own) (chain : Chain) → P.own own → P.own (with_chain own chain)
    pub child : (x : Text) (own : Own) → P.own own → P.own (with_new_child x own)
    pub dropped : (x : Text) (own : Own) → P.own own → P.own (without_old_child x own)
    pub procedure : (own : Own) (x : Text) (p : ProcedureView) → P.own own → Names (named own x (command.Procedure p))
    pub alias : (own : Own) (x : Text) (a : AliasView) → P.own own → Names (named own x (command.Alias a))
    pub cleared : (own : Own) (x : Text) → P.own own → Names (cleared own x)
    pub hiding : (own : Own) (x h : Text) → P.own own → Names (hidden_as own x h)
    pub removed : (own : Own) (x : Text) → P.own own → Names (removed own x)
    pub renamed : (own : Own) (x y : Text) → P.own own → Names (renamed own x y)

  pub record Facts : Type 0 where
    -- the own part of the interpreter, and of a child that it makes
    pub owns : OwnFacts
    pub own : (n : Node Own) → P.stands n → P.own n.own
    pub made : (n : Node Own) (safe : Bool) → P.stands n → P.own (new_own (safe || n.safe))
    -- what is asked for, and that what is asked of the interpreter itself may be done
    pub serves : (entry : Entry) → is_open entry ≡ true → P.serves entry
    pub calls : (up : ℕ) (down : Path) (entry : Entry) → is_open entry ≡ true → P.calls (Some up) down entry
    pub trusted : (n : Node Own) → P.stands n → n.safe ≡ false → Trusted
    pub served : (entry : Entry) → P.serves entry → Served entry
    -- a command that reaches the host, and a hidden one
    pub host : (own : Own) (x : Text) (b : Builtin) → P.own own → lookup (bytes_eq x) own.commands ≡ Some (command.Builtin b) → is_host b ≡ true → AsksHost
    pub hidden : P.hidden → AsksHost

  pub any_named : ((own : Own) → P.own own) → (r : Named) → Names r
  any_named f (Ok own) = f own
  any_named f (Err refusal) = tt

  -- Where each own part is as wanted, they stay so.
  pub any_own : ((own : Own) → P.own own) → OwnFacts
  any_own f = record {
    chain = λ own chain p. f _;
    child = λ x own p. f _;
    dropped = λ x own p. f _;
    procedure = λ own x p q. any_named f (named own x (command.Procedure p));
    alias = λ own x a q. any_named f (named own x (command.Alias a));
    cleared = λ own x q. any_named f (cleared own x);
    hiding = λ own x h q. any_named f (hidden_as own x h);
    removed = λ own x q. any_named f (removed own x);
    renamed = λ own x y q. any_named f (renamed own x y);
  }
