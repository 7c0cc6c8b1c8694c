-- What calls come to, by what the word that is called names.
use Rattle.std.proofs.Common.{◌≡◌, List, ◌∷◌, Option, Some, None, ap}
use Rattle.std.specs.Prelude.{Ok, Err}
use Rattle.std.specs.Str.{bytes_eq}
use Rattle.std.specs.Map.{lookup}
use Rattle.tcl_core.specs.Runs.{Ending}
use Rattle.tcl_core.specs.Paths.{Text, Path}
use Rattle.tcl_core.specs.Endings.{Reply}
use Rattle.tcl_core.specs.Trees.{Tree, Node}
use Rattle.tcl_language.specs.Faults.{bad_name, invalid_command, invalid_hidden}
use Rattle.tcl_run.specs.Language.{language}
use Rattle.tcl_language.specs.Naming.{command_name}
use Rattle.tcl_language.specs.Table.{called, invoked, dispatch, kept_name}
use Rattle.tcl_run.specs.Ends.{IsFailure, itself}
use Rattle.tcl_run.specs.Runs.{Proceeds, Ways}
use Rattle.tcl_run.proofs.Proceeding.{at_prog, at_reply, completed, looks}
use Rattle.tcl_text.specs.declared.integer.Integers.{Integers}
use Rattle.tcl_tree.specs.Own.{Own}
use Rattle.tcl_interpreter.specs.declared.command.Command.{Command}
use Rattle.tcl_calls.specs.Found.{found, hidden_found, or_missing, kept_as}

module _ {S : Type 0} {ways : Ways S} (style : Integers) where
  pub call_found : {T V : Tree Own} {o z : S} {p : Path} {n : Node Own} {r : Ending} (word : Text) (args : List Text) (c : Command) → T p ≡ Some n → found n word ≡ Ok c →
      Proceeds ways (language style) T o p (dispatch style word args invalid_command (Some c)) V z r → Proceeds ways (language style) T o p (called style (word ∷ args)) V z r
  call_found {T} {V} {o} {z} {p} {n} {r} word args c there e t = by (command_name word) e
    where
      at_found : (x : Option Command) → or_missing (invalid_command word) x ≡ Ok c → Proceeds ways (language style) T o p (dispatch style word args invalid_command x) V z r
      at_found None f = let clash : Err (invalid_command word) ≡ Ok c = f in cc
      at_found (Some d) f = let same : d ≡ c = cc in at_prog (ap (λ (x : Command). dispatch style word args invalid_command (Some x)) same) t

      by : (name : Option Text) → kept_as name word n.own.commands ≡ Ok c →
          Proceeds ways (language style) T o p (kept_name name word (λ plain. Rattle.tcl_language.specs.Instructions.look (λ m. dispatch style word args invalid_command (lookup (bytes_eq plain) m.own.commands)))) V z r
      by None f = let clash : Err (bad_name word) ≡ Ok c = f in cc
      by (Some plain) f = looks there (at_found (lookup (bytes_eq plain) n.own.commands) f)

  pub call_missing : {T : Tree Own} {o : S} {p : Path} {n : Node Own} (word : Text) (args : List Text) (e : Reply) → T p ≡ Some n → IsFailure itself (found n word) e →
      Proceeds ways (language style) T o p (called style (word ∷ args)) T o (Some e)
  call_missing {T} {o} {p} {n} word args e there f = by (command_name word) f
    where
      at_missing : (x : Option Command) → IsFailure itself (or_missing (invalid_command word) x) e → Proceeds ways (language style) T o p (dispatch style word args invalid_command x) T o (Some e)
      at_missing None g = at_reply g completed
      at_missing (Some d) g = elim g [ ]

      by : (name : Option Text) → IsFailure itself (kept_as name word n.own.commands) e →
          Proceeds ways (language style) T o p (kept_name name word (λ plain. Rattle.tcl_language.specs.Instructions.look (λ m. dispatch style word args invalid_command (lookup (bytes_eq plain) m.own.commands)))) T o (Some e)
      by None g = at_reply g completed
      by (Some plain) g = looks there (at_missing (lookup (bytes_eq plain) n.own.commands) g)

  pub invoke_found : {T V : Tree Own} {o z : S} {p : Path} {n : Node Own} {r : Ending} (word : Text) (args : List Text) (c : Command) → T p ≡ Some n → hidden_found n word ≡ Ok c →
      Proceeds ways (language style) T o p (dispatch style word args invalid_hidden (Some c)) V z r → Proceeds ways (language style) T o p (invoked style (word ∷ args)) V z r
  invoke_found {T} {V} {o} {z} {p} {n} {r} word args c there e t = looks there (by (lookup (bytes_eq word) n.own.hidden) e)
    where
      by : (x : Option Command) → or_missing (invalid_hidden word) x ≡ Ok c → Proceeds ways (language style) T o p (dispatch style word args invalid_hidden x) V z r
      by None f = let clash : Err (invalid_hidden word) ≡ Ok c = f in cc
      by (Some d) f = let same : d ≡ c = cc in at_prog (ap (λ (x : Command). dispatch style word args invalid_hidden (Some x)) same) t

  pub invoke_missing : {T : Tree Own} {o : S} {p : Path} {n : Node Own} (word : Text) (args : List Text) (e : Reply) → T p ≡ Some n → IsFailure itself (hidden_found n word) e →
      Proceeds ways (language style) T o p (invoked style (word ∷ args)) T o (Some e)
  invoke_missing {T} {o} {p} {n} word args e there f = looks there (by (lookup (bytes_eq word) n.own.hidden) f)
    where
      by : (x : Option Command) → IsFailure itself (or_missing (invalid_hidden word) x) e → Proceeds ways (language style) T o p (dispatch style word args invalid_hidden x) T o (Some e)
      by None g = at_reply g completed
      by (Some d) g = elim g [ ]
