-- Words in which no two colons stand side by side.
use Rattle.std.proofs.Common.{◌==◌, ◌||◌, ◌≡◌, ℕ, Bool, true, false, if◌then◌else◌, [], ◌∷◌, Some, None, cond, refl, ap, ◌∙◌, ◌&&◌}
use Rattle.std.specs.Prelude.{Option, Ok}
use Rattle.tcl_core.specs.Paths.{Text}
use Rattle.tcl_core.specs.Trees.{Node}
use Rattle.tcl_interpreter.specs.Own.{command_in}
use Rattle.tcl_interpreter.specs.declared.command.Command.{Command}
use Rattle.tcl_language.specs.Faults.{invalid_command}
use Rattle.tcl_language.specs.Naming.{of_global, command_name}
use Rattle.tcl_tree.specs.Own.{Own}
use Rattle.tcl_frames.specs.Names.{has_colons, after_colons, after_colon, after_colon_in, colons_after}
use Rattle.tcl_calls.specs.Found.{found, kept_as, or_missing}

-- the second of two bytes, the first of which is a colon
second : (c : ℕ) (r : Text) → ((c == 58) || colons_after (c == 58) r) ≡ false → after_colon (c ∷ r) ≡ None
unfolding after_colon
second c r h = by (c == 58) h
  where
    by : (t : Bool) → (t || colons_after t r) ≡ false → (if t then Some r else None) ≡ None
    by true h = absurd (cc)
    by false h = refl

none_leading : (x : Text) → has_colons x ≡ false → after_colons x ≡ None
unfolding after_colons after_colon colons_after
none_leading [] h = refl
none_leading (b ∷ []) h = by (b == 58)
  where
    by : (t : Bool) → after_colon_in (if t then Some [] else None) ≡ None
    by true = refl
    by false = refl
none_leading (b ∷ c ∷ r) h = by (b == 58) h
  where
    by : (t : Bool) → ((t && (c == 58)) || colons_after (c == 58) r) ≡ false → after_colon_in (if t then Some (c ∷ r) else None) ≡ None
    by true h = second c r h
    by false h = refl

-- such a word is the name by which its command is kept
pub kept_whole : (x : Text) → has_colons x ≡ false → command_name x ≡ Some x
kept_whole x h = ap (of_global x) (none_leading x h) ∙ ap (λ b. cond b None (Some x)) h

-- and that command is found
pub found_kept : (n : Node Own) (word : Text) (command : Command) → has_colons word ≡ false → command_in n.own word ≡ Some command → found n word ≡ Ok command
found_kept n word command plain there = ap (λ (name : Option Text). kept_as name word n.own.commands) (kept_whole word plain) ∙ ap (or_missing (invalid_command word)) there
