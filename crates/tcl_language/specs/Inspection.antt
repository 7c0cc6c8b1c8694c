-- `info`, which tells of the interpreter that asks.
use Rattle.std.specs.Prelude.{ℕ, zero, suc, ℤ, pos, negsuc, Bool, false, List, [], ◌∷◌, Option}
use Rattle.std.specs.Prelude.{Some, None, codes, ◌-◌, nat_le, cond}
use Rattle.std.specs.Fmt.{decimal}
use Rattle.std.specs.Str.{bytes_eq}
use Rattle.tcl_core.specs.Paths.{Text}
use Rattle.tcl_core.specs.Endings.{ok}
use Rattle.tcl_core.specs.Trees.{Node}
use Rattle.tcl_core.specs.Programs.Prog.{done}
use Rattle.tcl_frames.specs.Chain.{exists_at, names_of, words_at, kept_if}
use Rattle.tcl_frames.specs.Places.{current}
use Rattle.tcl_frames.specs.declared.scope.Scope.{Scope}
use Rattle.tcl_frames.specs.declared.scope.Scope.TheVariants.{Visible, Global, Local}
use Rattle.tcl_glob.specs.Patterns.{is_match}
use Rattle.tcl_text.specs.declared.integer.Integers.{Integers}
use Rattle.tcl_text.specs.Writing.{written_list}
use Rattle.tcl_tree.specs.Own.{Own}
use Rattle.tcl_language.specs.Instructions.{Program, either, fails, gives, or_fails, look}
use Rattle.tcl_language.specs.Faults.{frame_message, wrong_args, bad_level}
use Rattle.tcl_language.specs.Procedures as procedures
use Rattle.tcl_language.specs.Variables.{integer}

-- the names that have the form of a pattern
abbrev pub matching : Text → List Text → List Text
matching pattern [] = []
matching pattern (name ∷ names) = kept_if (is_match false pattern name) name
    (matching pattern names)

-- `info vars|globals|locals ?pattern?`
abbrev pub names : Scope → Text → List Text → Program
names scope form [] = look (λ n. gives (written_list (names_of scope n.own.chain.frames)))
names scope form (pattern ∷ []) = look
    (λ n. gives (written_list (matching pattern (names_of scope n.own.chain.frames))))
names scope form _ = fails (wrong_args form)

-- `info cmdcount`
abbrev pub cmdcount : List Text → Program
cmdcount [] = look (λ n. done (ok (decimal n.count)))
cmdcount _ = fails (wrong_args (codes "info cmdcount"))

abbrev pub answer : Bool → Program
answer b = done (ok (either b (codes "1") (codes "0")))

-- `info exists varName`
abbrev pub exists : List Text → Program
exists (name ∷ []) = look (λ n. or_fails frame_message (exists_at n.own.chain.frames name) answer)
exists _ = fails (wrong_args (codes "info exists varName"))

-- the level of a number: one that is 0 or less is counted from the current level
abbrev pub numbered : ℕ → ℤ → Option ℕ
numbered top (pos zero) = Some top
numbered top (pos (suc n)) = Some (suc n)
numbered top (negsuc n) = cond (nat_le (suc n) top) (Some (top - suc n)) None

abbrev pub words_or : Text → Option (List Text) → Program
words_or text None = fails (bad_level text)
words_or text (Some words) = gives (written_list words)

-- level 0 has no words
abbrev pub words_of : Text → Option ℕ → Node Own → Program
words_of text None n = fails (bad_level text)
words_of text (Some zero) n = fails (bad_level text)
words_of text (Some (suc level)) n = words_or text (words_at n.own.chain.frames (suc level))

-- `info level ?number?`
abbrev pub level : Integers → List Text → Program
level style [] = look (λ n. done (ok (decimal (current n.own.chain.frames))))
level style (number ∷ []) = integer style number
    (λ z. look (λ n. words_of number (numbered (current n.own.chain.frames) z) n))
level style _ = fails (wrong_args (codes "info level ?number?"))

abbrev pub chosen : Integers → Text → List Text → Program
chosen style word args =
    either (bytes_eq word (codes "cmdcount")) (cmdcount args)
    (either (bytes_eq word (codes "exists")) (exists args)
    (either (bytes_eq word (codes "vars")) (names Visible (codes "info vars ?pattern?") args)
    (either (bytes_eq word (codes "globals")) (names Global (codes "info globals ?pattern?") args)
    (either (bytes_eq word (codes "locals")) (names Local (codes "info locals ?pattern?") args)
    (either (bytes_eq word (codes "level")) (level style args)
    (procedures.chosen word args))))))

-- `info subcommand ?arg ...?`
abbrev pub info : Integers → List Text → Program
info style [] = fails (wrong_args (codes "info subcommand ?arg ...?"))
info style (word ∷ args) = chosen style word args
