-- The words for the modes in which a file is opened.
use Rattle.std.specs.Prelude.{ℕ, List, ◌++◌, Result, Ok, Err, codes, if◌then◌else◌}
use Rattle.std.specs.Str.{bytes_eq}
use Rattle.tcl_host.specs.declared.open_mode.BadMode.{BadMode}
use Rattle.tcl_host.specs.declared.open_mode.OpenMode.{OpenMode}
use Rattle.tcl_host.specs.declared.open_mode.OpenMode.TheVariants.{Read, Write, Append}

-- `r`, `w` or `a`
abbrev pub mode_of : List ℕ → Result OpenMode BadMode
mode_of word =
    if bytes_eq word (codes "r") then Ok Read
    else (if bytes_eq word (codes "w") then Ok Write
    else (if bytes_eq word (codes "a") then Ok Append
    else Err (record {})))

-- the text of the refusal of a word
abbrev pub bad_mode_text : List ℕ → List ℕ
bad_mode_text word = codes "bad mode \"" ++ word ++ codes "\""
