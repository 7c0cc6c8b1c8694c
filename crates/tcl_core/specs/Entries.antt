-- What interpreters can be asked for by others, and what the host can be asked for.
use Rattle.std.specs.Prelude.{ℕ, Bool, true, false, ◌||◌, List, Option, nat_eq}
use Rattle.tcl_core.specs.Paths.{Text, Path}
use Rattle.tcl_core.specs.Endings.{Completion, Reply}

-- what can be asked about an interpreter
pub data Question : Type 0 where
  Exists : Question
  IsSafe : Question
  Aliases : Question
  AliasOf : (name : Text) → Question
  Hidden : Question
  Slaves : Question
  CountLimitOf : Question
  DepthLimitOf : Question

-- A request of the host.
pub data Request : Type 0 where
  Open : (name mode : Text) → Request
  ReadLine : (channel : Text) → Request
  ReadAll : (channel : Text) → Request
  Write : (channel text : Text) → Request
  Flush : (channel : Text) → Request
  Close : (channel : Text) → Request
  AtEnd : (channel : Text) → Request

-- The host's answer: what was asked for (a line, or all that was left), or the number of a refusal.
pub data HostReply : Type 0 where
  Opened : (channel : Text) → HostReply
  Line : (bytes : List ℕ) → HostReply
  TheEnd : HostReply
  TheRest : (bytes : List ℕ) → HostReply
  Accepted : HostReply
  Is : (answer : Bool) → HostReply
  Fails : (number : ℕ) → HostReply

-- What refuses a request: that the device failed; of an opening, that the file couldn't be opened;
-- of all else, that no channel of that name is open for it.
abbrev pub refuses : Request → ℕ → Bool
refuses (Open n m) number = nat_eq number 262 || nat_eq number 267
refuses q number = nat_eq number 261 || nat_eq number 262

-- the request's own answers
abbrev pub answers : Request → HostReply → Bool
answers (Open n m) (Opened c) = true
answers (ReadLine c) (Line b) = true
answers (ReadLine c) TheEnd = true
answers (ReadAll c) (TheRest b) = true
answers (Write c t) Accepted = true
answers (Flush c) Accepted = true
answers (Close c) Accepted = true
answers (AtEnd c) (Is b) = true
answers q (Fails n) = refuses q n
answers q a = false

-- What an interpreter can be asked for by another one, or from outside. An alias of the asked one
-- leads so many levels up from it and these names down. A command called by an alias is entered as
-- its words.
pub data Entry : Type 0 where
  Eval : (text : Text) → Entry
  CallWords : (words : List Text) → Entry
  InvokeHidden : (is_global : Bool) (words : List Text) → Entry
  SetAlias : (name : Text) (up : ℕ) (down : Path) (words : List Text) → Entry
  ClearAlias : (name : Text) → Entry
  Hide : (name hidden : Text) → Entry
  Expose : (hidden name : Text) → Entry
  SetCountLimit : (limit : Option ℕ) → Entry
  SetDepthLimit : (limit : ℕ) → Entry
  Create : (name : Option Text) (safe : Bool) → Entry
  Delete : (name : Text) → Entry
  Ask : (question : Question) → Entry
  -- only the host is asked for this
  AskHost : (request : Request) → Entry

-- What comes back to a call. One that leaves the tree may find nobody who could be asked.
pub data Answer : Type 0 where
  Replied : (reply : Reply) → Answer
  Heard : (reply : HostReply) → Answer
  Nobody : Answer

-- What a program is told of it: what is no completion it is not told of. (Where nobody is there, it
-- goes on by a completion of its own: `or_lost`.)
pub data Said : Type 0 where
  Finished : (completion : Completion) → Said
  Told : (reply : HostReply) → Said
  Missed : Said
