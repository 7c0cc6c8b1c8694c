-- What the bytes of a script are: of a file by an open, a read and a close of the host, of the
-- standard input by a read.
use Rattle.std.specs.Prelude.{◌≡◌, ◌⊎◌, ℕ, List, Result, Ok, Err, codes}
use Rattle.std.specs.Bool.{MatchBool}
use Rattle.std.specs.Str.{bytes_eq}
use Rattle.tcl_host.specs.declared.open_mode.OpenMode.TheVariants.{Read}
use Rattle.tcl_host.specs.declared.reply.HostError.{HostError}
use Rattle.tcl_host.specs.declared.reply.HostError.TheVariants as error
use Rattle.tcl_host.specs.declared.reply.HostReply.{HostReply}
use Rattle.tcl_host.specs.declared.reply.HostReply.TheVariants.{Opened, Rest, Done, Refused}
use Rattle.tcl_host.specs.declared.reply.HostRefusal.{HostRefusal}
use Rattle.tcl_host.specs.declared.request.Request.{Request}
use Rattle.tcl_host.specs.declared.request.Request.TheVariants.{Open, ReadAll, Close}
use Rattle.tcl_shell.specs.declared.ending.Ending.{Ending}
use Rattle.tcl_shell.specs.declared.ending.Ending.TheVariants.{Unreadable, OutOfMemory}

-- how a host goes from one state to the next by a request and its reply
abbrev pub Serving : Type 0 → Type 1
Serving S = S → Request → HostReply → S → Type 0

abbrev pub unread_by : HostError → Ending
unread_by error.Memory = OutOfMemory
unread_by (error.Refused why) = Unreadable

-- what a read of all gave
abbrev pub GivesBytes : Result (List ℕ) HostError → Result (List ℕ) Ending → Type 0
GivesBytes (Ok bytes) result = result ≡ Ok bytes
GivesBytes (Err e) result = result ≡ Err (unread_by e)

-- The host refuses a request.
abbrev pub Refuses : {S : Type 0} → Serving S → S → Request → S → Type 0
Refuses step old request new = (why : HostRefusal) × step old request (Refused why) new

-- It is asked, and replies; or it wants memory, and is as it was.
abbrev pub Asks : {S : Type 0} → Serving S → S → Request → S → Type 0
Asks step old request new = ((reply : HostReply) × step old request reply new) ⊎ (new ≡ old)

-- All of the standard input is read, or the host refuses that, or it wants memory and is as it was.
abbrev pub ReadsInput : {S : Type 0} → Serving S → S → Result (List ℕ) Ending → S → Type 0
ReadsInput step old (Ok bytes) new = step old (ReadAll (codes "stdin")) (Rest bytes) new
ReadsInput step old (Err OutOfMemory) new = new ≡ old
ReadsInput step old (Err Unreadable) new = Refuses step old (ReadAll (codes "stdin")) new
ReadsInput step old (Err _) new = Prim.⊥

-- The file was opened, and this was the channel.
abbrev pub OpensSo : {S : Type 0} → Serving S → List ℕ → S → List ℕ → S → Type 0
OpensSo step file old channel new = step old (Open file Read) (Opened channel) new

-- The file is opened, read and closed; or the host refuses one of these, or wants memory for one,
-- and what was opened is closed nevertheless. It is asked for nothing else.
abbrev pub ReadsFile : {S : Type 0} → Serving S → List ℕ → S → Result (List ℕ) Ending → S → Type 0
ReadsFile {S} step file old (Ok bytes) new =
    (channel : List ℕ) × (opened : S) × (read : S) × OpensSo step file old channel opened ×
    step opened (ReadAll channel) (Rest bytes) read × step read (Close channel) Done new
ReadsFile {S} step file old (Err OutOfMemory) new =
    (new ≡ old)
    ⊎ ((channel : List ℕ) × (opened : S) × (read : S) × OpensSo step file old channel opened
    × (((read ≡ opened) × step read (Close channel) Done new) ⊎
    (Asks step opened (ReadAll channel) read × (new ≡ read))))
ReadsFile {S} step file old (Err Unreadable) new =
    Refuses step old (Open file Read) new
    ⊎ ((channel : List ℕ) × (opened : S) × (read : S) × OpensSo step file old channel opened
    × ((Refuses step opened (ReadAll channel) read × step read (Close channel) Done new) ⊎
    (Asks step opened (ReadAll channel) read × Refuses step read (Close channel) new)))
ReadsFile step file old (Err _) new = Prim.⊥

-- `-` stands for the standard input
abbrev pub ReadsScript : {S : Type 0} → Serving S → List ℕ → S → Result (List ℕ) Ending → S → Type 0
ReadsScript step file old result new = MatchBool (bytes_eq file (codes "-"))
    (ReadsInput step old result new) (ReadsFile step file old result new)
