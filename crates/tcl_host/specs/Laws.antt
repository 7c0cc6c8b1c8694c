-- What is true of the host in memory, in few words.
use Rattle.std.specs.Prelude.{◌≡◌, ◌≢◌, ◌↔◌, ℕ, ◌+◌, ◌<◌, true, false, List, [], ◌∷◌, ◌++◌, length}
use Rattle.std.specs.Prelude.{Option, None, Some, All}
use Rattle.tcl_host.specs.Files.{content_of}
use Rattle.tcl_host.specs.Hosts.{last_count}
use Rattle.tcl_host.specs.MemoryHost.{respond, failed}
use Rattle.tcl_host.specs.Stores.{serve, take_line, channel_name}
use Rattle.tcl_host.specs.declared.memory.MemoryHost.{MemoryHost}
use Rattle.tcl_host.specs.declared.memory.store.Store.{Store}
use Rattle.tcl_host.specs.declared.memory.taken.Taken.{Taken}
use Rattle.tcl_host.specs.declared.open_mode.OpenMode.TheVariants as Mode
use Rattle.tcl_host.specs.declared.reply.HostReply.TheVariants.{Rest, Refused}
use Rattle.tcl_host.specs.declared.reply.HostRefusal.TheVariants.{DeviceFault}
use Rattle.tcl_host.specs.declared.request.Request.{Request}
use Rattle.tcl_host.specs.declared.request.Request.TheVariants.{Open, ReadAll, Write, Close}

-- a device fault is answered exactly where one is planned for the call, and then it is counted and
-- nothing else is changed
abbrev pub FaultLaw : Type 0
FaultLaw = (host : MemoryHost) (request : Request)
    → (((respond host request).0 ≡ Refused DeviceFault) ↔ (host.fault_in ≡ 1))
    × (host.fault_in ≡ 1 → (respond host request).1 ≡ failed host)

-- what a read of a line takes of the bytes that are left
pub data ReadsLine : List ℕ → Taken (Option (List ℕ)) → Type 0 where
  -- nothing is left
  no_line : ReadsLine [] (record { answer = None; count = 0; ended = true })
  -- a line with its newline
  whole_line : (line after : List ℕ) → All (λ byte. byte ≢ 10) line
      → ReadsLine (line ++ 10 ∷ after)
      (record { answer = Some line; count = length line + 1; ended = false })
  -- a last line without a newline
  last_line : (line : List ℕ) → All (λ byte. byte ≢ 10) line → 0 < length line
      → ReadsLine line (record { answer = Some line; count = length line; ended = true })

-- there is one such way to read a line, and it is the one that is taken
abbrev pub LineLaw : Type 0
LineLaw = (rest : List ℕ) → ReadsLine rest (take_line rest) ×
    ((taken : Taken (Option (List ℕ))) → ReadsLine rest taken → taken ≡ take_line rest)

-- what a request leaves
abbrev pub after : Store → Request → Store
after store request = (serve store request).1

-- a file that is opened for writing, written and closed, and then opened for reading, holds what
-- was written
abbrev pub WritingLaw : Type 0
WritingLaw = (store : Store) (name text : List ℕ) → store.next + 1 < last_count →
    let first = channel_name store.next in
    let second = channel_name (store.next + 1) in
    let written = after (after (after store (Open name Mode.Write)) (Write first text))
    (Close first) in
    (serve (after written (Open name Mode.Read)) (ReadAll second)).0 ≡ Rest text

-- an opening to append leaves what a file holds, and what is written comes after it
abbrev pub AppendingLaw : Type 0
AppendingLaw = (store : Store) (name text : List ℕ) → store.next < last_count →
    let channel = channel_name store.next in
    content_of (after (after store (Open name Mode.Append)) (Write channel text)).files name
    ≡ content_of store.files name ++ text
