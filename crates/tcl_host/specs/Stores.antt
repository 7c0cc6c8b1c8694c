-- Files, channels and standard streams in memory: what each request does to them, and what is
-- replied.
use Rattle.std.specs.Prelude.{ℕ, ◌+◌, Bool, true, false, ◌&&◌, ◌==◌, nat_lt, List, [], ◌∷◌, ◌++◌}
use Rattle.std.specs.Prelude.{length, take, drop, Option, None, Some, Result, Ok, Err, codes}
use Rattle.std.specs.Prelude.{if◌then◌else◌}
use Rattle.std.specs.Fmt.{decimal}
use Rattle.std.specs.FinMap.{empty, get, insert, remove, contains_key}
use Rattle.std.specs.List.{position_or_len}
use Rattle.tcl_host.specs.Channels.{advanced}
use Rattle.tcl_host.specs.Files.{content_of, appended, made}
use Rattle.tcl_host.specs.Hosts.{line_reply, last_count}
use Rattle.tcl_host.specs.Names.{Named}
use Rattle.tcl_host.specs.declared.memory.channel.Channel.{Channel}
use Rattle.tcl_host.specs.declared.memory.channel.Stream.{Stream}
use Rattle.tcl_host.specs.declared.memory.channel.Stream.TheVariants.{Input, ReadFile, Output}
use Rattle.tcl_host.specs.declared.memory.channel.Stream.TheVariants.{Errors, WriteFile}
use Rattle.tcl_host.specs.declared.memory.store.Store.{Store}
use Rattle.tcl_host.specs.declared.memory.taken.Taken.{Taken}
use Rattle.tcl_host.specs.declared.open_mode.OpenMode.{OpenMode}
use Rattle.tcl_host.specs.declared.open_mode.OpenMode.TheVariants.{Read, Write, Append}
use Rattle.tcl_host.specs.declared.reply.HostReply.{HostReply}
use Rattle.tcl_host.specs.declared.reply.HostReply.TheVariants.{Opened, Rest, Done, AtEnd, Refused}
use Rattle.tcl_host.specs.declared.reply.HostRefusal.{HostRefusal}
use Rattle.tcl_host.specs.declared.reply.HostRefusal.TheVariants.{NoChannel, NotOpened}
use Rattle.tcl_host.specs.declared.request.Request.{Request}
use Rattle.tcl_host.specs.declared.request.Request.TheVariants as Asked

-- THE BEGINNING

-- a channel of which nothing was read
abbrev pub new_channel : Stream → Channel
new_channel stream = record { stream = stream; place = 0; ended = false }

-- the channels that are open at first
abbrev pub standard_channels : Named Channel
standard_channels =
    insert (insert (insert empty (codes "stdin") (new_channel Input)) (codes "stdout")
    (new_channel Output)) (codes "stderr") (new_channel Errors)

-- no files, nothing put or written
abbrev pub new_store : Store
new_store = record {
  files = empty;
  channels = standard_channels;
  input = [];
  output = [];
  errors = [];
  next = 3;
}

-- OPENING

-- the name of a channel to a file
abbrev pub channel_name : ℕ → List ℕ
channel_name n = codes "file" ++ decimal n

-- the next channel leads to the stream
abbrev pub with_channel : Store → Stream → Store
with_channel store stream = record store {
  channels = insert store.channels (channel_name store.next) (new_channel stream);
  next = store.next + 1;
}

-- a file is read only where it is there
abbrev pub can_open : OpenMode → Named (List ℕ) → List ℕ → Bool
can_open Read files name = contains_key files name
can_open Write files name = true
can_open Append files name = true

-- to write is to begin anew, and to append to make what is missing
abbrev pub files_opened : OpenMode → Named (List ℕ) → List ℕ → Named (List ℕ)
files_opened Read files name = files
files_opened Write files name = insert files name []
files_opened Append files name = made files name

abbrev pub stream_opened : OpenMode → List ℕ → Stream
stream_opened Read name = ReadFile name
stream_opened Write name = WriteFile name
stream_opened Append name = WriteFile name

-- what an opening leaves
abbrev pub opened : OpenMode → Store → List ℕ → Store
opened mode store name = with_channel (record store { files = files_opened mode store.files name })
    (stream_opened mode name)

-- the last number isn't given to a channel
abbrev pub open_file : Store → List ℕ → OpenMode → HostReply × Store
open_file store name mode =
    if can_open mode store.files name && nat_lt store.next last_count
    then (Opened (channel_name store.next), opened mode store name)
    else (Refused NotOpened, store)

-- READING

abbrev pub is_newline : ℕ → Bool
is_newline byte = byte == 10

-- what one read of a line takes, of which so many bytes stand before the first newline
abbrev pub take_line_of : ℕ → List ℕ → Taken (Option (List ℕ))
take_line_of n rest =
    if nat_lt n (length rest)
    then record { answer = Some (take n rest); count = n + 1; ended = false }
    else record { answer = Some rest; count = length rest; ended = true }

-- what one read of a line takes: the bytes up to a newline, or all that are left, and then it met
-- the end
abbrev pub take_line : List ℕ → Taken (Option (List ℕ))
take_line [] = record { answer = None; count = 0; ended = true }
take_line (byte ∷ bytes) = take_line_of (position_or_len is_newline (byte ∷ bytes)) (byte ∷ bytes)

-- a read of all takes all, and met the end
abbrev pub take_all : List ℕ → Taken (List ℕ)
take_all rest = record { answer = rest; count = length rest; ended = true }

-- what can be read from a stream, where it is one for reading
abbrev pub content : Store → Stream → Option (List ℕ)
content store Input = Some store.input
content store (ReadFile name) = Some (content_of store.files name)
content store Output = None
content store Errors = None
content store (WriteFile name) = None

-- what is left to be read on a channel that is open for reading
abbrev pub rest_from : Channel → Option (List ℕ) → Option (List ℕ)
rest_from channel None = None
rest_from channel (Some bytes) = Some (drop channel.place bytes)

abbrev pub rest_on : Store → Option Channel → Option (List ℕ)
rest_on store None = None
rest_on store (Some channel) = rest_from channel (content store channel.stream)

abbrev pub rest_of : Store → List ℕ → Option (List ℕ)
rest_of store name = rest_on store (get store.channels name)

-- a channel is moved on
abbrev pub moved_on : Store → List ℕ → ℕ → Bool → Option Channel → Store
moved_on store name count ended None = store
moved_on store name count ended (Some channel) = record store
    { channels = insert store.channels name (advanced channel count ended) }

abbrev pub moved : Store → List ℕ → ℕ → Bool → Store
moved store name count ended = moved_on store name count ended (get store.channels name)

abbrev pub read_from : {A : Type 0} → (List ℕ → Taken A) → (A → HostReply) → Store → List ℕ →
    Option (List ℕ) → HostReply × Store
read_from how reply store name None = (Refused NoChannel, store)
read_from how reply store name (Some rest) =
    (reply (how rest).answer, moved store name (how rest).count (how rest).ended)

-- a read answers what it takes, and moves its channel on by as much
abbrev pub read : {A : Type 0} → (List ℕ → Taken A) → (A → HostReply) → Store → List ℕ → HostReply ×
    Store
read how reply store name = read_from how reply store name (rest_of store name)

-- whether the last read met the end, where the channel is open for reading
abbrev pub eof_at : Bool → Stream → HostReply
eof_at ended Input = AtEnd ended
eof_at ended (ReadFile name) = AtEnd ended
eof_at ended Output = Refused NoChannel
eof_at ended Errors = Refused NoChannel
eof_at ended (WriteFile name) = Refused NoChannel

abbrev pub eof_on : Option Channel → HostReply
eof_on None = Refused NoChannel
eof_on (Some channel) = eof_at channel.ended channel.stream

-- WRITING

-- what is written goes to the end
abbrev pub write_to : Store → List ℕ → Stream → HostReply × Store
write_to store text Input = (Refused NoChannel, store)
write_to store text (ReadFile name) = (Refused NoChannel, store)
write_to store text Output = (Done, record store { output = store.output ++ text })
write_to store text Errors = (Done, record store { errors = store.errors ++ text })
write_to store text (WriteFile name) =
    (Done, record store { files = appended store.files name text })

abbrev pub write_on : Store → List ℕ → Option Channel → HostReply × Store
write_on store text None = (Refused NoChannel, store)
write_on store text (Some channel) = write_to store text channel.stream

abbrev pub flush_to : Stream → HostReply
flush_to Input = Refused NoChannel
flush_to (ReadFile name) = Refused NoChannel
flush_to Output = Done
flush_to Errors = Done
flush_to (WriteFile name) = Done

abbrev pub flush_on : Option Channel → HostReply
flush_on None = Refused NoChannel
flush_on (Some channel) = flush_to channel.stream

-- CLOSING

abbrev pub close : Store → List ℕ → HostReply × Store
close store name =
    if contains_key store.channels name
    then (Done, record store { channels = remove store.channels name })
    else (Refused NoChannel, store)

-- EACH REQUEST

-- what a request does, and what is replied
abbrev pub serve : Store → Request → HostReply × Store
serve store (Asked.Open name mode) = open_file store name mode
serve store (Asked.ReadLine name) = read take_line line_reply store name
serve store (Asked.ReadAll name) = read take_all Rest store name
serve store (Asked.Write name text) = write_on store text (get store.channels name)
serve store (Asked.Flush name) = (flush_on (get store.channels name), store)
serve store (Asked.Close name) = close store name
serve store (Asked.Eof name) = (eof_on (get store.channels name), store)

-- the reply that an answer stands for
abbrev pub reply_by : {A : Type 0} → (A → HostReply) → Result A HostRefusal → HostReply
reply_by reply (Ok answer) = reply answer
reply_by reply (Err why) = Refused why
