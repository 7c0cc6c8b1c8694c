-- The host in memory keeps the laws of a host.
use Rattle.std.specs.Prelude.{◌≡◌, ℕ, ◌<◌, ◌≤◌, ◌+◌, ◌⊎◌, ◌≢◌, ◌==◌, ◌&&◌, nat_lt, Bool, true}
use Rattle.std.specs.Prelude.{false, IsTrue, List, Option, None, Some, if◌then◌else◌, refl}
use Rattle.std.proofs.Common.{subst, arith, inl, inr}
use Rattle.std.proofs.lemmas.Bool.{ltb-false}
use Rattle.std.specs.FinMap.{get, remove, contains_key}
use Rattle.tcl_host.specs.Hosts.{IsLawful, last_count, line_reply}
use Rattle.tcl_host.specs.MemoryHost.{respond, failed, replied}
use Rattle.tcl_host.specs.Replies.{is_reply_to}
use Rattle.tcl_host.specs.Stores.{serve, can_open, channel_name, opened, rest_of, take_line}
use Rattle.tcl_host.specs.Stores.{take_all, read_from, write_on, write_to, flush_on, flush_to}
use Rattle.tcl_host.specs.Stores.{eof_on, eof_at}
use Rattle.tcl_host.specs.declared.memory.MemoryHost.{MemoryHost}
use Rattle.tcl_host.specs.declared.memory.channel.Channel.{Channel}
use Rattle.tcl_host.specs.declared.memory.channel.Stream.{Stream}
use Rattle.tcl_host.specs.declared.memory.channel.Stream.TheVariants.{Input, ReadFile, Output}
use Rattle.tcl_host.specs.declared.memory.channel.Stream.TheVariants.{Errors, WriteFile}
use Rattle.tcl_host.specs.declared.memory.store.Store.{Store}
use Rattle.tcl_host.specs.declared.reply.HostReply.{HostReply}
use Rattle.tcl_host.specs.declared.reply.HostReply.TheVariants.{Opened, Rest, Done, Refused}
use Rattle.tcl_host.specs.declared.reply.HostRefusal.TheVariants.{NoChannel, DeviceFault, NotOpened}
use Rattle.tcl_host.specs.declared.request.Request.{Request}
use Rattle.tcl_host.specs.declared.request.Request.TheVariants.{Open, ReadLine, ReadAll, Write}
use Rattle.tcl_host.specs.declared.request.Request.TheVariants.{Flush, Close, Eof}

-- a reply of the request's own, and no device fault
abbrev pub IsServed : Request → HostReply → Type 0
IsServed request reply = IsTrue (is_reply_to reply request) × (reply ≢ Refused DeviceFault)

chosen_served : (b : Bool) (request : Request) (x y : HostReply) (s t : Store) →
    IsServed request x → IsServed request y
    → let chosen : HostReply × Store = if b then (x, s) else (y, t) in IsServed request chosen.0
chosen_served true request x y s t p q = p
chosen_served false request x y s t p q = q

line_served : (line : Option (List ℕ)) (name : List ℕ) → IsServed (ReadLine name) (line_reply line)
line_served (Some line) name = (refl, λ e. cc)
line_served None name = (refl, λ e. cc)

read_line_served : (store : Store) (name : List ℕ) (rest : Option (List ℕ)) →
    IsServed (ReadLine name) (read_from take_line line_reply store name rest).0
read_line_served store name None = (refl, λ e. cc)
read_line_served store name (Some rest) = line_served (take_line rest).answer name

read_all_served : (store : Store) (name : List ℕ) (rest : Option (List ℕ)) →
    IsServed (ReadAll name) (read_from take_all Rest store name rest).0
read_all_served store name None = (refl, λ e. cc)
read_all_served store name (Some rest) = (refl, λ e. cc)

write_to_served : (store : Store) (name text : List ℕ) (stream : Stream) →
    IsServed (Write name text) (write_to store text stream).0
write_to_served store name text Input = (refl, λ e. cc)
write_to_served store name text (ReadFile file) = (refl, λ e. cc)
write_to_served store name text Output = (refl, λ e. cc)
write_to_served store name text Errors = (refl, λ e. cc)
write_to_served store name text (WriteFile file) = (refl, λ e. cc)

write_served : (store : Store) (name text : List ℕ) (channel : Option Channel) →
    IsServed (Write name text) (write_on store text channel).0
write_served store name text None = (refl, λ e. cc)
write_served store name text (Some channel) = write_to_served store name text channel.stream

flush_to_served : (name : List ℕ) (stream : Stream) → IsServed (Flush name) (flush_to stream)
flush_to_served name Input = (refl, λ e. cc)
flush_to_served name (ReadFile file) = (refl, λ e. cc)
flush_to_served name Output = (refl, λ e. cc)
flush_to_served name Errors = (refl, λ e. cc)
flush_to_served name (WriteFile file) = (refl, λ e. cc)

flush_served : (name : List ℕ) (channel : Option Channel) → IsServed (Flush name) (flush_on channel)
flush_served name None = (refl, λ e. cc)
flush_served name (Some channel) = flush_to_served name channel.stream

eof_at_served : (name : List ℕ) (ended : Bool) (stream : Stream) →
    IsServed (Eof name) (eof_at ended stream)
eof_at_served name ended Input = (refl, λ e. cc)
eof_at_served name ended (ReadFile file) = (refl, λ e. cc)
eof_at_served name ended Output = (refl, λ e. cc)
eof_at_served name ended Errors = (refl, λ e. cc)
eof_at_served name ended (WriteFile file) = (refl, λ e. cc)

eof_served : (name : List ℕ) (channel : Option Channel) → IsServed (Eof name) (eof_on channel)
eof_served name None = (refl, λ e. cc)
eof_served name (Some channel) = eof_at_served name channel.ended channel.stream

-- what is served gives a reply of the request's own, and no device fault
pub serve_served : (store : Store) (request : Request) → IsServed request (serve store request).0
serve_served store (Open name mode) =
    chosen_served (can_open mode store.files name && nat_lt store.next last_count) (Open name mode)
    (Opened (channel_name store.next)) (Refused NotOpened)
    (opened mode store name) store (refl, λ e. cc) (refl, λ e. cc)
serve_served store (ReadLine name) = read_line_served store name (rest_of store name)
serve_served store (ReadAll name) = read_all_served store name (rest_of store name)
serve_served store (Write name text) = write_served store name text (get store.channels name)
serve_served store (Flush name) = flush_served name (get store.channels name)
serve_served store (Close name) =
    chosen_served (contains_key store.channels name) (Close name) Done (Refused NoChannel)
    (record store { channels = remove store.channels name }) store (refl, λ e. cc) (refl, λ e. cc)
serve_served store (Eof name) = eof_served name (get store.channels name)

-- a device fault is a reply to each request
fault_fits : (request : Request) → IsTrue (is_reply_to (Refused DeviceFault) request)
fault_fits (Open name mode) = refl
fault_fits (ReadLine name) = refl
fault_fits (ReadAll name) = refl
fault_fits (Write name text) = refl
fault_fits (Flush name) = refl
fault_fits (Close name) = refl
fault_fits (Eof name) = refl

-- the number of failures rises, but for its last value
counted_rises : (b : Bool) (n : ℕ) → nat_lt n last_count ≡ b →
    (n < (if b then n + 1 else n)) ⊎ (last_count ≤ n)
counted_rises true n e = inl (omega arith)
counted_rises false n e = inr (ltb-false n last_count e)

counted_stays : (b : Bool) (n : ℕ) → n ≤ (if b then n + 1 else n)
counted_stays true n = omega arith
counted_stays false n = omega arith

lawful_by : (b : Bool) (host : MemoryHost) (request : Request)
    → let after : HostReply × MemoryHost = if b then (Refused DeviceFault, failed host) else replied
    host (serve host.store request) in
    IsLawful host.failures after.1.failures request after.0
lawful_by true host request = record {
  fits = fault_fits request;
  never_falls = counted_stays (nat_lt host.failures last_count) host.failures;
  fault_counted = λ _. counted_rises (nat_lt host.failures last_count) host.failures refl;
}
lawful_by false host request = record {
  fits = (serve_served host.store request).0;
  never_falls = omega arith;
  fault_counted = λ e. absurd ((serve_served host.store request).1 e);
}

pub respond-lawful : (old new : MemoryHost) (request : Request) (reply : HostReply) →
    respond old request ≡ (reply, new) → IsLawful old.failures new.failures request reply
respond-lawful old new request reply e =
    subst (λ (after : HostReply × MemoryHost). IsLawful old.failures after.1.failures request
    after.0) e (lawful_by (old.fault_in == 1) old request)
