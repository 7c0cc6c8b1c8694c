-- The laws of the host in memory.
use Rattle.std.proofs.Common.{◌≡◌, ◌↔◌, ℕ, ◌+◌, ◌<◌, Bool, true, false, List, [], ◌++◌, Option, None, Some, is_some, refl, sym, ap, subst, ◌∙◌, arith, if◌then◌else◌, unwrap_or, ◌==◌, ◌&&◌}
use Rattle.std.specs.FinMap.{get, insert, remove, contains_key}
use Rattle.std.proofs.lemmas.Bool.{lt-ltb, eqb-true, eqb-false}
use Rattle.tcl_host.specs.Files.{content_of, appended, made}
use Rattle.tcl_host.specs.Hosts.{last_count}
use Rattle.tcl_host.specs.Names.{Named}
use Rattle.tcl_host.specs.MemoryHost.{failed, replied}
use Rattle.tcl_host.specs.MemoryHostLaws.{serve_served}
use Rattle.tcl_host.specs.Stores.{serve, opened, files_opened, stream_opened, can_open, channel_name, new_channel, write_on, read_from, rest_on, take_all}
use Rattle.tcl_host.specs.Laws.{FaultLaw, WritingLaw, AppendingLaw, after}
use Rattle.tcl_host.specs.declared.memory.MemoryHost.{MemoryHost}
use Rattle.tcl_host.specs.declared.memory.channel.Channel.{Channel}
use Rattle.tcl_host.specs.declared.memory.channel.Stream.{Stream}
use Rattle.tcl_host.specs.declared.memory.channel.Stream.TheVariants.{ReadFile, WriteFile}
use Rattle.tcl_host.specs.declared.memory.store.Store.{Store}
use Rattle.tcl_host.specs.declared.open_mode.OpenMode.{OpenMode}
use Rattle.tcl_host.specs.declared.open_mode.OpenMode.TheVariants as Mode
use Rattle.tcl_host.specs.declared.reply.HostReply.{HostReply}
use Rattle.tcl_host.specs.declared.reply.HostReply.TheVariants.{Opened, Rest, Done, Refused}
use Rattle.tcl_host.specs.declared.reply.HostRefusal.TheVariants.{DeviceFault, NotOpened, NoChannel}
use Rattle.tcl_host.specs.declared.request.Request.{Request}
use Rattle.tcl_host.specs.declared.request.Request.TheVariants.{Open, ReadAll, Write, Close}
use Rattle.tcl_host.proofs.NameLemmas.{get-insert-same}
use Rattle.tcl_host.proofs.FileLemmas.{appended-there}

fault_by : (b : Bool) (host : MemoryHost) (request : Request) → (host.fault_in == 1) ≡ b
    → let answer : HostReply × MemoryHost = if b then (Refused DeviceFault, failed host) else replied host (serve host.store request) in
    ((answer.0 ≡ Refused DeviceFault) ↔ (host.fault_in ≡ 1)) × (host.fault_in ≡ 1 → answer.1 ≡ failed host)
fault_by true host request e = ((λ _. eqb-true host.fault_in 1 e, λ _. refl), λ _. refl)
fault_by false host request e =
    ((λ r. absurd ((serve_served host.store request).1 r), λ f. absurd (eqb-false host.fault_in 1 e f)), λ f. absurd (eqb-false host.fault_in 1 e f))

pub fault_law : FaultLaw
fault_law host request = fault_by (host.fault_in == 1) host request refl

opens : (b d : Bool) (x y : HostReply) (s t : Store) → b ≡ true → d ≡ true → let answer : HostReply × Store = if b && d then (x, s) else (y, t) in answer.1 ≡ s
opens true true x y s t e f = refl
opens true false x y s t e f = cc
opens false d x y s t e f = cc

-- an opening that isn't refused
after_open : (store : Store) (name : List ℕ) (mode : OpenMode) → can_open mode store.files name ≡ true → store.next < last_count
    → after store (Open name mode) ≡ opened mode store name
after_open store name mode can lt = opens _ _ (Opened (channel_name store.next)) (Refused NotOpened) (opened mode store name) store can (lt-ltb store.next last_count lt)

-- a write to a file
after_write : (store : Store) (channel file text : List ℕ) → get store.channels channel ≡ Some (new_channel (WriteFile file))
    → after store (Write channel text) ≡ record store { files = appended store.files file text }
after_write store channel file text e = ap (λ (c : Option Channel). (write_on store text c).1) e

-- a close leaves the files
after_close : (store : Store) (channel : List ℕ) → (after store (Close channel)).files ≡ store.files
after_close store channel = closed (contains_key store.channels channel)
  where
    closed : (b : Bool) → let answer : HostReply × Store = if b then (Done, record store { channels = remove store.channels channel }) else (Refused NoChannel, store) in answer.1.files ≡ store.files
    closed true = refl
    closed false = refl

after_close-next : (store : Store) (channel : List ℕ) → (after store (Close channel)).next ≡ store.next
after_close-next store channel = closed (contains_key store.channels channel)
  where
    closed : (b : Bool) → let answer : HostReply × Store = if b then (Done, record store { channels = remove store.channels channel }) else (Refused NoChannel, store) in answer.1.next ≡ store.next
    closed true = refl
    closed false = refl

-- a read of all from a file
read_all_file : (store : Store) (channel file : List ℕ) → get store.channels channel ≡ Some (new_channel (ReadFile file))
    → (serve store (ReadAll channel)).0 ≡ Rest (content_of store.files file)
read_all_file store channel file e = ap (λ (c : Option Channel). (read_from take_all Rest store channel (rest_on store c)).0) e

-- what a file holds, to which a text was appended where it is there
content_of-appended : (files : Named (List ℕ)) (name text bytes : List ℕ) → Some bytes ≡ get files name → content_of (appended files name text) name ≡ bytes ++ text
content_of-appended files name text bytes e =
    ap (λ (f : Named (List ℕ)). content_of f name) (appended-there files name text bytes e)
    ∙ ap (λ (o : Option (List ℕ)). unwrap_or o []) (get-insert-same files name (bytes ++ text))

-- what is written to a file just opened
after_opening : (store : Store) (name text : List ℕ) (mode : OpenMode) → stream_opened mode name ≡ WriteFile name → can_open mode store.files name ≡ true
    → store.next < last_count
    → after (after store (Open name mode)) (Write (channel_name store.next) text) ≡ record (opened mode store name) { files = appended (files_opened mode store.files name) name text }
after_opening store name text mode to can lt =
    ap (λ (s : Store). after s (Write (channel_name store.next) text)) (after_open store name mode can lt)
    ∙ after_write (opened mode store name) (channel_name store.next) name text
    (get-insert-same store.channels (channel_name store.next) (new_channel (stream_opened mode name)) ∙ ap (λ (s : Stream). Some (new_channel s)) to)

-- what a file that was made where it was missing holds
get-made-content : (files : Named (List ℕ)) (name : List ℕ) → get (made files name) name ≡ Some (content_of files name)
get-made-content files name = by (get files name) refl
  where
    by : (o : Option (List ℕ)) → get files name ≡ o → get (if is_some o then files else insert files name []) name ≡ Some (unwrap_or o [])
    by None e = get-insert-same files name []
    by (Some bytes) e = e

pub appending_law : AppendingLaw
appending_law store name text lt =
    ap (λ (s : Store). content_of s.files name) (after_opening store name text Mode.Append refl refl lt)
    ∙ content_of-appended (made store.files name) name text (content_of store.files name) (sym (get-made-content store.files name))

-- what a file holds is what is read from it
read_back : (store : Store) (name text : List ℕ) → store.next < last_count → get store.files name ≡ Some text
    → (serve (after store (Open name Mode.Read)) (ReadAll (channel_name store.next))).0 ≡ Rest text
read_back store name text lt e =
    ap (λ (s : Store). (serve s (ReadAll (channel_name store.next))).0) (after_open store name Mode.Read (ap is_some e) lt)
    ∙ read_all_file (opened Mode.Read store name) (channel_name store.next) name
    (get-insert-same store.channels (channel_name store.next) (new_channel (ReadFile name)))
    ∙ ap (λ (o : Option (List ℕ)). Rest (unwrap_or o [])) e

-- what a file holds that is begun anew and written
written_anew : (files : Named (List ℕ)) (name text : List ℕ) → get (appended (insert files name []) name text) name ≡ Some text
written_anew files name text =
    ap (λ (f : Named (List ℕ)). get f name) (appended-there (insert files name []) name text [] (sym (get-insert-same files name [])))
    ∙ get-insert-same (insert files name []) name text

pub writing_law : WritingLaw
writing_law store name text lt =
    let first = channel_name store.next in
    let s2 : Store = record (opened Mode.Write store name) { files = appended (insert store.files name []) name text } in
    let s3 : Store = after s2 (Close first) in
    let holds : get s3.files name ≡ Some text = ap (λ (f : Named (List ℕ)). get f name) (after_close s2 first) ∙ written_anew store.files name text in
    let next : s3.next ≡ store.next + 1 = after_close-next s2 first in
    let fits : s3.next < last_count = subst (λ (n : ℕ). n < last_count) (sym next) lt in
    let read : (serve (after s3 (Open name Mode.Read)) (ReadAll (channel_name s3.next))).0 ≡ Rest text = read_back s3 name text fits holds in
    let less : store.next < last_count = omega arith in
    ap (λ (s : Store). (serve (after (after s (Close first)) (Open name Mode.Read)) (ReadAll (channel_name (store.next + 1)))).0)
    (after_opening store name text Mode.Write refl refl less)
    ∙ subst (λ (n : ℕ). (serve (after s3 (Open name Mode.Read)) (ReadAll (channel_name n))).0 ≡ Rest text) next read
