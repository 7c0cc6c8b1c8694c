-- The replies of a host, and what is said of each.
use Rattle.std.specs.Prelude.{ℕ, Bool, true, false, List, ◌++◌, codes}
use Rattle.tcl_host.specs.declared.request.Request.{Request}
use Rattle.tcl_host.specs.declared.request.Request.TheVariants.{Open, ReadLine, ReadAll, Write}
use Rattle.tcl_host.specs.declared.request.Request.TheVariants.{Flush, Close, Eof}
use Rattle.tcl_host.specs.declared.reply.HostRefusal.{HostRefusal}
use Rattle.tcl_host.specs.declared.reply.HostRefusal.TheVariants.{NoChannel, DeviceFault, NotOpened}
use Rattle.tcl_host.specs.declared.reply.HostReply.{HostReply}
use Rattle.tcl_host.specs.declared.reply.HostReply.TheVariants.{Opened, Line, End, Rest, Done}
use Rattle.tcl_host.specs.declared.reply.HostReply.TheVariants.{AtEnd, Refused}

-- the text of a refusal, x being the channel's or the file's name
abbrev pub refusal_text : HostRefusal → List ℕ → List ℕ
refusal_text NoChannel x = codes "can not find channel named \"" ++ x ++ codes "\""
refusal_text DeviceFault x = codes "device fault on \"" ++ x ++ codes "\""
refusal_text NotOpened x = codes "couldn't open \"" ++ x ++ codes "\""

-- an opening is refused where the file can't be opened or the device fails
abbrev pub refuses_open : HostRefusal → Bool
refuses_open NoChannel = false
refuses_open DeviceFault = true
refuses_open NotOpened = true

-- a call on a channel is refused where the channel isn't open for it or the device fails
abbrev pub refuses_channel : HostRefusal → Bool
refuses_channel NoChannel = true
refuses_channel DeviceFault = true
refuses_channel NotOpened = false

-- each request has its own replies
abbrev pub is_reply_to : HostReply → Request → Bool
is_reply_to (Opened channel) (Open name mode) = true
is_reply_to (Opened channel) _ = false
is_reply_to (Line line) (ReadLine channel) = true
is_reply_to (Line line) _ = false
is_reply_to End (ReadLine channel) = true
is_reply_to End _ = false
is_reply_to (Rest bytes) (ReadAll channel) = true
is_reply_to (Rest bytes) _ = false
is_reply_to Done (Write channel text) = true
is_reply_to Done (Flush channel) = true
is_reply_to Done (Close channel) = true
is_reply_to Done _ = false
is_reply_to (AtEnd ended) (Eof channel) = true
is_reply_to (AtEnd ended) _ = false
is_reply_to (Refused why) (Open name mode) = refuses_open why
is_reply_to (Refused why) _ = refuses_channel why
