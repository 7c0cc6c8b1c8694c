-- The host of a served tree.
use Rattle.std.specs.Prelude.{ℕ, List, IsUtf8, drop, length}
use Rattle.tcl_host.specs.MemoryHost.{errors_of, new_host, output_of}
use Rattle.tcl_serve.specs.declared.hosts.ServedHost.{ServedHost}
use Rattle.tcl_serve.specs.declared.messages.Channel.{Channel}
use Rattle.tcl_serve.specs.declared.messages.Channel.TheVariants as channel
use Rattle.tcl_serve.specs.declared.refusals.Refusal.{Refusal}
use Rattle.tcl_serve.specs.declared.refusals.Refusal.TheVariants.{Memory, NotText}

-- one that has nothing
abbrev pub fresh_host : ServedHost
fresh_host = record { host = new_host; output_taken = 0; errors_taken = 0 }

-- why bytes aren't told as a text
abbrev pub IfUnreadable : List ℕ → Refusal → Type 0
IfUnreadable bytes Memory = Unit {0}
IfUnreadable bytes (NotText name) = IsUtf8 bytes → Prim.⊥
IfUnreadable bytes e = Prim.⊥

-- what was written to a channel, and how much of it was taken
abbrev pub written : Channel → ServedHost → List ℕ
written channel.Output h = output_of h.host
written channel.Errors h = errors_of h.host

abbrev pub taken : Channel → ServedHost → ℕ
taken channel.Output h = h.output_taken
taken channel.Errors h = h.errors_taken

-- what wasn't taken yet
abbrev pub untaken : Channel → ServedHost → List ℕ
untaken c h = drop (taken c h) (written c h)

-- all of it is taken
abbrev pub all_taken : Channel → ServedHost → ServedHost
all_taken channel.Output h = record h { output_taken = length (output_of h.host) }
all_taken channel.Errors h = record h { errors_taken = length (errors_of h.host) }
