-- A host in memory: what it replies to each request, and what it is afterwards.
use Rattle.std.specs.Prelude.{ℕ, ◌+◌, ◌-◌, ◌==◌, nat_lt, List, ◌++◌, Option, Result, Ok, Err}
use Rattle.std.specs.Prelude.{if◌then◌else◌}
use Rattle.std.specs.FinMap.{get, insert}
use Rattle.tcl_host.specs.Hosts.{last_count}
use Rattle.tcl_host.specs.Stores.{serve, new_store}
use Rattle.tcl_host.specs.declared.memory.MemoryHost.{MemoryHost}
use Rattle.tcl_host.specs.declared.memory.store.Store.{Store}
use Rattle.tcl_host.specs.declared.reply.HostError.{HostError}
use Rattle.tcl_host.specs.declared.reply.HostError.TheVariants as Failed
use Rattle.tcl_host.specs.declared.reply.HostReply.{HostReply}
use Rattle.tcl_host.specs.declared.reply.HostReply.TheVariants.{Refused}
use Rattle.tcl_host.specs.declared.reply.HostRefusal.{HostRefusal}
use Rattle.tcl_host.specs.declared.reply.HostRefusal.TheVariants.{DeviceFault}
use Rattle.tcl_host.specs.declared.request.Request.{Request}

-- a host with no files, on which no fault is planned and none was counted
abbrev pub new_host : MemoryHost
new_host = record { store = new_store; fault_in = 0; failures = 0 }

-- one more, but for the last number
abbrev pub counted : ℕ → ℕ
counted n = if nat_lt n last_count then n + 1 else n

-- the planned fault is counted, and changes nothing else
abbrev pub failed : MemoryHost → MemoryHost
failed host = record host { fault_in = 0; failures = counted host.failures }

-- a call was made, and the planned fault is nearer by one
abbrev pub called : MemoryHost → MemoryHost
called host = record host { fault_in = host.fault_in - 1 }

abbrev pub replied : MemoryHost → HostReply × Store → HostReply × MemoryHost
replied host served = (served.0, called (record host { store = served.1 }))

-- what it replies, and what it is afterwards: the call for which a fault is planned fails, and each
-- other is served
abbrev pub respond : MemoryHost → Request → HostReply × MemoryHost
respond host request =
    if host.fault_in == 1
    then (Refused DeviceFault, failed host)
    else replied host (serve host.store request)

-- the error that an answer stands for, where it is one
abbrev pub refused_by : {A : Type 0} → Result A HostRefusal → Result A HostError
refused_by (Ok answer) = Ok answer
refused_by (Err why) = Err (Failed.Refused why)

-- WHAT IS PUT THERE AND SEEN WITHOUT A CALL

abbrev pub with_file : MemoryHost → List ℕ → List ℕ → MemoryHost
with_file host name bytes = record host
    { store = record host.store { files = insert host.store.files name bytes } }

abbrev pub file_of : MemoryHost → List ℕ → Option (List ℕ)
file_of host name = get host.store.files name

abbrev pub with_input : MemoryHost → List ℕ → MemoryHost
with_input host bytes = record host
    { store = record host.store { input = host.store.input ++ bytes } }

abbrev pub output_of : MemoryHost → List ℕ
output_of host = host.store.output

abbrev pub errors_of : MemoryHost → List ℕ
errors_of host = host.store.errors

-- the call of that number from now on is to fail; none, where the number is 0
abbrev pub with_fault_in : MemoryHost → ℕ → MemoryHost
with_fault_in host call = record host { fault_in = call }
