-- What the program shows and tells of how a run ended, each by one request of the host, and the
-- exit status.
use Rattle.std.specs.Prelude.{◌≡◌, ◌⊎◌, ℕ, List, [], ◌∷◌, ◌++◌, codes}
use Rattle.tcl_flow.specs.declared.stop.StopKind.{StopKind}
use Rattle.tcl_flow.specs.declared.stop.StopKind.TheVariants as kind
use Rattle.tcl_host.specs.Replies.{refusal_text}
use Rattle.tcl_host.specs.declared.reply.HostReply.{HostReply}
use Rattle.tcl_host.specs.declared.reply.HostReply.TheVariants.{Done, Refused}
use Rattle.tcl_host.specs.declared.reply.HostRefusal.{HostRefusal}
use Rattle.tcl_host.specs.declared.request.Request.TheVariants.{Write}
use Rattle.tcl_text.specs.Messages as messages
use Rattle.tcl_shell.specs.Reading.{Serving}
use Rattle.tcl_shell.specs.declared.ending.Ending.{Ending}
use Rattle.tcl_shell.specs.declared.ending.Ending.TheVariants.{Finished, Helped, Failed, Misused}
use Rattle.tcl_shell.specs.declared.ending.Ending.TheVariants.{Unreadable, Stopped, Exited}
use Rattle.tcl_shell.specs.declared.ending.Ending.TheVariants.{OutOfMemory}

-- the text of a stop
abbrev pub limit_text : StopKind → List ℕ
limit_text kind.Count = messages.count_limit
limit_text kind.Depth = messages.depth_limit
limit_text kind.Gone = codes "interpreter was deleted"

-- a line of the program's own
abbrev pub complaint : List ℕ → List ℕ
complaint text = codes "tclsafe: " ++ text ++ codes "\n"

abbrev pub memory_line : List ℕ
memory_line = complaint (codes "out of memory")

-- The text is written to the standard errors, whether the host refuses that or not; a host that
-- wants memory is as it was.
abbrev pub Attempts : {S : Type 0} → Serving S → List ℕ → S → S → Type 0
Attempts step text old new = ((reply : HostReply) ×
    step old (Write (codes "stderr") text) reply new) ⊎ (new ≡ old)

-- The line is told with its status; or memory was wanted for it.
abbrev pub Told : {S : Type 0} → Serving S → List ℕ → ℕ → S → ℕ → S → Type 0
Told step line status old s new = ((s ≡ status) × Attempts step line old new) ⊎
    ((s ≡ 4) × Attempts step memory_line old new)

-- The text is written to the standard output, with status 0; or the host refuses that, which is
-- told as an error; or memory was wanted.
abbrev pub Printed : {S : Type 0} → Serving S → List ℕ → S → ℕ → S → Type 0
Printed {S} step text old s new =
    ((s ≡ 0) × step old (Write (codes "stdout") text) Done new)
    ⊎ (((why : HostRefusal) × (mid : S) × step old (Write (codes "stdout") text) (Refused why) mid ×
    Told step (complaint (refusal_text why (codes "stdout"))) 1 mid s new)
    ⊎ ((s ≡ 4) × Attempts step memory_line old new))

-- An empty result isn't printed; another one is, with a newline.
abbrev pub FinishesSo : {S : Type 0} → Serving S → List ℕ → S → ℕ → S → Type 0
FinishesSo step [] old s new = (s ≡ 0) × (new ≡ old)
FinishesSo step (b ∷ bs) old s new = Printed step ((b ∷ bs) ++ codes "\n") old s new

-- What is shown and told of each ending, and the status: 0 a result, help or the version, 1 an
-- error, 2 a mistake in the command line or an unreadable script, 3 a limit, 4 want of memory, n an
-- exit with n.
abbrev pub ShowsSo : {S : Type 0} → Serving S → List ℕ → Ending → S → ℕ → S → Type 0
ShowsSo step file (Finished text) old s new = FinishesSo step text old s new
ShowsSo step file (Helped text) old s new = Printed step text old s new
ShowsSo step file (Failed text) old s new = Told step (complaint text) 1 old s new
ShowsSo step file (Misused text) old s new = (s ≡ 2) × Attempts step text old new
ShowsSo step file Unreadable old s new = Told step (complaint (codes "cannot read " ++ file)) 2 old
    s new
ShowsSo step file (Stopped k) old s new = Told step (complaint (limit_text k)) 3 old s new
ShowsSo step file (Exited n) old s new = (s ≡ n) × (new ≡ old)
ShowsSo step file OutOfMemory old s new = (s ≡ 4) × Attempts step memory_line old new
