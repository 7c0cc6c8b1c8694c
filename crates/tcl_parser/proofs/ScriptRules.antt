-- Commands and scripts: the rules and the function that reads them say the same.
use Rattle.std.proofs.Common.{◌≡◌, ℕ, zero, suc, ◌-◌, ◌<◌, ◌∙◌, List, [], ◌∷◌, length, Option, Result, Ok, Err, refl, ap, sym, subst, inl, inr, arith}
use Rattle.tcl_parser.specs.declared.fault.Fault.{Fault}
use Rattle.tcl_parser.specs.Words.{WordRead, Reading}
use Rattle.tcl_parser.specs.Several.{Several, and_then}
use Rattle.tcl_parser.specs.Reading.{◌>>=◌, level_at, read_command, command_or_end, read_commands, fault_of, read_script}
use Rattle.tcl_parser.specs.Grammar.{Reads, HasFault, EndsWithin, FailsWithin, ReadsAll, IsDecided}
use Rattle.tcl_parser.specs.Grammar.ReadsAll.{all_read, first_read, fault_comes}
use Rattle.tcl_parser.proofs.SeveralLemmas.{Falls}
use Rattle.tcl_parser.proofs.WordLemmas.{command_turn-falls}
use Rattle.tcl_parser.proofs.CommandRules.{agrees_within, command_read, command_fail, command_said, CommandSaid, by_command}

-- ## Commands

pub Reads-function : (k : ℕ) (s : List ℕ) (ws : List WordRead) (rest : List ℕ) → Reads k s ws rest → read_command (level_at k) s ≡ Ok (ws, rest)
Reads-function k s ws rest h = command_read (level_at k) (EndsWithin (200 - k)) (FailsWithin (200 - k)) (agrees_within (200 - k)) h

pub HasFault-function : (k : ℕ) (s : List ℕ) (f : Fault) → HasFault k s f → read_command (level_at k) s ≡ Err f
HasFault-function k s f h = command_fail (level_at k) (EndsWithin (200 - k)) (FailsWithin (200 - k)) (agrees_within (200 - k)) h

-- what the function says
abbrev Says : ℕ → List ℕ → Result (List WordRead × List ℕ) Fault → Type 0
Says k s (Ok (ws, rest)) = Reads k s ws rest
Says k s (Err f) = HasFault k s f

said_by : (k : ℕ) (s : List ℕ) (r : Result (List WordRead × List ℕ) Fault) → CommandSaid (level_at k) (EndsWithin (200 - k)) (FailsWithin (200 - k)) (agrees_within (200 - k)) s r → Says k s r
said_by k s (Ok (ws, rest)) h = h
said_by k s (Err f) h = h

pub function-says : (k : ℕ) (s : List ℕ) → Says k s (read_command (level_at k) s)
function-says k s = said_by k s (read_command (level_at k) s) (command_said (level_at k) (EndsWithin (200 - k)) (FailsWithin (200 - k)) (agrees_within (200 - k)) s)

pub function-Reads : (k : ℕ) (s : List ℕ) (ws : List WordRead) (rest : List ℕ) → read_command (level_at k) s ≡ Ok (ws, rest) → Reads k s ws rest
function-Reads k s ws rest e = subst (Says k s) e (function-says k s)

pub function-HasFault : (k : ℕ) (s : List ℕ) (f : Fault) → read_command (level_at k) s ≡ Err f → HasFault k s f
function-HasFault k s f e = subst (Says k s) e (function-says k s)

pair_same : (p q : List WordRead × List ℕ) → ◌≡◌ {A = Result (List WordRead × List ℕ) Fault} (Ok p) (Ok q) → p ≡ q
pair_same p q e = cc

fault_same : (e f : Fault) → ◌≡◌ {A = Result (List WordRead × List ℕ) Fault} (Err e) (Err f) → e ≡ f
fault_same e f h = cc

clash : (p : List WordRead × List ℕ) (f : Fault) → ◌≡◌ {A = Result (List WordRead × List ℕ) Fault} (Ok p) (Err f) → ⊥
clash p f e = cc

decided_by : (k : ℕ) (s : List ℕ) (r : Result (List WordRead × List ℕ) Fault) → read_command (level_at k) s ≡ r → IsDecided k s
decided_by k s (Ok (ws, rest)) e = inl (
  ws,
  rest,
  record {
    reads = function-Reads k s ws rest e;
    only = λ others more h.
        let same = pair_same (others, more) (ws, rest) (sym (Reads-function k s others more h) ∙ e) in
        (ap (λ (p : List WordRead × List ℕ). p.0) same, ap (λ (p : List WordRead × List ℕ). p.1) same);
    no_fault = λ f h. clash (ws, rest) f (sym e ∙ HasFault-function k s f h);
  },
)
decided_by k s (Err f) e = inr (
  f,
  record {
    has = function-HasFault k s f e;
    only = λ g h. fault_same g f (sym (HasFault-function k s g h) ∙ e);
    no_reading = λ ws rest h. clash (ws, rest) f (sym (Reads-function k s ws rest h) ∙ e);
  },
)

pub decided : (k : ℕ) (s : List ℕ) → IsDecided k s
decided k s = decided_by k s (read_command (level_at k) s) refl

-- ## Scripts

commands_by : (s : List ℕ) (r : Result (List WordRead × List ℕ) Fault) → read_command (level_at 0) s ≡ r → read_commands (level_at 0) s ≡ and_then (r >>= command_or_end) (read_commands (level_at 0))
commands_by s r e = by_command (level_at 0) (EndsWithin 200) (FailsWithin 200) (agrees_within 200) s r e

abbrev made : Several (List WordRead) → Reading
made read = record { commands = read.items; fault = fault_of read.ended }

pub ReadsAll-function : {s : List ℕ} {commands : List (List WordRead)} {fault : Option Fault} → ReadsAll s commands fault → read_script s ≡ record { commands = commands; fault = fault }
ReadsAll-function (all_read {s = s} {rest = rest} h) = ap made (commands_by s (Ok ([], rest)) (Reads-function 0 s [] rest h))
ReadsAll-function (first_read {s = s} {t = t} {w = w} {ws = ws} h more) =
    ap made (commands_by s (Ok (w ∷ ws, t)) (Reads-function 0 s (w ∷ ws) t h)) ∙ ap (λ (r : Reading). record { commands = (w ∷ ws) ∷ r.commands; fault = r.fault }) (ReadsAll-function more)
ReadsAll-function (fault_comes {s = s} {fault = f} h) = ap made (commands_by s (Err f) (HasFault-function 0 s f h))

all_by : (s : List ℕ) (r : Result (List WordRead × List ℕ) Fault) → Says 0 s r → Falls (λ (x : List ℕ). x) s (r >>= command_or_end) →
    ((t : List ℕ) → length t < length s → ReadsAll t (read_commands (level_at 0) t).items (fault_of (read_commands (level_at 0) t).ended)) →
    ReadsAll s (and_then (r >>= command_or_end) (read_commands (level_at 0))).items (fault_of (and_then (r >>= command_or_end) (read_commands (level_at 0))).ended)
all_by s (Ok ([], rest)) h falls more = all_read h
all_by s (Ok (w ∷ ws, t)) h falls more = first_read h (more t falls.1)
all_by s (Err f) h falls more = fault_comes h

all_within : (n : ℕ) (s : List ℕ) → length s < n → ReadsAll s (read_commands (level_at 0) s).items (fault_of (read_commands (level_at 0) s).ended)
all_within zero s l = absurd (omega arith)
all_within (suc n) s l =
    let is = commands_by s (read_command (level_at 0) s) refl in
    let falls = command_turn-falls (level_at 0) (agrees_within 200).leaves s in
    subst (λ (x : Several (List WordRead)). ReadsAll s x.items (fault_of x.ended)) (sym is) (all_by s (read_command (level_at 0) s) (function-says 0 s) falls (λ t m. all_within n t (omega arith)))

pub function-ReadsAll : (s : List ℕ) → ReadsAll s (read_script s).commands (read_script s).fault
function-ReadsAll s = all_within (suc (length s)) s (omega arith)
