-- The worked playings, step by step.
use Rattle.std.proofs.Common.{◌≡◌, ℕ, false, List, [], ◌∷◌, ◌++◌, Some, None, refl, subst, ap, sym}
use Rattle.std.specs.Prelude.{pos}
use Rattle.tcl_core.specs.Endings.{Reply, ok}
use Rattle.tcl_core.specs.Endings.Cause.{Above, Over}
use Rattle.tcl_core.specs.Endings.Meter.{Count}
use Rattle.tcl_core.specs.Endings.Kind.{Full, Gone}
use Rattle.tcl_core.specs.Endings.Reply.{Completed, Cut, Exit, Stop}
use Rattle.tcl_core.specs.Entries.{Answer, Request}
use Rattle.tcl_core.specs.Entries.Answer.{Replied, Heard, Nobody}
use Rattle.tcl_core.specs.Entries.Entry.{AskHost, Eval}
use Rattle.tcl_core.specs.Entries.HostReply.{Line, TheEnd, TheRest, Fails}
use Rattle.tcl_core.specs.Entries.Request.{Open, ReadAll, ReadLine}
use Rattle.tcl_core.specs.Example.{Script, an_answer, child_alone, commands, finish, one_entry, child, lost}
use Rattle.tcl_core.specs.Lives.Outcome.{Finished, Waiting, Ended, Exited, Spent, Misfit}
use Rattle.tcl_core.specs.Programs.{Deed, Prog, Table, or_lost}
use Rattle.tcl_core.specs.Programs.Next.{On, Off}
use Rattle.tcl_core.specs.Programs.Prog.{wait}
use Rattle.tcl_core.specs.Runs.{is_own}
use Rattle.tcl_core.specs.Execution.{Crossings, Executes, event}
use Rattle.tcl_core.specs.Execution.Executes.{completed, exited, acted, refused, wrapped, wrapped_passed, called_out, answered, missed, answered_passed, unfound}
use Rattle.tcl_core.specs.Trees.{Move, Tree, effect, Event}
use Rattle.tcl_core.specs.Trees.Move.{Come}
use Rattle.tcl_core.specs.Trees.What.{Changed, Charged, Nested, Refused, Unnested, Done, Out}
use Rattle.tcl_reactions.specs.Example.{AnswersNoAlias, AnswersNoRequest, Comes_to, WorkedMisfits, WorkedPlayings, asked, asking, done_so, leaving, one_entry_and, stray_entry, nobody_there}
use Rattle.tcl_reactions.specs.Playing.{Lived, Player, beginner, plays, stopping, telling, last_end, EndsThere, outcome_with}
use Rattle.tcl_reactions.specs.Playing.Answers.{reads, ends, waits, unfits}
use Rattle.tcl_reactions.specs.Playing.Fate.{Waits, Unfits, EndsAbove, Spends}

abbrev Runs : Table ℕ Script → Tree ℕ → Player ℕ → Prog ℕ Script → Tree ℕ → Player ℕ → Reply → Type 0
Runs prog T o x V z r = Executes (Crossings plays) prog T o [] x V z r

-- AN ENTRY THAT IS PASSED ON
-- after the entry was read, and after the call went out
abbrev entered : List (Move ℕ) → Player ℕ
entered ms = record { left = ms; steps = 1; outs = []; fate = None }

abbrev called : List (Move ℕ) → Player ℕ
called ms = telling (entered ms) asked

asks : (ms : List (Move ℕ)) (z : Player ℕ) (r : Reply) → Runs asking child_alone (called ms) (wait (Some (Some 1, Eval [], 0)) (or_lost lost finish)) child_alone z r → Runs asking child_alone (entered ms) (asking.entry (Eval [])) child_alone z r
asks ms z r t = called_out {u = called ms} refl (record { told = refl }) t

waiting : Comes_to asking one_entry 1 Waiting (asked ∷ [])
waiting =
    let z : Player ℕ = stopping (called []) (Waits child_alone) in
    record {
      last = child_alone;
      player = z;
      playing = Lived.entered {U = child_alone} {V = child_alone} {u = beginner one_entry 1} {w = entered []} {v = z} {z = z} [] (Eval []) (Cut Over) Lived.begun refl refl refl (refl, refl, refl)
          (asks [] z (Cut Over) (answered_passed tt refl refl (record { told = waits refl refl tt refl }))) refl;
      is_over = tt;
      outcome = refl;
      told = refl;
    }

answered_so : Comes_to asking (one_entry_and (Completed (ok []))) 1 Finished (asked ∷ done_so ∷ [])
answered_so =
    let ms : List (Move ℕ) = Come (Replied (Completed (ok []))) ∷ [] in
    let y : Player ℕ = called [] in
    let z : Player ℕ = telling y done_so in
    record {
      last = child_alone;
      player = z;
      playing = Lived.entered {U = child_alone} {V = child_alone} {u = beginner (one_entry_and (Completed (ok []))) 1} {w = entered ms} {v = y} {z = z} [] (Eval []) (Completed (ok [])) Lived.begun refl refl refl (refl, refl, refl)
          (asks ms y (Completed (ok [])) (answered {u = y} refl refl (record { told = reads [] refl refl refl tt refl }) completed)) refl;
      is_over = tt;
      outcome = refl;
      told = refl;
    }

missed_so : Comes_to asking (one_entry ++ Come Nobody ∷ []) 1 Finished (asked ∷ event [] (Done None (Completed lost)) ∷ [])
missed_so =
    let ms : List (Move ℕ) = Come Nobody ∷ [] in
    let y : Player ℕ = called [] in
    let z : Player ℕ = telling y (event [] (Done None (Completed lost))) in
    record {
      last = child_alone;
      player = z;
      playing = Lived.entered {U = child_alone} {V = child_alone} {u = beginner (one_entry ++ Come Nobody ∷ []) 1} {w = entered ms} {v = y} {z = z} [] (Eval []) (Completed lost) Lived.begun refl refl refl (refl, refl, refl)
          (asks ms y (Completed lost) (missed {u = y} refl refl (record { told = reads [] refl refl refl tt refl }) completed)) refl;
      is_over = tt;
      outcome = refl;
      told = refl;
    }

ended_so : Comes_to asking (one_entry_and (Cut Above)) 1 Ended (asked ∷ [])
ended_so =
    let ms : List (Move ℕ) = Come (Replied (Cut Above)) ∷ [] in
    let z : Player ℕ = stopping (called []) EndsAbove in
    record {
      last = child_alone;
      player = z;
      playing = Lived.entered {U = child_alone} {V = child_alone} {u = beginner (one_entry_and (Cut Above)) 1} {w = entered ms} {v = z} {z = z} [] (Eval []) (Cut Above) Lived.begun refl refl refl (refl, refl, refl)
          (asks ms z (Cut Above) (answered_passed tt refl refl (record { told = ends (Replied (Cut Above)) [] refl refl refl tt tt refl }))) refl;
      is_over = tt;
      outcome = refl;
      told = refl;
    }

-- WHAT ANSWERS NO CALL
no_request : (q : Request) (a : Answer) → is_own None (AskHost q) a ≡ false → AnswersNoRequest q a
no_request q a f =
    let y : Player ℕ = telling (entered (Come a ∷ [])) (event [] (Out None [] (AskHost q))) in
    let z : Player ℕ = stopping y Unfits in
    record {
      last = child_alone;
      player = z;
      playing = Lived.entered {U = child_alone} {V = child_alone} {u = beginner (one_entry ++ Come a ∷ []) 1} {w = entered (Come a ∷ [])} {v = z} {z = z} [] (Eval []) (Cut Over) Lived.begun refl refl refl (refl, refl, refl)
          (called_out {u = y} refl (record { told = refl }) (answered_passed tt refl refl (record { told = unfits (Come a) [] refl refl f tt refl }))) refl;
      is_over = tt;
      outcome = refl;
      told = refl;
    }

no_alias : (a : Answer) → is_own (Some 1) (Eval []) a ≡ false → AnswersNoAlias a
no_alias a f =
    let ms : List (Move ℕ) = Come a ∷ [] in
    let z : Player ℕ = stopping (called ms) Unfits in
    record {
      last = child_alone;
      player = z;
      playing = Lived.entered {U = child_alone} {V = child_alone} {u = beginner (one_entry ++ Come a ∷ []) 1} {w = entered ms} {v = z} {z = z} [] (Eval []) (Cut Over) Lived.begun refl refl refl (refl, refl, refl)
          (asks ms z (Cut Over) (answered_passed tt refl refl (record { told = unfits (Come a) [] refl refl f tt refl }))) refl;
      is_over = tt;
      outcome = refl;
      told = refl;
    }

-- AN EXIT, AND AN ANSWER TO NO CALL
leaves : Comes_to leaving one_entry 1 (Exited (pos 3)) (event [] (Done None (Exit (pos 3))) ∷ [])
leaves =
    let z : Player ℕ = telling (entered []) (event [] (Done None (Exit (pos 3)))) in
    record {
      last = child_alone;
      player = z;
      playing = Lived.entered {U = child_alone} {V = child_alone} {u = beginner one_entry 1} {w = entered []} {v = entered []} {z = z} [] (Eval []) (Exit (pos 3)) Lived.begun refl refl refl (refl, refl, refl) exited refl;
      is_over = tt;
      outcome = refl;
      told = refl;
    }

uncalled : Comes_to commands an_answer 1 Misfit []
uncalled = record { last = child_alone; player = beginner an_answer 1; playing = Lived.begun; is_over = tt; outcome = refl; told = refl }

-- A COMMAND, with so many steps
abbrev at_work : List (Event ℕ) → ℕ → Player ℕ
at_work outs n = record { left = []; steps = n; outs = outs; fate = None }

-- before the entry is read
abbrev ready : List (Event ℕ) → Player ℕ
ready outs = record { left = one_entry; steps = 1; outs = outs; fate = None }

abbrev nested : Deed ℕ
nested = (None, Nested, On)

abbrev inside_it : Tree ℕ
inside_it = effect [] Nested child_alone

abbrev counted : Tree ℕ
counted = effect [] Charged inside_it

abbrev changed : Tree ℕ
changed = effect [] (Changed 7) counted

sets : (outs : List (Event ℕ)) → Runs commands inside_it (at_work outs 1) (commands.program Script.SetSeven) changed (at_work outs 0) (Completed (ok []))
sets outs =
    acted {u = at_work outs 0} (None, Charged, On) (λ gs. refl) tt (record { told = (refl, refl, refl) })
    (acted {u = at_work outs 0} (None, Changed 7, On) (λ gs. refl) tt (record { told = refl }) completed)

-- whatever was told before
served_after : (ms : List (Move ℕ)) (outs : List (Event ℕ)) → Lived commands child_alone (beginner ms 1) child_alone (ready outs) → last_end (ready outs) ≡ Finished → last_end (telling (at_work outs 0) done_so) ≡ Finished → Comes_to commands ms 1 Finished (outs ++ done_so ∷ [])
served_after ms outs before calm e =
    let V : Tree ℕ = effect [] Unnested changed in
    let z : Player ℕ = telling (at_work outs 0) done_so in
    record {
      last = V;
      player = z;
      playing = Lived.entered {U = child_alone} {V = V} {u = ready outs} {w = at_work outs 1} {v = at_work outs 0} {z = z} [] (Eval []) (Completed (ok [])) before refl calm refl (refl, refl, refl)
          (wrapped {U = changed} {o1 = at_work outs 1} {o2 = at_work outs 0} {o3 = at_work outs 0} nested (λ gs. refl) refl (record { told = refl }) (sets outs) (record { told = refl }) completed) refl;
      is_over = subst (λ x. EndsThere {O = ℕ} x []) (sym e) tt;
      outcome = ap (λ x. outcome_with {O = ℕ} x []) e;
      told = refl;
    }

served : Comes_to commands one_entry 1 Finished (done_so ∷ [])
served = served_after one_entry [] Lived.begun refl refl

spent : Comes_to commands one_entry 0 Spent []
spent =
    let V : Tree ℕ = effect [] Unnested inside_it in
    let z : Player ℕ = stopping (at_work [] 0) Spends in
    record {
      last = V;
      player = z;
      playing = Lived.entered {U = child_alone} {V = V} {u = beginner one_entry 0} {w = at_work [] 0} {v = z} {z = z} [] (Eval []) (Cut Above) Lived.begun refl refl refl (refl, refl, refl)
          (wrapped_passed {U = inside_it} {o1 = at_work [] 0} {o2 = z} {o3 = z} nested tt (λ gs. refl) refl (record { told = refl })
          (refused {u = z} (None, Refused Count None, Off (Cut Above)) (λ gs. refl) refl (record { told = (refl, refl) })) (record { told = refl })) refl;
      is_over = tt;
      outcome = refl;
      told = refl;
    }

-- ENTRIES THAT FIND NOBODY
unfound_meanwhile : Comes_to asking (one_entry ++ stray_entry) 1 Waiting (asked ∷ nobody_there ∷ [])
unfound_meanwhile =
    let y : Player ℕ = telling (called []) nobody_there in
    let z : Player ℕ = stopping y (Waits child_alone) in
    record {
      last = child_alone;
      player = z;
      playing = Lived.entered {U = child_alone} {V = child_alone} {u = beginner (one_entry ++ stray_entry) 1} {w = entered stray_entry} {v = z} {z = z} [] (Eval []) (Cut Over) Lived.begun refl refl refl (refl, refl, refl)
          (asks stray_entry z (Cut Over) (unfound {u = y} (child ∷ []) (Eval []) refl refl (record { told = (called [], (refl, refl, refl), refl) }) (answered_passed tt refl refl (record { told = waits refl refl tt refl })))) refl;
      is_over = tt;
      outcome = refl;
      told = refl;
    }

unfound_first : Comes_to commands (stray_entry ++ one_entry) 1 Finished (nobody_there ∷ done_so ∷ [])
unfound_first =
    let o : Player ℕ = beginner (stray_entry ++ one_entry) 1 in
    served_after (stray_entry ++ one_entry) (nobody_there ∷ []) (Lived.unfound {u = o} {z = ready (nobody_there ∷ [])} (child ∷ []) (Eval []) Lived.begun refl refl refl (ready [], (refl, refl, refl), refl)) refl refl

pub worked_playings : WorkedPlayings
worked_playings = record { served = served; spent = spent; uncalled = uncalled; answered = answered_so; waiting = waiting; ended = ended_so; unfit = no_alias (Heard TheEnd) refl; exited = leaves; missed = missed_so; unfound = unfound_first; unfound_meanwhile = unfound_meanwhile }

pub worked_misfits : WorkedMisfits
worked_misfits = record {
  line_for_the_rest = no_request (ReadAll []) (Heard (Line [])) refl;
  rest_for_a_line = no_request (ReadLine []) (Heard (TheRest [])) refl;
  end_for_the_rest = no_request (ReadAll []) (Heard TheEnd) refl;
  channel_refused = no_request (Open [] []) (Heard (Fails 261)) refl;
  opening_refused = no_request (ReadAll []) (Heard (Fails 267)) refl;
  completed = no_request (ReadLine []) (Replied (Completed (ok []))) refl;
  stopped = no_request (ReadLine []) (Replied (Stop 0 (Full Count))) refl;
  deleted = no_request (ReadLine []) (Replied (Stop 0 Gone)) refl;
  heard = no_alias (Heard (Line [])) refl;
  missed = no_request (ReadLine []) Nobody refl;
  stopped_from_above = no_alias (Replied (Stop 1 (Full Count))) refl;
}
