-- The small life is a life.
use Rattle.std.proofs.Common.{List, [], ◌∷◌, ◌++◌, ℕ, Some, None, refl}
use Rattle.tcl_core.specs.Endings.{ok}
use Rattle.tcl_core.specs.Endings.Meter.{Count}
use Rattle.tcl_core.specs.Endings.Reply.{Completed, Cut}
use Rattle.tcl_core.specs.Endings.Cause.{Over}
use Rattle.tcl_core.specs.Entries.Entry.{Eval}
use Rattle.tcl_core.specs.Entries.Answer.{Replied, Nobody}
use Rattle.tcl_core.specs.Trees.{Event, Move}
use Rattle.tcl_core.specs.Trees.Move.{Come, Enter}
use Rattle.tcl_core.specs.Trees.What.{Refused, Changed, Charged, Nested, Unnested, Out, In, Done, Back, Unfound}
use Rattle.tcl_core.specs.Programs.Next.{On, Off}
use Rattle.tcl_core.specs.Programs.Prog.{wait}
use Rattle.tcl_core.specs.Runs.{World, Step}
use Rattle.tcl_core.specs.Views.{view}
use Rattle.tcl_core.specs.Execution.{event}
use Rattle.tcl_core.specs.Rules.{Derives}
use Rattle.tcl_core.specs.Rules.Derives.{completed, acted, refused, wrapped, wrapped_passed, called, called_out, unanswered, unfit, missed, entered, unfound}
use Rattle.tcl_core.specs.Lives.{Outcome, alone, idle, never, spent_at, unwound}
use Rattle.tcl_core.specs.Lives.Reacts.{over, uncalled, spent}
use Rattle.tcl_core.specs.Example.{WorkedLife, WorkedReactions, child_alone, one_entry, an_answer, log, next, Script, child, commands, entry, program, tell, start, w1, w2, w3, w4, w5, w6, w7, w8, w9, w10, w11, w12, w13, WorkedUnfound, two_entries, stray, stranger, nobody, first_tree, nobody_above, asks_nobody}
use Rattle.tcl_core.proofs.RuleLaws.{derived_runs}

s1 : Step start [] (In None tell) w1
s1 = record { tape = refl; tree = refl; moves = refl; grants = refl }

s2 : Step w1 [] Nested w2
s2 = record { tape = refl; tree = refl; moves = refl; grants = refl }

s3 : Step w2 [] Charged w3
s3 = record { tape = refl; tree = refl; moves = refl; grants = refl }

s4 : Step w3 [] (Out (Some 0) (child ∷ []) (Eval [])) w4
s4 = record { tape = refl; tree = refl; moves = refl; grants = refl }

s5 : Step w4 (child ∷ []) (In (Some 1) (Eval [])) w5
s5 = record { tape = refl; tree = refl; moves = refl; grants = refl }

s6 : Step w5 (child ∷ []) Nested w6
s6 = record { tape = refl; tree = refl; moves = refl; grants = refl }

s7 : Step w6 (child ∷ []) Charged w7
s7 = record { tape = refl; tree = refl; moves = refl; grants = refl }

s8 : Step w7 (child ∷ []) (Changed 7) w8
s8 = record { tape = refl; tree = refl; moves = refl; grants = refl }

s9 : Step w8 (child ∷ []) Unnested w9
s9 = record { tape = refl; tree = refl; moves = refl; grants = refl }

s10 : Step w9 (child ∷ []) (Done (Some 1) (Completed (ok []))) w10
s10 = record { tape = refl; tree = refl; moves = refl; grants = refl }

s11 : Step w10 [] (Back (Some 0) (Replied (Completed (ok [])))) w11
s11 = record { tape = refl; tree = refl; moves = refl; grants = refl }

s12 : Step w11 [] Unnested w12
s12 = record { tape = refl; tree = refl; moves = refl; grants = refl }

s13 : Step w12 [] (Done None (Completed (ok []))) w13
s13 = record { tape = refl; tree = refl; moves = refl; grants = refl }

set_run : Derives commands w6 (child ∷ []) (program Script.SetSeven) w8 (Some (Completed (ok [])))
set_run = acted _ _ _ _ (None, Charged, On) w7 _ _ refl tt s7 (acted _ _ _ _ (None, Changed 7, On) w8 _ _ refl tt s8 (completed _ _ _))

child_run : Derives commands w5 (child ∷ []) (entry (Eval [])) w9 (Some (Completed (ok [])))
child_run = wrapped _ _ _ _ _ (None, Nested, On) w6 w8 w9 _ (ok []) _ refl refl s6 set_run s9 (completed _ _ _)

tell_run : Derives commands w2 [] (program Script.TellChild) w11 (Some (Completed (ok [])))
tell_run = acted _ _ _ _ (None, Charged, On) w3 _ _ refl tt s3
    (called _ _ _ _ _ _ _ [] (child ∷ []) w4 w5 w9 w10 w11 _ (Completed (ok [])) (ok []) _ refl s4 refl s5 child_run s10 refl s11 (completed _ _ _))

root_run : Derives commands w1 [] (entry tell) w12 (Some (Completed (ok [])))
root_run = wrapped _ _ _ _ _ (None, Nested, On) w2 w11 w12 _ (ok []) _ refl refl s2 tell_run s12 (completed _ _ _)

life : Derives commands start [] (wait idle never) w13 None
life = entered _ _ _ _ [] tell w1 w12 w13 _ (Completed (ok [])) _ refl refl s1 root_run s13 tt (unanswered _ _ _ _ refl refl refl)

pub worked_life : WorkedLife
worked_life = record { life = derived_runs commands life; child_ends = refl; root_ends = refl; child_is_handed = refl; child_tells = refl }

-- THE CHILD ALONE
abbrev a0 : World ℕ
a0 = alone child_alone one_entry 1 (view (child ∷ []) log)

abbrev a1 : World ℕ
a1 = next [] (In None (Eval [])) [] 1 a0

abbrev a2 : World ℕ
a2 = next [] Nested [] 1 a1

abbrev a3 : World ℕ
a3 = next [] Charged [] 0 a2

abbrev a4 : World ℕ
a4 = next [] (Changed 7) [] 0 a3

abbrev a5 : World ℕ
a5 = next [] Unnested [] 0 a4

abbrev a6 : World ℕ
a6 = next [] (Done None (Completed (ok []))) [] 0 a5

alone_set : Derives commands a2 [] (program Script.SetSeven) a4 (Some (Completed (ok [])))
alone_set = acted _ _ _ _ (None, Charged, On) a3 _ _ refl tt (record { tape = refl; tree = refl; moves = refl; grants = refl })
    (acted _ _ _ _ (None, Changed 7, On) a4 _ _ refl tt (record { tape = refl; tree = refl; moves = refl; grants = refl }) (completed _ _ _))

alone_run : Derives commands a1 [] (entry (Eval [])) a5 (Some (Completed (ok [])))
alone_run = wrapped _ _ _ _ _ (None, Nested, On) a2 a4 a5 _ (ok []) _ refl refl (record { tape = refl; tree = refl; moves = refl; grants = refl }) alone_set
    (record { tape = refl; tree = refl; moves = refl; grants = refl }) (completed _ _ _)

alone_life : Derives commands a0 [] (wait idle never) a6 None
alone_life = entered _ _ _ _ [] (Eval []) a1 a5 a6 _ (Completed (ok [])) _ refl refl (record { tape = refl; tree = refl; moves = refl; grants = refl }) alone_run
    (record { tape = refl; tree = refl; moves = refl; grants = refl }) tt (unanswered _ _ _ _ refl refl refl)

-- no step is left
abbrev told_then : List (Event ℕ)
told_then = event [] (In None (Eval [])) ∷ event [] Nested ∷ []

abbrev then_undone : List (Event ℕ)
then_undone = event [] Unnested ∷ event [] (Done None (Cut Over)) ∷ []

abbrev b0 : World ℕ
b0 = unwound (alone child_alone one_entry 0 told_then) one_entry 0 (Cut Over) (told_then ++ spent_at [] ∷ then_undone)

abbrev b1 : World ℕ
b1 = next [] (In None (Eval [])) [] 0 b0

abbrev b2 : World ℕ
b2 = next [] Nested [] 0 b1

abbrev b3 : World ℕ
b3 = next [] (Refused Count None) [] 0 b2

abbrev b4 : World ℕ
b4 = next [] Unnested [] 0 b3

abbrev b5 : World ℕ
b5 = next [] (Done None (Cut Over)) [] 0 b4

spent_set : Derives commands b2 [] (program Script.SetSeven) b3 (Some (Cut Over))
spent_set = refused _ _ _ _ (None, Refused Count None, Off (Cut Over)) (Cut Over) b3 refl refl (record { tape = refl; tree = refl; moves = refl; grants = refl })

spent_run : Derives commands b1 [] (entry (Eval [])) b4 (Some (Cut Over))
spent_run = wrapped_passed _ _ _ _ _ (None, Nested, On) b2 b3 b4 (Cut Over) tt refl refl (record { tape = refl; tree = refl; moves = refl; grants = refl }) spent_set
    (record { tape = refl; tree = refl; moves = refl; grants = refl })

spent_life : Derives commands b0 [] (wait idle never) b5 None
spent_life = entered _ _ _ _ [] (Eval []) b1 b4 b5 _ (Cut Over) _ refl refl (record { tape = refl; tree = refl; moves = refl; grants = refl }) spent_run
    (record { tape = refl; tree = refl; moves = refl; grants = refl }) tt (unanswered _ _ _ _ refl refl refl)

-- nobody is above
abbrev all_missed : List (Event ℕ)
all_missed = event [] (In None (Eval (1 ∷ 1 ∷ []))) ∷ event [] Nested ∷ event [] Charged ∷ event [] (Out (Some 1) [] (Eval [])) ∷ event [] (Back (Some 1) Nobody) ∷ event [] Unnested ∷ event [] (Done None (Completed nobody_above)) ∷ []

abbrev m0 : World ℕ
m0 = alone child_alone asks_nobody 1 all_missed

abbrev the_answer : List (Move ℕ)
the_answer = Come Nobody ∷ []

abbrev m1 : World ℕ
m1 = next [] (In None (Eval (1 ∷ 1 ∷ []))) the_answer 1 m0

abbrev m2 : World ℕ
m2 = next [] Nested the_answer 1 m1

abbrev m3 : World ℕ
m3 = next [] Charged the_answer 0 m2

abbrev m4 : World ℕ
m4 = next [] (Out (Some 1) [] (Eval [])) the_answer 0 m3

abbrev m5 : World ℕ
m5 = next [] (Back (Some 1) Nobody) [] 0 m4

abbrev m6 : World ℕ
m6 = next [] Unnested [] 0 m5

abbrev m7 : World ℕ
m7 = next [] (Done None (Completed nobody_above)) [] 0 m6

missed_script : Derives commands m2 [] (program Script.AskAbove) m5 (Some (Completed nobody_above))
missed_script = acted _ _ _ _ (None, Charged, On) m3 _ _ refl tt (record { tape = refl; tree = refl; moves = refl; grants = refl })
    (called_out _ _ _ _ _ _ _ m4 _ _ refl (record { tape = refl; tree = refl; moves = refl; grants = refl })
    (missed _ _ _ _ m5 _ _ refl refl (record { tape = refl; tree = refl; moves = refl; grants = refl }) (completed _ _ _)))

missed_run : Derives commands m1 [] (entry (Eval (1 ∷ 1 ∷ []))) m6 (Some (Completed nobody_above))
missed_run = wrapped _ _ _ _ _ (None, Nested, On) m2 m5 m6 _ nobody_above _ refl refl (record { tape = refl; tree = refl; moves = refl; grants = refl }) missed_script
    (record { tape = refl; tree = refl; moves = refl; grants = refl }) (completed _ _ _)

missed_life : Derives commands m0 [] (wait idle never) m7 None
missed_life = entered _ _ _ _ [] (Eval (1 ∷ 1 ∷ [])) m1 m6 m7 _ (Completed nobody_above) _ refl refl (record { tape = refl; tree = refl; moves = refl; grants = refl }) missed_run
    (record { tape = refl; tree = refl; moves = refl; grants = refl }) tt (unanswered _ _ _ _ refl refl refl)

abbrev c0 : World ℕ
c0 = alone child_alone an_answer 1 []

pub worked_reactions : WorkedReactions
worked_reactions = record {
  served = (a6.tree, record { tape = view (child ∷ []) log; last = a6; run = over a0 a6 Outcome.Finished (derived_runs commands alone_life) (tt, (tt, (tt, (tt, (tt, (tt, tt)))))) refl refl refl; told = refl; left = refl }, refl);
  spent = (b5.tree, record { tape = told_then; last = b5; run = spent (alone child_alone one_entry 0 told_then) b5 0 one_entry [] [] then_undone refl refl (tt, (tt, tt)) refl (derived_runs commands spent_life) refl; told = refl; left = refl }, refl);
  missed = (m7.tree, record { tape = all_missed; last = m7; run = over m0 m7 Outcome.Finished (derived_runs commands missed_life) (tt, (tt, (tt, (tt, (tt, (tt, (tt, tt))))))) refl refl refl; told = refl; left = refl }, refl);
  uncalled = record { tape = []; last = c0; run = uncalled c0 c0 (Come (Replied (Completed (ok [])))) [] (derived_runs commands (unfit _ _ _ _ _ [] refl refl refl refl)) tt refl refl refl; told = refl; left = refl };
}

-- AN ENTRY THAT FINDS NOBODY
abbrev d0 : World ℕ
d0 = alone first_tree two_entries 1 stray

abbrev the_second : List (Move ℕ)
the_second = Enter (child ∷ []) (Eval []) ∷ []

abbrev d1 : World ℕ
d1 = next [] (Unfound stranger (Eval []) (nobody stranger)) the_second 1 d0

abbrev d2 : World ℕ
d2 = next (child ∷ []) (In None (Eval [])) [] 1 d1

abbrev d3 : World ℕ
d3 = next (child ∷ []) Nested [] 1 d2

abbrev d4 : World ℕ
d4 = next (child ∷ []) Charged [] 0 d3

abbrev d5 : World ℕ
d5 = next (child ∷ []) (Changed 7) [] 0 d4

abbrev d6 : World ℕ
d6 = next (child ∷ []) Unnested [] 0 d5

abbrev d7 : World ℕ
d7 = next (child ∷ []) (Done None (Completed (ok []))) [] 0 d6

stray_set : Derives commands d3 (child ∷ []) (program Script.SetSeven) d5 (Some (Completed (ok [])))
stray_set = acted _ _ _ _ (None, Charged, On) d4 _ _ refl tt (record { tape = refl; tree = refl; moves = refl; grants = refl })
    (acted _ _ _ _ (None, Changed 7, On) d5 _ _ refl tt (record { tape = refl; tree = refl; moves = refl; grants = refl }) (completed _ _ _))

stray_run : Derives commands d2 (child ∷ []) (entry (Eval [])) d6 (Some (Completed (ok [])))
stray_run = wrapped _ _ _ _ _ (None, Nested, On) d3 d5 d6 _ (ok []) _ refl refl (record { tape = refl; tree = refl; moves = refl; grants = refl }) stray_set
    (record { tape = refl; tree = refl; moves = refl; grants = refl }) (completed _ _ _)

stray_life : Derives commands d0 [] (wait idle never) d7 None
stray_life = unfound _ _ _ _ stranger (Eval []) d1 _ _ refl refl (record { tape = refl; tree = refl; moves = refl; grants = refl })
    (entered _ _ _ _ (child ∷ []) (Eval []) d2 d6 d7 _ (Completed (ok [])) _ refl refl (record { tape = refl; tree = refl; moves = refl; grants = refl }) stray_run
    (record { tape = refl; tree = refl; moves = refl; grants = refl }) tt (unanswered _ _ _ _ refl refl refl))

abbrev nobody_below : List (Event ℕ)
nobody_below = event [] (Unfound (child ∷ []) (Eval []) (nobody (child ∷ []))) ∷ []

abbrev e0 : World ℕ
e0 = alone child_alone the_second 0 nobody_below

abbrev e1 : World ℕ
e1 = next [] (Unfound (child ∷ []) (Eval []) (nobody (child ∷ []))) [] 0 e0

below_life : Derives commands e0 [] (wait idle never) e1 None
below_life = unfound _ _ _ _ (child ∷ []) (Eval []) e1 _ _ refl refl (record { tape = refl; tree = refl; moves = refl; grants = refl }) (unanswered _ _ _ _ refl refl refl)

pub worked_unfound : WorkedUnfound
worked_unfound = record {
  life = (d7.tree, record { tape = stray; last = d7; run = over d0 d7 Outcome.Finished (derived_runs commands stray_life) (tt, (tt, (tt, (tt, (tt, (tt, (tt, tt))))))) refl refl refl; told = refl; left = refl }, refl);
  handed = refl;
  told = refl;
  alone = record { tape = nobody_below; last = e1; run = over e0 e1 Outcome.Finished (derived_runs commands below_life) (tt, tt) refl refl refl; told = refl; left = refl };
}
